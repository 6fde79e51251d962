-- The rectangles of a list of numbers, as they fill the places of a curve.
use Rattle.std.proofs.Common.{◌≡◌, List, ℕ, zero, suc, ℤ, ◌+◌, ◌*◌, ◌<◌, replicate, add-one, arith}
use lib.ListN.{set}
use Rattle.curve.specs.declared.Rect.{Rect}
use Rattle.curve.specs.Limits.{places}
use Rattle.curve.specs.Rect.{zero_rect}
use Rattle.curve.specs.Curve.{points_of}
use Rattle.curve.proofs.Places.{points_first, points_next}
use Rattle.interface.specs.Numbers.{rect_at}

abbrev pub rects : List ℤ → ℕ → Rect
rects numbers k = rect_at numbers (2 + 4 * k)

-- the places of a curve when the first k of them are filled
abbrev pub filled : (ℕ → Rect) → ℕ → List Rect
filled f zero = replicate places zero_rect
filled f (suc k) = points_of k f

-- one more of them
pub filled-next : (f : ℕ → Rect) (k : ℕ) → k < places → set (filled f k) k (f k) ≡ filled f (suc k)
filled-next f zero h = points_first f
filled-next f (suc k) h = simp add-one at (points_next k f (omega arith))
