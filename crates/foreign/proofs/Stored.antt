-- A curve's numbers as they are stored: its degree, its sum, and the sides of the first k rectangles behind them.
use Rattle.std.proofs.Common.{◌≡◌, List, ◌∷◌, ℕ, ℤ, pos, ◌+◌, ◌*◌, ◌≤◌, length, ap, ◌∙◌, arith}
use lib.Seq.{sets}
use Rattle.curve.specs.declared.Curve.{Curve}
use Rattle.curve.specs.Curve.{point}
use Rattle.curve.specs.Rect.{sides}
use Rattle.interface.specs.Numbers.{sides_to}
use Rattle.interface.proofs.Numbers.{sides-length, sides-next}
use Rattle.foreign.proofs.Lent.{front, front-next}

abbrev pub stored : Curve → ℕ → List ℤ
stored c k = pos c.degree ∷ pos c.sum ∷ sides_to k (point c)

pub stored-length : (c : Curve) (k : ℕ) → length (stored c k) ≡ 2 + 4 * k
stored-length c k = let e = sides-length (point c) k in omega arith

-- and those of one rectangle more
pub stored-next : (c : Curve) (k : ℕ) (out : List ℤ) → 2 + 4 * k + 4 ≤ length out →
    sets (front (stored c k) out) (2 + 4 * k) (sides (point c k)) ≡ front (stored c (k + 1)) out
stored-next c k out room =
    let e = sides-length (point c) k in
    front-next (stored c k) (sides (point c k)) out (2 + 4 * k) (omega arith) room
    ∙ ap (λ (zs : List ℤ). front (pos c.degree ∷ pos c.sum ∷ zs) out) (sides-next (point c) k)
