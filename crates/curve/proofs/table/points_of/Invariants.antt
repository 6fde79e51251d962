-- The places below k are filled.
use Rattle.std.proofs.Common.{◌≡◌, ℕ, ◌<◌, length, get_or}
use Rattle.curve.specs.Limits.{places}
use Rattle.curve.specs.Rect.{zero_rect}
use Rattle.curve.specs.Inner.{placed}
use Rattle.curve.proofs.table.points_of.Given as goal

abbrev pub invariant-loop-k : goal.invariant-loop-k
invariant-loop-k l = record { whole : length l.points ≡ places; filled : (i : ℕ) → i < l.k → get_or l.points i zero_rect ≡ placed l.sides i }
