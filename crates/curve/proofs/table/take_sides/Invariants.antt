-- The rectangles below k are good and stand in their places.
use mathlib.Core.Path.{◌≡◌}
use mathlib.Core.Bool.{true}
use Prim.Native.Nat.{ℕ, ◌≤◌, ◌<◌}
use Rattle.curve.specs.Rect.{zero_rect}
use Rattle.curve.specs.Curve.{point}
use Rattle.curve.specs.Inner.{placed}
use Rattle.curve.proofs.Accepted.{good_at}
use Rattle.curve.proofs.table.take_sides.Given as goal

abbrev pub invariant-loop-k : goal.invariant-loop-k
invariant-loop-k l = record {
  taken : (i : ℕ) → i < l.k → (good_at l.fn.c i ≡ true) × (placed l.sides i ≡ point l.fn.c i);
  past : (i : ℕ) → l.k ≤ i → placed l.sides i ≡ zero_rect;
}
