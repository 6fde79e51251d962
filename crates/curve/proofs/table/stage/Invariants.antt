-- The first i sides are mapped.
use mathlib.Core.Path.{◌≡◌}
use Prim.Native.Nat.{◌-◌}
use lib.ListN.{length}
use Rattle.curve.specs.Inner.{all_sides}
use Rattle.curve.proofs.Placed.{Passed}
use Rattle.curve.proofs.table.stage.Given as goal

abbrev pub invariant-loop-i : goal.invariant-loop-i
invariant-loop-i l = record {
  whole : length l.sides ≡ all_sides;
  passed : Passed (l.w.den - l.w.t) l.w.t l.w.den l.i l.fn.sides l.sides l.exact;
}
