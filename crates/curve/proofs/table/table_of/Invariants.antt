-- j stages are made.
use Prim.Native.Nat.{◌-◌}
use Rattle.curve.specs.Inner.{placed}
use Rattle.curve.proofs.Stages.{After}
use Rattle.curve.proofs.table.table_of.Given as goal

abbrev pub invariant-loop-j : goal.invariant-loop-j
invariant-loop-j l = record {
  after : After (l.den - l.num) l.num l.den l.n (placed l.fn.right) l.j l.left l.right l.exact;
}
