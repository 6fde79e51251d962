-- `held` is the hull of the points so far.
use Rattle.std.proofs.Common.{◌≡◌}
use Rattle.curve.specs.Curve.{point, hull_to}
use Rattle.curve.proofs.hull.hull_of.Given as goal

abbrev pub invariant-loop-p : goal.invariant-loop-p
invariant-loop-p l = l.held ≡ hull_to (point l.fn.c) l.p-index
