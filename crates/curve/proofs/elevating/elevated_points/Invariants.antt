-- The places below k are filled.
use Rattle.std.proofs.Common.{◌≡◌, ◌-◌}
use Rattle.bernstein.specs.DeCasteljau.{all_below}
use Rattle.curve.specs.Curve.{point, points_of, elevated_point, elevated_exact}
use Rattle.curve.proofs.elevating.elevated_points.Given as goal

abbrev pub invariant-loop-k : goal.invariant-loop-k
invariant-loop-k l =
    record {
      filled : l.points ≡ points_of (l.k - 1) (elevated_point l.fn.c.degree (point l.fn.c));
      flag : l.exact ≡ all_below l.k (elevated_exact l.fn.c.degree (point l.fn.c));
    }
