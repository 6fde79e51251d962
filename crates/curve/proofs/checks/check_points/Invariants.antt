-- No rectangle before this place has a side out of range, and the first with a low above its high is kept.
use Rattle.std.proofs.Common.{◌≡◌, ◌+◌, ◌-◌}
use Rattle.curve.specs.Rect.{sides_in_range, sides_ordered}
use Rattle.curve.specs.Curve.{point}
use Rattle.curve.specs.Refusals.{◌or_else◌, range_refusal, order_refusal, first_failing}
use Rattle.curve.specs.Reason.{refusal_of}
use Rattle.curve.proofs.checks.check_points.Given as goal

abbrev pub invariant-loop-place : goal.invariant-loop-place
invariant-loop-place l = record {
  range : range_refusal l.c ≡ first_failing (λ k. sides_in_range (point l.c k)) 2 (l.n + 1 - l.place) l.place;
  order : order_refusal l.c ≡ (refusal_of l.ordered or_else first_failing (λ k. sides_ordered (point l.c k)) 3 (l.n + 1 - l.place) l.place);
}
