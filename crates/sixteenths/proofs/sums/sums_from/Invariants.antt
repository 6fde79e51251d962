-- The invariant of `sums_from`: the points so far are good, and summed up.
use Rattle.std.proofs.Common.{◌≡◌, true, get_or}
use Rattle.curve.specs.Rect.{zero_rect}
use Rattle.sixteenths.specs.Inner.{Summed, good_below}
use Rattle.sixteenths.proofs.sums.sums_from.Given as goal

abbrev pub invariant-loop-k : goal.invariant-loop-k
invariant-loop-k l = record {
  good : good_below l.k (λ i. get_or l.c.points i zero_rect) ≡ true;
  summed : Summed (λ i. get_or l.weights i 0) (λ i. get_or l.c.points i zero_rect) l.k l.sums;
}
