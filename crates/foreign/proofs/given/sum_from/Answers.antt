-- `sum_from` meets its contract: a number that 16 bits hold, or the largest.
use Rattle.std.proofs.Common.{ap, ◌∙◌}
use Rattle.rational.proofs.Machine.{back}
use Rattle.interface.specs.Numbers.{sum_from}
use Rattle.foreign.proofs.Numbers.{sum_tried}
use Rattle.foreign.proofs.given.sum_from.Goals as goal

pub returns : goal.returns
returns c = c.unwrap_or.ensures ∙ sum_tried _ _ c.try_from.ensures ∙ ap sum_from (back c.ranges.number)
