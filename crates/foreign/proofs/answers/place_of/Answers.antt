-- `place_of` meets its contract: a place that 32 bits hold, or the largest.
use Rattle.std.proofs.Common.{◌∙◌}
use Rattle.foreign.proofs.Numbers.{place_tried}
use Rattle.foreign.proofs.answers.place_of.Goals as goal

pub returns : goal.returns
returns c = c.unwrap_or.ensures ∙ place_tried _ _ c.try_from.ensures
