-- `degree_from` meets its contract: the two tests pick the definition's cases.
use Rattle.std.proofs.Common.{ap, ◌∙◌}
use Rattle.rational.proofs.Machine.{back}
use Rattle.card_text.specs.Reading.{degree_of}
use Rattle.foreign.proofs.Numbers.{degree_fits, degree_above, degree_none}
use Rattle.foreign.proofs.given.degree_from.Goals as goal

pub returns-in-Ok : goal.returns-in-Ok
returns-in-Ok c = degree_fits _ _ c.in-Ok.ensures c.if-degree-le-MAX_DEGREE.true ∙ ap degree_of (back c.ranges.number)

pub returns-in_default : goal.returns-in_default
returns-in_default c = degree_above _ _ c.in-Ok.ensures c.if-degree-le-MAX_DEGREE.false ∙ ap degree_of (back c.ranges.number)

pub returns-in_default-2 : goal.returns-in_default-2
returns-in_default-2 c = degree_none _ c.in_default.ensures ∙ ap degree_of (back c.ranges.number)
