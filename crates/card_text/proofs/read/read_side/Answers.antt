-- `read_side` meets its contract: a number that fits is the side, and any other is out of range.
use Rattle.std.proofs.Common.{rules, ◌≡◌, to_z, of_z, w64, ap, ◌∙◌}
use Rattle.rational.proofs.Machine.{told}
use Rattle.card_text.specs.Inner.{limited}
use Rattle.card_text.proofs.Limited.{side_read}
use Rattle.card_text.proofs.read.read_side.Goals as goal

pub returns-clause-side : goal.returns-clause-side
returns-clause-side c =
    let number = c.in_ok-number.number in
    let same : to_z w64 (of_z w64 number) ≡ number = search rules in
    told c.unwrap_or.result c.unwrap_or.type_inv
    ∙ side_read _ c.unwrap_or.result c.try_from.result c.try_from.ensures c.unwrap_or.ensures
    ∙ ap limited (same ∙ c.in_ok-number.ensures.number)
