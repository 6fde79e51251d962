-- `degree_of` meets its contract: the number is refused as the degree that it gives, and is that degree where it is accepted.
use Rattle.std.proofs.Common.{rules, ◌≡◌, ℤ, w64, ap, ◌∙◌}
use mir.ValLaws.{to_z-of_z}
use Rattle.curve.specs.Refusals.{degree_refusal}
use Rattle.curve.specs.Reason.{listed}
use Rattle.card_text.specs.Reading.{degree_of}
use Rattle.card_text.proofs.UpTo.{degree_read, degree_kept}
use Rattle.card_text.proofs.read.degree_of.Goals as goal

pub returns-in_err-check_degree-clause-refusal : goal.returns-in_err-check_degree-clause-refusal
returns-in_err-check_degree-clause-refusal c =
    let same = to_z-of_z w64 c.args.number c.ranges.number in
    let read = degree_read _ c.unwrap_or-degree.result c.try_from.result c.try_from.ensures c.unwrap_or-degree.ensures in
    let told : listed c.in_err-check_degree.field-0.0 ≡ degree_refusal (degree_of c.args.number) = c.in_err-check_degree.ensures ∙ read ∙ ap (λ (z : ℤ). degree_refusal (degree_of z)) same in
    search rules

pub returns-clause-refusal : goal.returns-clause-refusal
returns-clause-refusal c =
    let same = to_z-of_z w64 c.args.number c.ranges.number in
    c.in_ok-check_degree.ensures
    ∙ degree_read _ c.unwrap_or-degree.result c.try_from.result c.try_from.ensures c.unwrap_or-degree.ensures
    ∙ ap (λ (z : ℤ). degree_refusal (degree_of z)) same

pub returns-clause-degree : goal.returns-clause-degree
returns-clause-degree c =
    let same = to_z-of_z w64 c.args.number c.ranges.number in
    degree_kept _ c.unwrap_or-degree.result c.try_from.result c.try_from.ensures c.unwrap_or-degree.ensures c.in_ok-check_degree.ensures ∙ ap degree_of same
