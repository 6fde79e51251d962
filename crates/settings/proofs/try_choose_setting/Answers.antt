-- `try_choose_setting` meets its contract: the refusals in their order, or the first record that fits.
use Rattle.std.proofs.Common.{sym, ap, ◌∙◌}
use Rattle.std.proofs.lemmas.Result.{err_from_is_err_and}
use Rattle.curve.specs.declared.Refusal.{Refusal}
use Rattle.curve.specs.declared.BoundingRect.{BoundingRect}
use Rattle.curve.specs.Refusals.{none}
use Rattle.curve.proofs.Answers.{bounded-refusal}
use Rattle.settings.specs.declared.Choice.{Choice}
use Rattle.settings.proofs.Refused.{length_is, curve_is, boxes_is, effort_is, list_holds}
use Rattle.settings.proofs.Answers.{answer, refused_with, chosen-accepted}
use Rattle.settings.proofs.try_choose_setting.Goals as goal

pub returns-in_err-check_length-clause-answer : goal.returns-in_err-check_length-clause-answer
returns-in_err-check_length-clause-answer c =
    let a = c.args in
    let e = c.in_err-check_length.field-0.0 in
    let p = err_from_is_err_and c.from_residual.result c.from_residual.ensures.1 in
    rw (p.1, p.2) (refused_with a.c a.settings.now a.depth a.budget e (length_is a.c a.settings.now a.depth a.budget e c.in_err-check_length.ensures))

pub returns-in_err-span-clause-answer : goal.returns-in_err-span-clause-answer
returns-in_err-span-clause-answer c =
    let a = c.args in
    let e = c.in_err-span.field-0.0 in
    let p = err_from_is_err_and c.from_residual-in_err-span.result c.from_residual-in_err-span.ensures.1 in
    rw (p.1, p.2) (refused_with a.c a.settings.now a.depth a.budget e
    (curve_is a.c a.settings.now a.depth a.budget c.in_ok-check_length.ensures e (ap (λ (x : BoundingRect). x.refusal) c.in_err-span.ensures ∙ bounded-refusal a.c)))

pub returns-in_err-check_boxes-clause-answer : goal.returns-in_err-check_boxes-clause-answer
returns-in_err-check_boxes-clause-answer c =
    let a = c.args in
    let e = c.in_err-check_boxes.field-0.0 in
    let p = err_from_is_err_and c.from_residual-in_err-check_boxes.result c.from_residual-in_err-check_boxes.ensures.1 in
    let curve = ap (λ (x : BoundingRect). x.refusal) c.in_ok-span.ensures ∙ bounded-refusal a.c in
    rw (p.1, p.2) (refused_with a.c a.settings.now a.depth a.budget e
    (boxes_is a.c a.settings.now a.depth a.budget c.in_ok-check_length.ensures curve e c.in_err-check_boxes.ensures))

pub returns-in_err-check_effort-clause-answer : goal.returns-in_err-check_effort-clause-answer
returns-in_err-check_effort-clause-answer c =
    let a = c.args in
    let e = c.in_err-check_effort.field-0.0 in
    let p = err_from_is_err_and c.from_residual-in_err-check_effort.result c.from_residual-in_err-check_effort.ensures.1 in
    let curve = ap (λ (x : BoundingRect). x.refusal) c.in_ok-span.ensures ∙ bounded-refusal a.c in
    rw (p.1, p.2) (refused_with a.c a.settings.now a.depth a.budget e
    (c.in_err-check_effort.ensures ∙ effort_is a.c a.settings.now a.depth a.budget c.in_ok-check_length.ensures curve c.in_ok-check_boxes.ensures))

pub invariant_of-query : goal.invariant_of-query
invariant_of-query c = record {
  accepted = ap (λ (r : Refusal). r.number) (sym (ap (λ (x : BoundingRect). x.refusal) c.in_ok-span.ensures ∙ bounded-refusal c.args.c));
  spanned = ap (λ (x : BoundingRect). x.rect) c.in_ok-span.ensures;
  limited = ap (λ (r : Refusal). r.number) (sym c.in_ok-check_effort.ensures);
}

pub first_fit-requires : goal.first_fit-requires
first_fit-requires c = record {
  few = (list_holds _ (ap (λ (r : Refusal). r.number) (sym c.in_ok-check_length.ensures))).2;
  boxed = sym c.in_ok-check_boxes.ensures;
}

pub returns-clause-answer : goal.returns-clause-answer
returns-clause-answer c =
    let a = c.args in
    let curve = ap (λ (x : BoundingRect). x.refusal) c.in_ok-span.ensures ∙ bounded-refusal a.c in
    ap (λ (choice : Choice). answer choice none) c.first_fit.ensures
    ∙ sym (chosen-accepted a.c a.settings.now a.depth a.budget
    (sym (c.in_ok-check_effort.ensures ∙ effort_is a.c a.settings.now a.depth a.budget c.in_ok-check_length.ensures curve c.in_ok-check_boxes.ensures)))
