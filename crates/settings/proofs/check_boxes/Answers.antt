-- `check_boxes` meets its contract: it ends at the first box that is refused.
use Rattle.std.proofs.Common.{sym, ap, ◌∙◌, Ok, Err}
use Rattle.std.proofs.lemmas.Result.{err_from_is_err_and}
use mathlib.Core.Bool.{Bool, cond}
use Rattle.curve.specs.declared.reason.Reason.TheVariants as kind
use Rattle.curve.specs.Refusals.{none, refusal}
use Rattle.curve.proofs.Listed.{ensured}
use Rattle.settings.specs.Settings.{boxes_refusal}
use Rattle.std.proofs.lemmas.List.{drop_all}
use Rattle.settings.proofs.Lists.{boxes_bad, boxes_next}
use Rattle.settings.proofs.check_boxes.Goals as goal

pub returns-in_err-ensure : goal.returns-in_err-ensure
returns-in_err-ensure c =
    let at = c.loop-at.at in
    let e = c.in_err-ensure.field-0.0 in
    let p = err_from_is_err_and c.from_residual.result c.from_residual.ensures.1 in
    let bad = ensured c.is_box.result (kind.Limits at) (Err e) c.in_err-ensure.ensures ∙ ap (λ (b : Bool). cond b none (refusal 7 at)) c.is_box.ensures in
    rw (p.1, p.2) (boxes_bad c.args.settings.now _ at c.loop-at-test.true e bad ∙ sym c.loop-at.invariant)

pub loop-at-preserved : goal.loop-at-preserved
loop-at-preserved c =
    let at = c.loop-at.at in
    let good = ensured c.is_box.result (kind.Limits at) (Ok c.in_ok-ensure.field-0) c.in_ok-ensure.ensures ∙ ap (λ (b : Bool). cond b none (refusal 7 at)) c.is_box.ensures in
    c.loop-at.invariant ∙ boxes_next c.args.settings.now _ at c.loop-at-test.true good

pub returns : goal.returns
unfolding boxes_refusal
returns c = sym (c.loop-at.invariant ∙ ap (boxes_refusal c.loop-at.at) (drop_all c.loop-at.at c.args.settings.now c.loop-at-test.false))
