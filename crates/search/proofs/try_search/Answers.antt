-- `try_search` meets its contract: the refusals in their order, or the walk from the whole curve.
use Rattle.std.proofs.Common.{ap, sym, ◌∙◌, arith, Ok, Err}
use Rattle.std.proofs.lemmas.Result.{err_from_is_err_and}
use mathlib.Core.Bool.{Bool}
use Rattle.curve.specs.declared.Refusal.{Refusal}
use Rattle.curve.specs.declared.reason.Reason.TheVariants as kind
use Rattle.curve.specs.Refusals.{none, unless}
use Rattle.curve.proofs.Accepted.{accepted-most}
use Rattle.search.specs.declared.Verdict.{Verdict}
use Rattle.search.specs.Search.{deepest_sum}
use Rattle.curve.proofs.Listed.{ensured}
use Rattle.search.proofs.Accepted.{answer, effort_holds, passed, curve_is, box_is, effort_is, refused_with, searched-accepted}
use Rattle.search.proofs.try_search.Goals as goal

pub returns-in_err-check_curve : goal.returns-in_err-check_curve
returns-in_err-check_curve c =
    let a = c.args in
    let e = c.in_err-check_curve.field-0.0 in
    let p = err_from_is_err_and c.from_residual.result c.from_residual.ensures.1 in
    rw (p.1, p.2) (refused_with a.c a.limits a.depth a.budget e (curve_is a.c a.limits a.depth a.budget e c.in_err-check_curve.ensures))

pub returns-in_err-ensure : goal.returns-in_err-ensure
returns-in_err-ensure c =
    let a = c.args in
    let e = c.in_err-ensure.field-0.0 in
    let p = err_from_is_err_and c.from_residual-in_err-ensure.result c.from_residual-in_err-ensure.ensures.1 in
    let sides = ensured c.is_box.result (kind.Limits 0) (Err e) c.in_err-ensure.ensures ∙ ap (λ (b : Bool). unless b 7) c.is_box.ensures in
    rw (p.1, p.2) (refused_with a.c a.limits a.depth a.budget e (box_is a.c a.limits a.depth a.budget e c.in_ok-check_curve.ensures sides))

pub returns-in_err-check_effort : goal.returns-in_err-check_effort
returns-in_err-check_effort c =
    let a = c.args in
    let e = c.in_err-check_effort.field-0.0 in
    let p = err_from_is_err_and c.from_residual-in_err-check_effort.result c.from_residual-in_err-check_effort.ensures.1 in
    let sides = ensured c.is_box.result (kind.Limits 0) (Ok c.in_ok-ensure.field-0) c.in_ok-ensure.ensures ∙ ap (λ (b : Bool). unless b 7) c.is_box.ensures in
    rw (p.1, p.2) (refused_with a.c a.limits a.depth a.budget e (c.in_err-check_effort.ensures ∙ effort_is a.c a.limits a.depth a.budget c.in_ok-check_curve.ensures sides))

pub invariant_of-task : goal.invariant_of-task
invariant_of-task c = record { budgeted = (effort_holds c.args.c c.args.depth c.args.budget (ap (λ (r : Refusal). r.number) (sym c.in_ok-check_effort.ensures))).few }

pub invariant_of-whole : goal.invariant_of-whole
invariant_of-whole c =
    let a = c.args in
    let effort = effort_holds a.c a.depth a.budget (ap (λ (r : Refusal). r.number) (sym c.in_ok-check_effort.ensures)) in
    record {
      accepted = ap (λ (r : Refusal). r.number) (sym c.in_ok-check_curve.ensures);
      room = accepted-most (deepest_sum a.c a.depth) effort.room;
      limited = let shallow = effort.shallow in omega arith;
      numbered = omega arith;
    }

pub returns : goal.returns
returns c =
    let a = c.args in
    let sides = ensured c.is_box.result (kind.Limits 0) (Ok c.in_ok-ensure.field-0) c.in_ok-ensure.ensures ∙ ap (λ (b : Bool). unless b 7) c.is_box.ensures in
    ap (λ (v : Verdict). answer v none) c.walk.ensures
    ∙ sym (searched-accepted a.c a.limits a.depth a.budget (passed a.c a.limits a.depth a.budget c.in_ok-check_curve.ensures sides c.in_ok-check_effort.ensures))
