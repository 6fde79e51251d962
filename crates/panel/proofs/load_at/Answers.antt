-- `load_at` meets its contract: each of its steps is refused as the call is.
use Rattle.std.proofs.Common.{◌≡◌, ap, ◌∙◌, Err, Ok, Bool, true, false, cond, Result, ℕ}
use Rattle.std.proofs.lemmas.Result.{err_from_is_err_and}
use Rattle.curve.specs.declared.reason.Reason.{Reason}
use Rattle.curve.specs.declared.reason.Reason.TheVariants as kind
use Rattle.curve.specs.Reason.{refusal_of}
use Rattle.curve.specs.Refusals.{unless_at}
use Rattle.panel.proofs.Call.{unread, not_evaluated, past_parameter}
use Rattle.panel.proofs.load_at.Goals as goal

-- what the test of the buffer says
lack_of : (b : Bool) (n : ℕ) {r : Result Unit Reason} → r ≡ cond b (Ok tt) (Err (kind.BufferTooShort n)) → refusal_of r ≡ unless_at b 12 n
lack_of true n e = ap refusal_of e
lack_of false n e = ap refusal_of e

pub returns-in_err-c-clause-refusal : goal.returns-in_err-c-clause-refusal
returns-in_err-c-clause-refusal c =
    let p = err_from_is_err_and c.from_residual.result c.from_residual.ensures.1 in
    rw (p.1, p.2) (unread c.args.card.now c.args.num c.args.den c.args.size _ c.in_err-c.ensures)

pub returns-in_err-reading-clause-refusal : goal.returns-in_err-reading-clause-refusal
returns-in_err-reading-clause-refusal c =
    let p = err_from_is_err_and c.from_residual-in_err-reading.result c.from_residual-in_err-reading.ensures.1 in
    rw (p.1, p.2) (not_evaluated c.args.card.now c.args.num c.args.den c.args.size c.in_ok-c.ensures _ c.in_err-reading.ensures)

pub returns-in_err-ensure-clause-refusal : goal.returns-in_err-ensure-clause-refusal
returns-in_err-ensure-clause-refusal c =
    let p = err_from_is_err_and c.from_residual-in_err-ensure.result c.from_residual-in_err-ensure.ensures.1 in
    rw (p.1, p.2)
    (lack_of _ _ c.in_err-ensure.ensures ∙ past_parameter c.args.card.now c.args.num c.args.den c.args.size c.in_ok-c.ensures c.in_ok-reading.ensures)

pub returns-clause-refusal : goal.returns-clause-refusal
returns-clause-refusal c =
    lack_of _ _ c.in_ok-ensure.ensures ∙ past_parameter c.args.card.now c.args.num c.args.den c.args.size c.in_ok-c.ensures c.in_ok-reading.ensures
