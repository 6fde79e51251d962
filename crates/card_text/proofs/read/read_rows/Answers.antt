-- `read_rows` meets its contract: each turn reads the line of one more rectangle, or stops at its refusal.
use Rattle.std.proofs.Common.{rules, ◌≡◌, ℕ, ◌+◌, sym, ap, ◌∙◌, subst, arith}
use lib.ListN.{replicate}
use Rattle.curve.specs.declared.Rect.{Rect}
use Rattle.curve.specs.Limits.{places}
use Rattle.curve.specs.Reason.{listed}
use Rattle.card_text.specs.Reading.{rows_refusal}
use Rattle.card_text.proofs.RowsRead.{RowsRead, rows_none, rows_next, rows_stop, rows_points}
use Rattle.card_text.proofs.read.read_rows.Goals as goal

pub loop-k-init : goal.loop-k-init
loop-k-init c = subst (λ (p : Rect). RowsRead c.args.bytes.now 0 (replicate places p)) (sym c.zero_rect-points.ensures) (rows_none c.args.bytes.now)

pub loop-k-preserved : goal.loop-k-preserved
loop-k-preserved c =
    let l = c.loop-k in
    let row = c.in_ok-points.ensures in
    rows_next c.args.bytes.now l.k l.points l.invariant c.in_ok-points.field-0 (omega arith) row.refusal row.rect

pub returns-in_err-points-clause-refusal : goal.returns-in_err-points-clause-refusal
returns-in_err-points-clause-refusal c =
    let l = c.loop-k in
    let bytes = c.args.bytes.now in
    let told : listed c.in_err-points.field-0.0 ≡ rows_refusal bytes (c.args.degree + 1) =
    rows_stop bytes l.k l.points l.invariant c.in_err-points.field-0.0 c.args.degree (omega arith) c.in_err-points.ensures.refusal in
    search rules

pub returns-in_ok-points-clause-refusal : goal.returns-in_ok-points-clause-refusal
returns-in_ok-points-clause-refusal c =
    let l = c.loop-k in
    let row = c.in_ok-points.ensures in
    let done : l.k + 1 ≡ c.args.degree + 1 = omega arith in
    (rows_next c.args.bytes.now l.k l.points l.invariant c.in_ok-points.field-0 (omega arith) row.refusal row.rect).accepted ∙ ap (λ (m : ℕ). rows_refusal c.args.bytes.now m) done

pub returns-in_ok-points-clause-points : goal.returns-in_ok-points-clause-points
returns-in_ok-points-clause-points c =
    let l = c.loop-k in
    let row = c.in_ok-points.ensures in
    rows_points c.args.bytes.now (l.k + 1) _ (rows_next c.args.bytes.now l.k l.points l.invariant c.in_ok-points.field-0 (omega arith) row.refusal row.rect) c.args.degree (omega arith)
