-- `take_sides` meets its contract: where a test fails the curve is refused, and where none fails its points stand in their places.
use Rattle.std.proofs.Common.{◌≡◌, ℕ, ◌+◌, ◌<◌, true, ◌&&◌, sym, ap, ◌∙◌, below_more, arith}
use Rattle.std.proofs.lemmas.Result.{err_from_is_err_and}
use lib.Dec.{leb}
use Rattle.curve.specs.declared.Refusal.{Refusal}
use Rattle.curve.specs.Limits.{max_degree}
use Rattle.curve.specs.Curve.{point}
use Rattle.curve.specs.Refusals.{◌or_else◌, range_refusal, order_refusal, curve_refusal}
use Rattle.curve.specs.Inner.{placed}
use Rattle.curve.proofs.Listed.{listed_first}
use Rattle.curve.proofs.Tests.{true_of, unless_holds}
use Rattle.curve.proofs.Accepted.{good_at, tests_facts, facts_good, facts_accepted, accepted_facts}
use Rattle.curve.proofs.Placed.{zeros_placed}
use Rattle.curve.proofs.table.take_sides.Goals as goal
use Rattle.curve.proofs.table.take_sides.Goals.{After-store_rect, then-not-is_good+in_ok-check_lent, else-not-is_good}

pub returns-in_err-check_degree-clause-refusal : goal.returns-in_err-check_degree-clause-refusal
unfolding curve_refusal
returns-in_err-check_degree-clause-refusal c =
    let d = c.args.c in
    let e = c.in_err-check_degree.field-0.0 in
    let p = err_from_is_err_and c.from_residual.result c.from_residual.ensures.1 in
    rw (p.1, p.2) (sym (listed_first e (range_refusal d or_else order_refusal d)) ∙ ap (λ (x : Refusal). x or_else (range_refusal d or_else order_refusal d)) c.in_err-check_degree.ensures)

pub loop-k-init : goal.loop-k-init
loop-k-init c = record { taken = λ i h. absurd (omega arith); past = λ i _. zeros_placed i }

-- after a turn the rectangle at k is good: it passed the test, or the curve's own check
good_here : (c : After-store_rect) → good_at c.args.c c.loop-k.k ≡ true
good_here c =
    elim c.if-not-is_good.branch [
      | then-not-is_good+in_ok-check_lent w ↦ facts_good (accepted_facts c.args.c (sym w.in_ok-check_lent.ensures)) c.loop-k.k c.loop-k-test.true
      | else-not-is_good w ↦ sym c.is_good.ensures ∙ w.if-not-is_good.false
    ]

taken : (c : After-store_rect) → (i : ℕ) → i < c.loop-k.k + 1 → (good_at c.args.c i ≡ true) × (placed c.store_rect.new.sides i ≡ point c.args.c i)
taken c =
    below_more _ c.loop-k.k
    (λ i h. let before = c.loop-k.invariant.taken i h in (before.0, c.store_rect.ensures.kept i (λ e. omega arith) ∙ before.1))
    (good_here c, c.store_rect.ensures.here)

pub loop-k-preserved : goal.loop-k-preserved
loop-k-preserved c = record {
  taken = taken (goal.at.loop-k-preserved c).After-store_rect;
  past = λ i h. c.store_rect.ensures.kept i (λ e. omega arith) ∙ c.loop-k.invariant.past i (omega arith);
}

pub returns-after-not-is_good-clause-refusal : goal.returns-after-not-is_good-clause-refusal
returns-after-not-is_good-clause-refusal c =
    let d = c.args.c in
    let all = taken (goal.at.returns-after-not-is_good-clause-refusal c).After-store_rect in
    let degree = leb 1 d.degree && leb d.degree max_degree in
    let passed = true_of degree (unless_holds degree 0 0 (ap (λ (r : Refusal). r.number) (sym c.in_ok-check_degree.ensures))) in
    sym (facts_accepted (tests_facts d passed (λ k h. (all k (omega arith)).0)))
