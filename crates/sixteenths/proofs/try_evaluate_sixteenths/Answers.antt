-- `try_evaluate_sixteenths` meets its contract: a call that one pass does not accept is refused, and past it the rounded sums are the load.
use Rattle.std.proofs.Common.{◌≡◌, ℕ, sym, ◌∙◌, ◌^◌, pos}
use Rattle.std.proofs.lemmas.Result.{err_from_is_err_and}
use Rattle.rational.specs.Rounding.{divisible}
use Rattle.curve.specs.declared.Curve.{Curve}
use Rattle.curve.specs.declared.reason.Reason.{Reason}
use Rattle.curve.specs.Refusals.{◌or_else◌, degree_refusal, range_refusal, order_refusal, curve_refusal}
use Rattle.curve.specs.Reason.{listed}
use Rattle.curve.proofs.Listed.{first_is}
use Rattle.sixteenths.specs.Weights.{sixteenths}
use Rattle.sixteenths.specs.Sixteenths.{numerator_refusal, sixteenths_refusal}
use Rattle.sixteenths.specs.Inner.{sum_at}
use Rattle.sixteenths.proofs.Answers.{accepts_facts}
use Rattle.sixteenths.proofs.Reading.{small-quotients, summed-side, summed-exact}
use Rattle.sixteenths.proofs.Loads.{accepted-answer, refused_answer, not_accepted, four}
use Rattle.sixteenths.proofs.try_evaluate_sixteenths.Goals as goal

-- the reason of a degree comes first of all
degree_first : (c : Curve) (j : ℕ) (e : Reason) → listed e ≡ degree_refusal c.degree → listed e ≡ sixteenths_refusal c j
unfolding sixteenths_refusal curve_refusal
degree_first c j e is = first_is e (curve_refusal c) (numerator_refusal j) (first_is e (degree_refusal c.degree) (range_refusal c or_else order_refusal c) is)

pub returns-in_err-check_degree : goal.returns-in_err-check_degree
returns-in_err-check_degree c =
    let e = c.in_err-check_degree.field-0.0 in
    let p = err_from_is_err_and c.from_residual.result c.from_residual.ensures.1 in
    rw (p.1, p.2) (refused_answer c.args.c c.args.j e (degree_first c.args.c c.args.j e c.in_err-check_degree.ensures))

pub returns-in_default : goal.returns-in_default
returns-in_default c = absurd (not_accepted c.args.c c.args.j (sym c.in_default.ensures.accepted) (sym c.in_ok-check_sixteenths.ensures))

pub rounded_load-rounded-requires-clause-small_quotients : goal.rounded_load-rounded-requires-clause-small_quotients
rounded_load-rounded-requires-clause-small_quotients c =
    let (ok, most) = accepts_facts c.args.c c.args.j (sym c.in-Some.ensures.accepted) in
    small-quotients c.args.c c.args.j ok most c.in-Some.sums c.in-Some.ensures.sums

pub returns : goal.returns
returns c =
    let (ok, most) = accepts_facts c.args.c c.args.j (sym c.in-Some.ensures.accepted) in
    let s = c.in-Some.sums in
    let sums = c.in-Some.ensures.sums in
    let given = c.rounded_load-rounded.ensures in
    accepted-answer c.args.c c.args.j ok most _ _ _
    (λ x r. given.0 x r ∙ summed-side c.args.c c.args.j ok most s sums x r)
    c.checked_ohms.ensures
    (given.1 ∙ four c.args.c c.args.j (λ x r. divisible (pos (sum_at x r s)) (sixteenths ^ c.args.c.degree)) (λ x r. summed-exact c.args.c c.args.j ok most s sums x r))
