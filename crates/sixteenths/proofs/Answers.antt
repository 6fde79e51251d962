-- What it means that the summed reading is not refused, and its answer by whether it is.
-- Assumes nothing.
use mathlib.Core.Path.{◌≡◌, refl, sym, ap, ◌∙◌, subst}
use mathlib.Core.Bool.{true, false, ◌&&◌}
use Prim.Native.Nat.{ℕ, ◌+◌, ◌≤◌}
use native.Mathlib.Omega.{arith}
use borrow.Author.Tests.{leb-true, le-leb}
use lib.Dec.{T, leb, eqb, leb→le, le→leb}
use Rattle.rational.proofs.Truth.{and_both, both_and}
use Rattle.bernstein.proofs.EveryMap.{all_at, all_of}
use Rattle.curve.specs.declared.Curve.{Curve}
use Rattle.curve.specs.declared.Evaluation.{Evaluation}
use Rattle.curve.specs.Curve.{point}
use Rattle.curve.specs.Refusals.{none, curve_refusal, parameter_refusal, Accepted, AcceptedAt}
use Rattle.curve.proofs.Refused.{by_number}
use Rattle.curve.proofs.Tests.{or_split, or_none, unless_holds, unless-none}
use Rattle.curve.proofs.Accepted.{good_at, tests_facts, facts_degree, facts_good, facts_accepted, number-accepted, accepted_facts}
use Rattle.curve.proofs.Answers.{evaluation, no_evaluation, where_none, where_some, in_both}
use Rattle.sixteenths.specs.Weights.{sixteenths, highest}
use Rattle.sixteenths.specs.Sixteenths.{summed_load, summed_exact, numerator_refusal, sixteenths_refusal, evaluated_sixteenths}
use Rattle.sixteenths.specs.Inner.{good_below, has_weights, accepts}

pub number-numerator : (j : ℕ) → (numerator_refusal j).number ≡ 0 → j ≤ sixteenths
unfolding numerator_refusal
number-numerator j h = leb→le j sixteenths (unless_holds (leb j sixteenths) 14 0 h)

numerator-none : (j : ℕ) → j ≤ sixteenths → numerator_refusal j ≡ none
unfolding numerator_refusal
numerator-none j h = unless-none (leb j sixteenths) 15 (le→leb j sixteenths h)

-- the staged reading at j/16 is accepted where the summed one is
pub sixteenth_accepted : (j : ℕ) → j ≤ sixteenths → AcceptedAt j sixteenths
unfolding parameter_refusal
sixteenth_accepted j h = unless-none (leb j sixteenths) 5 (le→leb j sixteenths h)

module _ (c : Curve) (j : ℕ) where
  pub number_facts : (sixteenths_refusal c j).number ≡ 0 → Accepted c × (j ≤ sixteenths)
  unfolding sixteenths_refusal
  number_facts h = let (curve, place) = or_split (curve_refusal c) (numerator_refusal j) h in (number-accepted c curve, number-numerator j place)

  -- the refusal of an accepted curve's reading is that of j
  pub refusal-numerator : Accepted c → sixteenths_refusal c j ≡ numerator_refusal j
  unfolding sixteenths_refusal
  refusal-numerator a = or_none (curve_refusal c) (numerator_refusal j) a

  -- ---- the answer

  pub summed_accepted : Accepted c → j ≤ sixteenths → evaluated_sixteenths c j ≡ evaluation (summed_load c j) (summed_exact c j) none
  unfolding evaluated_sixteenths
  summed_accepted a h =
      where_none (evaluation (summed_load c j) (summed_exact c j)) no_evaluation (sixteenths_refusal c j) (refusal-numerator a ∙ numerator-none j h)

  pub summed_refused : eqb (sixteenths_refusal c j).number 0 ≡ false → evaluated_sixteenths c j ≡ no_evaluation (sixteenths_refusal c j)
  unfolding evaluated_sixteenths
  summed_refused = where_some (evaluation (summed_load c j) (summed_exact c j)) no_evaluation (sixteenths_refusal c j)

  pub summed_refusal : (evaluated_sixteenths c j).refusal ≡ sixteenths_refusal c j
  unfolding evaluated_sixteenths
  summed_refusal = in_both (evaluation (summed_load c j) (summed_exact c j)) no_evaluation (sixteenths_refusal c j) (λ (e : Evaluation). e.refusal) (sixteenths_refusal c j) refl refl

  pub summed_lit : (evaluated_sixteenths c j).exact ≡ true → Accepted c × (j ≤ sixteenths)
  summed_lit lit =
      by_number (sixteenths_refusal c j).number number_facts
      (λ e. absurd (subst T (sym lit ∙ ap (λ (x : Evaluation). x.exact) (summed_refused e)) tt))

  -- ---- the tests of one pass

  pub accepts_facts : accepts c j ≡ true → Accepted c × (j ≤ sixteenths)
  accepts_facts h =
      let (weights, all) = and_both (has_weights c.degree j) (good_below (c.degree + 1) (point c)) h in
      let (degree, place) = and_both (leb 1 c.degree && leb c.degree highest) (leb j sixteenths) weights in
      (facts_accepted (tests_facts c degree (λ k h. all_at (c.degree + 1) (good_at c) all k (omega arith))), leb-true j sixteenths place)

  pub facts_accepts : Accepted c → j ≤ sixteenths → accepts c j ≡ true
  facts_accepts a h =
      let f = accepted_facts c a in
      both_and (both_and (facts_degree f) (le-leb j sixteenths h)) (all_of (c.degree + 1) (good_at c) (λ k l. facts_good f k (omega arith)))
