-- The summed reading beside the exact sides of the curve that it is given: never short of them, strictly less than one step beyond, and equal exactly where its flag is lit.
-- Assumes nothing.
use mathlib.Core.Path.{◌≡◌, sym, ap, ◌∙◌, subst, subst₂}
use mathlib.Core.Bool.{true, ◌&&◌}
use Prim.Native.Nat.{ℕ, ◌-◌, ◌^◌, ◌≤◌, ◌<◌}
use lib.IntN.{ℤ, pos, negsuc, ◌+ℤ◌, -ℤ-+ℤ_cancel}
use lib.Signed.{◌≤ℤ◌, <ℤ_irrefl}
use Rattle.rational.specs.Rounding.{Rounding, down, up, quotient, divisible}
use Rattle.rational.specs.Fraction.{Frac, whole, ◌+ᶠ◌, ◌*ᶠ◌, parameter}
use Rattle.rational.proofs.Order.{suc-<ℤ}
use Rattle.rational.proofs.Rational.{ℚ, rat, equal_rat, rat_add, rat_mul, rat_whole, embed, embed_add, ◌+ℚ◌, ◌*ℚ◌, +ℚ-assoc, +ℚ-zero}
use Rattle.rational.proofs.RationalOrder.{◌≤ℚ◌, ≤ℚ-of, equal_of, +ℚ-mono_right}
use Rattle.rational.proofs.Division.{ratio, ratio_mul, ratio_weights, ratio_embed, quotient-at-most, quotient-at-least, below_quotient, above_quotient}
use Rattle.rational.proofs.Truth.{and_both, both_and}
use Rattle.rational.proofs.Divisible.{multiple_divisible}
use Rattle.bernstein.proofs.Rationals.{mean}
use Rattle.bernstein.proofs.Curve.{curve, curve-at, bernstein-curve}
use Rattle.bernstein.proofs.Rounded.{Near}
use Rattle.bernstein.proofs.WholeSum.{power_positive, whole-value, sum_exact}
use Rattle.curve.specs.declared.Curve.{Curve}
use Rattle.curve.specs.declared.Evaluation.{Evaluation}
use Rattle.curve.specs.declared.Refusal.{Refusal}
use Rattle.curve.specs.Rect.{Coordinate, resistance, reactance, side, Bounded}
use Rattle.curve.specs.Curve.{point}
use Rattle.curve.specs.Inner.{Factors}
use Rattle.curve.proofs.Accepted.{parameter_facts}
use Rattle.curve.proofs.Points.{sides}
use Rattle.sixteenths.specs.Weights.{sixteenths}
use Rattle.sixteenths.specs.Sixteenths.{sum_of, summed_side, side_exact, summed_exact, evaluated_sixteenths}
use Rattle.sixteenths.proofs.Answers.{number_facts, sixteenth_accepted, summed_accepted, summed_refusal, summed_lit}
use Rattle.sixteenths.proofs.Loads.{side_summed}
use Rattle.ledger.specs.Ordinary.{exact_side}
use Rattle.ledger_promises.specs.Promises.{SumIsExact, LessThanAStep, WithinAStep, ExactSides, ExactSum}
use Rattle.ledger.proofs.Steps.{parameter_ratio}
use Rattle.ledger.proofs.Evaluation.{inward, near-bounded}

-- a rounded quotient is not short of the exact one
rounded_inward : (d : ℕ) (positive : 0 < d) (r : Rounding) (z : ℤ) → Near (inward r) 0 (quotient r z d) (ratio d positive z)
rounded_inward d positive down z = record { bound = quotient-at-most d positive down z }
rounded_inward d positive up z = record { bound = quotient-at-least d positive up z }

module _ (c : Curve) (j : ℕ) (most : j ≤ sixteenths) (x : Coordinate) (r : Rounding) where
  abbrev f : Factors (sixteenths - j) j sixteenths
  f = (parameter_facts j sixteenths (sixteenth_accepted j most)).factors

  abbrev exact : Frac
  exact = exact_side c x r (parameter j sixteenths)

  abbrev positive : 0 < sixteenths ^ c.degree
  positive = power_positive sixteenths c.degree f.positive

  -- the exact side is the sum divided by 16 to the power n
  exact_ratio : rat exact ≡ ratio (sixteenths ^ c.degree) positive (sum_of c j x r)
  unfolding embed sum_of mean
  exact_ratio =
      let Q : ℕ → ℚ = λ k. embed (side x r (point c k)) in
      bernstein-curve c.degree (λ k. whole (side x r (point c k))) (parameter j sixteenths)
      ∙ ap (curve Q c.degree) (parameter_ratio j sixteenths f)
      ∙ sym (curve-at Q c.degree _ _ (ratio_weights sixteenths f.positive (sixteenths - j) j f.total))
      ∙ sym (whole-value sixteenths f.positive (sixteenths - j) j c.degree (sides x r (point c)))

  -- so a whole number on one side of it is on that side of the rounded sum
  below : (m : ℤ) → embed m ≤ℚ rat exact → m ≤ℤ summed_side c j x r
  unfolding summed_side
  below m h = below_quotient (sixteenths ^ c.degree) positive r m (sum_of c j x r) (subst (λ y. embed m ≤ℚ y) exact_ratio h)

  above : (m : ℤ) → rat exact ≤ℚ embed m → summed_side c j x r ≤ℤ m
  unfolding summed_side
  above m h = above_quotient (sixteenths ^ c.degree) positive r m (sum_of c j x r) (subst (λ y. y ≤ℚ embed m) exact_ratio h)

  -- one rounding from it, and none inward
  not_short : Bounded r exact (summed_side c j x r)
  unfolding summed_side
  not_short =
      near-bounded r exact (summed_side c j x r)
      (subst (λ y. Near (inward r) 0 (summed_side c j x r) y) (sym exact_ratio) (rounded_inward (sixteenths ^ c.degree) positive r (sum_of c j x r)))

  lit_exact : side_exact c j x r ≡ true → rat (whole (summed_side c j x r)) ≡ rat exact
  unfolding embed summed_side side_exact sum_of
  lit_exact lit =
      sum_exact (sixteenths - j) j sixteenths f.total f.positive r (sides x r (point c)) c.degree lit
      ∙ sym (whole-value sixteenths f.positive (sixteenths - j) j c.degree (sides x r (point c)))
      ∙ sym exact_ratio

  -- and where it is exact nothing is left
  exact_lit : rat (whole (summed_side c j x r)) ≡ rat exact → side_exact c j x r ≡ true
  unfolding embed summed_side side_exact
  exact_lit same =
      let m = summed_side c j x r in
      ap (λ (z : ℤ). divisible z (sixteenths ^ c.degree)) (ratio_embed (sixteenths ^ c.degree) positive m (sum_of c j x r) (sym exact_ratio ∙ sym same))
      ∙ multiple_divisible (sixteenths ^ c.degree) m

pub sum_is_exact : SumIsExact
sum_is_exact c j most x r =
    equal_of (whole (sum_of c j x r)) (exact c j most x r *ᶠ whole (pos (sixteenths ^ c.degree)))
    (rat_whole (sum_of c j x r)
    ∙ sym (ratio_mul (sixteenths ^ c.degree) (positive c j most x r) (sum_of c j x r))
    ∙ ap (λ y. y *ℚ embed (pos (sixteenths ^ c.degree))) (sym (exact_ratio c j most x r))
    ∙ sym (rat_mul (exact c j most x r) (whole (pos (sixteenths ^ c.degree))) ∙ ap (λ y. rat (exact c j most x r) *ℚ y) (rat_whole (pos (sixteenths ^ c.degree)))))

-- a number is not one more than itself
no_more : {z : ℤ} → (z +ℤ pos 1) ≤ℤ z → ⊥
no_more h = <ℤ_irrefl (suc-<ℤ h)

plus_one : (a : Frac) → rat (a +ᶠ whole (pos 1)) ≡ rat a +ℚ embed (pos 1)
plus_one a = rat_add a (whole (pos 1)) ∙ ap (λ y. rat a +ℚ y) (rat_whole (pos 1))

less : (c : Curve) (j : ℕ) (most : j ≤ sixteenths) (x : Coordinate) (r : Rounding) → LessThanAStep r (summed_side c j x r) (exact c j most x r)
less c j most x down = λ h.
    let s = summed_side c j x down in
    no_more (below c j most x down (s +ℤ pos 1)
    (subst (λ y. y ≤ℚ rat (exact c j most x down)) (plus_one (whole s) ∙ ap (λ y. y +ℚ embed (pos 1)) (rat_whole s) ∙ sym (embed_add s (pos 1))) (≤ℚ-of h)))
less c j most x up = λ h.
    let s = summed_side c j x up in
    let e = exact c j most x up in
    let one_less = +ℚ-mono_right (embed (negsuc 0)) (subst₂ (λ y z. y ≤ℚ z) (plus_one e) (rat_whole s) (≤ℚ-of h)) in
    no_more
    (subst (λ (z : ℤ). z ≤ℤ (s +ℤ negsuc 0)) (sym (-ℤ-+ℤ_cancel s (pos 1)))
    (above c j most x up (s +ℤ negsuc 0) (subst₂ (λ y z. y ≤ℚ z) (back (rat e)) (sym (embed_add s (negsuc 0))) one_less)))
  where
    back : (y : ℚ) → y +ℚ embed (pos 1) +ℚ embed (negsuc 0) ≡ y
    back y = +ℚ-assoc y (embed (pos 1)) (embed (negsuc 0)) ∙ ap (λ z. y +ℚ z) (sym (embed_add (pos 1) (negsuc 0))) ∙ +ℚ-zero y

pub within_a_step : WithinAStep
within_a_step c j ok most x r =
    subst (λ (e : Evaluation). Bounded r (exact c j most x r) (side x r e.load) × LessThanAStep r (side x r e.load) (exact c j most x r)) (sym (summed_accepted c j ok most))
    (subst (λ (z : ℤ). Bounded r (exact c j most x r) z × LessThanAStep r z (exact c j most x r)) (sym (side_summed c j x r)) (not_short c j most x r, less c j most x r))

-- each side of a lit one
lit-side : (c : Curve) (j : ℕ) → summed_exact c j ≡ true → (x : Coordinate) (r : Rounding) → side_exact c j x r ≡ true
unfolding summed_exact
lit-side c j lit x r = go x r (and_both (side_exact c j resistance down && side_exact c j resistance up) (side_exact c j reactance down && side_exact c j reactance up) lit)
  where
    go :
        (x : Coordinate) (r : Rounding) →
        ((side_exact c j resistance down && side_exact c j resistance up) ≡ true) × ((side_exact c j reactance down && side_exact c j reactance up) ≡ true) →
        side_exact c j x r ≡ true
    go resistance down both = (and_both (side_exact c j resistance down) (side_exact c j resistance up) both.0).0
    go resistance up both = (and_both (side_exact c j resistance down) (side_exact c j resistance up) both.0).1
    go reactance down both = (and_both (side_exact c j reactance down) (side_exact c j reactance up) both.1).0
    go reactance up both = (and_both (side_exact c j reactance down) (side_exact c j reactance up) both.1).1

lit-sum : (c : Curve) (j : ℕ) → (evaluated_sixteenths c j).exact ≡ true → ExactSides c (parameter j sixteenths) (evaluated_sixteenths c j).load
lit-sum c j flag x r =
    let (ok, most) = summed_lit c j flag in
    let answer = summed_accepted c j ok most in
    let lit : summed_exact c j ≡ true = sym (ap (λ (e : Evaluation). e.exact) answer) ∙ flag in
    equal_of (whole (side x r _)) (exact_side c x r (parameter j sixteenths))
    (ap (λ (e : Evaluation). rat (whole (side x r e.load))) answer
    ∙ ap (λ (z : ℤ). rat (whole z)) (side_summed c j x r)
    ∙ lit_exact c j most x r (lit-side c j lit x r))

sides-lit : (c : Curve) (j : ℕ) → ((x : Coordinate) (r : Rounding) → side_exact c j x r ≡ true) → summed_exact c j ≡ true
unfolding summed_exact
sides-lit c j lit = both_and (both_and (lit resistance down) (lit resistance up)) (both_and (lit reactance down) (lit reactance up))

pub exact_sum : ExactSum
exact_sum c j = record {
  exactly = λ h same.
      let (ok, most) = number_facts c j (ap (λ (a : Refusal). a.number) (sym (summed_refusal c j) ∙ h)) in
      let answer = summed_accepted c j ok most in
      ap (λ (e : Evaluation). e.exact) answer
      ∙ sides-lit c j (λ x r. exact_lit c j most x r
      (sym (ap (λ (z : ℤ). rat (whole z)) (side_summed c j x r)) ∙ equal_rat (subst (λ (e : Evaluation). ExactSides c (parameter j sixteenths) e.load) answer same x r)));
  lit = lit-sum c j;
}
