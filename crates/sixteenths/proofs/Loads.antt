-- The load of the summed reading lies inside that of the staged one, and its sides are in range; the answer with its ohms.
-- Assumes nothing.
use mathlib.Core.Path.{◌≡◌, refl, sym, ap, ap₂, ◌∙◌, subst}
use mathlib.Core.Bool.{Bool, false, ◌&&◌, cond}
use Prim.Native.Nat.{ℕ, ◌-◌, ◌^◌, ◌≤◌}
use native.Mathlib.Omega.{arith}
use lib.Dec.{T, eqb}
use Rattle.std.proofs.Common.{Ok, Err}
use lib.IntN.{ℤ, pos, neg_ℤ}
use lib.Signed.{◌≤ℤ◌}
use Rattle.rational.specs.Rounding.{Rounding, down, up}
use Rattle.rational.proofs.Quotient.{quotient-greatest, quotient-least}
use Rattle.bernstein.proofs.WholeSum.{power_positive, sum-least, sum-most, sum-inside-low, sum-inside-high}
use Rattle.curve.specs.declared.Curve.{Curve}
use Rattle.curve.specs.declared.Rect.{Rect}
use Rattle.curve.specs.declared.Ohms.{Ohms}
use Rattle.curve.specs.declared.Refusal.{Refusal}
use Rattle.curve.specs.declared.reason.Reason.{Reason}
use Rattle.curve.specs.Reason.{listed}
use Rattle.curve.specs.Results.{as_evaluation}
use Rattle.curve.specs.Limits.{max_side}
use Rattle.curve.specs.Rect.{Coordinate, resistance, reactance, side, Outward, Inside, sides_in_range}
use Rattle.curve.specs.Ohms.{ohms_of, zero_ohms, checked_ohms}
use Rattle.curve.specs.Curve.{point, load_of}
use Rattle.curve.specs.Refusals.{none, Accepted}
use Rattle.curve.specs.Inner.{Side, Held}
use Rattle.curve.proofs.Answers.{no_evaluation}
use Rattle.curve.proofs.Accepted.{accepted_facts, sides_range}
use Rattle.curve.proofs.Points.{side-value}
use Rattle.curve.proofs.RectSides.{same-sides}
use Rattle.curve.proofs.Tests.{true_of}
use Rattle.sixteenths.specs.Weights.{sixteenths}
use Rattle.sixteenths.specs.Sixteenths.{sum_of, summed_side, side_exact, summed_interval, summed_load, summed_exact, sixteenths_refusal, evaluated_sixteenths}
use Rattle.sixteenths.specs.Inner.{accepts}
use Rattle.curve.proofs.Listed.{listed_refuses}
use Rattle.sixteenths.proofs.Answers.{number_facts, facts_accepts, summed_accepted, summed_refused}

-- one side of the summed load
pub side_summed : (c : Curve) (j : ℕ) (x : Coordinate) (r : Rounding) → side x r (summed_load c j) ≡ summed_side c j x r
unfolding summed_load summed_interval
side_summed c j resistance down = refl
side_summed c j resistance up = refl
side_summed c j reactance down = refl
side_summed c j reactance up = refl

-- ---- inside the staged load

module _ (c : Curve) (j : ℕ) (most : j ≤ sixteenths) where
  inside-side : (x : Coordinate) (r : Rounding) → Outward r (summed_side c j x r) (side x r (load_of c j sixteenths))
  unfolding load_of summed_side sum_of
  inside-side x down =
      subst (λ (z : ℤ). z ≤ℤ summed_side c j x down) (sym (side-value x down (point c) (sixteenths - j) j sixteenths c.degree))
      (sum-inside-low (sixteenths - j) j sixteenths (omega arith) (omega arith) (λ k. side x down (point c k)) c.degree)
  inside-side x up =
      subst (λ (z : ℤ). summed_side c j x up ≤ℤ z) (sym (side-value x up (point c) (sixteenths - j) j sixteenths c.degree))
      (sum-inside-high (sixteenths - j) j sixteenths (omega arith) (omega arith) (λ k. side x up (point c k)) c.degree)

  pub load_inside : Inside (summed_load c j) (load_of c j sixteenths)
  load_inside = record { at = λ x r. subst (λ (z : ℤ). Outward r z (side x r (load_of c j sixteenths))) (sym (side_summed c j x r)) (inside-side x r) }

-- ---- sides in range

side-held : (c : Curve) (j : ℕ) → Accepted c → j ≤ sixteenths → (x : Coordinate) (r : Rounding) → Side (summed_side c j x r)
unfolding summed_side sum_of
side-held c j ok most x r =
    let f = accepted_facts c ok in
    let d = sixteenths ^ c.degree in
    let positive = power_positive sixteenths c.degree (omega arith) in
    let P : ℕ → ℤ = λ k. side x r (point c k) in
    record {
      from = quotient-greatest d positive r (neg_ℤ (pos max_side)) _ (sum-least (sixteenths - j) j sixteenths (omega arith) (omega arith) c.degree P (neg_ℤ (pos max_side)) (λ k h. (f.in_range k h x r).from));
      to = quotient-least d positive r (pos max_side) _ (sum-most (sixteenths - j) j sixteenths (omega arith) (omega arith) c.degree P (pos max_side) (λ k h. (f.in_range k h x r).to));
    }

pub summed_held : (c : Curve) (j : ℕ) → Accepted c → j ≤ sixteenths → Held (summed_load c j)
summed_held c j ok most = record { at = λ x. record { at = λ r. subst Side (sym (side_summed c j x r)) (side-held c j ok most x r) } }

-- ---- the answer

pub held-ohms : (p : Rect) → Held p → checked_ohms p ≡ ohms_of p
unfolding checked_ohms
held-ohms p h = ap (λ (b : Bool). cond b (ohms_of p) zero_ohms) (true_of (sides_in_range p) (sides_range p (λ x r. (h.at x).at r)))

pub accepted-answer :
    (c : Curve) (j : ℕ) → Accepted c → j ≤ sixteenths → (load : Rect) (ohms : Ohms) (exact : Bool) →
    ((x : Coordinate) (r : Rounding) → side x r load ≡ summed_side c j x r) → ohms ≡ checked_ohms load → exact ≡ summed_exact c j →
    as_evaluation (Ok (record { load = load; ohms = ohms; exact = exact })) ≡ evaluated_sixteenths c j
accepted-answer c j ok most load ohms exact each shown flag =
    let same : load ≡ summed_load c j = same-sides (λ x r. each x r ∙ sym (side_summed c j x r)) in
    let held : ohms ≡ ohms_of (summed_load c j) = shown ∙ ap checked_ohms same ∙ held-ohms (summed_load c j) (summed_held c j ok most) in
    rw (same, held, flag) (sym (summed_accepted c j ok most))

-- a reading that one pass does not accept is refused
pub not_accepted : (c : Curve) (j : ℕ) → accepts c j ≡ false → sixteenths_refusal c j ≡ none → ⊥
not_accepted c j test h = let (ok, most) = number_facts c j (ap (λ (r : Refusal). r.number) h) in subst T (sym (facts_accepts c j ok most) ∙ test) tt

pub refused_answer : (c : Curve) (j : ℕ) (e : Reason) → listed e ≡ sixteenths_refusal c j → as_evaluation (Err e) ≡ evaluated_sixteenths c j
refused_answer c j e is =
    ap no_evaluation is ∙ sym (summed_refused c j (subst (λ (r : Refusal). eqb r.number 0 ≡ false) is (listed_refuses e)))

-- the flag, by its four sides
pub four :
    (c : Curve) (j : ℕ) (f : Coordinate → Rounding → Bool) → ((x : Coordinate) (r : Rounding) → f x r ≡ side_exact c j x r) →
    ((f resistance down && f resistance up) && (f reactance down && f reactance up)) ≡ summed_exact c j
unfolding summed_exact
four c j f each = ap₂ ◌&&◌ (ap₂ ◌&&◌ (each resistance down) (each resistance up)) (ap₂ ◌&&◌ (each reactance down) (each reactance up))
