-- A reading of a stretch of a curve, of either kind, is sound: it holds the load of every ordinary curve inside at the place read, and lies within the stretch's steps and its own roundings of the exact sides.
-- Assumes nothing.
use mathlib.Core.Path.{◌≡◌, sym, ap, ◌∙◌, subst, subst₂}
use Prim.Native.Nat.{ℕ, ◌+◌, ◌*◌, ◌-◌, ◌≤◌}
use native.Mathlib.Nat.{mul-zero, zero-mul, one-mul, zero-add, mul-le-mul_left}
use native.Mathlib.Omega.{arith}
use lib.IntN.{ℤ, pos}
use Rattle.rational.specs.Rounding.{Rounding, down, up}
use Rattle.rational.specs.Fraction.{Frac, whole, ◌+ᶠ◌, parameter}
use Rattle.rational.proofs.Rational.{ℚ, rat, rat_add, rat_whole, embed, ◌+ℚ◌, ◌*ℚ◌}
use Rattle.rational.proofs.RationalOrder.{◌≤ℚ◌, ≤ℚ-of, ≤ᶠ-of, ≤ℚ-refl}
use Rattle.rational.proofs.Division.{ratio_weights}
use Rattle.bernstein.specs.DeCasteljau.{value}
use Rattle.bernstein.specs.Bernstein.{bernstein}
use Rattle.bernstein.proofs.Rationals.{mean}
use Rattle.bernstein.proofs.Convex.{order_excess, excess_order}
use Rattle.bernstein.proofs.Curve.{curve, curve-at, bernstein-curve}
use Rattle.bernstein.proofs.Rounded.{Side, over, under, Near, error, near_weaken, table-near}
use Rattle.bernstein.proofs.WholeSum.{sum_near}
use Rattle.curve.specs.declared.Curve.{Curve}
use Rattle.curve.specs.declared.Rect.{Rect}
use Rattle.curve.specs.Rect.{Coordinate, side, Bounded}
use Rattle.curve.specs.Curve.{point, load_of}
use Rattle.curve.specs.Inner.{Factors}
use Rattle.curve.proofs.Points.{sides, side-value}
use Rattle.sixteenths.specs.Weights.{sixteenths}
use Rattle.sixteenths.specs.Sixteenths.{sum_of, summed_side, summed_load}
use Rattle.sixteenths.proofs.Loads.{side_summed}
use Rattle.ledger.specs.Ordinary.{Ordinary, InsideOf, load_at, exact_side}
use Rattle.ledger.specs.Claim as Claim
use Rattle.ledger.specs.Claim.{Sound}
use Rattle.ledger.proofs.Stretch.{Stretch}
use Rattle.ledger.proofs.Steps.{parameter_ratio}

-- ---- the two ways of lying near, for each side

-- inward, where no rounding adds anything
abbrev pub inward : Rounding → Side
inward down = over
inward up = under

pub inward_none : (r : Rounding) (m : ℕ) → error (inward r) r * m ≡ 0
inward_none down m = zero-mul m
inward_none up m = zero-mul m

pub bounded-near : (r : Rounding) (v : Frac) (s : ℤ) → Bounded r v s → Near (inward r) 0 s (rat v)
unfolding embed
bounded-near down v s h = order_excess (≤ℚ-of h)
bounded-near up v s h = order_excess (≤ℚ-of h)

pub near-bounded : (r : Rounding) (v : Frac) (s : ℤ) → Near (inward r) 0 s (rat v) → Bounded r v s
unfolding embed
near-bounded down v s h = ≤ᶠ-of (whole s) v (excess_order h)
near-bounded up v s h = ≤ᶠ-of v (whole s) (excess_order h)

-- outward, where each rounding adds one step
abbrev pub outward : Rounding → Side
outward down = under
outward up = over

pub outward_one : (r : Rounding) (m : ℕ) → error (outward r) r * m ≡ m
outward_one down m = one-mul m
outward_one up m = one-mul m

pub near_itself : (way : Side) (s : ℤ) → Near way 0 s (embed s)
near_itself over s = order_excess (≤ℚ-refl (embed s))
near_itself under s = order_excess (≤ℚ-refl (embed s))

-- a sum with a whole number
plus_whole : (a : Frac) (d : ℕ) → rat (a +ᶠ whole (pos d)) ≡ rat a +ℚ embed (pos d)
plus_whole a d = rat_add a (whole (pos d)) ∙ ap (λ x. rat a +ℚ x) (rat_whole (pos d))

pub near_claimed : (r : Rounding) (d : ℕ) (s : ℤ) (exact : Frac) → Near (outward r) d s (rat exact) → Claim.Near r d s exact
unfolding embed
near_claimed down d s exact h = ≤ᶠ-of exact (whole s +ᶠ whole (pos d)) (subst (λ x. rat exact ≤ℚ x) (sym (plus_whole (whole s) d)) h.bound)
near_claimed up d s exact h = ≤ᶠ-of (whole s) (exact +ᶠ whole (pos d)) (subst (λ x. rat (whole s) ≤ℚ x) (sym (plus_whole exact d)) h.bound)

-- ---- the readings

-- a rectangle read at num/den off a curve: its sides are some roundings further from the exact value than the control points' sides
pub record Reads (now : Curve) (num den : ℕ) (f : Factors (den - num) num den) (load : Rect) (by : ℕ) : Type 0 where
  pub near :
      (x : Coordinate) (r : Rounding) (way : Side) (q : ℕ → ℚ) (m : ℕ) →
      ((k : ℕ) → k ≤ now.degree → Near way (error way r * m) (side x r (point now k)) (q k)) →
      Near way (error way r * (m + by)) (side x r load) (value (mean den f.positive (den - num) num) q now.degree)

-- the staged one rounds at each stage
pub staged_reads : (now : Curve) (num den : ℕ) (f : Factors (den - num) num den) → Reads now num den f (load_of now num den) now.degree
unfolding load_of value
staged_reads now num den f = record {
  near = λ x r way q m start.
      subst (λ (a : ℤ). Near way (error way r * (m + now.degree)) a (value (mean den f.positive (den - num) num) q now.degree))
      (sym (side-value x r (point now) (den - num) num den now.degree))
      (table-near r (den - num) num den f.total f.positive way (sides x r (point now)) q now.degree m start now.degree 0 (omega arith));
}

-- the summed one rounds once
pub summed_reads : (now : Curve) (j : ℕ) (f : Factors (sixteenths - j) j sixteenths) → Reads now j sixteenths f (summed_load now j) 1
unfolding summed_side sum_of
summed_reads now j f = record {
  near = λ x r way q m start.
      subst (λ (a : ℤ). Near way (error way r * (m + 1)) a (value (mean sixteenths f.positive (sixteenths - j) j) q now.degree))
      (sym (side_summed now j x r))
      (sum_near (sixteenths - j) j sixteenths f.total f.positive r way (sides x r (point now)) q now.degree m start);
}

-- more roundings than there are
pub reads_weaken :
    (now : Curve) (num den : ℕ) (f : Factors (den - num) num den) (load : Rect) (few many : ℕ) → few ≤ many →
    Reads now num den f load few → Reads now num den f load many
reads_weaken now num den f load few many h reads = record {
  near = λ x r way q m start. near_weaken way _ _ _ _ (mul-le-mul_left (error way r) (omega arith)) (reads.near x r way q m start);
}

-- what a rectangle read off a stretch of a curve says of the curve
module _
    (c now : Curve) (start width : ℚ) (steps : ℕ) (stretch : Stretch start width steps c now) (num den : ℕ) (f : Factors (den - num) num den)
    (place : Frac) (placed : start +ℚ width *ℚ rat (parameter num den) ≡ rat place) where
  -- the exact value of the moved sequence is the starting curve's at the place
  exact_evaluation : (q : ℕ → ℚ) → value (mean den f.positive (den - num) num) (stretch.move q) now.degree ≡ curve q c.degree (rat place)
  unfolding mean
  exact_evaluation q =
      curve-at (stretch.move q) now.degree _ _ (ratio_weights den f.positive (den - num) num f.total)
      ∙ stretch.moved q _
      ∙ ap (curve q c.degree) (ap (λ t. start +ℚ width *ℚ t) (sym (parameter_ratio num den f)) ∙ placed)

  module _ (load : Rect) (by : ℕ) (reads : Reads now num den f load by) where
    -- a side read is near that value
    read-near :
        (x : Coordinate) (r : Rounding) (way : Side) (q : ℕ → ℚ) →
        ((k : ℕ) → k ≤ c.degree → Near way 0 (side x r (point c k)) (q k)) →
        Near way (error way r * (steps + by)) (side x r load) (curve q c.degree (rat place))
    read-near x r way q near =
        subst (λ (y : ℚ). Near way (error way r * (steps + by)) (side x r load) y) (exact_evaluation q)
        (reads.near x r way (stretch.move q) steps
        (λ k h. rw zero-add at (stretch.near x r way 0 q (λ i g. rw mul-zero (near i g)) k h)))

    -- with the ordinary curve as the exact sequence it holds the load, and with the curve's own sides it is near the exact sides
    pub sound : (o : Ordinary) → InsideOf o c → Sound c o place (steps + by) load
    unfolding embed
    sound o inside = record {
      holds = λ x r. near-bounded r (load_at o x place) _
          (subst₂ (λ (m : ℕ) (y : ℚ). Near (inward r) m (side x r load) y) (inward_none r (steps + by))
          (sym (ap (λ (n : ℕ). rat (bernstein n (o.control x) place)) inside.degrees ∙ bernstein-curve c.degree (o.control x) place))
          (read-near x r (inward r) (λ k. rat (o.control x k)) (λ k h. bounded-near r _ _ (inside.controls x r k h))));
      near = λ x r. near_claimed r (steps + by) _ (exact_side c x r place)
          (subst₂ (λ (m : ℕ) (y : ℚ). Near (outward r) m (side x r load) y) (outward_one r (steps + by))
          (sym (bernstein-curve c.degree (λ k. whole (side x r (point c k))) place))
          (read-near x r (outward r) (λ k. embed (side x r (point c k))) (λ k h. near_itself (outward r) _)));
    }
