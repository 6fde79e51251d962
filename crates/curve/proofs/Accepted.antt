-- What it means that a curve, a parameter, a sum of steps and a call are not refused: number 0 says it, the facts about degree and sides say it, and the answers are then the results.
-- Assumes nothing.
use mathlib.Core.Path.{◌≡◌, sym, ap, ◌∙◌, subst}
use mathlib.Core.Bool.{Bool, true, false, ◌&&◌}
use Prim.Native.Nat.{ℕ, ◌+◌, ◌-◌, ◌≤◌, ◌<◌}
use native.Mathlib.Omega.{arith}
use borrow.Author.Tests.{leb-true, le-leb, eqb-false, ne_eqb}
use lib.Dec.{T, eqb, leb, ltb, leb→le, le→leb, ltb→lt, lt→ltb}
use lib.IntN.{ℤ, pos, neg_ℤ}
use lib.Signed.{le_z, le_z_yes, ◌≤ℤ◌}
use Rattle.rational.specs.Rounding.{Rounding, down, up}
use Rattle.rational.proofs.Truth.{and_both, both_and}
use Rattle.curve.specs.declared.Interval.{Interval}
use Rattle.curve.specs.declared.Rect.{Rect}
use Rattle.curve.specs.declared.Curve.{Curve}
use Rattle.curve.specs.declared.Refusal.{Refusal}
use Rattle.curve.specs.Limits.{max_degree, max_den, max_side, max_sum}
use Rattle.curve.specs.Rect.{Coordinate, resistance, reactance, end, side, in_range, ends_in_range, sides_in_range, ends_ordered, sides_ordered}
use Rattle.curve.specs.Curve.{point, piece_sum, elevated_sum}
use Rattle.curve.specs.Refusals.{none, ◌or_else◌, unless, range_refusal, order_refusal, curve_refusal, parameter_refusal, highest_refusal, sum_refusal, degree_refusal, Accepted, AcceptedAt, AcceptedSum}
use Rattle.curve.specs.Inner.{Side, Held, Factors, Ready}
use Rattle.curve.specs.Calls.{call_refusal, subdivision_refusal, elevation_refusal}
use Rattle.curve.proofs.Tests.{true_of, both, join, or_split, or_none, unless_holds, unless-none, first_holds, first-none, between_holds, between_none}

-- ---- sides

range_side : (z : ℤ) → T (in_range z) → Side z
unfolding in_range
range_side z t = let (low, high) = both (le_z (neg_ℤ (pos max_side)) z) (le_z z (pos max_side)) t in record { from = le_z_yes low; to = le_z_yes high }

pub side_range : (z : ℤ) → Side z → T (in_range z)
unfolding in_range
side_range z h = join (le_z (neg_ℤ (pos max_side)) z) (le_z z (pos max_side)) h.from.le h.to.le

ends-sides : (i : Interval) → T (ends_in_range i) → (r : Rounding) → Side (end r i)
unfolding ends_in_range
ends-sides i t down = range_side i.low (both (in_range i.low) (in_range i.high) t).0
ends-sides i t up = range_side i.high (both (in_range i.low) (in_range i.high) t).1

sides-ends : (i : Interval) → ((r : Rounding) → Side (end r i)) → T (ends_in_range i)
unfolding ends_in_range
sides-ends i h = join (in_range i.low) (in_range i.high) (side_range i.low (h down)) (side_range i.high (h up))

-- a rectangle's range, side by side
range_sides : (p : Rect) → T (sides_in_range p) → (x : Coordinate) (r : Rounding) → Side (side x r p)
unfolding sides_in_range
range_sides p t resistance = ends-sides p.resistance (both (ends_in_range p.resistance) (ends_in_range p.reactance) t).0
range_sides p t reactance = ends-sides p.reactance (both (ends_in_range p.resistance) (ends_in_range p.reactance) t).1

pub sides_range : (p : Rect) → ((x : Coordinate) (r : Rounding) → Side (side x r p)) → T (sides_in_range p)
unfolding sides_in_range
sides_range p h = join (ends_in_range p.resistance) (ends_in_range p.reactance) (sides-ends p.resistance (h resistance)) (sides-ends p.reactance (h reactance))

pub range_held : (p : Rect) → T (sides_in_range p) → Held p
range_held p t = record { at = λ x. record { at = λ r. range_sides p t x r } }

-- a rectangle's order, coordinate by coordinate
order-sides : (p : Rect) → T (sides_ordered p) → (x : Coordinate) → side x down p ≤ℤ side x up p
unfolding sides_ordered ends_ordered
order-sides p t resistance = le_z_yes (both (ends_ordered p.resistance) (ends_ordered p.reactance) t).0
order-sides p t reactance = le_z_yes (both (ends_ordered p.resistance) (ends_ordered p.reactance) t).1

pub sides-order : (p : Rect) → ((x : Coordinate) → side x down p ≤ℤ side x up p) → T (sides_ordered p)
unfolding sides_ordered ends_ordered
sides-order p h = join (ends_ordered p.resistance) (ends_ordered p.reactance) (h resistance).le (h reactance).le

-- ---- curves

-- what is known of an accepted curve
pub record Facts (c : Curve) : Type 0 where
  pub some : 1 ≤ c.degree
  pub few : c.degree ≤ max_degree
  pub in_range : (k : ℕ) → k ≤ c.degree → (x : Coordinate) (r : Rounding) → Side (side x r (point c k))
  pub ordered : (k : ℕ) → k ≤ c.degree → (x : Coordinate) → side x down (point c k) ≤ℤ side x up (point c k)

number_facts : (c : Curve) → (curve_refusal c).number ≡ 0 → Facts c
unfolding curve_refusal range_refusal order_refusal
number_facts c h =
    let (first, rest) = or_split (degree_refusal c.degree) (range_refusal c or_else order_refusal c) h in
    let (range, order) = or_split (range_refusal c) (order_refusal c) rest in
    let (low, high) = between_holds c.degree max_degree 0 first in
    record {
      some = low;
      few = high;
      in_range = λ k l. range_sides (point c k) (first_holds (λ k. sides_in_range (point c k)) 1 (c.degree + 1) 0 range k (omega arith) (omega arith));
      ordered = λ k l. order-sides (point c k) (first_holds (λ k. sides_ordered (point c k)) 2 (c.degree + 1) 0 order k (omega arith) (omega arith));
    }

pub facts_accepted : {c : Curve} → Facts c → Accepted c
unfolding curve_refusal range_refusal order_refusal
facts_accepted {c} f =
    or_none (degree_refusal c.degree) _ (between_none c.degree max_degree 1 f.some f.few)
    ∙ or_none (range_refusal c) _ (first-none (λ k. sides_in_range (point c k)) 2 (c.degree + 1) 0 (λ k low high. sides_range (point c k) (f.in_range k (omega arith))))
    ∙ first-none (λ k. sides_ordered (point c k)) 3 (c.degree + 1) 0 (λ k low high. sides-order (point c k) (f.ordered k (omega arith)))

-- what the tests of the degree and of each rectangle tell
abbrev pub good_at : Curve → ℕ → Bool
good_at c k = sides_in_range (point c k) && sides_ordered (point c k)

pub tests_facts : (c : Curve) → (leb 1 c.degree && leb c.degree max_degree) ≡ true → ((k : ℕ) → k ≤ c.degree → good_at c k ≡ true) → Facts c
tests_facts c degree good =
    let (some, few) = and_both (leb 1 c.degree) (leb c.degree max_degree) degree in
    record {
      some = leb-true 1 c.degree some;
      few = leb-true c.degree max_degree few;
      in_range = λ k l. range_sides (point c k) (subst T (sym (and_both (sides_in_range (point c k)) (sides_ordered (point c k)) (good k l)).0) tt);
      ordered = λ k l. order-sides (point c k) (subst T (sym (and_both (sides_in_range (point c k)) (sides_ordered (point c k)) (good k l)).1) tt);
    }

pub facts_degree : {c : Curve} → Facts c → (leb 1 c.degree && leb c.degree max_degree) ≡ true
facts_degree {c} f = both_and (le-leb 1 c.degree f.some) (le-leb c.degree max_degree f.few)

pub facts_good : {c : Curve} → Facts c → (k : ℕ) → k ≤ c.degree → good_at c k ≡ true
facts_good {c} f k l =
    both_and
    (true_of (sides_in_range (point c k)) (sides_range (point c k) (f.in_range k l)))
    (true_of (sides_ordered (point c k)) (sides-order (point c k) (f.ordered k l)))

-- number 0 is enough
pub number-accepted : (c : Curve) → (curve_refusal c).number ≡ 0 → Accepted c
number-accepted c h = facts_accepted (number_facts c h)

pub accepted_facts : (c : Curve) → Accepted c → Facts c
accepted_facts c a = number_facts c (ap (λ (r : Refusal). r.number) a)

pub accepted_ready : (c : Curve) → Accepted c → Ready c
accepted_ready c a =
    let f = accepted_facts c a in
    record { some = f.some; few = f.few; held = λ k l. record { at = λ x. record { at = f.in_range k l x } } }

-- ---- parameters

-- what is known of an accepted parameter
pub record ParameterFacts (num den : ℕ) : Type 0 where
  pub factors : Factors (den - num) num den
  pub most : num ≤ den

number-parameter : (num den : ℕ) → (parameter_refusal num den).number ≡ 0 → ParameterFacts num den
unfolding parameter_refusal
number-parameter num den h =
    let (first, second) = or_split (unless (leb 1 den && leb den max_den) 4) (unless (leb num den) 5) h in
    let (low, high) = between_holds den max_den 3 first in
    let most = leb→le num den (unless_holds (leb num den) 4 0 second) in
    record { factors = record { total = omega arith; positive = low; small = high }; most = most }

parameter-accepted : (num den : ℕ) → ParameterFacts num den → AcceptedAt num den
unfolding parameter_refusal
parameter-accepted num den f =
    or_none (unless (leb 1 den && leb den max_den) 4) _ (between_none den max_den 4 f.factors.positive f.factors.small)
    ∙ unless-none (leb num den) 5 (le→leb num den f.most)

pub number-accepted-at : (num den : ℕ) → (parameter_refusal num den).number ≡ 0 → AcceptedAt num den
number-accepted-at num den h = parameter-accepted num den (number-parameter num den h)

pub parameter_facts : (num den : ℕ) → AcceptedAt num den → ParameterFacts num den
parameter_facts num den a = number-parameter num den (ap (λ (r : Refusal). r.number) a)

-- ---- sums of steps

number-most : (s : ℕ) → (sum_refusal s).number ≡ 0 → s ≤ max_sum
unfolding sum_refusal
number-most s h = leb→le s max_sum (unless_holds (leb s max_sum) 16 0 h)

pub most-accepted : (s : ℕ) → s ≤ max_sum → AcceptedSum s
unfolding sum_refusal
most-accepted s h = unless-none (leb s max_sum) 17 (le→leb s max_sum h)

pub accepted-most : (s : ℕ) → AcceptedSum s → s ≤ max_sum
accepted-most s a = number-most s (ap (λ (r : Refusal). r.number) a)

pub number-accepted-sum : (s : ℕ) → (sum_refusal s).number ≡ 0 → AcceptedSum s
number-accepted-sum s h = most-accepted s (number-most s h)

-- ---- calls

pub call_accepted : (c : Curve) (num den : ℕ) → (call_refusal c num den).number ≡ 0 → Accepted c × AcceptedAt num den
unfolding call_refusal
call_accepted c num den h =
    let (first, second) = or_split (curve_refusal c) (parameter_refusal num den) h in
    (number-accepted c first, number-accepted-at num den second)

-- the refusal of an accepted curve's call is the parameter's
pub call_parameter : (c : Curve) (num den : ℕ) → Accepted c → call_refusal c num den ≡ parameter_refusal num den
unfolding call_refusal
call_parameter c num den a = or_none (curve_refusal c) (parameter_refusal num den) a

pub accepted_call : (c : Curve) (num den : ℕ) → Accepted c → AcceptedAt num den → call_refusal c num den ≡ none
accepted_call c num den a b = call_parameter c num den a ∙ b

-- a subdivision: the same, and the sum of its pieces
module _ (c : Curve) (num den : ℕ) where
  pub subdivision_accepted : (subdivision_refusal c num den).number ≡ 0 → Accepted c × AcceptedAt num den × AcceptedSum (piece_sum c)
  unfolding subdivision_refusal
  subdivision_accepted h =
      let (first, last) = or_split (call_refusal c num den) (sum_refusal (piece_sum c)) h in
      let (ok, at) = call_accepted c num den first in
      (ok, at, number-accepted-sum (piece_sum c) last)

  pub subdivision_own : Accepted c → subdivision_refusal c num den ≡ (parameter_refusal num den or_else sum_refusal (piece_sum c))
  unfolding subdivision_refusal
  subdivision_own a = ap (λ (r : Refusal). r or_else sum_refusal (piece_sum c)) (call_parameter c num den a)

  pub subdivision_refused : eqb (call_refusal c num den).number 0 ≡ false → eqb (subdivision_refusal c num den).number 0 ≡ false
  subdivision_refused h =
      ne_eqb (subdivision_refusal c num den).number 0 (λ e.
      let (ok, at, room) = subdivision_accepted e in
      eqb-false (call_refusal c num den).number 0 h (ap (λ (r : Refusal). r.number) (accepted_call c num den ok at)))

  pub accepted_subdivision : Accepted c → AcceptedAt num den → AcceptedSum (piece_sum c) → subdivision_refusal c num den ≡ none
  accepted_subdivision a b s = subdivision_own a ∙ or_none (parameter_refusal num den) (sum_refusal (piece_sum c)) b ∙ s

-- the degree is below the highest
pub number-highest : (n : ℕ) → (highest_refusal n).number ≡ 0 → n < max_degree
unfolding highest_refusal
number-highest n h = ltb→lt n max_degree (unless_holds (ltb n max_degree) 5 0 h)

pub highest-accepted : (n : ℕ) → n < max_degree → highest_refusal n ≡ none
unfolding highest_refusal
highest-accepted n h = unless-none (ltb n max_degree) 6 (lt→ltb n max_degree h)

pub elevation_accepted : (c : Curve) → (elevation_refusal c).number ≡ 0 → Accepted c × (c.degree < max_degree) × AcceptedSum (elevated_sum c)
unfolding elevation_refusal
elevation_accepted c h =
    let (first, own) = or_split (curve_refusal c) (highest_refusal c.degree or_else sum_refusal (elevated_sum c)) h in
    let (second, last) = or_split (highest_refusal c.degree) (sum_refusal (elevated_sum c)) own in
    (number-accepted c first, number-highest c.degree second, number-accepted-sum (elevated_sum c) last)

pub elevation_own : (c : Curve) → Accepted c → elevation_refusal c ≡ (highest_refusal c.degree or_else sum_refusal (elevated_sum c))
unfolding elevation_refusal
elevation_own c a = or_none (curve_refusal c) (highest_refusal c.degree or_else sum_refusal (elevated_sum c)) a

pub accepted_elevation : (c : Curve) → Accepted c → c.degree < max_degree → AcceptedSum (elevated_sum c) → elevation_refusal c ≡ none
accepted_elevation c a h s = elevation_own c a ∙ or_none (highest_refusal c.degree) (sum_refusal (elevated_sum c)) (highest-accepted c.degree h) ∙ s
