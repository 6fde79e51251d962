-- The sums, point by point: each side's sum of lifted sides grows by one product, and stays small.
-- Assumes nothing.
use mathlib.Core.Path.{◌≡◌, refl, sym, ap, ap₂, ◌∙◌, subst}
use mathlib.Core.Bool.{Bool, true, false, ◌&&◌}
use Prim.Native.Nat.{ℕ, ◌+◌, ◌*◌, ◌≤◌, ◌<◌}
use native.Mathlib.Numerals.{add-one}
use native.Mathlib.Omega.{arith}
use lib.Dec.{T}
use lib.IntN.{ℤ, pos, ◌+ℤ◌, ◌*ℤ◌, pos-+ℤ-pos}
use Rattle.rational.specs.Rounding.{Rounding, down, up}
use Rattle.rational.proofs.Truth.{and_both, both_and}
use Rattle.bernstein.specs.DeCasteljau.{all_below}
use Rattle.bernstein.specs.WholeSum.{total_below}
use Rattle.curve.specs.declared.Rect.{Rect}
use Rattle.curve.specs.Limits.{max_side}
use Rattle.curve.specs.Rect.{Coordinate, resistance, reactance, side, sides_in_range, sides_ordered}
use Rattle.curve.specs.Inner.{Held}
use Rattle.bernstein.proofs.EveryMap.{all_at}
use Rattle.bernstein.proofs.WholeSum.{total_agree}
use Rattle.curve.proofs.Accepted.{range_held}
use Rattle.sixteenths.specs.declared.sums.Sums.{Sums}
use Rattle.sixteenths.specs.Inner.{largest_weight, lifted, sum_at, added_to, Summed, good_below}
use Rattle.sixteenths.proofs.Lifted.{lifted_is, weighed_most}

added_at : (s : Sums) (w : ℕ) (p : Rect) (x : Coordinate) (r : Rounding) → sum_at x r (added_to s w p) ≡ sum_at x r s + w * lifted (side x r p)
added_at s w p resistance down = refl
added_at s w p resistance up = refl
added_at s w p reactance down = refl
added_at s w p reactance up = refl

-- the sums of no points, as the default of the record gives them
abbrev pub NoSums : Sums → Type 0
NoSums s = (s.rlow ≡ 0) × ((s.rhigh ≡ 0) × ((s.xlow ≡ 0) × (s.xhigh ≡ 0)))

none-at : (s : Sums) → NoSums s → (x : Coordinate) (r : Rounding) → sum_at x r s ≡ 0
none-at s h resistance down = h.0
none-at s h resistance up = h.1.0
none-at s h reactance down = h.1.1.0
none-at s h reactance up = h.1.1.1

module _ (W : ℕ → ℕ) (P : ℕ → Rect) where
  pub summed_start : (s : Sums) → NoSums s → Summed W P 0 s
  unfolding total_below
  summed_start s h = record { total = λ x r. ap pos (none-at s h x r); most = λ x r. let none = none-at s h x r in omega arith }

  pub summed_next : (k : ℕ) (s : Sums) → Summed W P k s → W k ≤ largest_weight → Held (P k) → Summed W P (k + 1) (added_to s (W k) (P k))
  unfolding total_below
  summed_next k s before light held = record {
    total = λ x r.
        let z = side x r (P k) in
        ap pos (added_at s (W k) (P k) x r)
        ∙ sym (pos-+ℤ-pos (sum_at x r s) (W k * lifted z))
        ∙ ap₂ ◌+ℤ◌ (before.total x r) (ap (λ (y : ℤ). pos (W k) *ℤ y) (sym (lifted_is ((held.at x).at r))))
        ∙ ap (λ (m : ℕ). total_below m (λ i. pos (W i) *ℤ (side x r (P i) +ℤ pos max_side))) (sym (add-one k));
    most = λ x r.
        let was = before.most x r in
        let more = weighed_most (W k) light ((held.at x).at r) in
        let sum = added_at s (W k) (P k) x r in
        omega arith;
  }

-- only the weights of the points that are summed up matter
pub summed_agree :
    (W W' : ℕ → ℕ) (P : ℕ → Rect) (m : ℕ) (s : Sums) → ((k : ℕ) → k < m → W k ≡ W' k) → Summed W P m s → Summed W' P m s
summed_agree W W' P m s same sums = record {
  total = λ x r. sums.total x r ∙ total_agree m _ _ (λ k h. ap (λ (w : ℕ). pos w *ℤ (side x r (P k) +ℤ pos max_side)) (same k h));
  most = sums.most;
}

-- ---- the test of the points

abbrev pub good : (ℕ → Rect) → ℕ → Bool
good P k = sides_in_range (P k) && sides_ordered (P k)

pub good_start : (P : ℕ → Rect) → good_below 0 P ≡ true
unfolding all_below
good_start P = refl

pub good_next : (P : ℕ → Rect) (k : ℕ) → good_below k P ≡ true → good P k ≡ true → good_below (k + 1) P ≡ true
unfolding all_below
good_next P k before test = ap (λ (m : ℕ). good_below m P) (add-one k) ∙ both_and before test

pub good_fails : (P : ℕ → Rect) (m k : ℕ) → k < m → good P k ≡ false → good_below m P ≡ false
good_fails P m k within test = go (good_below m P) refl
  where
    go : (b : Bool) → good_below m P ≡ b → b ≡ false
    go true all = sym (all_at m (good P) all k within) ∙ test
    go false all = refl

-- a good point's sides are in range
pub good_held : (P : ℕ → Rect) (k : ℕ) → good P k ≡ true → Held (P k)
good_held P k test = range_held (P k) (subst T (sym (and_both (sides_in_range (P k)) (sides_ordered (P k)) test).0) tt)
