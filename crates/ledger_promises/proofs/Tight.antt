-- Where the rounded value at the end of de Casteljau's table is the exact one, no map on the way left a remainder, if both factors are above 0:
-- roundings all go one way, and points in order with equal means are equal. Over any degree, any divisor and either rounding.
-- Assumes nothing.
use mathlib.Core.Path.{◌≡◌, sym, ap, ap₂, ◌∙◌, subst, subst₂}
use mathlib.Core.Bool.{true}
use Prim.Native.Nat.{ℕ, zero, suc, ◌+◌, ◌-◌, ◌≤◌, ◌<◌}
use native.Mathlib.Nat.{mul-zero}
use native.Mathlib.Omega.{arith}
use lib.IntN.{ℤ, pos, ◌+ℤ◌, ◌*ℤ◌}
use Rattle.rational.specs.Rounding.{Rounding, down, up, divisible}
use Rattle.rational.proofs.Rational.{ℚ, embed, ◌*ℚ◌, +ℚ-comm}
use Rattle.rational.proofs.RationalOrder.{◌≤ℚ◌, ≤ℚ-trans, ≤ℚ-antisymm, +ℚ-mono_left, +ℚ-mono_right, +ℚ-order_cancel, *ℚ-mono_left}
use Rattle.rational.proofs.Division.{ratio, ratio_nonneg, ratio_embed, ratio_affine, ratio_order_cancel}
use Rattle.rational.proofs.Divisible.{multiple_divisible}
use Rattle.bernstein.specs.Affine.{affine, affine_exact}
use Rattle.bernstein.specs.DeCasteljau.{table}
use Rattle.bernstein.proofs.Exact.{mix}
use Rattle.bernstein.proofs.Rationals.{mean}
use Rattle.bernstein.proofs.Convex.{excess_order}
use Rattle.bernstein.proofs.Rounded.{Near, affine-near, table-near}
use Rattle.ledger.proofs.Evaluation.{inward, inward_none, near_itself}

-- a map whose rounded value is the exact mean leaves no remainder
pub exact_of :
    (r : Rounding) (s t d : ℕ) (positive : 0 < d) (a b : ℤ) → embed (affine r s t d a b) ≡ mean d positive s t (embed a) (embed b) → affine_exact s t d a b ≡ true
unfolding affine affine_exact mean mix
exact_of r s t d positive a b h =
    let z = pos s *ℤ a +ℤ pos t *ℤ b in
    let m = affine r s t d a b in
    ap (λ (w : ℤ). divisible w d) (ratio_embed d positive m z (ratio_affine d positive (pos s) (pos t) a b ∙ sym h)) ∙ multiple_divisible d m

module _ (s t d : ℕ) (whole-weight : s + t ≡ d) (positive : 0 < d) (first : 0 < s) (second : 0 < t) where
  -- points in order, whose means are equal, are equal
  mean_equal : {x y x' y' : ℚ} → x ≤ℚ x' → y ≤ℚ y' → mean d positive s t x' y' ≤ℚ mean d positive s t x y → (x ≡ x') × (y ≡ y')
  unfolding mean mix
  mean_equal {x} {y} {x'} {y'} p q h =
      let S = ratio d positive (pos s) in
      let T = ratio d positive (pos t) in
      let back-first : S *ℚ x' ≤ℚ S *ℚ x = +ℚ-order_cancel (T *ℚ y') (≤ℚ-trans h (+ℚ-mono_left (S *ℚ x) (*ℚ-mono_left (ratio_nonneg d positive t) q))) in
      let back-second : T *ℚ y' ≤ℚ T *ℚ y =
      +ℚ-order_cancel (S *ℚ x')
      (subst₂ ◌≤ℚ◌ (+ℚ-comm (S *ℚ x') (T *ℚ y')) (+ℚ-comm (S *ℚ x') (T *ℚ y)) (≤ℚ-trans h (+ℚ-mono_right (T *ℚ y) (*ℚ-mono_left (ratio_nonneg d positive s) p))))
      in
      (≤ℚ-antisymm p (ratio_order_cancel s d first positive back-first), ≤ℚ-antisymm q (ratio_order_cancel t d second positive back-second))

  -- points that the rounded ones are not short of, and whose exact mean is the rounded mean, are the rounded ones
  points_same :
      (r : Rounding) (a b : ℤ) (x y : ℚ) → Near (inward r) 0 a x → Near (inward r) 0 b y → embed (affine r s t d a b) ≡ mean d positive s t x y →
      (embed a ≡ x) × (embed b ≡ y)
  points_same down a b x y p q h =
      mean_equal (excess_order p) (excess_order q)
      (subst (λ z. z ≤ℚ mean d positive s t (embed a) (embed b)) h
      (excess_order (affine-near down s t d whole-weight positive (inward down) 0 a b (embed a) (embed b) (near_itself (inward down) a) (near_itself (inward down) b))))
  points_same up a b x y p q h =
      let (first-same, second-same) =
      mean_equal (excess_order p) (excess_order q)
      (subst (λ z. mean d positive s t (embed a) (embed b) ≤ℚ z) h
      (excess_order (affine-near up s t d whole-weight positive (inward up) 0 a b (embed a) (embed b) (near_itself (inward up) a) (near_itself (inward up) b))))
      in
      (sym first-same, sym second-same)

  module _ (r : Rounding) (P : ℕ → ℤ) (n : ℕ) where
    abbrev entry : ℕ → ℕ → ℤ
    entry = table (affine r s t d) P

    abbrev exact : ℕ → ℕ → ℚ
    exact = table (mean d positive s t) (λ i. embed (P i))

    not_short : (j k : ℕ) → j + k ≤ n → Near (inward r) 0 (entry j k) (exact j k)
    not_short j k h =
        subst (λ (m : ℕ). Near (inward r) m (entry j k) (exact j k)) (inward_none r (0 + j))
        (table-near r s t d whole-weight positive (inward r) P (λ i. embed (P i)) n 0 (λ i g. rw mul-zero (near_itself (inward r) (P i))) j k h)

    -- the two points of a map, where its value is the exact one
    pair_same : (j k : ℕ) → j + suc k ≤ n → embed (entry (suc j) k) ≡ exact (suc j) k → (embed (entry j k) ≡ exact j k) × (embed (entry j (suc k)) ≡ exact j (suc k))
    unfolding table
    pair_same j k h same = points_same r (entry j k) (entry j (suc k)) (exact j k) (exact j (suc k)) (not_short j k (omega arith)) (not_short j (suc k) h) same

    module _ (end : embed (entry n 0) ≡ exact n 0) where
      -- so from the last stage back every entry is exact; stage j has i + 1 of them
      entries-same : (i j k : ℕ) → i + j ≡ n → k ≤ i → embed (entry j k) ≡ exact j k
      entries-same zero j k h l =
          let last : n ≡ j = omega arith in
          let only : 0 ≡ k = omega arith in
          subst₂ (λ (j k : ℕ). embed (entry j k) ≡ exact j k) last only end
      entries-same (suc i) j zero h l = (pair_same j zero (omega arith) (entries-same i (suc j) zero (omega arith) (omega arith))).0
      entries-same (suc i) j (suc k) h l = (pair_same j k (omega arith) (entries-same i (suc j) k (omega arith) (omega arith))).1

      -- and no map leaves a remainder
      pub table_tight : (j k : ℕ) → j + suc k ≤ n → affine_exact s t d (table (affine r s t d) P j k) (table (affine r s t d) P j (suc k)) ≡ true
      unfolding table
      table_tight j k h =
          let last = entries-same (n - suc j) (suc j) k (omega arith) (omega arith) in
          let (first-same, second-same) = pair_same j k h last in
          exact_of r s t d positive (entry j k) (entry j (suc k)) (last ∙ sym (ap₂ (mean d positive s t) first-same second-same))
