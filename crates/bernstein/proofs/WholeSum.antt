-- The Bernstein sum of whole numbers, divided by (s + t) to the power n, is the value of de Casteljau's exact table. Rounded once, it is one rounding from the exact value, and lies inside the value that is rounded at every stage.
-- Assumes nothing.
use Prim.Native.Nat.{ℕ, zero, suc, ◌+◌, ◌*◌, ◌-◌, ◌^◌, ◌≤◌, ◌<◌}
use native.Mathlib.Nat.{add-zero, add-suc, mul-suc, mul-zero, zero-mul, add_comm, mul-pos, pow-suc, pow-zero}
use native.Mathlib.Numerals.{add-one}
use native.Mathlib.Omega.{arith}
use mathlib.Core.Bool.{true}
use mathlib.Core.Path.{◌≡◌, refl, sym, ap, ap₂, ◌∙◌, subst}
use lib.IntN.{ℤ, pos, ◌+ℤ◌, ◌*ℤ◌, +ℤ_idl}
use lib.Signed.{◌≤ℤ◌}
use Rattle.rational.specs.Rounding.{Rounding, down, up, quotient, divisible}
use Rattle.rational.proofs.Whole.{mul_add, integer-ring}
use Rattle.rational.proofs.Order.{≤ℤ-reflexive, ≤ℤ-trans, +ℤ-mono, *ℤ-mono_left}
use Rattle.rational.proofs.Quotient.{above, below}
use Rattle.rational.proofs.Divisible.{divisible_exact}
use Rattle.rational.proofs.Rational.{ℚ, embed, embed_add, embed_mul, ◌+ℚ◌, ◌*ℚ◌, *ℚ-comm}
use Rattle.rational.proofs.RationalOrder.{◌≤ℚ◌, ≤ℚ-refl}
use Rattle.rational.proofs.Division.{ratio, ratio_is, ratio_mul, equal_cancel, ratio_embed, ratio_whole, quotient-at-most, quotient-at-least, below_quotient, above_quotient}
use Rattle.bernstein.specs.Affine.{affine}
use Rattle.bernstein.specs.DeCasteljau.{value}
use Rattle.bernstein.specs.Bernstein.{choose}
use Rattle.bernstein.specs.WholeSum.{weight, total_below, whole_sum}
use Rattle.bernstein.proofs.Semiring.{Semiring, polynomial, natural, natural_plus, times_plus, times_nought, times_one, power, total}
use Rattle.bernstein.proofs.Elevation.{weighted}
use Rattle.bernstein.proofs.BernsteinSum.{bernstein-sum}
use Rattle.bernstein.proofs.Rationals.{rationals, natural_embed, mean, mean_weighted, one_ratio}
use Rattle.bernstein.proofs.Table.{table_relation}
use Rattle.bernstein.proofs.Convex.{convex_ratio, table_same, Excess, excess_trans, excess_order, order_excess}
use Rattle.bernstein.proofs.Rounded.{Side, over, under, Near, error, mean_excess, table-near}

-- powers and products of natural numbers in a semiring
module _ (𝓢 : Semiring) where
  open 𝓢 use {carrier, ◌⊕◌, ◌⊗◌, nought, one}

  infixl 6 ◌⊕◌
  infixl 7 ◌⊗◌
  natural_times : (m n : ℕ) → natural 𝓢 (m * n) ≡ natural 𝓢 m ⊗ natural 𝓢 n
  unfolding natural
  natural_times m zero = rw mul-zero (sym (times_nought 𝓢 (natural 𝓢 m)))
  natural_times m (suc n) =
      rw mul-suc
      (natural_plus 𝓢 (m * n) m ∙ ap (λ x. x ⊕ natural 𝓢 m) (natural_times m n)
      ∙ ap (λ x. natural 𝓢 m ⊗ natural 𝓢 n ⊕ x) (sym (times_one 𝓢 (natural 𝓢 m)))
      ∙ sym (times_plus 𝓢 (natural 𝓢 m) (natural 𝓢 n) one))

  -- a power of a multiple of u
  power_multiple : (s : ℕ) (u : carrier) (k : ℕ) → power 𝓢 (natural 𝓢 s ⊗ u) k ≡ natural 𝓢 (s ^ k) ⊗ power 𝓢 u k
  unfolding power natural
  power_multiple s u zero = rw pow-zero (simp polynomial)
  power_multiple s u (suc k) =
      ap (λ x. natural 𝓢 s ⊗ u ⊗ x) (power_multiple s u k)
      ∙ exchanged (natural 𝓢 s) (natural 𝓢 (s ^ k)) u (power 𝓢 u k)
      ∙ ap (λ x. x ⊗ (u ⊗ power 𝓢 u k)) (sym (natural_times (s ^ k) s) ∙ ap (natural 𝓢) (sym (pow-suc s k)))
    where
      exchanged : (a b u p : carrier) → a ⊗ u ⊗ (b ⊗ p) ≡ b ⊗ a ⊗ (u ⊗ p)
      exchanged a b u p = simp polynomial

  power_sum : (u : carrier) (i k : ℕ) → power 𝓢 u i ⊗ power 𝓢 u k ≡ power 𝓢 u (i + k)
  unfolding power
  power_sum u i zero = rw add-zero (times_one 𝓢 (power 𝓢 u i))
  power_sum u i (suc k) = rw add-suc (later u (power 𝓢 u i) (power 𝓢 u k) ∙ ap (λ x. u ⊗ x) (power_sum u i k))
    where
      later : (u p q : carrier) → p ⊗ (u ⊗ q) ≡ u ⊗ (p ⊗ q)
      later u p q = simp polynomial

  power_one : (k : ℕ) → power 𝓢 one k ≡ one
  unfolding power
  power_one zero = refl
  power_one (suc k) = ap (λ x. one ⊗ x) (power_one k) ∙ times_one 𝓢 one

  -- sums of equal terms, and of terms with a common factor
  sum_agree : (f g : ℕ → carrier) (n : ℕ) → ((k : ℕ) → k ≤ n → f k ≡ g k) → total 𝓢 f n ≡ total 𝓢 g n
  unfolding total
  sum_agree f g zero h = h 0 (omega arith)
  sum_agree f g (suc n) h = ap₂ ◌⊕◌ (sum_agree f g n (λ k l. h k (omega arith))) (h (suc n) (omega arith))

  total-factor : (f : ℕ → carrier) (u : carrier) (n : ℕ) → total 𝓢 (λ k. f k ⊗ u) n ≡ total 𝓢 f n ⊗ u
  unfolding total
  total-factor f u zero = refl
  total-factor f u (suc n) = ap (λ x. x ⊕ f (suc n) ⊗ u) (total-factor f u n) ∙ simp polynomial

  -- the Bernstein sum with the weights s and t, each times u
  weighted_value :
      (u : carrier) (s t n : ℕ) (P : ℕ → carrier) →
      value (weighted 𝓢 u s t) P n ≡ total 𝓢 (λ k. P k ⊗ natural 𝓢 (weight n s t k)) n ⊗ power 𝓢 u n
  unfolding weighted weight
  weighted_value u s t n P =
      bernstein-sum 𝓢 (natural 𝓢 s ⊗ u) (natural 𝓢 t ⊗ u) n P
      ∙ sum_agree _ _ n parts
      ∙ total-factor (λ k. P k ⊗ natural 𝓢 (weight n s t k)) (power 𝓢 u n) n
    where
      gathered : (p c a x b y : carrier) → p ⊗ c ⊗ (a ⊗ x) ⊗ (b ⊗ y) ≡ p ⊗ (c ⊗ a ⊗ b) ⊗ (x ⊗ y)
      gathered p c a x b y = simp polynomial

      parts : (k : ℕ) → k ≤ n →
          P k ⊗ natural 𝓢 (choose n k) ⊗ power 𝓢 (natural 𝓢 s ⊗ u) (n - k) ⊗ power 𝓢 (natural 𝓢 t ⊗ u) k
          ≡ P k ⊗ natural 𝓢 (weight n s t k) ⊗ power 𝓢 u n
      parts k h =
          let all : n - k + k ≡ n = omega arith in
          ap₂ (λ x y. P k ⊗ natural 𝓢 (choose n k) ⊗ x ⊗ y) (power_multiple s u (n - k)) (power_multiple t u k)
          ∙ gathered (P k) (natural 𝓢 (choose n k)) (natural 𝓢 (s ^ (n - k))) (power 𝓢 u (n - k)) (natural 𝓢 (t ^ k)) (power 𝓢 u k)
          ∙ ap₂ (λ x y. P k ⊗ x ⊗ y)
          (ap (λ x. x ⊗ natural 𝓢 (t ^ k)) (sym (natural_times (choose n k) (s ^ (n - k)))) ∙ sym (natural_times (choose n k * s ^ (n - k)) (t ^ k)))
          (power_sum u (n - k) k ∙ ap (power 𝓢 u) all)

pub power_positive : (d n : ℕ) → 0 < d → 0 < d ^ n
power_positive d zero h = rw pow-zero (omega arith)
power_positive d (suc n) h = rw pow-suc (mul-pos (power_positive d n h) h)

-- ---- sums of whole numbers

-- of equal terms
pub total_agree : (m : ℕ) (f g : ℕ → ℤ) → ((k : ℕ) → k < m → f k ≡ g k) → total_below m f ≡ total_below m g
unfolding total_below
total_agree zero f g same = refl
total_agree (suc m) f g same = ap₂ ◌+ℤ◌ (total_agree m f g (λ k h. same k (omega arith))) (same m (omega arith))

-- of sums, and in order
total-sum : (m : ℕ) (f g : ℕ → ℤ) → total_below m (λ k. f k +ℤ g k) ≡ total_below m f +ℤ total_below m g
unfolding total_below
total-sum zero f g = refl
total-sum (suc m) f g = ap (λ (z : ℤ). z +ℤ (f m +ℤ g m)) (total-sum m f g) ∙ exchanged (total_below m f) (total_below m g) (f m) (g m)
  where
    exchanged : (a b c d : ℤ) → a +ℤ b +ℤ (c +ℤ d) ≡ a +ℤ c +ℤ (b +ℤ d)
    exchanged a b c d = simp integer-ring

total_mono : (m : ℕ) (f g : ℕ → ℤ) → ((k : ℕ) → k < m → f k ≤ℤ g k) → total_below m f ≤ℤ total_below m g
unfolding total_below
total_mono zero f g below = ≤ℤ-reflexive refl
total_mono (suc m) f g below = +ℤ-mono (total_mono m f g (λ k h. below k (omega arith))) (below m (omega arith))

-- as a rational number
embed_total : (f : ℕ → ℤ) (n : ℕ) → embed (total_below (n + 1) f) ≡ total rationals (λ k. embed (f k)) n
unfolding total_below total
embed_total f n = ap (λ (m : ℕ). embed (total_below m f)) (add-one n) ∙ go n
  where
    go : (n : ℕ) → embed (total_below (suc n) f) ≡ total rationals (λ k. embed (f k)) n
    go zero = ap embed (+ℤ_idl (f 0))
    go (suc n) = embed_add (total_below (suc n) f) (f (suc n)) ∙ ap (λ x. x +ℚ embed (f (suc n))) (go n)

module _ (d : ℕ) (positive : 0 < d) where
  -- 1 / d to the power n
  unit_power : (n : ℕ) → ratio (d ^ n) (power_positive d n positive) (pos 1) ≡ power rationals (ratio d positive (pos 1)) n
  unit_power n =
      let u = ratio d positive (pos 1) in
      equal_cancel (d ^ n) (power_positive d n positive)
      (ratio_mul (d ^ n) (power_positive d n positive) (pos 1)
      ∙ sym (power_one rationals n)
      ∙ ap (λ x. power rationals x n) (sym (one_ratio d positive))
      ∙ power_multiple rationals d u n
      ∙ *ℚ-comm _ _
      ∙ ap (λ x. power rationals u n *ℚ x) (natural_embed (d ^ n)))

  -- divided by d to the power n the whole sum is the exact value
  pub whole-value :
      (s t n : ℕ) (P : ℕ → ℤ) →
      ratio (d ^ n) (power_positive d n positive) (whole_sum n s t P) ≡ value (mean d positive s t) (λ k. embed (P k)) n
  unfolding whole_sum
  whole-value s t n P =
      ratio_is (d ^ n) (power_positive d n positive) (whole_sum n s t P)
      ∙ ap₂ ◌*ℚ◌ (embed_total (λ k. pos (weight n s t k) *ℤ P k) n ∙ sum_agree rationals _ _ n (λ k h. term k)) (unit_power n)
      ∙ sym (weighted_value rationals (ratio d positive (pos 1)) s t n (λ k. embed (P k)))
      ∙ ap (λ f. value (f s t) (λ k. embed (P k)) n) (mean_weighted d positive)
    where
      term : (k : ℕ) → embed (pos (weight n s t k) *ℤ P k) ≡ embed (P k) *ℚ natural rationals (weight n s t k)
      term k = embed_mul (pos (weight n s t k)) (P k) ∙ *ℚ-comm _ _ ∙ ap (λ x. embed (P k) *ℚ x) (sym (natural_embed (weight n s t k)))

-- ---- the weights add up to d to the power n

module _ (s t d : ℕ) (whole-weight : s + t ≡ d) (positive : 0 < d) (n : ℕ) where
  same_sum : (c : ℤ) → whole_sum n s t (λ k. c) ≡ c *ℤ pos (d ^ n)
  unfolding value mean
  same_sum c =
      ratio_embed (d ^ n) (power_positive d n positive) c (whole_sum n s t (λ k. c))
      (whole-value d positive s t n (λ k. c) ∙ table_same (convex_ratio d positive s t whole-weight) (embed c) n 0)

  -- a number added to every point is added to the quotient
  pub sum_moved : (P : ℕ → ℤ) (c : ℤ) → whole_sum n s t (λ k. P k +ℤ c) ≡ whole_sum n s t P +ℤ c *ℤ pos (d ^ n)
  unfolding whole_sum
  sum_moved P c =
      total_agree (n + 1) _ _ (λ k h. mul_add (pos (weight n s t k)) (P k) c)
      ∙ total-sum (n + 1) (λ k. pos (weight n s t k) *ℤ P k) (λ k. pos (weight n s t k) *ℤ c)
      ∙ ap (λ (z : ℤ). whole_sum n s t P +ℤ z) (same_sum c)

  -- a bound on every point is a bound on the quotient
  pub sum-most : (P : ℕ → ℤ) (c : ℤ) → ((k : ℕ) → k ≤ n → P k ≤ℤ c) → whole_sum n s t P ≤ℤ (c *ℤ pos (d ^ n))
  unfolding whole_sum
  sum-most P c below =
      ≤ℤ-trans (total_mono (n + 1) _ _ (λ k h. *ℤ-mono_left (weight n s t k) (below k (omega arith)))) (≤ℤ-reflexive (same_sum c))

  pub sum-least : (P : ℕ → ℤ) (c : ℤ) → ((k : ℕ) → k ≤ n → c ≤ℤ P k) → (c *ℤ pos (d ^ n)) ≤ℤ whole_sum n s t P
  unfolding whole_sum
  sum-least P c above =
      ≤ℤ-trans (≤ℤ-reflexive (sym (same_sum c))) (total_mono (n + 1) _ _ (λ k h. *ℤ-mono_left (weight n s t k) (above k (omega arith))))

-- ---- rounded once

module _ (s t d : ℕ) (whole-weight : s + t ≡ d) (positive : 0 < d) where
  -- points that lie so far on one side of others have their exact values so far on that side
  value_excess :
      (P Q : ℕ → ℚ) (n c : ℕ) → ((k : ℕ) → k ≤ n → Excess c (P k) (Q k)) →
      Excess c (value (mean d positive s t) P n) (value (mean d positive s t) Q n)
  unfolding value
  value_excess P Q n c start =
      table_relation (λ j x y. Excess c x y) (λ j x y x' y' p q. mean_excess down s t d whole-weight positive c p q) n start n 0 (omega arith)

  -- the sum rounded once is one rounding further from the exact value than the points
  pub sum_near :
      (r : Rounding) (side : Side) (P : ℕ → ℤ) (q : ℕ → ℚ) (n c : ℕ) →
      ((k : ℕ) → k ≤ n → Near side (error side r * c) (P k) (q k)) →
      Near side (error side r * (c + 1)) (quotient r (whole_sum n s t P) (d ^ n)) (value (mean d positive s t) q n)
  sum_near r over P q n c start =
      rw (add-one c, mul-suc)
      (excess_trans (above r) (above r * c)
      (record { bound = subst (λ x. embed (quotient r (whole_sum n s t P) (d ^ n)) ≤ℚ (x +ℚ embed (pos (above r)))) (whole-value d positive s t n P) (quotient-at-most (d ^ n) (power_positive d n positive) r (whole_sum n s t P)) })
      (value_excess (λ k. embed (P k)) q n (above r * c) start))
  sum_near r under P q n c start =
      rw (add-one c, mul-suc, add_comm (below r * c) (below r))
      (excess_trans (below r * c) (below r)
      (value_excess q (λ k. embed (P k)) n (below r * c) start)
      (record { bound = subst (λ x. x ≤ℚ (embed (quotient r (whole_sum n s t P) (d ^ n)) +ℚ embed (pos (below r)))) (whole-value d positive s t n P) (quotient-at-least (d ^ n) (power_positive d n positive) r (whole_sum n s t P)) }))

  -- rounded once it lies inside the value that is rounded at every stage
  pub sum-inside-low : (P : ℕ → ℤ) (n : ℕ) → value (affine down s t d) P n ≤ℤ quotient down (whole_sum n s t P) (d ^ n)
  unfolding value
  sum-inside-low P n =
      below_quotient (d ^ n) (power_positive d n positive) down (value (affine down s t d) P n) (whole_sum n s t P)
      (subst (λ x. embed (value (affine down s t d) P n) ≤ℚ x) (sym (whole-value d positive s t n P))
      (excess_order (rw zero-mul at (table-near down s t d whole-weight positive over P (λ k. embed (P k)) n 0 (λ k h. order_excess (≤ℚ-refl (embed (P k)))) n 0 (omega arith)))))

  pub sum-inside-high : (P : ℕ → ℤ) (n : ℕ) → quotient up (whole_sum n s t P) (d ^ n) ≤ℤ value (affine up s t d) P n
  unfolding value
  sum-inside-high P n =
      above_quotient (d ^ n) (power_positive d n positive) up (value (affine up s t d) P n) (whole_sum n s t P)
      (subst (λ x. x ≤ℚ embed (value (affine up s t d) P n)) (sym (whole-value d positive s t n P))
      (excess_order (rw zero-mul at (table-near up s t d whole-weight positive under P (λ k. embed (P k)) n 0 (λ k h. order_excess (≤ℚ-refl (embed (P k)))) n 0 (omega arith)))))

  -- where nothing is left it is the exact value
  pub sum_exact :
      (r : Rounding) (P : ℕ → ℤ) (n : ℕ) → divisible (whole_sum n s t P) (d ^ n) ≡ true →
      embed (quotient r (whole_sum n s t P) (d ^ n)) ≡ value (mean d positive s t) (λ k. embed (P k)) n
  sum_exact r P n h =
      sym (ratio_whole (d ^ n) (power_positive d n positive) (quotient r (whole_sum n s t P) (d ^ n)))
      ∙ ap (ratio (d ^ n) (power_positive d n positive)) (divisible_exact (d ^ n) (power_positive d n positive) r (whole_sum n s t P) h)
      ∙ whole-value d positive s t n P
