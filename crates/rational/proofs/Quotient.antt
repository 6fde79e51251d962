-- The laws of a rounded quotient, over any divisor above 0 and both ways of rounding: it is the greatest or least whole number on its side of the exact quotient, lies within one of it, grows with it, and depends on it alone.
-- Assumes nothing.
use mathlib.Core.Path.{◌≡◌, refl, sym, ◌∙◌, ap, subst, subst₂}
use mathlib.Core.Logic.{inl, inr}
use Prim.Native.Nat.{ℕ, zero, suc, ◌+◌, ◌*◌, ◌-◌, ◌/◌, ◌<◌}
use native.Mathlib.Nat.{div-mul-le_self, lt-div-mul-add, div-eq_of_lt, zero-div, add-div_right}
use native.Mathlib.Numerals.{add-one}
use native.Mathlib.Omega.{arith}
use lib.IntN.{ℤ, pos, negsuc, neg_ℤ, ◌+ℤ◌, ◌*ℤ◌, +ℤ_assoc, +ℤ_comm, +ℤ_idl, +ℤ_invl, *ℤ_comm, neg_ℤ-+ℤ, neg_ℤ-neg_ℤ, +ℤ-neg_ℤ_cancel}
use lib.Signed.{◌≤ℤ◌, ≤ℤ_refl, clash_ℤ}
use Rattle.rational.specs.Rounding.{Rounding, down, up, floor, ceiling, quotient}
use Rattle.rational.specs.Promises.{RoundsDown, RoundsUp}
use Rattle.rational.proofs.Whole.{add_mul, add_left_comm, mul_assoc, neg_mul, one-mul}
use Rattle.rational.proofs.Order.{≤ℤ-trans, ≤ℤ-antisymm, ≤ℤ-reflexive, ≤ℤ-certificate, ≤ℤ-increase, ≤ℤ-or-<ℤ, <ℤ-suc, suc-<ℤ, pos_mono, negℤ-anti, +ℤ-mono, +ℤ-mono_right, *ℤ-mono, *ℤ-mono_left, *ℤ-cancel}

-- by how much at most a rounded quotient lies above or below the exact one
abbrev pub above : Rounding → ℕ
above down = 0
above up = 1

abbrev pub below : Rounding → ℕ
below down = 1
below up = 0

-- −a + b + a is b
around : (a b : ℤ) → neg_ℤ a +ℤ b +ℤ a ≡ b
around a b = +ℤ_assoc (neg_ℤ a) b a ∙ ap (λ x. neg_ℤ a +ℤ x) (+ℤ_comm b a) ∙ sym (+ℤ_assoc (neg_ℤ a) a b) ∙ ap (λ x. x +ℤ b) (+ℤ_invl a) ∙ +ℤ_idl b

module _ (d : ℕ) (positive : 0 < d) where
  floor_below : (z : ℤ) → (floor z d *ℤ pos d) ≤ℤ z
  unfolding floor
  floor_below (pos m) = pos_mono (div-mul-le_self m d)
  floor_below (negsuc m) = negℤ-anti {a = pos (suc m)} {b = pos (suc (m / d) * d)} (pos_mono (omega (arith, lt-div-mul-add {a = m} positive)))

  floor_above : (z : ℤ) → (z +ℤ pos 1) ≤ℤ (floor z d *ℤ pos d +ℤ pos d)
  unfolding floor
  floor_above (pos m) = pos_mono (omega (arith, lt-div-mul-add {a = m} positive))
  floor_above (negsuc m) = ≤ℤ-certificate {l = pos (suc (m / d) * d)} {r = pos (m + d)} (pos_mono (omega (arith, div-mul-le_self m d)))
      (ap (λ (n : ℕ). neg_ℤ (pos n) +ℤ pos 1 +ℤ (pos m +ℤ pos d)) (sym (add-one m))
      ∙ around_sum (pos m) (pos 1) (pos d)
      ∙ sym (around (pos (suc (m / d) * d)) (pos d)))
    where
      around_sum : (a b c : ℤ) → neg_ℤ (a +ℤ b) +ℤ b +ℤ (a +ℤ c) ≡ c
      around_sum a b c = regroup (neg_ℤ (a +ℤ b)) a b c ∙ around (a +ℤ b) c
        where
          regroup : (n a b c : ℤ) → n +ℤ b +ℤ (a +ℤ c) ≡ n +ℤ c +ℤ (a +ℤ b)
          regroup n a b c = simp (+ℤ_assoc, +ℤ_comm, add_left_comm)

  next : (f : ℤ) → f *ℤ pos d +ℤ pos d ≡ (f +ℤ pos 1) *ℤ pos d
  next f = ap (λ x. f *ℤ pos d +ℤ x) (sym (one-mul (pos d))) ∙ sym (add_mul f (pos 1) (pos d))

  floor-greatest : (m z : ℤ) → (m *ℤ pos d) ≤ℤ z → m ≤ℤ floor z d
  floor-greatest m z h = elim (≤ℤ-or-<ℤ m (floor z d)) [
    | inl k ↦ k
    | inr k ↦ clash_ℤ (suc-<ℤ (floor_above z)) (≤ℤ-trans (≤ℤ-trans (≤ℤ-reflexive (next (floor z d))) (*ℤ-mono d (<ℤ-suc k))) h)
  ]

  -- rounding up mirrors rounding down
  ceiling_above : (z : ℤ) → z ≤ℤ (ceiling z d *ℤ pos d)
  unfolding ceiling
  ceiling_above z = subst₂ (λ x y. x ≤ℤ y) (neg_ℤ-neg_ℤ z) (sym (neg_mul (floor (neg_ℤ z) d) (pos d))) (negℤ-anti (floor_below (neg_ℤ z)))

  ceiling_below : (z : ℤ) → (ceiling z d *ℤ pos d +ℤ pos 1) ≤ℤ (z +ℤ pos d)
  unfolding ceiling
  ceiling_below z = subst (λ x. (x +ℤ pos 1) ≤ℤ (z +ℤ pos d)) (sym (neg_mul (floor (neg_ℤ z) d) (pos d)))
      (≤ℤ-certificate (floor_above (neg_ℤ z)) (mirror z (floor (neg_ℤ z) d *ℤ pos d) (pos 1) (pos d)))
    where
      mirror : (z f o d : ℤ) → neg_ℤ f +ℤ o +ℤ (f +ℤ d) ≡ z +ℤ d +ℤ (neg_ℤ z +ℤ o)
      mirror z f o d = regroup (neg_ℤ f) f o d ∙ around f (o +ℤ d) ∙ sym (around z (o +ℤ d)) ∙ sym (regroup' (neg_ℤ z) z o d)
        where
          regroup : (n f o d : ℤ) → n +ℤ o +ℤ (f +ℤ d) ≡ n +ℤ (o +ℤ d) +ℤ f
          regroup n f o d = simp (+ℤ_assoc, +ℤ_comm, add_left_comm)

          regroup' : (n z o d : ℤ) → z +ℤ d +ℤ (n +ℤ o) ≡ n +ℤ (o +ℤ d) +ℤ z
          regroup' n z o d = simp (+ℤ_assoc, +ℤ_comm, add_left_comm)

  ceiling-least : (m z : ℤ) → z ≤ℤ (m *ℤ pos d) → ceiling z d ≤ℤ m
  unfolding ceiling
  ceiling-least m z h = subst (λ x. neg_ℤ (floor (neg_ℤ z) d) ≤ℤ x) (neg_ℤ-neg_ℤ m)
      (negℤ-anti (floor-greatest (neg_ℤ m) (neg_ℤ z) (subst (λ x. x ≤ℤ neg_ℤ z) (sym (neg_mul m (pos d))) (negℤ-anti h))))

  -- ---- both roundings

  down_below : (z : ℤ) → (quotient down z d *ℤ pos d) ≤ℤ z
  unfolding quotient
  down_below z = floor_below z

  up_above : (z : ℤ) → z ≤ℤ (quotient up z d *ℤ pos d)
  unfolding quotient
  up_above z = ceiling_above z

  pub down-up : (z : ℤ) → quotient down z d ≤ℤ quotient up z d
  unfolding quotient
  down-up z = *ℤ-cancel d positive (≤ℤ-trans (floor_below z) (ceiling_above z))

  pub quotient-upper : (r : Rounding) (z : ℤ) → (quotient r z d *ℤ pos d) ≤ℤ (z +ℤ pos (above r) *ℤ pos d)
  unfolding quotient
  quotient-upper down z = ≤ℤ-trans (floor_below z) (≤ℤ-increase z (0 * d))
  quotient-upper up z = ≤ℤ-trans (≤ℤ-increase (ceiling z d *ℤ pos d) 1) (subst (λ x. (ceiling z d *ℤ pos d +ℤ pos 1) ≤ℤ (z +ℤ x)) (sym (one-mul (pos d))) (ceiling_below z))

  pub quotient-lower : (r : Rounding) (z : ℤ) → z ≤ℤ (quotient r z d *ℤ pos d +ℤ pos (below r) *ℤ pos d)
  unfolding quotient
  quotient-lower down z = ≤ℤ-trans (≤ℤ-increase z 1) (subst (λ x. (z +ℤ pos 1) ≤ℤ (floor z d *ℤ pos d +ℤ x)) (sym (one-mul (pos d))) (floor_above z))
  quotient-lower up z = ≤ℤ-trans (ceiling_above z) (≤ℤ-increase (ceiling z d *ℤ pos d) (0 * d))

  -- a whole number at most the exact quotient is at most the rounded one, and one at least the exact quotient at least the rounded one
  pub quotient-greatest : (r : Rounding) (m z : ℤ) → (m *ℤ pos d) ≤ℤ z → m ≤ℤ quotient r z d
  unfolding quotient
  quotient-greatest down m z h = floor-greatest m z h
  quotient-greatest up m z h = *ℤ-cancel d positive (≤ℤ-trans h (ceiling_above z))

  pub quotient-least : (r : Rounding) (m z : ℤ) → z ≤ℤ (m *ℤ pos d) → quotient r z d ≤ℤ m
  unfolding quotient
  quotient-least down m z h = *ℤ-cancel d positive (≤ℤ-trans (floor_below z) h)
  quotient-least up m z h = ceiling-least m z h

  pub quotient_exact : (r : Rounding) (m : ℤ) → quotient r (m *ℤ pos d) d ≡ m
  quotient_exact r m = ≤ℤ-antisymm (quotient-least r m (m *ℤ pos d) (≤ℤ_refl (m *ℤ pos d))) (quotient-greatest r m (m *ℤ pos d) (≤ℤ_refl (m *ℤ pos d)))

  -- a whole number added to the exact quotient is added to the rounded one
  floor_add : (z m : ℤ) → (floor z d +ℤ m) ≤ℤ floor (z +ℤ m *ℤ pos d) d
  floor_add z m = floor-greatest (floor z d +ℤ m) (z +ℤ m *ℤ pos d) (≤ℤ-trans (≤ℤ-reflexive (add_mul (floor z d) m (pos d))) (+ℤ-mono_right (m *ℤ pos d) (floor_below z)))

  floor_shift : (z m : ℤ) → floor (z +ℤ m *ℤ pos d) d ≡ floor z d +ℤ m
  floor_shift z m = ≤ℤ-antisymm
      (≤ℤ-certificate
      (subst (λ x. (floor (z +ℤ m *ℤ pos d) d +ℤ neg_ℤ m) ≤ℤ floor x d) back (floor_add (z +ℤ m *ℤ pos d) (neg_ℤ m)))
      (sym (regroup (floor z d) m (floor (z +ℤ m *ℤ pos d) d) (neg_ℤ m) ∙ around m (floor (z +ℤ m *ℤ pos d) d +ℤ floor z d))))
      (floor_add z m)
    where
      back : z +ℤ m *ℤ pos d +ℤ neg_ℤ m *ℤ pos d ≡ z
      back = ap (λ x. z +ℤ m *ℤ pos d +ℤ x) (neg_mul m (pos d)) ∙ +ℤ-neg_ℤ_cancel z (m *ℤ pos d)

      regroup : (a m f n : ℤ) → a +ℤ m +ℤ (f +ℤ n) ≡ n +ℤ (f +ℤ a) +ℤ m
      regroup a m f n = simp (+ℤ_assoc, +ℤ_comm, add_left_comm)

  pub quotient_shift : (r : Rounding) (z m : ℤ) → quotient r (z +ℤ m *ℤ pos d) d ≡ quotient r z d +ℤ m
  unfolding quotient ceiling
  quotient_shift down z m = floor_shift z m
  quotient_shift up z m =
      ap (λ x. neg_ℤ (floor x d)) (neg_ℤ-+ℤ z (m *ℤ pos d) ∙ ap (λ x. neg_ℤ z +ℤ x) (sym (neg_mul m (pos d))))
      ∙ ap neg_ℤ (floor_shift (neg_ℤ z) (neg_ℤ m))
      ∙ neg_ℤ-+ℤ (floor (neg_ℤ z) d) (neg_ℤ m)
      ∙ ap (λ x. neg_ℤ (floor (neg_ℤ z) d) +ℤ x) (neg_ℤ-neg_ℤ m)

  -- ---- natural numbers

  pub natural_down : (m : ℕ) → quotient down (pos m) d ≡ pos (m / d)
  unfolding quotient floor
  natural_down m = refl

  pub natural_up : (m : ℕ) → quotient up (pos m) d ≡ pos ((m + (d - 1)) / d)
  unfolding quotient ceiling floor
  natural_up zero = ap (λ (n : ℕ). neg_ℤ (pos n)) (zero-div d) ∙ ap pos (sym (div-eq_of_lt less))
    where
      less : 0 + (d - 1) < d
      less = omega arith
  natural_up (suc m) = ap pos (sym (ap (λ (n : ℕ). n / d) sum ∙ add-div_right m positive ∙ add-one (m / d)))
    where
      sum : suc m + (d - 1) ≡ m + d
      sum = omega arith

-- ---- two divisors

-- a rounded quotient grows with the exact one
floor_mono : (d e : ℕ) → 0 < d → 0 < e → (z w : ℤ) → (z *ℤ pos e) ≤ℤ (w *ℤ pos d) → floor z d ≤ℤ floor w e
floor_mono d e d-positive e-positive z w h = floor-greatest e e-positive (floor z d) w
    (*ℤ-cancel d d-positive (≤ℤ-trans (≤ℤ-reflexive (swap (floor z d) (pos e) (pos d))) (≤ℤ-trans (*ℤ-mono e (floor_below d d-positive z)) h)))
  where
    swap : (a b c : ℤ) → a *ℤ b *ℤ c ≡ a *ℤ c *ℤ b
    swap a b c = simp (mul_assoc, *ℤ_comm)

pub quotient_mono_cross : (r : Rounding) (d e : ℕ) → 0 < d → 0 < e → (z w : ℤ) → (z *ℤ pos e) ≤ℤ (w *ℤ pos d) → quotient r z d ≤ℤ quotient r w e
unfolding quotient ceiling
quotient_mono_cross down d e d-positive e-positive z w h = floor_mono d e d-positive e-positive z w h
quotient_mono_cross up d e d-positive e-positive z w h = negℤ-anti (floor_mono e d e-positive d-positive (neg_ℤ w) (neg_ℤ z)
    (subst₂ (λ x y. x ≤ℤ y) (sym (neg_mul w (pos d))) (sym (neg_mul z (pos e))) (negℤ-anti h)))

pub quotient_mono : (r : Rounding) (d : ℕ) → 0 < d → {z w : ℤ} → z ≤ℤ w → quotient r z d ≤ℤ quotient r w d
quotient_mono r d positive {z} {w} h = quotient_mono_cross r d d positive positive z w (*ℤ-mono d h)

-- equal fractions round equally
pub quotient_equal : (r : Rounding) (d e : ℕ) → 0 < d → 0 < e → (z w : ℤ) → z *ℤ pos e ≡ w *ℤ pos d → quotient r z d ≡ quotient r w e
quotient_equal r d e d-positive e-positive z w h = ≤ℤ-antisymm
    (quotient_mono_cross r d e d-positive e-positive z w (≤ℤ-reflexive h))
    (quotient_mono_cross r e d e-positive d-positive w z (≤ℤ-reflexive (sym h)))

-- ---- convex combinations

pub convex_mono : (r : Rounding) (s t d : ℕ) → 0 < d → {a b a' b' : ℤ} → a ≤ℤ a' → b ≤ℤ b' → quotient r (pos s *ℤ a +ℤ pos t *ℤ b) d ≤ℤ quotient r (pos s *ℤ a' +ℤ pos t *ℤ b') d
convex_mono r s t d positive h k = quotient_mono r d positive (+ℤ-mono (*ℤ-mono_left s h) (*ℤ-mono_left t k))

module _ (r : Rounding) (s t d : ℕ) (whole-weight : s + t ≡ d) (positive : 0 < d) where
  same : (z : ℤ) → z *ℤ pos d ≡ pos s *ℤ z +ℤ pos t *ℤ z
  same z = ap (λ (n : ℕ). z *ℤ pos n) (sym whole-weight) ∙ *ℤ_comm z (pos (s + t)) ∙ add_mul (pos s) (pos t) z

  -- a bound on two numbers is a bound on their rounded mean
  pub convex_lower : (low a b : ℤ) → low ≤ℤ a → low ≤ℤ b → low ≤ℤ quotient r (pos s *ℤ a +ℤ pos t *ℤ b) d
  convex_lower low a b h k = quotient-greatest d positive r low (pos s *ℤ a +ℤ pos t *ℤ b)
      (≤ℤ-trans (≤ℤ-reflexive (same low)) (+ℤ-mono (*ℤ-mono_left s h) (*ℤ-mono_left t k)))

  pub convex_upper : (high a b : ℤ) → a ≤ℤ high → b ≤ℤ high → quotient r (pos s *ℤ a +ℤ pos t *ℤ b) d ≤ℤ high
  convex_upper high a b h k = quotient-least d positive r high (pos s *ℤ a +ℤ pos t *ℤ b)
      (≤ℤ-trans (+ℤ-mono (*ℤ-mono_left s h) (*ℤ-mono_left t k)) (≤ℤ-reflexive (sym (same high))))

-- ---- the promises

pub rounds_down : RoundsDown
rounds_down d positive z = (down_below d positive z, λ m. quotient-greatest d positive down m z)

pub rounds_up : RoundsUp
rounds_up d positive z = (up_above d positive z, λ m. quotient-least d positive up m z)
