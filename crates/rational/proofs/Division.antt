-- Whole numbers divided by natural numbers, as rational numbers, and how far a rounded quotient lies from the exact one.
-- Assumes nothing.
use mathlib.Core.Path.{◌≡◌, refl, sym, ◌∙◌, ap, ap₂, subst, subst₂}
use Prim.Native.Nat.{ℕ, zero, suc, ◌+◌, ◌<◌}
use native.Mathlib.Omega.{arith}
use lib.Dec.{lit≤}
use lib.IntN.{ℤ, pos, ◌+ℤ◌, ◌*ℤ◌, zero-*ℤ}
use lib.Signed.{◌≤ℤ◌}
use Rattle.rational.specs.Rounding.{Rounding, quotient}
use Rattle.rational.specs.Fraction.{Frac, ◌*ᶠ◌, ◌^ᶠ◌, whole}
use Rattle.rational.proofs.Whole.{mul_assoc, one-mul}
use Rattle.rational.proofs.Order.{pos_mono, *ℤ-mono, ≤ℤ-antisymm}
use Rattle.rational.proofs.Quotient.{above, below, quotient-upper, quotient-lower, quotient-greatest, quotient-least}
use Rattle.rational.proofs.Rational.{rational-ring, ℚ, rat, rat_equal, rat_mul, ◌+ℚ◌, ◌*ℚ◌, embed, embed_add, embed_mul, *ℚ-one, one-*ℚ, *ℚ-comm, *ℚ-assoc, *ℚ-distrib_right}
use Rattle.rational.proofs.RationalOrder.{◌≤ℚ◌, ≤ℚ-of, ≤ℚ-refl, *ℚ-nonneg, *ℚ-mono_right, *ℚ-mono_left, embed_mono, embed_reflects}

module _ (d : ℕ) (positive : 0 < d) where
  -- z / d
  unfoldable pub ratio : ℤ → ℚ
  ratio z = rat (record { upper = z; lower = d; positive = positive })

  -- it is the number that times d is z
  pub ratio_mul : (z : ℤ) → ratio z *ℚ embed (pos d) ≡ embed z
  unfolding ratio embed whole ◌*ᶠ◌
  ratio_mul z = sym (rat_mul fraction (whole (pos d))) ∙ rat_equal (fraction *ᶠ whole (pos d)) (whole z) (mul_assoc z (pos d) (pos 1))
    where
      fraction : Frac
      fraction = record { upper = z; lower = d; positive = positive }

  -- x times d over d is x
  cancel : (x : ℚ) → x *ℚ embed (pos d) *ℚ ratio (pos 1) ≡ x
  cancel x = *ℚ-assoc x (embed (pos d)) (ratio (pos 1)) ∙ ap (λ y. x *ℚ y) (*ℚ-comm (embed (pos d)) (ratio (pos 1)) ∙ ratio_mul (pos 1)) ∙ *ℚ-one x

  pub equal_cancel : {x y : ℚ} → x *ℚ embed (pos d) ≡ y *ℚ embed (pos d) → x ≡ y
  equal_cancel {x} {y} h = sym (cancel x) ∙ ap (λ z. z *ℚ ratio (pos 1)) h ∙ cancel y

  -- z / d is z times 1 / d, so it goes with sums and products of whole numbers
  pub ratio_is : (z : ℤ) → ratio z ≡ embed z *ℚ ratio (pos 1)
  ratio_is z = sym (cancel (ratio z)) ∙ ap (λ x. x *ℚ ratio (pos 1)) (ratio_mul z)

  pub ratio_add : (z w : ℤ) → ratio (z +ℤ w) ≡ ratio z +ℚ ratio w
  ratio_add z w = ratio_is (z +ℤ w) ∙ ap (λ x. x *ℚ ratio (pos 1)) (embed_add z w) ∙ *ℚ-distrib_right (embed z) (embed w) (ratio (pos 1)) ∙ sym (ap₂ (λ x y. x +ℚ y) (ratio_is z) (ratio_is w))

  pub ratio_scale : (z w : ℤ) → ratio (z *ℤ w) ≡ ratio z *ℚ embed w
  ratio_scale z w = ratio_is (z *ℤ w) ∙ ap (λ x. x *ℚ ratio (pos 1)) (embed_mul z w) ∙ exchange (embed z) (embed w) (ratio (pos 1)) ∙ sym (ap (λ x. x *ℚ embed w) (ratio_is z))
    where
      exchange : (x y z : ℚ) → x *ℚ y *ℚ z ≡ x *ℚ z *ℚ y
      exchange x y z = simp rational-ring

  pub ratio_whole : (m : ℤ) → ratio (m *ℤ pos d) ≡ embed m
  ratio_whole m = equal_cancel (ratio_mul (m *ℤ pos d) ∙ embed_mul m (pos d))

  -- two weights that add up to d
  pub ratio_weights : (s t : ℕ) → s + t ≡ d → ratio (pos s) +ℚ ratio (pos t) ≡ embed (pos 1)
  ratio_weights s t h = sym (ratio_add (pos s) (pos t)) ∙ ap (λ (n : ℕ). ratio (pos n)) h ∙ ap ratio (sym (one-mul (pos d))) ∙ ratio_whole (pos 1)

  -- ---- order

  pub ratio_mono : {z w : ℤ} → z ≤ℤ w → ratio z ≤ℚ ratio w
  unfolding ratio
  ratio_mono h = ≤ℚ-of (record { crosswise = *ℤ-mono d h })

  pub ratio_nonneg : (n : ℕ) → embed (pos 0) ≤ℚ ratio (pos n)
  ratio_nonneg n = subst (λ x. x ≤ℚ ratio (pos n)) (ap ratio (sym (zero-*ℤ (pos d))) ∙ ratio_whole (pos 0)) (ratio_mono (pos_mono (omega arith)))

  -- ---- rounding

  -- z / d and m more
  more : (z m : ℤ) → ratio (z +ℤ m *ℤ pos d) ≡ ratio z +ℚ embed m
  more z m = ratio_add z (m *ℤ pos d) ∙ ap (λ x. ratio z +ℚ x) (ratio_whole m)

  -- a rounded quotient is at most 1 from the exact one, on the side that it is rounded to
  pub quotient-at-most : (r : Rounding) (z : ℤ) → embed (quotient r z d) ≤ℚ ratio z +ℚ embed (pos (above r))
  quotient-at-most r z = subst₂ (λ x y. x ≤ℚ y) (ratio_whole (quotient r z d)) (more z (pos (above r))) (ratio_mono (quotient-upper d positive r z))

  pub quotient-at-least : (r : Rounding) (z : ℤ) → ratio z ≤ℚ embed (quotient r z d) +ℚ embed (pos (below r))
  quotient-at-least r z = subst (λ x. ratio z ≤ℚ x)
      (more (quotient r z d *ℤ pos d) (pos (below r)) ∙ ap (λ x. x +ℚ embed (pos (below r))) (ratio_whole (quotient r z d)))
      (ratio_mono (quotient-lower d positive r z))

  -- an exact quotient that is a whole number
  pub ratio_embed : (m z : ℤ) → ratio z ≡ embed m → z ≡ m *ℤ pos d
  ratio_embed m z h =
      let same = sym (ratio_mul z) ∙ ap (λ x. x *ℚ embed (pos d)) h ∙ sym (embed_mul m (pos d)) in
      ≤ℤ-antisymm (embed_reflects z (m *ℤ pos d) (subst (λ x. embed z ≤ℚ x) same (≤ℚ-refl (embed z)))) (embed_reflects (m *ℤ pos d) z (subst (λ x. x ≤ℚ embed z) same (≤ℚ-refl (embed z))))

  -- a whole number on one side of the exact quotient is on that side of the rounded one
  pub below_quotient : (r : Rounding) (m z : ℤ) → embed m ≤ℚ ratio z → m ≤ℤ quotient r z d
  below_quotient r m z h =
      quotient-greatest d positive r m z
      (embed_reflects (m *ℤ pos d) z
      (subst₂ (λ x y. x ≤ℚ y) (sym (embed_mul m (pos d))) (ratio_mul z) (*ℚ-mono_right (embed_mono (pos_mono (omega arith))) h)))

  pub above_quotient : (r : Rounding) (m z : ℤ) → ratio z ≤ℚ embed m → quotient r z d ≤ℤ m
  above_quotient r m z h =
      quotient-least d positive r m z
      (embed_reflects z (m *ℤ pos d)
      (subst₂ (λ x y. x ≤ℚ y) (ratio_mul z) (sym (embed_mul m (pos d))) (*ℚ-mono_right (embed_mono (pos_mono (omega arith))) h)))

  -- a combination of whole numbers with the weights s / d and t / d
  pub ratio_affine : (s t a b : ℤ) → ratio (s *ℤ a +ℤ t *ℤ b) ≡ ratio s *ℚ embed a +ℚ ratio t *ℚ embed b
  ratio_affine s t a b = ratio_add (s *ℤ a) (t *ℤ b) ∙ ap₂ (λ x y. x +ℚ y) (ratio_scale s a) (ratio_scale t b)

-- a fraction is its upper number over its lower
-- a factor s / d above 0 may be left out on both sides
pub ratio_order_cancel : (s d : ℕ) (above : 0 < s) (positive : 0 < d) {x y : ℚ} → ratio d positive (pos s) *ℚ x ≤ℚ ratio d positive (pos s) *ℚ y → x ≤ℚ y
ratio_order_cancel s d above positive {x} {y} h =
    let back : ℚ = ratio s above (pos 1) *ℚ embed (pos d) in
    let unit : back *ℚ ratio d positive (pos s) ≡ embed (pos 1) =
    *ℚ-assoc (ratio s above (pos 1)) (embed (pos d)) (ratio d positive (pos s))
    ∙ ap (λ z. ratio s above (pos 1) *ℚ z) (*ℚ-comm (embed (pos d)) (ratio d positive (pos s)) ∙ ratio_mul d positive (pos s))
    ∙ ratio_mul s above (pos 1)
    in
    let undo : (z : ℚ) → back *ℚ (ratio d positive (pos s) *ℚ z) ≡ z = λ z. sym (*ℚ-assoc back (ratio d positive (pos s)) z) ∙ ap (λ u. u *ℚ z) unit ∙ one-*ℚ z in
    subst₂ ◌≤ℚ◌ (undo x) (undo y) (*ℚ-mono_left (*ℚ-nonneg (ratio_nonneg s above 1) (embed_mono (pos_mono (omega arith)))) h)

pub rat_ratio : (a : Frac) → rat a ≡ ratio a.lower a.positive a.upper
unfolding ratio
rat_ratio a = refl

-- equal fractions
pub ratio_equal : (d e : ℕ) (d-positive : 0 < d) (e-positive : 0 < e) (z w : ℤ) → z *ℤ pos e ≡ w *ℤ pos d → ratio d d-positive z ≡ ratio e e-positive w
unfolding ratio
ratio_equal d e d-positive e-positive z w h = rat_equal (record { upper = z; lower = d; positive = d-positive }) (record { upper = w; lower = e; positive = e-positive }) h

-- ---- powers

infixr 8 ◌^ℚ◌
unfoldable pub ◌^ℚ◌ : ℚ → ℕ → ℚ
x ^ℚ zero = embed (pos 1)
x ^ℚ suc k = x *ℚ (x ^ℚ k)

pub rat_power : (a : Frac) (k : ℕ) → rat (a ^ᶠ k) ≡ rat a ^ℚ k
unfolding ◌^ᶠ◌ ◌^ℚ◌ embed
rat_power a zero = refl
rat_power a (suc k) = rat_mul a (a ^ᶠ k) ∙ ap (λ x. rat a *ℚ x) (rat_power a k)

pub power_nonneg : {x : ℚ} (k : ℕ) → embed (pos 0) ≤ℚ x → embed (pos 0) ≤ℚ x ^ℚ k
unfolding ◌^ℚ◌
power_nonneg zero h = embed_mono (pos_mono (lit≤ tt))
power_nonneg (suc k) h = *ℚ-nonneg h (power_nonneg k h)
