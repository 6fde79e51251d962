-- The order of the rational numbers is that of their fractions: it goes with sums, with products by what is not negative, and with the whole numbers.
-- Assumes nothing.
use mathlib.Core.Path.{◌≡◌, refl, sym, ◌∙◌, ap, subst, subst₂}
use mathlib.Core.Quot.Quotient
use mathlib.Core.Bool.{Bool, true, false, Bool-set}
use mathlib.Core.HLevel.{→_prop}
use Prim.Native.Nat.{◌*◌}
use native.Mathlib.Nat.{mul-pos}
use lib.Dec.{lit<, T, T_prop}
use lib.IntN.{ℤ, pos, ◌+ℤ◌, ◌*ℤ◌, zero-*ℤ}
use lib.Signed.{◌≤ℤ◌, ≤ℤ_refl, le_z, le_z_yes}
use Rattle.rational.specs.Fraction.{Frac, Equal, ◌≤ᶠ◌, ◌+ᶠ◌, ◌*ᶠ◌, whole}
use Rattle.rational.proofs.Whole.{integer-ring, mul-one}
use Rattle.rational.proofs.Order.{≤ℤ-certificate, ≤ℤ-antisymm, ≤ℤ-trans, ≤ℤ-reflexive, *ℤ-mono, *ℤ-mono_nonneg, *ℤ-cancel}
use Rattle.rational.proofs.Rational.{ℚ, ℚ-set, rat, rat_equal, fractions, by_fractions, by-fractions₂, by-fractions₃, rat_add, rat_mul, negℚ, ◌+ℚ◌, ◌*ℚ◌, embed, +ℚ-comm, +ℚ-cancel, *ℚ-comm, zero-*ℚ}

pub keeps : (a b a' b' : Frac) → Equal a a' → Equal b b' → a ≤ᶠ b → a' ≤ᶠ b'
keeps a b a' b' h k l = record {
  crosswise = *ℤ-cancel (a.lower * b.lower) (mul-pos a.positive b.positive)
      (≤ℤ-trans (≤ℤ-reflexive left) (≤ℤ-trans (*ℤ-mono (a'.lower * b'.lower) l.crosswise) (≤ℤ-reflexive right)));
}
  where
    first : (u a b c : ℤ) → u *ℤ a *ℤ (b *ℤ c) ≡ u *ℤ b *ℤ (c *ℤ a)
    first u a b c = simp integer-ring

    second : (u a b c : ℤ) → u *ℤ a *ℤ (b *ℤ c) ≡ u *ℤ b *ℤ (a *ℤ c)
    second u a b c = simp integer-ring

    third : (u a b c : ℤ) → u *ℤ a *ℤ (b *ℤ c) ≡ u *ℤ c *ℤ (b *ℤ a)
    third u a b c = simp integer-ring

    left : a'.upper *ℤ pos b'.lower *ℤ pos (a.lower * b.lower) ≡ a.upper *ℤ pos b.lower *ℤ pos (a'.lower * b'.lower)
    left = first a'.upper (pos b'.lower) (pos a.lower) (pos b.lower)
        ∙ ap (λ x. x *ℤ (pos b.lower *ℤ pos b'.lower)) (sym h.crosswise)
        ∙ second a.upper (pos a'.lower) (pos b.lower) (pos b'.lower)

    right : b.upper *ℤ pos a.lower *ℤ pos (a'.lower * b'.lower) ≡ b'.upper *ℤ pos a'.lower *ℤ pos (a.lower * b.lower)
    right = third b.upper (pos a.lower) (pos a'.lower) (pos b'.lower)
        ∙ ap (λ x. x *ℤ (pos a'.lower *ℤ pos a.lower)) k.crosswise
        ∙ first b'.upper (pos b.lower) (pos a'.lower) (pos a.lower)

-- the test of the order, which equal fractions pass alike
abbrev pub at_most : Frac → Frac → Bool
at_most a b = le_z (a.upper *ℤ pos b.lower) (b.upper *ℤ pos a.lower)

pub at-most_equal : (a b a' b' : Frac) → Equal a a' → Equal b b' → at_most a b ≡ at_most a' b'
at-most_equal a b a' b' h k = same (at_most a b) (at_most a' b')
    (λ t. (keeps a b a' b' h k (record { crosswise = le_z_yes t })).crosswise.le)
    (λ t. (keeps a' b' a b (record { crosswise = sym h.crosswise }) (record { crosswise = sym k.crosswise }) (record { crosswise = le_z_yes t })).crosswise.le)
  where
    same : (x y : Bool) → (T x → T y) → (T y → T x) → x ≡ y
    same true true f g = refl
    same true false f g = absurd (f tt)
    same false true f g = absurd (g tt)
    same false false f g = refl

test : ℚ → ℚ → Bool
unfolding ℚ Quotient.lift₂
test x y = Quotient.lift₂ fractions fractions Bool-set at_most at-most_equal x y

infix 5 ◌≤ℚ◌
pub record ◌≤ℚ◌ (x y : ℚ) : Type 0 where
  passed : T (test x y)

pub ≤ℚ-prop : (x y : ℚ) → IsProp (x ≤ℚ y)
≤ℚ-prop x y p q = λ i. record { passed = T_prop (test x y) p.passed q.passed i }

-- ---- it is the order of the fractions

pub ≤ℚ-of : {a b : Frac} → a ≤ᶠ b → rat a ≤ℚ rat b
unfolding ℚ rat test
≤ℚ-of h = record { passed = h.crosswise.le }

pub ≤ᶠ-of : (a b : Frac) → rat a ≤ℚ rat b → a ≤ᶠ b
unfolding ℚ rat test
≤ᶠ-of a b h = record { crosswise = le_z_yes h.passed }

pub ≤ℚ-refl : (x : ℚ) → x ≤ℚ x
≤ℚ-refl = by_fractions (λ x. x ≤ℚ x) (λ x. ≤ℚ-prop x x) (λ a. ≤ℚ-of (record { crosswise = ≤ℤ_refl (a.upper *ℤ pos a.lower) }))

-- fractions of one value are equal by multiplying out
pub equal_of : (a b : Frac) → rat a ≡ rat b → Equal a b
equal_of a b h = record {
  crosswise = ≤ℤ-antisymm (≤ᶠ-of a b (subst (λ x. rat a ≤ℚ x) h (≤ℚ-refl (rat a)))).crosswise
      (≤ᶠ-of b a (subst (λ x. x ≤ℚ rat a) h (≤ℚ-refl (rat a)))).crosswise;
}

pub ≤ℚ-trans : {x y z : ℚ} → x ≤ℚ y → y ≤ℚ z → x ≤ℚ z
≤ℚ-trans {x} {y} {z} = by-fractions₃ (λ x y z. x ≤ℚ y → y ≤ℚ z → x ≤ℚ z) (λ x y z. →_prop (→_prop (≤ℚ-prop x z)))
    (λ a b c h k. ≤ℚ-of (record { crosswise = *ℤ-cancel b.lower b.positive (chain a b c (≤ᶠ-of a b h) (≤ᶠ-of b c k)) })) x y z
  where
    swap : (x y z : ℤ) → x *ℤ y *ℤ z ≡ x *ℤ z *ℤ y
    swap x y z = simp integer-ring

    chain : (a b c : Frac) → a ≤ᶠ b → b ≤ᶠ c → (a.upper *ℤ pos c.lower *ℤ pos b.lower) ≤ℤ (c.upper *ℤ pos a.lower *ℤ pos b.lower)
    chain a b c h k = subst₂ (λ x y. x ≤ℤ y) (swap a.upper (pos b.lower) (pos c.lower)) (swap c.upper (pos b.lower) (pos a.lower))
        (≤ℤ-trans (*ℤ-mono c.lower h.crosswise) (≤ℤ-trans (≤ℤ-reflexive (swap b.upper (pos a.lower) (pos c.lower))) (*ℤ-mono a.lower k.crosswise)))

pub ≤ℚ-antisymm : {x y : ℚ} → x ≤ℚ y → y ≤ℚ x → x ≡ y
≤ℚ-antisymm {x} {y} =
    by-fractions₂ (λ x y. x ≤ℚ y → y ≤ℚ x → x ≡ y) (λ x y. →_prop (→_prop (ℚ-set x y)))
    (λ a b h k. rat_equal a b (≤ℤ-antisymm (≤ᶠ-of a b h).crosswise (≤ᶠ-of b a k).crosswise)) x y

-- ---- sums and products

pub +ℚ-mono_right : {x y : ℚ} (z : ℚ) → x ≤ℚ y → x +ℚ z ≤ℚ y +ℚ z
unfolding ◌+ᶠ◌
+ℚ-mono_right {x} {y} z = by-fractions₃ (λ x y z. x ≤ℚ y → x +ℚ z ≤ℚ y +ℚ z) (λ x y z. →_prop (≤ℚ-prop (x +ℚ z) (y +ℚ z)))
    (λ a b c h. subst₂ (λ x y. x ≤ℚ y) (rat_add a c) (rat_add b c) (≤ℚ-of (add a b c (≤ᶠ-of a b h)))) x y z
  where
    ring : (u v w a b c : ℤ) → (u *ℤ c +ℤ w *ℤ a) *ℤ (b *ℤ c) +ℤ v *ℤ a *ℤ (c *ℤ c) ≡ (v *ℤ c +ℤ w *ℤ b) *ℤ (a *ℤ c) +ℤ u *ℤ b *ℤ (c *ℤ c)
    ring u v w a b c = simp integer-ring

    add : (a b c : Frac) → a ≤ᶠ b → a +ᶠ c ≤ᶠ b +ᶠ c
    add a b c h = record { crosswise = ≤ℤ-certificate (*ℤ-mono (c.lower * c.lower) h.crosswise) (ring a.upper b.upper c.upper (pos a.lower) (pos b.lower) (pos c.lower)) }

-- what is added on both sides may be left out
pub +ℚ-order_cancel : {x y : ℚ} (z : ℚ) → x +ℚ z ≤ℚ y +ℚ z → x ≤ℚ y
+ℚ-order_cancel {x} {y} z h = subst₂ ◌≤ℚ◌ (+ℚ-cancel x z) (+ℚ-cancel y z) (+ℚ-mono_right (negℚ z) h)

pub +ℚ-mono_left : {x y : ℚ} (z : ℚ) → x ≤ℚ y → z +ℚ x ≤ℚ z +ℚ y
+ℚ-mono_left {x} {y} z h = subst₂ (λ a b. a ≤ℚ b) (+ℚ-comm x z) (+ℚ-comm y z) (+ℚ-mono_right z h)

pub +ℚ-mono : {x y z w : ℚ} → x ≤ℚ y → z ≤ℚ w → x +ℚ z ≤ℚ y +ℚ w
+ℚ-mono {y} {z} h k = ≤ℚ-trans (+ℚ-mono_right z h) (+ℚ-mono_left y k)

-- ---- whole numbers

pub embed_mono : {a b : ℤ} → a ≤ℤ b → embed a ≤ℚ embed b
unfolding embed whole
embed_mono h = ≤ℚ-of (record { crosswise = *ℤ-mono 1 h })

pub embed_reflects : (a b : ℤ) → embed a ≤ℚ embed b → a ≤ℤ b
unfolding embed whole
embed_reflects a b h = *ℤ-cancel 1 (lit< tt) (≤ᶠ-of (whole a) (whole b) h).crosswise

-- ---- products by what is not negative

pub *ℚ-mono_right : {x y z : ℚ} → embed (pos 0) ≤ℚ z → x ≤ℚ y → x *ℚ z ≤ℚ y *ℚ z
unfolding embed whole ◌*ᶠ◌
*ℚ-mono_right {x} {y} {z} = by-fractions₃ (λ x y z. embed (pos 0) ≤ℚ z → x ≤ℚ y → x *ℚ z ≤ℚ y *ℚ z) (λ x y z. →_prop (→_prop (≤ℚ-prop (x *ℚ z) (y *ℚ z))))
    (λ a b c k h. subst₂ (λ x y. x ≤ℚ y) (rat_mul a c) (rat_mul b c) (≤ℚ-of (mul a b c (≤ᶠ-of (whole (pos 0)) c k) (≤ᶠ-of a b h)))) x y z
  where
    exchange : (u a b c : ℤ) → u *ℤ a *ℤ (b *ℤ c) ≡ u *ℤ b *ℤ (a *ℤ c)
    exchange u a b c = simp integer-ring

    mul : (a b c : Frac) → whole (pos 0) ≤ᶠ c → a ≤ᶠ b → a *ᶠ c ≤ᶠ b *ᶠ c
    mul a b c k h = record {
      crosswise = subst₂ (λ x y. x ≤ℤ y) (exchange a.upper (pos b.lower) c.upper (pos c.lower)) (exchange b.upper (pos a.lower) c.upper (pos c.lower))
          (*ℤ-mono_nonneg product h.crosswise);
    }
      where
        nonneg : pos 0 ≤ℤ c.upper
        nonneg = subst₂ (λ x y. x ≤ℤ y) (zero-*ℤ (pos c.lower)) (mul-one c.upper) k.crosswise

        product : pos 0 ≤ℤ (c.upper *ℤ pos c.lower)
        product = subst (λ x. x ≤ℤ (c.upper *ℤ pos c.lower)) (zero-*ℤ (pos c.lower)) (*ℤ-mono c.lower nonneg)

pub *ℚ-mono_left : {x y z : ℚ} → embed (pos 0) ≤ℚ z → x ≤ℚ y → z *ℚ x ≤ℚ z *ℚ y
*ℚ-mono_left {x} {y} {z} k h = subst₂ (λ a b. a ≤ℚ b) (*ℚ-comm x z) (*ℚ-comm y z) (*ℚ-mono_right k h)

pub *ℚ-nonneg : {x y : ℚ} → embed (pos 0) ≤ℚ x → embed (pos 0) ≤ℚ y → embed (pos 0) ≤ℚ x *ℚ y
*ℚ-nonneg {x} {y} h k = subst (λ z. z ≤ℚ x *ℚ y) (zero-*ℚ y) (*ℚ-mono_right k h)
