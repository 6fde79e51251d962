-- The rational numbers: fractions, with those taken as equal that are equal by multiplying out. Their operations are those of the fractions, and `simp rational-ring` brings two sides of an equation into one form.
-- Assumes nothing.
use mathlib.Core.Path.{◌≡◌, refl, sym, ◌∙◌, ap, ap₂}
use mathlib.Core.Quot.Quotient
use mathlib.Core.Quot.{Setoid, Quotient, Quotient-set}
use lib.IntN.{ℤ, pos, neg_ℤ, ◌+ℤ◌, ◌-ℤ◌, ◌*ℤ◌, +ℤ_comm, *ℤ_comm, +ℤ_idl, +ℤ_invr, zero-*ℤ}
use Rattle.rational.specs.Fraction.{Frac, Equal, ◌+ᶠ◌, ◌*ᶠ◌, whole, complement}
use Rattle.rational.proofs.Whole.{integer-ring, mul_assoc, mul_left_comm, add_mul, neg_mul, mul-one, one-mul}
use Rattle.rational.proofs.Order.{*ℤ-equal_cancel}

-- products in another order
swap : (x y z : ℤ) → x *ℤ y *ℤ z ≡ x *ℤ z *ℤ y
swap x y z = simp integer-ring

pub equal_trans : (a b c : Frac) → Equal a b → Equal b c → Equal a c
equal_trans a b c h k = record { crosswise = *ℤ-equal_cancel b.lower b.positive chain }
  where
    chain : a.upper *ℤ pos c.lower *ℤ pos b.lower ≡ c.upper *ℤ pos a.lower *ℤ pos b.lower
    chain = swap a.upper (pos c.lower) (pos b.lower) ∙ ap (λ x. x *ℤ pos c.lower) h.crosswise
        ∙ swap b.upper (pos a.lower) (pos c.lower) ∙ ap (λ x. x *ℤ pos a.lower) k.crosswise
        ∙ swap c.upper (pos b.lower) (pos a.lower)

abbrev pub fractions : Setoid {0, 0} Frac
fractions = record {
  r = Equal;
  iseqv = record {
    refl = λ a. record { crosswise = refl };
    symm = λ a b h. record { crosswise = sym h.crosswise };
    trans = equal_trans;
  };
}

unfoldable pub ℚ : Type 0
ℚ = Quotient fractions

pub ℚ-set : IsSet ℚ
unfolding ℚ
ℚ-set = Quotient-set fractions

unfoldable pub rat : Frac → ℚ
unfolding ℚ
rat a = Quotient.mk fractions a

pub equal_rat : {a b : Frac} → Equal a b → rat a ≡ rat b
unfolding ℚ rat
equal_rat h = Quotient.sound fractions h

pub rat_equal : (a b : Frac) → a.upper *ℤ pos b.lower ≡ b.upper *ℤ pos a.lower → rat a ≡ rat b
rat_equal a b h = equal_rat (record { crosswise = h })

-- what holds of every fraction holds of every rational number
pub by_fractions : (P : ℚ → Type 0) → ((x : ℚ) → IsProp (P x)) → ((a : Frac) → P (rat a)) → (x : ℚ) → P x
unfolding ℚ rat
by_fractions P prop h x = Quotient.ind fractions prop h x

pub by-fractions₂ : (P : ℚ → ℚ → Type 0) → ((x y : ℚ) → IsProp (P x y)) → ((a b : Frac) → P (rat a) (rat b)) → (x y : ℚ) → P x y
by-fractions₂ P prop h x y = by_fractions (λ x. P x y) (λ x. prop x y) (λ a. by_fractions (P (rat a)) (prop (rat a)) (h a) y) x

pub by-fractions₃ : (P : ℚ → ℚ → ℚ → Type 0) → ((x y z : ℚ) → IsProp (P x y z)) → ((a b c : Frac) → P (rat a) (rat b) (rat c)) → (x y z : ℚ) → P x y z
by-fractions₃ P prop h x y z = by_fractions (λ x. P x y z) (λ x. prop x y z) (λ a. by-fractions₂ (P (rat a)) (prop (rat a)) (h a) y z) x

-- ---- the operations

infixl 6 ◌+ℚ◌
pub add_equal : (a b a' b' : Frac) → Equal a a' → Equal b b' → Equal (a +ᶠ b) (a' +ᶠ b')
unfolding ◌+ᶠ◌
add_equal a b a' b' h k = record {
  crosswise = sums a.upper b.upper a'.upper b'.upper (pos a.lower) (pos b.lower) (pos a'.lower) (pos b'.lower) h.crosswise k.crosswise;
}
  where
    sums : (u v u' v' a b a' b' : ℤ) → u *ℤ a' ≡ u' *ℤ a → v *ℤ b' ≡ v' *ℤ b → (u *ℤ b +ℤ v *ℤ a) *ℤ (a' *ℤ b') ≡ (u' *ℤ b' +ℤ v' *ℤ a') *ℤ (a *ℤ b)
    sums u v u' v' a b a' b' h k = apart u v a b a' b' ∙ ap₂ (λ x y. x *ℤ (b *ℤ b') +ℤ y *ℤ (a *ℤ a')) h k ∙ sym (apart' u' v' a b a' b')
      where
        apart : (u v a b a' b' : ℤ) → (u *ℤ b +ℤ v *ℤ a) *ℤ (a' *ℤ b') ≡ u *ℤ a' *ℤ (b *ℤ b') +ℤ v *ℤ b' *ℤ (a *ℤ a')
        apart u v a b a' b' = simp integer-ring

        apart' : (u v a b a' b' : ℤ) → (u *ℤ b' +ℤ v *ℤ a') *ℤ (a *ℤ b) ≡ u *ℤ a *ℤ (b *ℤ b') +ℤ v *ℤ b *ℤ (a *ℤ a')
        apart' u v a b a' b' = simp integer-ring

pub ◌+ℚ◌ : ℚ → ℚ → ℚ
unfolding ℚ rat Quotient.lift₂
x +ℚ y = Quotient.lift₂ fractions fractions ℚ-set (λ a b. rat (a +ᶠ b)) (λ a b a' b' h k. equal_rat (add_equal a b a' b' h k)) x y

pub rat_add : (a b : Frac) → rat (a +ᶠ b) ≡ rat a +ℚ rat b
unfolding ℚ rat ◌+ℚ◌
rat_add a b = refl

pub mul_equal : (a b a' b' : Frac) → Equal a a' → Equal b b' → Equal (a *ᶠ b) (a' *ᶠ b')
unfolding ◌*ᶠ◌
mul_equal a b a' b' h k = record {
  crosswise = exchange a.upper b.upper (pos a'.lower) (pos b'.lower) ∙ ap₂ (λ x y. x *ℤ y) h.crosswise k.crosswise ∙ exchange a'.upper (pos a.lower) b'.upper (pos b.lower);
}
  where
    exchange : (u v a b : ℤ) → u *ℤ v *ℤ (a *ℤ b) ≡ u *ℤ a *ℤ (v *ℤ b)
    exchange u v a b = simp integer-ring

infixl 7 ◌*ℚ◌
pub ◌*ℚ◌ : ℚ → ℚ → ℚ
unfolding ℚ rat Quotient.lift₂
x *ℚ y = Quotient.lift₂ fractions fractions ℚ-set (λ a b. rat (a *ᶠ b)) (λ a b a' b' h k. equal_rat (mul_equal a b a' b' h k)) x y

pub rat_mul : (a b : Frac) → rat (a *ᶠ b) ≡ rat a *ℚ rat b
unfolding ℚ rat ◌*ℚ◌
rat_mul a b = refl

opposite : Frac → Frac
opposite a = record { upper = neg_ℤ a.upper; lower = a.lower; positive = a.positive }

pub negℚ : ℚ → ℚ
unfolding ℚ rat Quotient.lift opposite
negℚ x = Quotient.lift fractions ℚ-set (λ a. rat (opposite a))
    (λ a b h. rat_equal (opposite a) (opposite b) (neg_mul a.upper (pos b.lower) ∙ ap neg_ℤ h.crosswise ∙ sym (neg_mul b.upper (pos a.lower)))) x

infixl 6 ◌-ℚ◌
abbrev pub ◌-ℚ◌ : ℚ → ℚ → ℚ
x -ℚ y = x +ℚ negℚ y

-- a whole number
unfoldable pub embed : ℤ → ℚ
embed z = rat (whole z)

-- ---- the ring laws

pub +ℚ-comm : (x y : ℚ) → x +ℚ y ≡ y +ℚ x
unfolding ℚ rat ◌+ℚ◌ ◌+ᶠ◌
+ℚ-comm = by-fractions₂ (λ x y. x +ℚ y ≡ y +ℚ x) (λ x y. ℚ-set _ _) (λ a b. rat_equal (a +ᶠ b) (b +ᶠ a) (law a.upper b.upper (pos a.lower) (pos b.lower)))
  where
    law : (u v a b : ℤ) → (u *ℤ b +ℤ v *ℤ a) *ℤ (b *ℤ a) ≡ (v *ℤ a +ℤ u *ℤ b) *ℤ (a *ℤ b)
    law u v a b = simp (+ℤ_comm, *ℤ_comm)

pub +ℚ-assoc : (x y z : ℚ) → x +ℚ y +ℚ z ≡ x +ℚ (y +ℚ z)
unfolding ℚ rat ◌+ℚ◌ ◌+ᶠ◌
+ℚ-assoc = by-fractions₃ (λ x y z. x +ℚ y +ℚ z ≡ x +ℚ (y +ℚ z)) (λ x y z. ℚ-set _ _)
    (λ a b c. rat_equal (a +ᶠ b +ᶠ c) (a +ᶠ (b +ᶠ c)) (law a.upper b.upper c.upper (pos a.lower) (pos b.lower) (pos c.lower)))
  where
    law : (u v w a b c : ℤ) → ((u *ℤ b +ℤ v *ℤ a) *ℤ c +ℤ w *ℤ (a *ℤ b)) *ℤ (a *ℤ (b *ℤ c)) ≡ (u *ℤ (b *ℤ c) +ℤ (v *ℤ c +ℤ w *ℤ b) *ℤ a) *ℤ (a *ℤ b *ℤ c)
    law u v w a b c = simp integer-ring

pub *ℚ-comm : (x y : ℚ) → x *ℚ y ≡ y *ℚ x
unfolding ℚ rat ◌*ℚ◌ ◌*ᶠ◌
*ℚ-comm = by-fractions₂ (λ x y. x *ℚ y ≡ y *ℚ x) (λ x y. ℚ-set _ _) (λ a b. rat_equal (a *ᶠ b) (b *ᶠ a) (law a.upper b.upper (pos a.lower) (pos b.lower)))
  where
    law : (u v a b : ℤ) → u *ℤ v *ℤ (b *ℤ a) ≡ v *ℤ u *ℤ (a *ℤ b)
    law u v a b = simp (*ℤ_comm)

pub *ℚ-assoc : (x y z : ℚ) → x *ℚ y *ℚ z ≡ x *ℚ (y *ℚ z)
unfolding ℚ rat ◌*ℚ◌ ◌*ᶠ◌
*ℚ-assoc = by-fractions₃ (λ x y z. x *ℚ y *ℚ z ≡ x *ℚ (y *ℚ z)) (λ x y z. ℚ-set _ _)
    (λ a b c. rat_equal (a *ᶠ b *ᶠ c) (a *ᶠ (b *ᶠ c)) (law a.upper b.upper c.upper (pos a.lower) (pos b.lower) (pos c.lower)))
  where
    law : (u v w a b c : ℤ) → u *ℤ v *ℤ w *ℤ (a *ℤ (b *ℤ c)) ≡ u *ℤ (v *ℤ w) *ℤ (a *ℤ b *ℤ c)
    law u v w a b c = simp mul_assoc

pub *ℚ-distrib_right : (x y z : ℚ) → (x +ℚ y) *ℚ z ≡ x *ℚ z +ℚ y *ℚ z
unfolding ℚ rat ◌+ℚ◌ ◌*ℚ◌ ◌+ᶠ◌ ◌*ᶠ◌
*ℚ-distrib_right = by-fractions₃ (λ x y z. (x +ℚ y) *ℚ z ≡ x *ℚ z +ℚ y *ℚ z) (λ x y z. ℚ-set _ _)
    (λ a b c. rat_equal ((a +ᶠ b) *ᶠ c) (a *ᶠ c +ᶠ b *ᶠ c) (law a.upper b.upper c.upper (pos a.lower) (pos b.lower) (pos c.lower)))
  where
    law : (u v w a b c : ℤ) → (u *ℤ b +ℤ v *ℤ a) *ℤ w *ℤ (a *ℤ c *ℤ (b *ℤ c)) ≡ (u *ℤ w *ℤ (b *ℤ c) +ℤ v *ℤ w *ℤ (a *ℤ c)) *ℤ (a *ℤ b *ℤ c)
    law u v w a b c = simp integer-ring

pub *ℚ-distrib_left : (x y z : ℚ) → x *ℚ (y +ℚ z) ≡ x *ℚ y +ℚ x *ℚ z
*ℚ-distrib_left x y z = *ℚ-comm x (y +ℚ z) ∙ *ℚ-distrib_right y z x ∙ ap₂ (λ u v. u +ℚ v) (*ℚ-comm y x) (*ℚ-comm z x)

pub +ℚ-left_comm : (x y z : ℚ) → x +ℚ (y +ℚ z) ≡ y +ℚ (x +ℚ z)
+ℚ-left_comm x y z = sym (+ℚ-assoc x y z) ∙ ap (λ u. u +ℚ z) (+ℚ-comm x y) ∙ +ℚ-assoc y x z

pub *ℚ-left_comm : (x y z : ℚ) → x *ℚ (y *ℚ z) ≡ y *ℚ (x *ℚ z)
*ℚ-left_comm x y z = sym (*ℚ-assoc x y z) ∙ ap (λ u. u *ℚ z) (*ℚ-comm x y) ∙ *ℚ-assoc y x z

-- multiplies out, then sorts products and sums
pub ruleset rational-ring = (*ℚ-distrib_right, *ℚ-distrib_left, +ℚ-assoc, +ℚ-comm, +ℚ-left_comm, *ℚ-assoc, *ℚ-comm, *ℚ-left_comm)

-- ---- 0, 1 and the opposite

pub zero-+ℚ : (x : ℚ) → embed (pos 0) +ℚ x ≡ x
unfolding ℚ rat ◌+ℚ◌ ◌+ᶠ◌ embed whole
zero-+ℚ = by_fractions (λ x. embed (pos 0) +ℚ x ≡ x) (λ x. ℚ-set _ _) (λ a. rat_equal (whole (pos 0) +ᶠ a) a (law a.upper (pos a.lower)))
  where
    law : (u l : ℤ) → (pos 0 *ℤ l +ℤ u *ℤ pos 1) *ℤ l ≡ u *ℤ (pos 1 *ℤ l)
    law u l = ap (λ x. (x +ℤ u *ℤ pos 1) *ℤ l) (zero-*ℤ l) ∙ ap (λ x. x *ℤ l) (+ℤ_idl (u *ℤ pos 1)) ∙ mul_assoc u (pos 1) l

pub one-*ℚ : (x : ℚ) → embed (pos 1) *ℚ x ≡ x
unfolding ℚ rat ◌*ℚ◌ ◌*ᶠ◌ embed whole
one-*ℚ = by_fractions (λ x. embed (pos 1) *ℚ x ≡ x) (λ x. ℚ-set _ _) (λ a. rat_equal (whole (pos 1) *ᶠ a) a (law a.upper (pos a.lower)))
  where
    law : (u l : ℤ) → pos 1 *ℤ u *ℤ l ≡ u *ℤ (pos 1 *ℤ l)
    law u l = mul_assoc (pos 1) u l ∙ mul_left_comm (pos 1) u l

pub zero-*ℚ : (x : ℚ) → embed (pos 0) *ℚ x ≡ embed (pos 0)
unfolding ℚ rat ◌*ℚ◌ ◌*ᶠ◌ embed whole
zero-*ℚ = by_fractions (λ x. embed (pos 0) *ℚ x ≡ embed (pos 0)) (λ x. ℚ-set _ _) (λ a. rat_equal (whole (pos 0) *ᶠ a) (whole (pos 0)) (law a.upper (pos a.lower)))
  where
    law : (u l : ℤ) → pos 0 *ℤ u *ℤ pos 1 ≡ pos 0 *ℤ (pos 1 *ℤ l)
    law u l = mul-one (pos 0 *ℤ u) ∙ zero-*ℤ u ∙ sym (zero-*ℤ (pos 1 *ℤ l))

pub +ℚ-invr : (x : ℚ) → x +ℚ negℚ x ≡ embed (pos 0)
unfolding ℚ rat ◌+ℚ◌ ◌+ᶠ◌ negℚ opposite embed whole
+ℚ-invr = by_fractions (λ x. x +ℚ negℚ x ≡ embed (pos 0)) (λ x. ℚ-set _ _) (λ a. rat_equal (a +ᶠ opposite a) (whole (pos 0)) (law a.upper (pos a.lower)))
  where
    law : (u l : ℤ) → (u *ℤ l +ℤ neg_ℤ u *ℤ l) *ℤ pos 1 ≡ pos 0 *ℤ (l *ℤ l)
    law u l = mul-one (u *ℤ l +ℤ neg_ℤ u *ℤ l) ∙ sym (add_mul u (neg_ℤ u) l) ∙ ap (λ x. x *ℤ l) (+ℤ_invr u) ∙ zero-*ℤ l ∙ sym (zero-*ℤ (l *ℤ l))

pub +ℚ-zero : (x : ℚ) → x +ℚ embed (pos 0) ≡ x
+ℚ-zero x = +ℚ-comm x (embed (pos 0)) ∙ zero-+ℚ x

pub *ℚ-one : (x : ℚ) → x *ℚ embed (pos 1) ≡ x
*ℚ-one x = *ℚ-comm x (embed (pos 1)) ∙ one-*ℚ x

pub *ℚ-zero : (x : ℚ) → x *ℚ embed (pos 0) ≡ embed (pos 0)
*ℚ-zero x = *ℚ-comm x (embed (pos 0)) ∙ zero-*ℚ x

pub +ℚ-cancel : (x y : ℚ) → x +ℚ y -ℚ y ≡ x
+ℚ-cancel x y = +ℚ-assoc x y (negℚ y) ∙ ap (λ u. x +ℚ u) (+ℚ-invr y) ∙ +ℚ-zero x

pub -ℚ-cancel : (x y : ℚ) → x -ℚ y +ℚ y ≡ x
-ℚ-cancel x y = +ℚ-assoc x (negℚ y) y ∙ ap (λ u. x +ℚ u) (+ℚ-comm (negℚ y) y ∙ +ℚ-invr y) ∙ +ℚ-zero x

pub rat_complement : (a : Frac) → rat (complement a) ≡ embed (pos 1) -ℚ rat a
unfolding ℚ rat ◌+ℚ◌ ◌+ᶠ◌ negℚ opposite embed whole complement
rat_complement a = rat_equal (complement a) (whole (pos 1) +ᶠ opposite a) (law a.upper (pos a.lower))
  where
    law : (u l : ℤ) → (l -ℤ u) *ℤ (pos 1 *ℤ l) ≡ (pos 1 *ℤ l +ℤ neg_ℤ u *ℤ pos 1) *ℤ l
    law u l = ap (λ x. (l -ℤ u) *ℤ x) (one-mul l) ∙ ap₂ (λ x y. (x +ℤ y) *ℤ l) (sym (one-mul l)) (sym (mul-one (neg_ℤ u)))

-- ---- whole numbers

pub rat_whole : (z : ℤ) → rat (whole z) ≡ embed z
unfolding embed
rat_whole z = refl

pub embed_add : (a b : ℤ) → embed (a +ℤ b) ≡ embed a +ℚ embed b
unfolding ℚ rat ◌+ℚ◌ ◌+ᶠ◌ embed whole
embed_add a b = rat_equal (whole (a +ℤ b)) (whole a +ᶠ whole b) (ap (λ x. x *ℤ pos 1) (ap₂ (λ x y. x +ℤ y) (sym (mul-one a)) (sym (mul-one b))))

pub embed_mul : (a b : ℤ) → embed (a *ℤ b) ≡ embed a *ℚ embed b
unfolding ℚ rat ◌*ℚ◌ ◌*ᶠ◌ embed whole
embed_mul a b = rat_equal (whole (a *ℤ b)) (whole a *ᶠ whole b) refl
