-- The ring laws of the whole numbers that the library lacks, and the set of laws by which `simp` brings two sides of an equation into one form.
-- Assumes nothing.
use mathlib.Core.Path.{◌≡◌, sym, ◌∙◌, ap}
use Prim.Native.Nat.{zero, suc}
use lib.IntN.{ℤ, pos, negsuc, neg_ℤ, suc_ℤ, pred_ℤ, ◌+ℤ◌, ◌-ℤ◌, ◌*ℤ◌, +ℤ_assoc, +ℤ_comm, +ℤ_idl, +ℤ_idr, +ℤ_invl, +ℤ_invr, suc_ℤ-+ℤ, pred_ℤ-+ℤ, suc_ℤ-*ℤ, pred_ℤ-*ℤ, *ℤ_comm, zero-*ℤ}

-- induction in both directions from 0
pub induction : (P : ℤ → Type 0) → P (pos zero) → ((z : ℤ) → P z → P (suc_ℤ z)) → ((z : ℤ) → P z → P (pred_ℤ z)) → (z : ℤ) → P z
induction P o s p (pos zero) = o
induction P o s p (pos (suc n)) = s (pos n) (induction P o s p (pos n))
induction P o s p (negsuc zero) = p (pos zero) o
induction P o s p (negsuc (suc n)) = p (negsuc n) (induction P o s p (negsuc n))

pub add_left_comm : (a b c : ℤ) → a +ℤ (b +ℤ c) ≡ b +ℤ (a +ℤ c)
add_left_comm a b c = sym (+ℤ_assoc a b c) ∙ ap (λ x. x +ℤ c) (+ℤ_comm a b) ∙ +ℤ_assoc b a c

pub add_mul : (a b c : ℤ) → (a +ℤ b) *ℤ c ≡ a *ℤ c +ℤ b *ℤ c
add_mul a b c = induction (λ x. (x +ℤ b) *ℤ c ≡ x *ℤ c +ℤ b *ℤ c)
    (ap (λ x. x *ℤ c) (+ℤ_idl b) ∙ sym (ap (λ x. x +ℤ b *ℤ c) (zero-*ℤ c) ∙ +ℤ_idl (b *ℤ c)))
    (λ z h. ap (λ x. x *ℤ c) (suc_ℤ-+ℤ z b) ∙ suc_ℤ-*ℤ (z +ℤ b) c ∙ ap (λ x. x +ℤ c) h ∙ swap (z *ℤ c) (b *ℤ c) c ∙ ap (λ x. x +ℤ b *ℤ c) (sym (suc_ℤ-*ℤ z c)))
    (λ z h. ap (λ x. x *ℤ c) (pred_ℤ-+ℤ z b) ∙ pred_ℤ-*ℤ (z +ℤ b) c ∙ ap (λ x. x -ℤ c) h ∙ swap (z *ℤ c) (b *ℤ c) (neg_ℤ c) ∙ ap (λ x. x +ℤ b *ℤ c) (sym (pred_ℤ-*ℤ z c)))
    a
  where
    swap : (x y z : ℤ) → x +ℤ y +ℤ z ≡ x +ℤ z +ℤ y
    swap x y z = simp (+ℤ_assoc, +ℤ_comm)

pub mul_add : (a b c : ℤ) → a *ℤ (b +ℤ c) ≡ a *ℤ b +ℤ a *ℤ c
mul_add a b c = *ℤ_comm a (b +ℤ c) ∙ add_mul b c a ∙ ap (λ x. x +ℤ c *ℤ a) (*ℤ_comm b a) ∙ ap (λ x. a *ℤ b +ℤ x) (*ℤ_comm c a)

-- −z is the number whose sum with z is 0
pub neg_unique : (a b : ℤ) → a +ℤ b ≡ pos zero → a ≡ neg_ℤ b
neg_unique a b h = sym (+ℤ_idr a) ∙ ap (λ x. a +ℤ x) (sym (+ℤ_invr b)) ∙ sym (+ℤ_assoc a b (neg_ℤ b)) ∙ ap (λ x. x +ℤ neg_ℤ b) h ∙ +ℤ_idl (neg_ℤ b)

pub neg_mul : (a b : ℤ) → neg_ℤ a *ℤ b ≡ neg_ℤ (a *ℤ b)
neg_mul a b = neg_unique (neg_ℤ a *ℤ b) (a *ℤ b) (sym (add_mul (neg_ℤ a) a b) ∙ ap (λ x. x *ℤ b) (+ℤ_invl a) ∙ zero-*ℤ b)

pub mul_assoc : (a b c : ℤ) → a *ℤ b *ℤ c ≡ a *ℤ (b *ℤ c)
mul_assoc a b c = induction (λ x. x *ℤ b *ℤ c ≡ x *ℤ (b *ℤ c))
    (ap (λ x. x *ℤ c) (zero-*ℤ b) ∙ zero-*ℤ c ∙ sym (zero-*ℤ (b *ℤ c)))
    (λ z h. ap (λ x. x *ℤ c) (suc_ℤ-*ℤ z b) ∙ add_mul (z *ℤ b) b c ∙ ap (λ x. x +ℤ b *ℤ c) h ∙ sym (suc_ℤ-*ℤ z (b *ℤ c)))
    (λ z h. ap (λ x. x *ℤ c) (pred_ℤ-*ℤ z b) ∙ add_mul (z *ℤ b) (neg_ℤ b) c ∙ ap (λ x. z *ℤ b *ℤ c +ℤ x) (neg_mul b c) ∙ ap (λ x. x -ℤ b *ℤ c) h ∙ sym (pred_ℤ-*ℤ z (b *ℤ c)))
    a

pub mul_left_comm : (a b c : ℤ) → a *ℤ (b *ℤ c) ≡ b *ℤ (a *ℤ c)
mul_left_comm a b c = sym (mul_assoc a b c) ∙ ap (λ x. x *ℤ c) (*ℤ_comm a b) ∙ mul_assoc b a c

pub one-mul : (z : ℤ) → pos 1 *ℤ z ≡ z
one-mul z = suc_ℤ-*ℤ (pos zero) z ∙ ap (λ x. x +ℤ z) (zero-*ℤ z) ∙ +ℤ_idl z

pub mul-one : (z : ℤ) → z *ℤ pos 1 ≡ z
mul-one z = *ℤ_comm z (pos 1) ∙ one-mul z

-- multiplies out, then sorts products and sums
pub ruleset integer-ring = (add_mul, mul_add, +ℤ_assoc, +ℤ_comm, add_left_comm, mul_assoc, *ℤ_comm, mul_left_comm)

pub add_right_cancel : (a b c : ℤ) → a +ℤ c ≡ b +ℤ c → a ≡ b
add_right_cancel a b c h = sym (drop a) ∙ ap (λ x. x -ℤ c) h ∙ drop b
  where
    drop : (x : ℤ) → x +ℤ c -ℤ c ≡ x
    drop x = +ℤ_assoc x c (neg_ℤ c) ∙ ap (λ y. x +ℤ y) (+ℤ_invr c) ∙ +ℤ_idr x
