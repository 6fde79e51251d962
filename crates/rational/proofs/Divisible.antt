-- Divisions that leave no remainder, over any divisor above 0: the quotient is then exact, rounded either way, and equal fractions leave one or none alike.
-- Assumes nothing.
use mathlib.Core.Path.{◌≡◌, refl, sym, ◌∙◌, ap}
use mathlib.Core.Bool.{true}
use Prim.Native.Nat.{ℕ, zero, suc, ◌+◌, ◌*◌, ◌/◌, ◌%◌, ◌<◌}
use native.Mathlib.Nat.{div-add-mod', mul-mod_left, add-zero}
use borrow.Author.Tests.{eqb-true, eq-eqb}
use lib.Dec.{eqb}
use lib.IntN.{ℤ, pos, negsuc, neg_ℤ, nat_abs, ◌+ℤ◌, ◌*ℤ◌, *ℤ_comm, +ℤ-neg_ℤ_cancel}
use Rattle.rational.specs.Rounding.{Rounding, quotient, divisible}
use Rattle.rational.specs.Promises.{NoRemainder}
use Rattle.rational.proofs.Truth.{same_truth}
use Rattle.rational.proofs.Whole.{add_mul, mul_assoc, neg_mul}
use Rattle.rational.proofs.Order.{*ℤ-equal_cancel}
use Rattle.rational.proofs.Quotient.{quotient_exact}

abs_neg : (n : ℕ) → nat_abs (neg_ℤ (pos n)) ≡ n
abs_neg zero = refl
abs_neg (suc n) = refl

module _ (d : ℕ) where
  -- a multiple of the divisor leaves no remainder
  pub multiple_divisible : (m : ℤ) → divisible (m *ℤ pos d) d ≡ true
  unfolding divisible
  multiple_divisible (pos n) = eq-eqb (n * d % d) 0 (mul-mod_left n d)
  multiple_divisible (negsuc n) = eq-eqb (nat_abs (negsuc n *ℤ pos d) % d) 0 (ap (λ (x : ℕ). x % d) (abs_neg (suc n * d)) ∙ mul-mod_left (suc n) d)

  -- and what leaves none is a multiple
  quotient-whole : (n : ℕ) → eqb (n % d) 0 ≡ true → n / d * d ≡ n
  quotient-whole n h = sym (add-zero (n / d * d)) ∙ ap (λ (x : ℕ). n / d * d + x) (sym (eqb-true (n % d) 0 h)) ∙ div-add-mod' n d

  divisible_multiple : (z : ℤ) → divisible z d ≡ true → (m : ℤ) × (m *ℤ pos d ≡ z)
  unfolding divisible
  divisible_multiple (pos n) h = (pos (n / d), ap pos (quotient-whole n h))
  divisible_multiple (negsuc n) h = (neg_ℤ (pos (suc n / d)), neg_mul (pos (suc n / d)) (pos d) ∙ ap (λ (x : ℕ). neg_ℤ (pos x)) (quotient-whole (suc n) h))

  -- a whole number added to the quotient changes nothing
  shifted : (z m : ℤ) → divisible z d ≡ true → divisible (z +ℤ m *ℤ pos d) d ≡ true
  shifted z m h =
      let (q, e) = divisible_multiple z h in
      ap (λ (x : ℤ). divisible x d) (ap (λ (x : ℤ). x +ℤ m *ℤ pos d) (sym e) ∙ sym (add_mul q m (pos d))) ∙ multiple_divisible (q +ℤ m)

  pub divisible_shift : (z m : ℤ) → divisible (z +ℤ m *ℤ pos d) d ≡ divisible z d
  divisible_shift z m =
      same_truth (divisible (z +ℤ m *ℤ pos d) d) (divisible z d)
      (λ h. sym (ap (λ (x : ℤ). divisible x d) back) ∙ shifted (z +ℤ m *ℤ pos d) (neg_ℤ m) h)
      (shifted z m)
    where
      back : z +ℤ m *ℤ pos d +ℤ neg_ℤ m *ℤ pos d ≡ z
      back = ap (λ (x : ℤ). z +ℤ m *ℤ pos d +ℤ x) (neg_mul m (pos d)) ∙ +ℤ-neg_ℤ_cancel z (m *ℤ pos d)

  -- the quotient is exact
  pub divisible_exact : 0 < d → (r : Rounding) (z : ℤ) → divisible z d ≡ true → quotient r z d *ℤ pos d ≡ z
  divisible_exact positive r z h =
      let (q, e) = divisible_multiple z h in
      ap (λ (x : ℤ). quotient r x d *ℤ pos d) (sym e) ∙ ap (λ (x : ℤ). x *ℤ pos d) (quotient_exact d positive r q) ∙ e

-- equal fractions
crosswise : (d e : ℕ) → 0 < d → (z w : ℤ) → z *ℤ pos e ≡ w *ℤ pos d → divisible z d ≡ true → divisible w e ≡ true
crosswise d e positive z w h whole =
    let (q, f) = divisible_multiple d z whole in
    ap (λ (x : ℤ). divisible x e) (sym (*ℤ-equal_cancel d positive (swap q (pos e) (pos d) ∙ ap (λ (x : ℤ). x *ℤ pos e) f ∙ h))) ∙ multiple_divisible e q
  where
    swap : (a b c : ℤ) → a *ℤ b *ℤ c ≡ a *ℤ c *ℤ b
    swap a b c = simp (mul_assoc, *ℤ_comm)

pub divisible_equal : (d e : ℕ) → 0 < d → 0 < e → (z w : ℤ) → z *ℤ pos e ≡ w *ℤ pos d → divisible z d ≡ divisible w e
divisible_equal d e positive positive' z w h =
    same_truth (divisible z d) (divisible w e) (crosswise d e positive z w h) (crosswise e d positive' w z (sym h))

pub no_remainder : NoRemainder
no_remainder d positive = (λ z h r. divisible_exact d positive r z h, multiple_divisible d)
