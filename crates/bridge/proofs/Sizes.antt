-- The whole steps about a size, by its bits: below a step, and from one on by its digits shifted.
-- Assumes nothing.
use mathlib.Core.Path.{◌≡◌, refl, sym, ap, ◌∙◌, subst}
use mathlib.Core.Bool.{Bool, true, false, not}
use Prim.Native.Nat.{ℕ, zero, suc, ◌+◌, ◌*◌, ◌-◌, ◌/◌, ◌%◌, ◌^◌, ◌≤◌, ◌<◌}
use native.Mathlib.Nat.{le_of_lt, mul_comm, mul_assoc, div-eq_of_lt, div-lt_iff_lt-mul, le-div_iff_mul-le}
use native.Mathlib.Omega.{arith}
use borrow.Author.Tests.{eqb-true, eqb-false}
use lib.Dec.{eqb, lit<}
use lib.Pow.{pow-add, pow_pos}
use lib.IntN.{pos}
use mir.Val.{bool_byte}
use Rattle.rational.specs.Rounding.{Rounding, down, up, quotient, floor, ceiling}
use Rattle.rational.proofs.Quotient.{quotient_equal}
use Rattle.bridge.specs.Inner.{field, largest, units_by, units_of}
use Rattle.bridge.proofs.Bits.{units_below, no_units, units_zero}

-- the bits of one step
abbrev pub step : ℕ
step = 0x3a800000

-- a natural number rounded up: one taken off and added again
pub up_less_one : (n d : ℕ) → quotient up (pos (suc n)) d ≡ pos (suc (n / d))
unfolding quotient ceiling floor
up_less_one n d = refl

-- below a step
module _ (bits : ℕ) (few : bits < step) where
  pub small_low : quotient down (pos (units_of bits)) (2 ^ 139) ≡ pos 0
  unfolding quotient floor
  small_low = ap pos (div-eq_of_lt (units_below 117 bits few))

  some : {n : ℕ} → suc n ≡ 0 → ⊥
  some e = omega arith

  pub small-high : quotient up (pos (units_of bits)) (2 ^ 139) ≡ pos (bool_byte (not (eqb bits 0)))
  small-high = go (units_of bits) refl (eqb bits 0) refl
    where
      go : (u : ℕ) → units_of bits ≡ u → (b : Bool) → eqb bits 0 ≡ b → quotient up (pos u) (2 ^ 139) ≡ pos (bool_byte (not b))
      go zero e true f = unfold quotient in unfold ceiling in unfold floor in refl
      go zero e false f = absurd (eqb-false bits 0 f (units_zero bits e))
      go (suc n) e true f = absurd (some (sym e ∙ ap units_of (eqb-true bits 0 f) ∙ no_units))
      go (suc n) e false f =
          let less : suc n < 2 ^ 139 = subst (λ (u : ℕ). u < 2 ^ 139) e (units_below 117 bits few) in
          up_less_one n (2 ^ 139) ∙ ap (λ (q : ℕ). pos (suc q)) (div-eq_of_lt (le_of_lt less))

-- from a step on
pub shifted : (r : Rounding) (bits : ℕ) → step ≤ bits → bits ≤ largest →
    quotient r (pos (units_of bits)) (2 ^ 139) ≡ quotient r (pos (2 * (field + bits % field))) (2 ^ (141 - bits / field))
unfolding units_of units_by
shifted r bits from to = go (bits / field) ((le-div_iff_mul-le {k = field} (lit< tt)).1 from) ((div-lt_iff_lt-mul {k = field} (lit< tt)).1 below)
  where
    below : bits < 142 * field
    below = omega arith

    go : (e : ℕ) → 117 ≤ e → e < 142 → quotient r (pos (units_by e (bits % field))) (2 ^ 139) ≡ quotient r (pos (2 * (field + bits % field))) (2 ^ (141 - e))
    go zero least most = absurd (omega arith)
    go (suc x) least most =
        quotient_equal r (2 ^ 139) (2 ^ (141 - suc x)) (pow_pos 139) (pow_pos (141 - suc x)) (pos ((field + bits % field) * 2 ^ x)) (pos (2 * (field + bits % field)))
        (ap pos (level (field + bits % field)))
      where
        together : x + (141 - suc x) ≡ 140
        together = omega arith

        level : (d : ℕ) → d * 2 ^ x * 2 ^ (141 - suc x) ≡ 2 * d * 2 ^ 139
        level d =
            mul_assoc d (2 ^ x) (2 ^ (141 - suc x))
            ∙ ap (λ (n : ℕ). d * n) (sym (pow-add 2 x (141 - suc x)) ∙ ap (λ (n : ℕ). 2 ^ n) together)
            ∙ sym (mul_assoc d 2 (2 ^ 139))
            ∙ ap (λ (n : ℕ). n * 2 ^ 139) (mul_comm d 2)
