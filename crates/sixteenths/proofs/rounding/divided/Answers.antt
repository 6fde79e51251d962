-- `divided` meets its contract: the shift divides by 16 to the power n, and the product back tells how to round, and whether nothing is left.
use Rattle.std.proofs.Common.{◌≡◌, sym, ap, ◌∙◌, ◌&&◌, Bool, true, false, ℕ, ◌*◌, ◌+◌, ◌/◌, ◌%◌, ◌^◌, ◌≤◌, ◌<◌, arith, ℤ, pos, neg_ℤ, ◌-ℤ◌, w32, FitsSigned}
use native.Mathlib.Nat.{div-mul-le_self, lt-div-mul-add}
use lib.Dec.{ltb, eqb}
use mir.Val.{bool_byte}
use Rattle.rational.specs.Rounding.{rounding_of, quotient, divisible}
use Rattle.rational.proofs.Order.{pos_mono, pos_reflects, ≤ℤ-trans, ≤ℤ-reflexive, +ℤ-mono_right}
use Rattle.rational.proofs.Quotient.{quotient-least, natural_down}
use Rattle.bernstein.proofs.WholeSum.{power_positive}
use Rattle.rational.proofs.Estimate.{rounded_up, reaches}
use Rattle.rational.proofs.Machine.{back, signed, within-fits}
use Rattle.sixteenths.proofs.Powers.{shift_power, shifted_one}
use Rattle.sixteenths.proofs.rounding.divided.Goals.{After-from}
use Rattle.sixteenths.proofs.rounding.divided.Goals as goal

-- the product back is less than the divisor above the number
nearly : (m d : ℕ) → 0 < d → m / d * d < m + d
nearly m d positive = let least = div-mul-le_self m d in omega arith

-- 16 to the power n as the code has it, a shifted 1
abbrev size : ℕ → ℕ
size n = 1 * 2 ^ (4 * n) % 18446744073709551616

module _ (m n : ℕ) (few : n ≤ 8) where
  -- the divisor is above 0
  above_zero : 0 < 16 ^ n
  above_zero = power_positive 16 n (omega arith)

  -- what was found is the quotient, rounded up or down
  found : (up : Bool) → pos (m / 2 ^ (4 * n) + bool_byte (up && ltb (m / 2 ^ (4 * n) * size n) m)) ≡ quotient (rounding_of up) (pos m) (16 ^ n)
  found true = rw (shifted_one n few, shift_power) (rounded_up m (16 ^ n) (m / 16 ^ n) above_zero (lt-div-mul-add above_zero) (nearly m (16 ^ n) above_zero))
  found false =
      let none : m / 16 ^ n + 0 ≡ m / 16 ^ n = omega arith in
      rw shift_power (ap pos none ∙ sym (natural_down (16 ^ n) above_zero m))

  -- a quotient rounded either way is at most twice the largest side
  most : (up : Bool) (q : ℕ) → m ≤ 33554432 * 16 ^ n → pos q ≡ quotient (rounding_of up) (pos m) (16 ^ n) → q ≤ 33554432
  most up q bound is =
      pos_reflects (≤ℤ-trans (≤ℤ-reflexive is) (quotient-least (16 ^ n) above_zero (rounding_of up) (pos 33554432) (pos m) (pos_mono bound)))

  -- the product back reaches the number where the division leaves nothing
  whole : eqb m (m / 2 ^ (4 * n) * size n) ≡ divisible (pos m) (16 ^ n)
  whole = rw (shifted_one n few, shift_power) (reaches m (16 ^ n) (m / 16 ^ n) above_zero (lt-div-mul-add above_zero) (nearly m (16 ^ n) above_zero))

-- what the code rounds to, before it is moved down
abbrev rounded : After-from → ℕ
rounded c = c.args.sum / 2 ^ (4 * c.args.n) + c.from.result

rounded-is : (c : After-from) → pos (rounded c) ≡ quotient (rounding_of c.args.up) (pos c.args.sum) (16 ^ c.args.n)
rounded-is c = rw c.from.ensures (found c.args.sum c.args.n c.requires.n_le_highest c.args.up)

small : (c : After-from) → rounded c ≤ 33554432
small c = most c.args.sum c.args.n c.requires.n_le_highest c.args.up (rounded c) c.requires.sum_bound (rounded-is c)

-- moved down, it is a side
lowered : (q : ℕ) → q ≤ 33554432 → FitsSigned w32 (pos q -ℤ pos 16777216)
lowered q few =
    within-fits 16777215 (pos q -ℤ pos 16777216) (omega arith)
    (+ℤ-mono_right (neg_ℤ (pos 16777216)) (pos_mono {m = 0} {n = q} (omega arith))) (+ℤ-mono_right (neg_ℤ (pos 16777216)) (pos_mono few))

pub overflow_cast-result : goal.overflow_cast-result
overflow_cast-result c = let few = small c in record { sfits = omega arith }

pub overflow_sub-result : goal.overflow_sub-result
overflow_sub-result c = let few = small c in rw (signed (rounded c) (omega arith)) (lowered (rounded c) few)

pub returns : goal.returns
returns c =
    let few = small c in (
      rw (signed (rounded c) (omega arith)) (back (lowered (rounded c) few) ∙ ap (λ (z : ℤ). z -ℤ pos 16777216) (rounded-is c)),
      whole c.args.sum c.args.n c.requires.n_le_highest,
    )
