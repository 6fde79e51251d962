-- `size_about` meets its contract: below a step by whether there are any bits, and from a step on by the digits, shifted.
use Rattle.std.proofs.Common.{◌≡◌, refl, sym, ap, ap₂, ◌∙◌, Bool, true, false, not, ℕ, suc, ◌+◌, ◌*◌, ◌-◌, ◌/◌, ◌%◌, ◌^◌, ◌≤◌, arith, eqb, lit<, ℤ, pos, w32, to_z}
use native.Mathlib.Nat.{mod-lt, div-le_self}
use native.Mathlib.Numerals.{add-one}
use mir.Val.{bool_byte}
use Rattle.rational.specs.Rounding.{down, up, quotient, floor}
use Rattle.rational.proofs.Machine.{signed}
use Rattle.bridge.specs.Inner.{field, largest, units_of, size_about}
use Rattle.bridge.proofs.Sizes.{step, up_less_one, small_low, small-high, shifted}
use Rattle.bridge.proofs.ohms.size_about.Goals as goal

abbrev digits : ℕ → ℕ
digits bits = 2 * (field + bits % field)

abbrev shift : ℕ → ℕ
shift bits = 141 - bits / field

-- shifted digits are few
few : (bits n : ℕ) → n ≤ digits bits → n / 2 ^ shift bits ≤ 33554432
few bits n h = omega (arith, mod-lt bits {m = field} (lit< tt), div-le_self n (2 ^ shift bits))

byte-back : (b : Bool) → to_z w32 (bool_byte b) ≡ pos (bool_byte b)
byte-back true = refl
byte-back false = refl

module _ (bits : ℕ) (from : step ≤ bits) (to : bits ≤ largest) where
  low-is : to_z w32 (digits bits / 2 ^ shift bits) ≡ quotient down (pos (units_of bits)) (2 ^ 139)
  unfolding quotient floor
  low-is =
      let n = few bits (digits bits) (omega arith) in
      signed (digits bits / 2 ^ shift bits) (omega arith) ∙ sym (shifted down bits from to)

  high_is : to_z w32 ((digits bits - 1) / 2 ^ shift bits + 1) ≡ quotient up (pos (units_of bits)) (2 ^ 139)
  high_is =
      let n = few bits (digits bits - 1) (omega arith) in
      let again : suc (digits bits - 1) ≡ digits bits = omega arith in
      signed ((digits bits - 1) / 2 ^ shift bits + 1) (omega arith)
      ∙ ap pos (add-one ((digits bits - 1) / 2 ^ shift bits))
      ∙ sym (up_less_one (digits bits - 1) (2 ^ shift bits))
      ∙ ap (λ (n : ℕ). quotient up (pos n) (2 ^ shift bits)) again
      ∙ sym (shifted up bits from to)

pub returns-then-bits-lt-STEP : goal.returns-then-bits-lt-STEP
unfolding size_about
returns-then-bits-lt-STEP c =
    let bits = c.args.bits in
    ap₂ (λ (l h : ℤ). record { low = l; high = h })
    (sym (small_low bits c.if-bits-lt-STEP.true))
    (rw c.from.ensures (byte-back (not (eqb bits 0)) ∙ sym (small-high bits c.if-bits-lt-STEP.true)))

pub returns : goal.returns
unfolding size_about
returns c =
    let bits = c.args.bits in
    ap₂ (λ (l h : ℤ). record { low = l; high = h })
    (low-is bits c.if-bits-lt-STEP.false c.requires)
    (high_is bits c.if-bits-lt-STEP.false c.requires)
