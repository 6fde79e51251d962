-- `quotient_of` meets its contract: the products fit, and what the product back leaves rounds the estimate as the law of the division-free step says.
use mathlib.Core.Path.{◌≡◌, ◌∙◌}
use mathlib.Core.Bool.{Bool, true, false}
use Prim.Native.Nat.{ℕ, zero, suc, ◌+◌, ◌*◌, ◌^◌, ◌≤◌, ◌<◌}
use native.Mathlib.Omega.{arith}
use lib.IntN.{ℤ, pos, ◌+ℤ◌, ◌-ℤ◌}
use lib.Signed.{mag, lt_z}
use mir.Syntax.{w32, w64}
use mir.Val.{SFits, to_z, of_z, bool_byte}
use Rattle.rational.proofs.Machine.{back, signed, back_wide, signed_wide, bit_small, signed_bit, bits_zero}
use Rattle.rational.proofs.Estimate.{Step, rest, difference_past}
use Rattle.curve.specs.declared.affine.Weights.{Weights}
use Rattle.curve.proofs.Weighing.{near, factor-product, nearby, near-small}
use Rattle.curve.proofs.affine.Weights.quotient_of.Goals as goal

-- the estimate and a test, added and taken away, fit
difference_fits : (m : ℕ) (b : Bool) → m < 2147483648 → SFits w32 (pos m -ℤ pos (bool_byte b))
difference_fits zero true h = record { sfits = omega arith }
difference_fits (suc m) true h = rw (difference_past (suc m) 1 (omega arith)) (record { sfits = omega arith })
difference_fits m false h = rw (difference_past m 0 (omega arith)) (record { sfits = omega arith })

module _ (distance : ℕ) (w : Weights) (up : Bool) (far : distance ≤ 33554432 + w.lift) where
  -- the estimate, what is left by it, the test of that, and what is known of it
  abbrev estimated : ℕ
  estimated = near distance w far

  abbrev left_of : ℤ
  left_of = rest (distance * w.t) w.den estimated

  abbrev tested : Bool
  tested = lt_z left_of (pos (bool_byte up))

  known : Step (distance * w.t) w.den estimated
  known = nearby distance w far

  small : estimated ≤ 67174399
  small = near-small distance w far

  -- both products are small
  products : (distance * w.t < 2 ^ 43) × (estimated * w.den < 2 ^ 43)
  products =
      let most = factor-product distance w far in
      let high = known.high in
      let den = w.small in
      (omega arith, omega arith)

  -- what is left, as the machine has it
  left : to_z w64 (distance * w.t) -ℤ to_z w64 (estimated * w.den) ≡ left_of
  left =
      let both = products in
      rw (signed_wide (distance * w.t) (omega arith), signed_wide (estimated * w.den) (omega arith))

  left-fits : mag left_of < 65536
  left-fits = let less = known.small in let den = w.small in omega arith

  left_back : to_z w64 (of_z w64 (to_z w64 (distance * w.t) -ℤ to_z w64 (estimated * w.den))) ≡ left_of
  left_back = let l = left-fits in rw left (back_wide (record { sfits = omega arith }))

  sum_fits : SFits w32 (pos estimated +ℤ pos (bool_byte up))
  sum_fits = let most = small in let bit = bit_small up in record { sfits = omega arith }

  -- what is left is an i32
  left-32 : SFits w32 left_of
  left-32 = let l = left-fits in record { sfits = omega arith }

  -- the estimate and the way to round, as the machine adds them
  added : to_z w32 (of_z w32 (to_z w32 estimated +ℤ to_z w32 (bool_byte up))) ≡ pos (estimated + bool_byte up)
  added = let most = small in rw (signed estimated (omega arith), signed_bit up) (back sum_fits)

pub overflow_sub-rest : goal.overflow_sub-rest
overflow_sub-rest c =
    let a = c.args in
    let l = left-fits a.distance a.self a.up c.requires in
    rw (left a.distance a.self a.up c.requires) (record { sfits = omega arith })

pub overflow_cast-rest-3 : goal.overflow_cast-rest-3
overflow_cast-rest-3 c =
    let a = c.args in
    rw (left_back a.distance a.self a.up c.requires) (left-32 a.distance a.self a.up c.requires)

pub overflow_add-result : goal.overflow_add-result
overflow_add-result c =
    let a = c.args in
    let most = small a.distance a.self a.up c.requires in
    rw (signed (near a.distance a.self c.requires) (omega arith), signed_bit a.up) (sum_fits a.distance a.self a.up c.requires)

-- it holds of any test, so that a wrong one is refused where the result is told
pub overflow_sub-result : goal.overflow_sub-result
overflow_sub-result c =
    let a = c.args in
    let far = c.requires in
    let most = small a.distance a.self a.up far in
    let bit = bit_small a.up in
    rw (added a.distance a.self a.up far, signed_bit)
    (difference_fits (near a.distance a.self far + bool_byte a.up) _ (omega arith))

pub returns : goal.returns
returns c =
    let a = c.args in
    let far = c.requires in
    let most = small a.distance a.self a.up far in
    let bit = bit_small a.up in
    let test = tested a.distance a.self a.up far in
    let left32 = left-32 a.distance a.self a.up far in
    let same = left_back a.distance a.self a.up far in
    let step = known a.distance a.self a.up far in (
      rw (same, back left32, added a.distance a.self a.up far, signed_bit a.up, signed_bit test)
          (back (difference_fits (near a.distance a.self far + bool_byte a.up) test (omega arith)) ∙ step.quotients a.up),
      rw same (bits_zero (left_of a.distance a.self a.up far) left32 ∙ step.exact),
    )
