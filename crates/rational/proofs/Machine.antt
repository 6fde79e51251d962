-- Small facts that the functions' proofs share: a signed value comes back from its bits, and tests by `&&` and `||`.
-- Assumes nothing.
use mathlib.Core.Path.{◌≡◌, refl, sym, ap, ◌∙◌}
use mathlib.Core.Bool.{Bool, true, false, ◌&&◌, ◌||◌}
use Prim.Native.Nat.{ℕ, suc, ◌-◌, ◌≤◌, ◌<◌, ◌^◌}
use native.Mathlib.Omega.{arith}
use borrow.Author.Tests.{ne_eqb}
use lib.Dec.{eqb, eqb-suc-zero, leb→le}
use lib.IntN.{ℤ, pos, negsuc, nat_abs}
use lib.Signed.{mag, ◌≤ℤ◌}
use mir.Syntax.{w32, w64}
use mir.Val.{SFits, to_z, of_z, hbits, bool_byte}
use mir.ValLaws.{to_z-of_z}
use Rattle.rational.proofs.Order.{pos_reflects}

-- an i32 is what its bits say
pub back : {z : ℤ} → SFits w32 z → to_z w32 (of_z w32 z) ≡ z
back {z} f = to_z-of_z w32 z f

-- a small natural number is itself as an i32
pub signed : (n : ℕ) → n < 2147483648 → to_z w32 n ≡ pos n
signed n small = back (record { sfits = omega arith })

-- the same of an i64
pub back_wide : {z : ℤ} → SFits w64 z → to_z w64 (of_z w64 z) ≡ z
back_wide {z} f = to_z-of_z w64 z f

pub signed_wide : (n : ℕ) → n < 9223372036854775808 → to_z w64 n ≡ pos n
signed_wide n small = back_wide (record { sfits = omega arith })

-- a test as a number, and as an i32
pub bit_small : (b : Bool) → bool_byte b ≤ 1
bit_small true = omega arith
bit_small false = omega arith

pub signed_bit : (b : Bool) → to_z w32 (bool_byte b) ≡ pos (bool_byte b)
signed_bit true = refl
signed_bit false = refl

-- an i32 is 0 where its bits are
pub bits_zero : (z : ℤ) → SFits w32 z → eqb (of_z w32 z) 0 ≡ eqb (nat_abs z) 0
bits_zero (pos n) f = refl
bits_zero (negsuc n) f = let g = f.sfits in ne_eqb (2 ^ 32 - suc n) 0 (λ e. omega arith) ∙ sym (eqb-suc-zero n)

-- the same of a field, as a struct's rule tells its range
pub told : (z : ℤ) → mag z < 2 ^ hbits w32 → to_z w32 (of_z w32 z) ≡ z
told z h = back (record { sfits = h })

-- `a && b` where a held, and where it failed
pub and_yes : {a b : Bool} → a ≡ true → b ≡ (a && b)
and_yes {a} {b} e = ap (λ (x : Bool). x && b) (sym e)

pub and_no : (a b : Bool) → a ≡ false → a ≡ (a && b)
and_no a b e = e ∙ ap (λ (x : Bool). x && b) (sym e)

-- `a || b` the same way
pub or_yes : (a b : Bool) → a ≡ true → a ≡ (a || b)
or_yes a b e = e ∙ ap (λ (x : Bool). x || b) (sym e)

pub or_no : {a b : Bool} → a ≡ false → b ≡ (a || b)
or_no {a} {b} e = ap (λ (x : Bool). x || b) (sym e)

-- a number between two small ones fits an i32
pub within-fits : (m : ℕ) (z : ℤ) → m < 2147483647 → negsuc m ≤ℤ z → z ≤ℤ pos (suc m) → SFits w32 z
within-fits m (pos n) small from to = let g = pos_reflects to in record { sfits = omega arith }
within-fits m (negsuc n) small from to = let g = leb→le n m from.le in record { sfits = omega arith }

-- what fits an i32 fits an i64
pub wide : {z : ℤ} → SFits w32 z → SFits w64 z
wide f = let g = f.sfits in record { sfits = omega arith }
