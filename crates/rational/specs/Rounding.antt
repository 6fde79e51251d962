-- A whole number divided by a natural number and rounded to a whole number: down for a low side, up for a high side, also below zero.
-- Assumes nothing.
use Rattle.std.specs.Prelude.{Bool, true, false, ℕ, ◌/◌, ◌%◌, eqb, ℤ, pos, negsuc, neg_ℤ, nat_abs}

-- the way a quotient is rounded
pub data Rounding : Type 0 where
  down : Rounding
  up : Rounding

-- the way that a flag tells: up where it is true
abbrev pub rounding_of : Bool → Rounding
rounding_of true = up
rounding_of false = down

-- the greatest whole number that is at most z / d; `negsuc m` is −(m + 1)
unfoldable pub floor : ℤ → ℕ → ℤ
floor (pos m) d = pos (m / d)
floor (negsuc m) d = negsuc (m / d)

-- the least whole number that is at least z / d
unfoldable pub ceiling : ℤ → ℕ → ℤ
ceiling z d = neg_ℤ (floor (neg_ℤ z) d)

-- z / d, rounded
unfoldable pub quotient : Rounding → ℤ → ℕ → ℤ
quotient down z d = floor z d
quotient up z d = ceiling z d

-- whether z / d leaves no remainder
unfoldable pub divisible : ℤ → ℕ → Bool
divisible z d = eqb (nat_abs z % d) 0
