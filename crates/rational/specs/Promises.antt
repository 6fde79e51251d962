-- What is promised of rounding, over any divisor above 0, for numbers above and below zero, and of fractions.
-- Assumes nothing.
use Rattle.std.specs.Prelude.{◌≡◌, true, ℕ, ◌*◌, ◌<◌, ℤ, pos, ◌+ℤ◌, ◌*ℤ◌, ◌≤ℤ◌}
use Rattle.rational.specs.Rounding.{Rounding, down, up, quotient, divisible}
use Rattle.rational.specs.Fraction.{Frac, ◌+ᶠ◌, ◌*ᶠ◌, ◌≤ᶠ◌, Equal, whole}

-- rounded down, a quotient is the greatest whole number that is at most the exact one
abbrev pub RoundsDown : Type 0
RoundsDown =
    (d : ℕ) → 0 < d → (z : ℤ) →
    ((quotient down z d *ℤ pos d) ≤ℤ z) × ((m : ℤ) → (m *ℤ pos d) ≤ℤ z → m ≤ℤ quotient down z d)

-- rounded up, it is the least whole number that is at least the exact one
abbrev pub RoundsUp : Type 0
RoundsUp =
    (d : ℕ) → 0 < d → (z : ℤ) →
    (z ≤ℤ (quotient up z d *ℤ pos d)) × ((m : ℤ) → z ≤ℤ (m *ℤ pos d) → quotient up z d ≤ℤ m)

-- a division that leaves no remainder is exact, rounded either way, and every multiple of the divisor leaves none
abbrev pub NoRemainder : Type 0
NoRemainder =
    (d : ℕ) → 0 < d →
    ((z : ℤ) → divisible z d ≡ true → (r : Rounding) → quotient r z d *ℤ pos d ≡ z) × ((m : ℤ) → divisible (m *ℤ pos d) d ≡ true)

-- equal fractions have equal sums and products, and compare alike
pub record ByValue : Type 0 where
  pub sums : (a b a' b' : Frac) → Equal a a' → Equal b b' → Equal (a +ᶠ b) (a' +ᶠ b')
  pub products : (a b a' b' : Frac) → Equal a a' → Equal b b' → Equal (a *ᶠ b) (a' *ᶠ b')
  pub order : (a b a' b' : Frac) → Equal a a' → Equal b b' → a ≤ᶠ b → a' ≤ᶠ b'

-- z / d
abbrev pub over : (d : ℕ) → 0 < d → ℤ → Frac
over d positive z = record { upper = z; lower = d; positive = positive }

-- over one lower number the upper ones are added and compared, and a product times both lower numbers is that of the upper ones
pub record ByUpper (d : ℕ) (h : 0 < d) (u v : ℤ) : Type 0 where
  pub sum : Equal (over d h u +ᶠ over d h v) (over d h (u +ℤ v))
  pub ordered : u ≤ℤ v → over d h u ≤ᶠ over d h v
  pub order : over d h u ≤ᶠ over d h v → u ≤ℤ v
  pub product : (e : ℕ) (k : 0 < e) → Equal (over d h u *ᶠ over e k v *ᶠ whole (pos (d * e))) (whole (u *ℤ v))

abbrev pub CommonLower : Type 0
CommonLower = (d : ℕ) (h : 0 < d) (u v : ℤ) → ByUpper d h u v
