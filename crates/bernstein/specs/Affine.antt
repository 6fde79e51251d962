-- The affine map (000, equation 15): of two whole numbers, weighted by two factors whose sum is the divisor, rounded; and of two fractions, exactly.
-- Assumes nothing.
use Rattle.std.specs.Prelude.{Bool, ℕ, ℤ, pos, ◌+ℤ◌, ◌*ℤ◌}
use Rattle.rational.specs.Rounding.{Rounding, quotient, divisible}
use Rattle.rational.specs.Fraction.{Frac, ◌+ᶠ◌, ◌*ᶠ◌, complement}

-- (s × a + t × b) / d, rounded
unfoldable pub affine : Rounding → ℕ → ℕ → ℕ → ℤ → ℤ → ℤ
affine r s t d a b = quotient r (pos s *ℤ a +ℤ pos t *ℤ b) d

-- whether that division leaves no remainder, so that nothing is rounded
unfoldable pub affine_exact : ℕ → ℕ → ℕ → ℤ → ℤ → Bool
affine_exact s t d a b = divisible (pos s *ℤ a +ℤ pos t *ℤ b) d

-- (1 − x) × a + x × b
abbrev pub exact_affine : Frac → Frac → Frac → Frac
exact_affine x a b = complement x *ᶠ a +ᶠ x *ᶠ b
