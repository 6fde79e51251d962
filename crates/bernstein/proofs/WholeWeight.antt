-- A point whose weight is the whole divisor is kept exactly by the affine map, and nothing is left over.
-- Assumes nothing.
use mathlib.Core.Path.{◌≡◌, ap, ◌∙◌}
use mathlib.Core.Bool.{true}
use Prim.Native.Nat.{ℕ, ◌<◌}
use lib.IntN.{ℤ, pos, ◌+ℤ◌, ◌*ℤ◌, zero-*ℤ, *ℤ_comm, +ℤ_idr, +ℤ_idl}
use Rattle.rational.specs.Rounding.{Rounding, quotient, divisible}
use Rattle.rational.proofs.Quotient.{quotient_exact}
use Rattle.rational.proofs.Divisible.{multiple_divisible}
use Rattle.bernstein.specs.Affine.{affine, affine_exact}

-- the sum that is divided, where one point's weight is the whole divisor
sum_first : (d : ℕ) (a b : ℤ) → pos d *ℤ a +ℤ pos 0 *ℤ b ≡ a *ℤ pos d
sum_first d a b = ap (λ (x : ℤ). pos d *ℤ a +ℤ x) (zero-*ℤ b) ∙ +ℤ_idr (pos d *ℤ a) ∙ *ℤ_comm (pos d) a

sum_second : (d : ℕ) (a b : ℤ) → pos 0 *ℤ a +ℤ pos d *ℤ b ≡ b *ℤ pos d
sum_second d a b = ap (λ (x : ℤ). x +ℤ pos d *ℤ b) (zero-*ℤ a) ∙ +ℤ_idl (pos d *ℤ b) ∙ *ℤ_comm (pos d) b

module _ (d : ℕ) (positive : 0 < d) where
  pub affine-first : (r : Rounding) (a b : ℤ) → affine r d 0 d a b ≡ a
  unfolding affine
  affine-first r a b = ap (λ (x : ℤ). quotient r x d) (sum_first d a b) ∙ quotient_exact d positive r a

  pub affine_second : (r : Rounding) (a b : ℤ) → affine r 0 d d a b ≡ b
  unfolding affine
  affine_second r a b = ap (λ (x : ℤ). quotient r x d) (sum_second d a b) ∙ quotient_exact d positive r b

-- and nothing is left of it
pub exact_first : (d : ℕ) (a b : ℤ) → affine_exact d 0 d a b ≡ true
unfolding affine_exact
exact_first d a b = ap (λ (x : ℤ). divisible x d) (sum_first d a b) ∙ multiple_divisible d a

pub exact_second : (d : ℕ) (a b : ℤ) → affine_exact 0 d d a b ≡ true
unfolding affine_exact
exact_second d a b = ap (λ (x : ℤ). divisible x d) (sum_second d a b) ∙ multiple_divisible d b
