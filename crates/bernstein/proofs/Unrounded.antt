-- Where no map leaves a remainder, the rounded table is the exact one, over any degree, any divisor and either rounding.
-- Assumes nothing.
use Prim.Native.Nat.{ℕ, zero, suc, ◌+◌, ◌≤◌, ◌<◌}
use native.Mathlib.Omega.{arith}
use mathlib.Core.Bool.{true}
use mathlib.Core.Path.{◌≡◌, refl, sym, ap, ap₂, ◌∙◌}
use lib.IntN.{ℤ, pos, ◌+ℤ◌, ◌*ℤ◌}
use Rattle.rational.specs.Rounding.{Rounding, quotient}
use Rattle.rational.proofs.Rational.{embed}
use Rattle.rational.proofs.Division.{ratio, ratio_whole, ratio_affine}
use Rattle.rational.proofs.Divisible.{divisible_exact}
use Rattle.bernstein.specs.DeCasteljau.{table}
use Rattle.bernstein.specs.Affine.{affine, affine_exact}
use Rattle.bernstein.proofs.Exact.{mix}
use Rattle.bernstein.proofs.Rationals.{mean}

module _ (r : Rounding) (s t d : ℕ) (positive : 0 < d) where
  pub affine_mean : (a b : ℤ) → affine_exact s t d a b ≡ true → embed (affine r s t d a b) ≡ mean d positive s t (embed a) (embed b)
  unfolding affine affine_exact mean mix
  affine_mean a b h =
      let z = pos s *ℤ a +ℤ pos t *ℤ b in
      sym (ratio_whole d positive (quotient r z d))
      ∙ ap (ratio d positive) (divisible_exact d positive r z h)
      ∙ ratio_affine d positive (pos s) (pos t) a b

  module _ (P : ℕ → ℤ) (n : ℕ)
      (exact : (j k : ℕ) → j + suc k ≤ n → affine_exact s t d (table (affine r s t d) P j k) (table (affine r s t d) P j (suc k)) ≡ true) where
    pub table_mean : (j k : ℕ) → j + k ≤ n → embed (table (affine r s t d) P j k) ≡ table (mean d positive s t) (λ i. embed (P i)) j k
    unfolding table
    table_mean zero k h = refl
    table_mean (suc j) k h =
        affine_mean _ _ (exact j k (omega arith))
        ∙ ap₂ (mean d positive s t) (table_mean j k (omega arith)) (table_mean j (suc k) (omega arith))
