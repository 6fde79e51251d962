-- The rounded table and the rounded elevation keep a bound on the control points, and keep the order of two sequences, over any divisor and either rounding.
-- Assumes nothing.
use Prim.Native.Nat.{ℕ, suc, ◌+◌, ◌≤◌, ◌<◌}
use native.Mathlib.Omega.{arith}
use mathlib.Core.Path.{◌≡◌, sym, ap, ◌∙◌}
use lib.IntN.{ℤ, pos, ◌+ℤ◌, ◌*ℤ◌, zero-*ℤ}
use lib.Signed.{◌≤ℤ◌}
use Rattle.rational.specs.Rounding.{Rounding, quotient}
use Rattle.rational.proofs.Order.{≤ℤ-trans}
use Rattle.rational.proofs.Quotient.{convex_lower, convex_upper, convex_mono}
use Rattle.bernstein.specs.DeCasteljau.{table}
use Rattle.bernstein.specs.Affine.{affine}
use Rattle.bernstein.proofs.Table.{table_relation, table_property}
use Rattle.bernstein.proofs.Elevate.{elevate, elevate_relation, elevate_property}

-- the rounded map with the weights k and n + 1 - k over the divisor n + 1
abbrev pub rounded : Rounding → ℕ → ℕ → ℕ → ℤ → ℤ → ℤ
rounded r n k m = affine r k m (suc n)

-- a point with the weight 0 does not count
pub rounded_edge : (r : Rounding) (n : ℕ) (a b : ℤ) → rounded r n (suc n) 0 a b ≡ rounded r n (suc n) 0 a a
unfolding affine
rounded_edge r n a b = ap (λ x. quotient r (pos (suc n) *ℤ a +ℤ x) (suc n)) (zero-*ℤ b ∙ sym (zero-*ℤ a))

-- ---- a bound

pub record Within (low high z : ℤ) : Type 0 where
  pub least : low ≤ℤ z
  pub most : z ≤ℤ high

module _ (r : Rounding) (low high : ℤ) where
  affine-within :
      (s t d : ℕ) → s + t ≡ d → 0 < d → (a b : ℤ) → Within low high a → Within low high b → Within low high (affine r s t d a b)
  unfolding affine
  affine-within s t d h l a b p q = record {
    least = convex_lower r s t d h l low a b p.least q.least;
    most = convex_upper r s t d h l high a b p.most q.most;
  }

  module _ (P : ℕ → ℤ) (n : ℕ) (bounded : (k : ℕ) → k ≤ n → Within low high (P k)) where
    pub table-within :
        (s t d : ℕ) → s + t ≡ d → 0 < d → (j k : ℕ) → j + k ≤ n → Within low high (table (affine r s t d) P j k)
    table-within s t d h l = table_property (Within low high) (affine-within s t d h l) n bounded

    pub elevate-within : (k : ℕ) → k ≤ suc n → Within low high (elevate (rounded r n) n P k)
    elevate-within = elevate_property (Within low high) (Within low high) n (λ k m h. affine-within k m (suc n) h (omega arith)) (rounded_edge r n) bounded

-- ---- the order of two sequences, for two roundings of which one is at most the other

module _ (r r' : Rounding) (ordered : (d : ℕ) → 0 < d → (z : ℤ) → quotient r z d ≤ℤ quotient r' z d) where
  pub affine-ordered : (s t d : ℕ) → 0 < d → (a b x y : ℤ) → a ≤ℤ x → b ≤ℤ y → affine r s t d a b ≤ℤ affine r' s t d x y
  unfolding affine
  affine-ordered s t d l a b x y p q = ≤ℤ-trans (convex_mono r s t d l p q) (ordered d l (pos s *ℤ x +ℤ pos t *ℤ y))

  module _ (P Q : ℕ → ℤ) (n : ℕ) (below : (k : ℕ) → k ≤ n → P k ≤ℤ Q k) where
    pub table-ordered :
        (s t d : ℕ) → 0 < d → (j k : ℕ) → j + k ≤ n → table (affine r s t d) P j k ≤ℤ table (affine r' s t d) Q j k
    table-ordered s t d l = table_relation (λ j a x. a ≤ℤ x) (λ j. affine-ordered s t d l) n below

    pub elevate-ordered : (k : ℕ) → k ≤ suc n → elevate (rounded r n) n P k ≤ℤ elevate (rounded r' n) n Q k
    elevate-ordered = elevate_relation ◌≤ℤ◌ ◌≤ℤ◌ n (λ k m h. affine-ordered k m (suc n) (omega arith)) (rounded_edge r n) (rounded_edge r' n) below
