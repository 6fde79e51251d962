-- De Casteljau's table over a commutative semiring, exactly: each entry is linear in the sequence.
-- Assumes nothing.
use Prim.Native.Nat.{ℕ, zero, suc}
use mathlib.Core.Path.{◌≡◌, refl, ap₂, ◌∙◌}
use Rattle.bernstein.specs.DeCasteljau.{table}
use Rattle.bernstein.proofs.Semiring.{Semiring, polynomial}

module _ (𝓢 : Semiring) where
  open 𝓢 use {carrier, ◌⊕◌, ◌⊗◌}

  infixl 6 ◌⊕◌
  infixl 7 ◌⊗◌
  -- the exact map with factors s and t
  unfoldable pub mix : carrier → carrier → carrier → carrier → carrier
  mix s t a b = s ⊗ a ⊕ t ⊗ b

  mix_mix : (s t a b u v x y : carrier) → mix s t (mix a b u v) (mix a b x y) ≡ mix a b (mix s t u x) (mix s t v y)
  unfolding mix
  mix_mix s t a b u v x y = simp (mix, polynomial)

  -- the table of a sum of two sequences, each with a factor
  pub table_linear :
      (s t a b : carrier) (P Q : ℕ → carrier) (j k : ℕ) →
      table (mix s t) (λ i. mix a b (P i) (Q i)) j k ≡ mix a b (table (mix s t) P j k) (table (mix s t) Q j k)
  unfolding table
  table_linear s t a b P Q zero k = refl
  table_linear s t a b P Q (suc j) k =
      ap₂ (mix s t) (table_linear s t a b P Q j k) (table_linear s t a b P Q j (suc k)) ∙ mix_mix s t a b _ _ _ _
