-- The two pieces of a curve over a commutative semiring are the curve itself, at other factors.
-- Assumes nothing.
use Prim.Native.Nat.{ℕ, zero, suc, ◌+◌, ◌-◌}
use native.Mathlib.Omega.{arith}
use mathlib.Core.Path.{◌≡◌, refl, sym, ap, ap₂, ◌∙◌, fun_ext}
use Rattle.bernstein.specs.DeCasteljau.{table, value, left, right}
use Rattle.bernstein.proofs.Table.{table-zero, table-first, table_shift}
use Rattle.bernstein.proofs.Semiring.{Semiring, polynomial}
use Rattle.bernstein.proofs.Exact.{mix, table_linear}

module _ (𝓢 : Semiring) where
  open 𝓢 use {carrier, ◌⊕◌, ◌⊗◌}

  infixl 6 ◌⊕◌
  infixl 7 ◌⊗◌
  -- the pieces are cut at the factors s and t, and read at the factors u and v
  module _ (s t u v : carrier) where
    left_factors : (a b : carrier) → mix 𝓢 u v a (mix 𝓢 s t a b) ≡ mix 𝓢 (u ⊕ v ⊗ s) (v ⊗ t) a b
    unfolding mix
    left_factors a b = simp (mix, polynomial)

    right_factors : (a b : carrier) → mix 𝓢 u v (mix 𝓢 s t a b) b ≡ mix 𝓢 (u ⊗ s) (u ⊗ t ⊕ v) a b
    unfolding mix
    right_factors a b = simp (mix, polynomial)

    module _ (P : ℕ → carrier) where
      -- an entry of the left piece's table is an entry of a stage of the parent's at the joint factors
      left-table :
          (j k : ℕ) → table (mix 𝓢 u v) (left (mix 𝓢 s t) P) j k ≡ table (mix 𝓢 s t) (table (mix 𝓢 (u ⊕ v ⊗ s) (v ⊗ t)) P j) k 0
      unfolding table left
      left-table zero k = refl
      left-table (suc j) k =
          ap₂ (mix 𝓢 u v) (left-table j k) (left-table j (suc k) ∙ table-first (mix 𝓢 s t) (table (mix 𝓢 (u ⊕ v ⊗ s) (v ⊗ t)) P j) k 0) ∙
          sym (table_linear 𝓢 s t u v _ _ k 0) ∙ ap (λ Q. table (mix 𝓢 s t) Q k 0) (fun_ext λ i. left_factors _ _)

      pub left-value : (n : ℕ) → value (mix 𝓢 u v) (left (mix 𝓢 s t) P) n ≡ value (mix 𝓢 (u ⊕ v ⊗ s) (v ⊗ t)) P n
      unfolding value
      left-value n = left-table n 0 ∙ table-zero _ _ 0

      -- the same of the right piece, within the triangle
      right-table :
          (n m j k : ℕ) → m + j + k ≡ n →
          table (mix 𝓢 u v) (right (mix 𝓢 s t) P n) j k ≡ table (mix 𝓢 s t) (table (mix 𝓢 (u ⊗ s) (u ⊗ t ⊕ v)) P j) m k
      unfolding table right
      right-table n m zero k h = let e : n - k ≡ m = omega arith in ap (λ i. table (mix 𝓢 s t) P i k) e
      right-table n m (suc j) k h =
          let Q : ℕ → carrier = table (mix 𝓢 (u ⊗ s) (u ⊗ t ⊕ v)) P j in
          ap₂ (mix 𝓢 u v)
          (right-table n (suc m) j k (omega arith) ∙ table-first (mix 𝓢 s t) Q m k)
          (right-table n m j (suc k) (omega arith) ∙ sym (table_shift (mix 𝓢 s t) Q m k)) ∙
          sym (table_linear 𝓢 s t u v _ _ m k) ∙ ap (λ Q. table (mix 𝓢 s t) Q m k) (fun_ext λ i. right_factors _ _)

      pub right-value :
          (n : ℕ) → value (mix 𝓢 u v) (right (mix 𝓢 s t) P n) n ≡ value (mix 𝓢 (u ⊗ s) (u ⊗ t ⊕ v)) P n
      unfolding value
      right-value n = right-table n 0 n 0 (omega arith) ∙ table-zero _ _ 0
