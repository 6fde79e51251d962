-- Degree elevation by one over a commutative semiring does not change its value.
-- Assumes nothing.
use Prim.Native.Nat.{ℕ, zero, suc, ◌+◌, ◌-◌}
use native.Mathlib.Omega.{arith}
use mathlib.Core.Path.{◌≡◌, refl, sym, ap, ap₂, ◌∙◌}
use Rattle.bernstein.specs.DeCasteljau.{table, value}
use Rattle.bernstein.proofs.Elevate.{elevate}
use Rattle.bernstein.proofs.Semiring.{Semiring, polynomial, natural, plus_times, one_times}
use Rattle.bernstein.proofs.Exact.{mix}

module _ (𝓢 : Semiring) (e : 𝓢.carrier) where
  open 𝓢 use {carrier, ◌⊕◌, ◌⊗◌, nought, one}

  infixl 6 ◌⊕◌
  infixl 7 ◌⊗◌
  -- the exact map with the weights k and m, each times e
  unfoldable pub weighted : ℕ → ℕ → carrier → carrier → carrier
  weighted k m = mix 𝓢 (natural 𝓢 k ⊗ e) (natural 𝓢 m ⊗ e)

  -- a point with the weight 0 does not count
  pub weighted_edge : (n : ℕ) (a b : carrier) → weighted (suc n) 0 a b ≡ weighted (suc n) 0 a a
  unfolding weighted mix natural
  weighted_edge n a b = ap (λ x. natural 𝓢 (suc n) ⊗ e ⊗ a ⊕ x) (none b ∙ sym (none a))
    where
      none : (x : carrier) → nought ⊗ e ⊗ x ≡ nought
      none x = simp polynomial

module _ (𝓢 : Semiring) (s t : 𝓢.carrier) (P : ℕ → 𝓢.carrier) where
  open 𝓢 use {carrier, ◌⊕◌, ◌⊗◌, nought, one}

  infixl 6 ◌⊕◌
  infixl 7 ◌⊗◌
  -- a later stage of the point before
  before : (j k : ℕ) → natural 𝓢 k ⊗ table (mix 𝓢 s t) P (suc j) (k - 1) ≡
      natural 𝓢 k ⊗ mix 𝓢 s t (table (mix 𝓢 s t) P j (k - 1)) (table (mix 𝓢 s t) P j k)
  unfolding natural table
  before j zero = simp polynomial
  before j (suc k) = let q : suc k - 1 ≡ k = omega arith in rw q refl

  -- j times stage j - 1
  earlier : ℕ → ℕ → carrier
  earlier zero k = nought
  earlier (suc j) k = natural 𝓢 (suc j) ⊗ table (mix 𝓢 s t) P j k

  common_factor : (c x y : carrier) → mix 𝓢 s t (c ⊗ x) (c ⊗ y) ≡ c ⊗ mix 𝓢 s t x y
  unfolding mix
  common_factor c x y = simp (mix, polynomial)

  earlier_stage : (j k : ℕ) → mix 𝓢 s t (earlier j k) (earlier j (suc k)) ≡ natural 𝓢 j ⊗ table (mix 𝓢 s t) P j k
  unfolding earlier natural mix table
  earlier_stage zero k = simp (mix, polynomial)
  earlier_stage (suc j) k = common_factor (natural 𝓢 (suc j)) _ _

  rearranged : (e κ μ w x y g h : carrier) →
      mix 𝓢 s t (e ⊗ (κ ⊗ w ⊕ (μ ⊕ one) ⊗ x ⊕ g)) (e ⊗ ((κ ⊕ one) ⊗ x ⊕ μ ⊗ y ⊕ h)) ≡
      e ⊗ (κ ⊗ mix 𝓢 s t w x ⊕ μ ⊗ mix 𝓢 s t x y ⊕ (mix 𝓢 s t g h ⊕ (s ⊕ t) ⊗ x))
  unfolding mix
  rearranged e κ μ w x y g h = simp (mix, polynomial)

  module _ (unit : s ⊕ t ≡ one) (e : carrier) (n : ℕ) where
    start : (κ μ a b : carrier) → mix 𝓢 (κ ⊗ e) (μ ⊗ e) a b ≡ e ⊗ (κ ⊗ a ⊕ μ ⊗ b ⊕ nought)
    unfolding mix
    start κ μ a b = simp (mix, polynomial)

    last_term : (j k : ℕ) → mix 𝓢 s t (earlier j k) (earlier j (suc k)) ⊕ (s ⊕ t) ⊗ table (mix 𝓢 s t) P j k ≡ earlier (suc j) k
    unfolding earlier natural
    last_term j k = rw (earlier_stage j k, unit) (sym (plus_times 𝓢 _ _ _))

    -- a stage of the elevated sequence is a sum of three stages of the old one
    elevate-table : (m j k : ℕ) → m + j + k ≡ suc n →
        table (mix 𝓢 s t) (elevate (weighted 𝓢 e) n P) j k ≡
        e ⊗ (natural 𝓢 k ⊗ table (mix 𝓢 s t) P j (k - 1) ⊕ natural 𝓢 m ⊗ table (mix 𝓢 s t) P j k ⊕ earlier j k)
    unfolding table elevate weighted earlier natural
    elevate-table m zero k h = let q : suc n - k ≡ m = omega arith in rw q (start _ _ _ _)
    elevate-table m (suc j) k h =
        ap₂ (mix 𝓢 s t) (elevate-table (suc m) j k (omega arith)) (elevate-table m j (suc k) (omega arith)) ∙
        (let q : suc k - 1 ≡ k = omega arith in
        rw q
        (rearranged e (natural 𝓢 k) (natural 𝓢 m) _ _ _ _ _ ∙
        ap₂ (λ x y. e ⊗ (x ⊕ natural 𝓢 m ⊗ table (mix 𝓢 s t) P (suc j) k ⊕ y)) (sym (before j k)) (last_term j k)))

    cancel : (c x y : carrier) → c ⊗ e ≡ one → e ⊗ (nought ⊗ y ⊕ nought ⊗ y ⊕ c ⊗ x) ≡ x
    cancel c x y inverse = let q : e ⊗ (nought ⊗ y ⊕ nought ⊗ y ⊕ c ⊗ x) ≡ c ⊗ e ⊗ x = simp polynomial in q ∙ rw inverse (one_times 𝓢 x)

    pub elevate-value : natural 𝓢 (suc n) ⊗ e ≡ one → value (mix 𝓢 s t) (elevate (weighted 𝓢 e) n P) (suc n) ≡ value (mix 𝓢 s t) P n
    unfolding value earlier natural
    elevate-value inverse = elevate-table 0 (suc n) 0 (omega arith) ∙ cancel (natural 𝓢 (suc n)) _ _ inverse
