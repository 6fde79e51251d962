-- De Casteljau's value over a commutative semiring is the Bernstein sum of the control points.
-- Assumes nothing.
use Prim.Native.Nat.{ℕ, zero, suc, ◌-◌, ◌<◌}
use native.Mathlib.Nat.{sub-zero}
use native.Mathlib.Omega.{arith}
use mathlib.Core.Path.{◌≡◌, refl, sym, ap, ap₂, ◌∙◌, fun_ext}
use Rattle.bernstein.specs.DeCasteljau.{table, value}
use Rattle.bernstein.specs.Bernstein.{choose}
use Rattle.bernstein.proofs.Table.{table_shift}
use Rattle.bernstein.proofs.Semiring.{Semiring, polynomial, natural, natural_plus, times_assoc, times_nought, plus_nought, power, total, total_first, total_linear}
use Rattle.bernstein.proofs.Exact.{mix}

-- nothing is chosen beyond n
choose_beyond : (n k : ℕ) → n < k → choose n k ≡ 0
unfolding choose
choose_beyond zero zero h = omega arith
choose_beyond zero (suc k) h = refl
choose_beyond (suc n) zero h = omega arith
choose_beyond (suc n) (suc k) h = let p = choose_beyond n k (omega arith) in let q = choose_beyond n (suc k) (omega arith) in omega arith

module _ (𝓢 : Semiring) (s t : 𝓢.carrier) where
  open 𝓢 use {carrier, ◌⊕◌, ◌⊗◌, nought, one}

  infixl 6 ◌⊕◌
  infixl 7 ◌⊗◌
  -- the weight of point k at degree n, by Pascal's rule
  weight : ℕ → ℕ → carrier
  weight zero zero = one
  weight zero (suc k) = nought
  weight (suc n) zero = s ⊗ weight n 0
  weight (suc n) (suc k) = s ⊗ weight n (suc k) ⊕ t ⊗ weight n k

  -- the weight in closed form
  term : ℕ → ℕ → carrier
  term n k = natural 𝓢 (choose n k) ⊗ power 𝓢 s (n - k) ⊗ power 𝓢 t k

  one_more : (c x y : carrier) → s ⊗ (c ⊗ x ⊗ y) ≡ c ⊗ (s ⊗ x) ⊗ y
  one_more c x y = simp polynomial

  -- one more factor s, where there is anything to choose
  term_power :
      (n k d : ℕ) → n - k ≡ d → s ⊗ term n (suc k) ≡ natural 𝓢 (choose n (suc k)) ⊗ power 𝓢 s d ⊗ power 𝓢 t (suc k)
  unfolding term natural power
  term_power n k zero h = let q = choose_beyond n (suc k) (omega arith) in simp (q, term, polynomial)
  term_power n k (suc d) h =
      let q : n - suc k ≡ d = omega arith in
      ap (λ e. s ⊗ (natural 𝓢 (choose n (suc k)) ⊗ power 𝓢 s e ⊗ power 𝓢 t (suc k))) q ∙ one_more _ _ _

  pascal : (a b x y : carrier) → a ⊗ x ⊗ (t ⊗ y) ⊕ t ⊗ (b ⊗ x ⊗ y) ≡ (b ⊕ a) ⊗ x ⊗ (t ⊗ y)
  pascal a b x y = simp polynomial

  weight-term : (n k : ℕ) → weight n k ≡ term n k
  unfolding weight term choose natural power
  weight-term zero zero = simp polynomial
  weight-term zero (suc k) = simp polynomial
  weight-term (suc n) zero = ap (λ x. s ⊗ x) (weight-term n 0) ∙ simp (sub-zero, polynomial)
  weight-term (suc n) (suc k) =
      let q : suc n - suc k ≡ n - k = omega arith in
      ap₂ (λ x y. x ⊕ t ⊗ y) (ap (λ x. s ⊗ x) (weight-term n (suc k)) ∙ term_power n k (n - k) refl) (weight-term n k) ∙
      pascal _ _ _ _ ∙ ap₂ (λ a e. a ⊗ power 𝓢 s e ⊗ power 𝓢 t (suc k)) (sym (natural_plus 𝓢 (choose n k) (choose n (suc k)))) (sym q)

  weight_beyond : (n k : ℕ) → n < k → weight n k ≡ nought
  unfolding term natural
  weight_beyond n k h = weight-term n k ∙ simp (choose_beyond n k h, term, polynomial)

  module _ (n : ℕ) (P : ℕ → carrier) where
    beyond_nought : total 𝓢 (λ k. P k ⊗ weight n k) (suc n) ≡ total 𝓢 (λ k. P k ⊗ weight n k) n
    unfolding total
    beyond_nought =
        ap (λ x. total 𝓢 (λ k. P k ⊗ weight n k) n ⊕ P (suc n) ⊗ x) (weight_beyond n (suc n) (omega arith)) ∙
        simp (times_nought, plus_nought)

    weights_apart :
        total 𝓢 (λ k. P (suc k) ⊗ weight (suc n) (suc k)) n ≡
        s ⊗ total 𝓢 (λ k. P (suc k) ⊗ weight n (suc k)) n ⊕ t ⊗ total 𝓢 (λ k. P (suc k) ⊗ weight n k) n
    unfolding weight
    weights_apart = ap (λ f. total 𝓢 f n) (fun_ext λ k. apart (P (suc k)) _ _) ∙ total_linear 𝓢 s t _ _ n
      where
        apart : (p x y : carrier) → p ⊗ (s ⊗ x ⊕ t ⊗ y) ≡ s ⊗ (p ⊗ x) ⊕ t ⊗ (p ⊗ y)
        apart p x y = simp polynomial

  regroup : (p w a b : carrier) → p ⊗ (s ⊗ w) ⊕ (s ⊗ a ⊕ t ⊗ b) ≡ mix 𝓢 s t (p ⊗ w ⊕ a) b
  unfolding mix
  regroup p w a b = simp (mix, polynomial)

  -- the sum by Pascal's weights is the value
  weighted_total : (n : ℕ) (P : ℕ → carrier) → total 𝓢 (λ k. P k ⊗ weight n k) n ≡ table (mix 𝓢 s t) P n 0
  unfolding table total weight
  weighted_total zero P = simp polynomial
  weighted_total (suc n) P =
      total_first 𝓢 (λ k. P k ⊗ weight (suc n) k) n ∙ ap (λ x. P 0 ⊗ weight (suc n) 0 ⊕ x) (weights_apart n P) ∙
      regroup (P 0) (weight n 0) _ _ ∙
      ap₂ (mix 𝓢 s t)
      (sym (total_first 𝓢 (λ k. P k ⊗ weight n k) n) ∙ beyond_nought n P ∙ weighted_total n P)
      (weighted_total n (λ k. P (suc k)) ∙ table_shift (mix 𝓢 s t) P n 0)

  pub bernstein-sum :
      (n : ℕ) (P : ℕ → carrier) →
      value (mix 𝓢 s t) P n ≡ total 𝓢 (λ k. P k ⊗ natural 𝓢 (choose n k) ⊗ power 𝓢 s (n - k) ⊗ power 𝓢 t k) n
  unfolding value term
  bernstein-sum n P =
      sym (weighted_total n P) ∙ ap (λ f. total 𝓢 f n) (fun_ext λ k. ap (λ x. P k ⊗ x) (weight-term n k) ∙ simp (← times_assoc))
