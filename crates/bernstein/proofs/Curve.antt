-- A curve over the rational numbers as a function of its parameter: its pieces and its elevated form are the curve itself, and its value is the Bernstein sum.
-- Assumes nothing.
use Prim.Native.Nat.{ℕ, suc, ◌<◌}
use mathlib.Core.Path.{◌≡◌, sym, ap, ◌∙◌}
use lib.IntN.{pos}
use Rattle.rational.specs.Fraction.{Frac}
use Rattle.rational.proofs.Rational.{ℚ, rat, rat_complement, embed, ◌+ℚ◌, ◌-ℚ◌, ◌*ℚ◌, +ℚ-cancel, -ℚ-cancel}
use Rattle.bernstein.specs.DeCasteljau.{value, left, right}
use Rattle.bernstein.specs.Bernstein.{bernstein}
use Rattle.bernstein.proofs.Semiring.{Semiring, polynomial}
use Rattle.bernstein.proofs.Exact.{mix}
use Rattle.bernstein.proofs.Elevate.{elevate}
use Rattle.bernstein.proofs.Subdivision.{left-value, right-value}
use Rattle.bernstein.proofs.Elevation.{elevate-value}
use Rattle.bernstein.proofs.Rationals.{rationals, mean, mean_weighted, one_ratio, bernstein-value}

-- the value at x of the curve of degree n
unfoldable pub curve : (ℕ → ℚ) → ℕ → ℚ → ℚ
curve P n x = value (mix rationals (embed (pos 1) -ℚ x) x) P n

-- the factor beside x is 1 - x
pub curve-at : (P : ℕ → ℚ) (n : ℕ) (s t : ℚ) → s +ℚ t ≡ embed (pos 1) → value (mix rationals s t) P n ≡ curve P n t
unfolding curve
curve-at P n s t h = ap (λ a. value (mix rationals a t) P n) (sym (+ℚ-cancel s t) ∙ ap (λ a. a -ℚ t) h)

pub bernstein-curve : (n : ℕ) (p : ℕ → Frac) (x : Frac) → rat (bernstein n p x) ≡ curve (λ k. rat (p k)) n (rat x)
unfolding curve
bernstein-curve n p x = bernstein-value n p x ∙ ap (λ a. value (mix rationals a (rat x)) (λ k. rat (p k)) n) (rat_complement x)

-- a sum of factors whose sums are 1
module _ (𝓢 : Semiring) where
  open 𝓢 use {carrier, ◌⊕◌, ◌⊗◌, one}

  infixl 6 ◌⊕◌
  infixl 7 ◌⊗◌
  left_unit : (s t u v : carrier) → s ⊕ t ≡ one → u ⊕ v ≡ one → u ⊕ v ⊗ s ⊕ v ⊗ t ≡ one
  left_unit s t u v h k =
      let q : u ⊕ v ⊗ s ⊕ v ⊗ t ≡ u ⊕ v ⊗ (s ⊕ t) = simp polynomial in q ∙ ap (λ x. u ⊕ v ⊗ x) h ∙ simp polynomial k

  right_unit : (s t u v : carrier) → s ⊕ t ≡ one → u ⊕ v ≡ one → u ⊗ s ⊕ (u ⊗ t ⊕ v) ≡ one
  right_unit s t u v h k =
      let q : u ⊗ s ⊕ (u ⊗ t ⊕ v) ≡ u ⊗ (s ⊕ t) ⊕ v = simp polynomial in q ∙ ap (λ x. u ⊗ x ⊕ v) h ∙ simp polynomial k

  right-parameter : (s t u v : carrier) → s ⊕ t ≡ one → u ⊕ v ≡ one → u ⊗ t ⊕ v ≡ t ⊕ s ⊗ v
  right-parameter s t u v h k =
      let p : u ⊗ t ⊕ v ≡ u ⊗ t ⊕ v ⊗ one = simp polynomial in
      let q : u ⊗ t ⊕ v ⊗ (s ⊕ t) ≡ (u ⊕ v) ⊗ t ⊕ s ⊗ v = simp polynomial in
      p ∙ ap (λ x. u ⊗ t ⊕ v ⊗ x) (sym h) ∙ q ∙ ap (λ x. x ⊗ t ⊕ s ⊗ v) k ∙ simp polynomial

-- the pieces of a curve subdivided at t, and its elevated form
module _ (P : ℕ → ℚ) (n : ℕ) (x : ℚ) where
  pub left-curve : (s t : ℚ) → s +ℚ t ≡ embed (pos 1) → curve (left (mix rationals s t) P) n x ≡ curve P n (x *ℚ t)
  unfolding curve
  left-curve s t h =
      left-value rationals s t (embed (pos 1) -ℚ x) x P n ∙ curve-at P n _ _ (left_unit rationals s t (embed (pos 1) -ℚ x) x h (-ℚ-cancel (embed (pos 1)) x))

  pub right-curve : (s t : ℚ) → s +ℚ t ≡ embed (pos 1) → curve (right (mix rationals s t) P n) n x ≡ curve P n (t +ℚ s *ℚ x)
  unfolding curve
  right-curve s t h =
      right-value rationals s t (embed (pos 1) -ℚ x) x P n ∙
      curve-at P n _ _ (right_unit rationals s t (embed (pos 1) -ℚ x) x h (-ℚ-cancel (embed (pos 1)) x)) ∙
      ap (curve P n) (right-parameter rationals s t (embed (pos 1) -ℚ x) x h (-ℚ-cancel (embed (pos 1)) x))

  pub elevate-curve : (positive : 0 < suc n) → curve (elevate (mean (suc n) positive) n P) (suc n) x ≡ curve P n x
  unfolding curve
  elevate-curve positive =
      ap (λ f. curve (elevate f n P) (suc n) x) (sym (mean_weighted (suc n) positive)) ∙
      elevate-value rationals (embed (pos 1) -ℚ x) x P (-ℚ-cancel (embed (pos 1)) x) _ n (one_ratio (suc n) positive)
