-- The rational numbers as a commutative semiring, and specs' Bernstein sum as the value of de Casteljau's table over them.
-- Assumes nothing.
use Prim.Native.Nat.{ℕ, zero, suc, ◌-◌, ◌<◌}
use native.Mathlib.Numerals.{add-one}
use mathlib.Core.Path.{◌≡◌, refl, sym, ap, ap₂, subst, ◌∙◌, fun_ext}
use lib.IntN.{pos}
use Rattle.rational.specs.Fraction.{Frac, complement, ◌^ᶠ◌}
use Rattle.rational.proofs.Rational.{ℚ, rat, rat_add, rat_mul, rat_whole, embed, embed_add, +ℚ-zero, *ℚ-one, *ℚ-zero, ◌+ℚ◌, ◌*ℚ◌, +ℚ-assoc, +ℚ-comm, *ℚ-assoc, *ℚ-comm, *ℚ-distrib_left}
use Rattle.rational.proofs.Division.{ratio, ratio_is, ratio_mul}
use Rattle.bernstein.specs.DeCasteljau.{value}
use Rattle.bernstein.specs.Bernstein.{choose, sum_to, term, bernstein}
use Rattle.bernstein.proofs.Semiring.{Semiring, natural, power, total}
use Rattle.bernstein.proofs.Exact.{mix}
use Rattle.bernstein.proofs.Elevation.{weighted, weighted_edge}
use Rattle.bernstein.proofs.BernsteinSum.{bernstein-sum}

abbrev pub rationals : Semiring
rationals =
    record {
      carrier = ℚ;
      ◌⊕◌ = ◌+ℚ◌;
      ◌⊗◌ = ◌*ℚ◌;
      nought = embed (pos 0);
      one = embed (pos 1);
      sum_associative = +ℚ-assoc;
      sum_commutative = +ℚ-comm;
      sum_nought = +ℚ-zero;
      product_associative = *ℚ-assoc;
      product_commutative = *ℚ-comm;
      product_one = *ℚ-one;
      product_nought = *ℚ-zero;
      distributive = *ℚ-distrib_left;
    }

-- a natural number of the semiring
pub natural_embed : (n : ℕ) → natural rationals n ≡ embed (pos n)
unfolding natural
natural_embed zero = refl
natural_embed (suc n) = ap (λ x. x +ℚ embed (pos 1)) (natural_embed n) ∙ sym (embed_add (pos n) (pos 1)) ∙ ap (λ (m : ℕ). embed (pos m)) (add-one n)

-- the exact mean of two numbers with the weights s and t over d
unfoldable pub mean : (d : ℕ) → 0 < d → ℕ → ℕ → ℚ → ℚ → ℚ
mean d positive s t = mix rationals (ratio d positive (pos s)) (ratio d positive (pos t))

weight_ratio : (d : ℕ) (positive : 0 < d) (s : ℕ) → natural rationals s *ℚ ratio d positive (pos 1) ≡ ratio d positive (pos s)
weight_ratio d positive s = ap (λ x. x *ℚ ratio d positive (pos 1)) (natural_embed s) ∙ sym (ratio_is d positive (pos s))

-- its weights are multiples of 1 / d
pub mean_weighted : (d : ℕ) (positive : 0 < d) → weighted rationals (ratio d positive (pos 1)) ≡ mean d positive
unfolding mean weighted
mean_weighted d positive =
    fun_ext λ s. fun_ext λ t. ap₂ (mix rationals) (weight_ratio d positive s) (weight_ratio d positive t)

pub mean_edge : (n : ℕ) (positive : 0 < suc n) (a b : ℚ) → mean (suc n) positive (suc n) 0 a b ≡ mean (suc n) positive (suc n) 0 a a
mean_edge n positive a b =
    subst (λ f. f (suc n) 0 a b ≡ f (suc n) 0 a a) (mean_weighted (suc n) positive) (weighted_edge rationals _ n a b)

-- (n + 1) × 1 / (n + 1)
pub one_ratio : (d : ℕ) (positive : 0 < d) → natural rationals d *ℚ ratio d positive (pos 1) ≡ embed (pos 1)
one_ratio d positive =
    ap (λ x. x *ℚ ratio d positive (pos 1)) (natural_embed d) ∙ *ℚ-comm _ _ ∙ ratio_mul d positive (pos 1)

power_rat : (x : Frac) (k : ℕ) → rat (x ^ᶠ k) ≡ power rationals (rat x) k
unfolding power ◌^ᶠ◌
power_rat x zero = rat_whole (pos 1)
power_rat x (suc k) = rat_mul x (x ^ᶠ k) ∙ ap (λ y. rat x *ℚ y) (power_rat x k)

total_rat : (f : ℕ → Frac) (n : ℕ) → rat (sum_to f n) ≡ total rationals (λ k. rat (f k)) n
unfolding total sum_to
total_rat f zero = refl
total_rat f (suc n) = rat_add (sum_to f n) (f (suc n)) ∙ ap (λ y. y +ℚ rat (f (suc n))) (total_rat f n)

-- the Bernstein sum at x is the value at the factors 1 - x and x
pub bernstein-value :
    (n : ℕ) (p : ℕ → Frac) (x : Frac) →
    rat (bernstein n p x) ≡ value (mix rationals (rat (complement x)) (rat x)) (λ k. rat (p k)) n
unfolding bernstein term
bernstein-value n p x =
    total_rat (term n p x) n ∙ ap (λ f. total rationals f n) (fun_ext λ k. parts k) ∙
    sym (bernstein-sum rationals (rat (complement x)) (rat x) n (λ k. rat (p k)))
  where
    parts : (k : ℕ) →
        rat (term n p x k) ≡
        rat (p k) *ℚ natural rationals (choose n k) *ℚ power rationals (rat (complement x)) (n - k) *ℚ power rationals (rat x) k
    parts k =
        rat_mul _ (x ^ᶠ k) ∙
        ap₂ ◌*ℚ◌
        (rat_mul _ (complement x ^ᶠ (n - k)) ∙
        ap₂ ◌*ℚ◌ (rat_mul (p k) _ ∙ ap (λ y. rat (p k) *ℚ y) (rat_whole (pos (choose n k)) ∙ sym (natural_embed (choose n k)))) (power_rat (complement x) (n - k)))
        (power_rat x k)
