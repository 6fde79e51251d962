-- Over the rational numbers, with factors from 0 whose sum is 1, the exact table keeps an order of the control points, also up to a whole number.
-- Assumes nothing.
use Prim.Native.Nat.{ℕ, ◌+◌, ◌≤◌, ◌<◌}
use native.Mathlib.Nat.{le_refl}
use mathlib.Core.Path.{◌≡◌, refl, sym, ap, ap₂, subst, ◌∙◌}
use lib.IntN.{pos}
use Rattle.rational.proofs.Order.{pos_mono}
use Rattle.rational.proofs.Rational.{ℚ, embed, embed_add, ◌+ℚ◌, ◌-ℚ◌, +ℚ-zero, +ℚ-invr, -ℚ-cancel}
use Rattle.rational.proofs.RationalOrder.{◌≤ℚ◌, ≤ℚ-trans, +ℚ-mono, +ℚ-mono_left, +ℚ-mono_right, *ℚ-mono_left, embed_mono}
use Rattle.rational.proofs.Division.{ratio, ratio_nonneg, ratio_weights}
use Rattle.bernstein.specs.DeCasteljau.{table}
use Rattle.bernstein.proofs.Semiring.{Semiring, polynomial, plus_assoc, one_times}
use Rattle.bernstein.proofs.Exact.{mix}
use Rattle.bernstein.proofs.Table.{table_property}
use Rattle.bernstein.proofs.Rationals.{rationals}

-- x is at most y + c
pub record Excess (c : ℕ) (x y : ℚ) : Type 0 where
  pub bound : x ≤ℚ (y +ℚ embed (pos c))

pub excess_trans : {x y z : ℚ} (c d : ℕ) → Excess c x y → Excess d y z → Excess (d + c) x z
excess_trans {x} {y} {z} c d p q = record {
  bound =
      subst (λ w. x ≤ℚ w) (plus_assoc rationals z _ _ ∙ ap (λ w. z +ℚ w) (sym (embed_add (pos d) (pos c))))
      (≤ℚ-trans p.bound (+ℚ-mono_right (embed (pos c)) q.bound));
}

pub excess_weaken : {x y : ℚ} {c d : ℕ} → c ≤ d → Excess c x y → Excess d x y
excess_weaken {y = y} l p = record { bound = ≤ℚ-trans p.bound (+ℚ-mono_left y (embed_mono (pos_mono l))) }

-- an excess of 0 is the order
pub excess_order : {x y : ℚ} → Excess 0 x y → x ≤ℚ y
excess_order {x} {y} p = subst (λ w. x ≤ℚ w) (+ℚ-zero y) p.bound

pub order_excess : {x y : ℚ} → x ≤ℚ y → Excess 0 x y
order_excess {x} {y} p = record { bound = subst (λ w. x ≤ℚ w) (sym (+ℚ-zero y)) p }

-- two factors from 0 whose sum is 1
pub record Convex (s t : ℚ) : Type 0 where
  pub first : embed (pos 0) ≤ℚ s
  pub second : embed (pos 0) ≤ℚ t
  pub unit : s +ℚ t ≡ embed (pos 1)

pub convex_ratio : (d : ℕ) (positive : 0 < d) (s t : ℕ) → s + t ≡ d → Convex (ratio d positive (pos s)) (ratio d positive (pos t))
convex_ratio d positive s t h = record {
  first = ratio_nonneg d positive s;
  second = ratio_nonneg d positive t;
  unit = ratio_weights d positive s t h;
}

pub convex_parameter : {x : ℚ} → embed (pos 0) ≤ℚ x → x ≤ℚ embed (pos 1) → Convex (embed (pos 1) -ℚ x) x
convex_parameter {x} h k = record {
  first = subst (λ y. y ≤ℚ (embed (pos 1) -ℚ x)) (+ℚ-invr x) (+ℚ-mono_right _ k);
  second = h;
  unit = -ℚ-cancel (embed (pos 1)) x;
}

module _ (𝓢 : Semiring) where
  open 𝓢 use {carrier, ◌⊕◌, ◌⊗◌, one}

  infixl 6 ◌⊕◌
  infixl 7 ◌⊗◌
  -- a part added to both points is added to their mean
  mix_shift : (s t x y c : carrier) → s ⊕ t ≡ one → mix 𝓢 s t (x ⊕ c) (y ⊕ c) ≡ mix 𝓢 s t x y ⊕ c
  unfolding mix
  mix_shift s t x y c h =
      let q : mix 𝓢 s t (x ⊕ c) (y ⊕ c) ≡ mix 𝓢 s t x y ⊕ (s ⊕ t) ⊗ c = simp (mix, polynomial) in
      q ∙ ap (λ u. mix 𝓢 s t x y ⊕ u ⊗ c) h ∙ ap (λ u. mix 𝓢 s t x y ⊕ u) (one_times 𝓢 c)

  -- the mean of a point and itself
  mix_same : (s t x : carrier) → s ⊕ t ≡ one → mix 𝓢 s t x x ≡ x
  unfolding mix
  mix_same s t x h =
      let q : mix 𝓢 s t x x ≡ (s ⊕ t) ⊗ x = simp (mix, polynomial) in q ∙ ap (λ u. u ⊗ x) h ∙ one_times 𝓢 x

module _ {s t : ℚ} (convex : Convex s t) where
  -- points that are all the same have that value
  pub table_same : (x : ℚ) (j k : ℕ) → table (mix rationals s t) (λ i. x) j k ≡ x
  table_same x j k =
      table_property (λ y. y ≡ x) (λ a b p q. ap₂ (mix rationals s t) p q ∙ mix_same rationals s t x convex.unit) (j + k) (λ i h. refl) j k (le_refl _)

  mix_mono : {x y x' y' : ℚ} → x ≤ℚ x' → y ≤ℚ y' → mix rationals s t x y ≤ℚ mix rationals s t x' y'
  unfolding mix
  mix_mono p q = +ℚ-mono (*ℚ-mono_left convex.first p) (*ℚ-mono_left convex.second q)

  pub mix_excess :
      {x y x' y' : ℚ} (c : ℕ) → Excess c x x' → Excess c y y' → Excess c (mix rationals s t x y) (mix rationals s t x' y')
  mix_excess {x} {y} c p q = record {
    bound = subst (λ w. mix rationals s t x y ≤ℚ w) (mix_shift rationals s t _ _ _ convex.unit) (mix_mono p.bound q.bound);
  }

  -- a bound on the points is a bound on the table
  pub table-least :
      {P : ℕ → ℚ} (low : ℚ) (n : ℕ) → ((k : ℕ) → k ≤ n → low ≤ℚ P k) →
      (j k : ℕ) → j + k ≤ n → low ≤ℚ table (mix rationals s t) P j k
  table-least low =
      table_property (λ x. low ≤ℚ x) (λ a b p q. subst (λ w. w ≤ℚ mix rationals s t a b) (mix_same rationals s t low convex.unit) (mix_mono p q))

  pub table-most :
      {P : ℕ → ℚ} (high : ℚ) (n : ℕ) → ((k : ℕ) → k ≤ n → P k ≤ℚ high) →
      (j k : ℕ) → j + k ≤ n → table (mix rationals s t) P j k ≤ℚ high
  table-most high =
      table_property (λ x. x ≤ℚ high) (λ a b p q. subst (λ w. mix rationals s t a b ≤ℚ w) (mix_same rationals s t high convex.unit) (mix_mono p q))
