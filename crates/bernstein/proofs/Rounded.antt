-- How far the rounded table and the rounded elevation lie from the exact ones, above and below, over any degree, any divisor and either rounding.
-- Assumes nothing.
use Prim.Native.Nat.{ℕ, suc, ◌+◌, ◌*◌, ◌-◌, ◌≤◌, ◌<◌}
use native.Mathlib.Nat.{mul-suc, add-suc, add-zero, add_comm, mul-le-mul_left}
use native.Mathlib.Omega.{arith}
use mathlib.Core.Path.{◌≡◌, subst}
use lib.IntN.{ℤ, pos, ◌+ℤ◌, ◌*ℤ◌}
use Rattle.rational.specs.Rounding.{Rounding, quotient}
use Rattle.rational.proofs.Quotient.{above, below}
use Rattle.rational.proofs.Rational.{ℚ, embed, ◌+ℚ◌}
use Rattle.rational.proofs.RationalOrder.{◌≤ℚ◌}
use Rattle.rational.proofs.Division.{quotient-at-most, quotient-at-least, ratio_affine}
use Rattle.bernstein.specs.DeCasteljau.{table, left, right}
use Rattle.bernstein.specs.Affine.{affine}
use Rattle.bernstein.proofs.Exact.{mix}
use Rattle.bernstein.proofs.Table.{table_relation}
use Rattle.bernstein.proofs.Elevate.{elevate, elevate_relation}
use Rattle.bernstein.proofs.Bounds.{rounded, rounded_edge}
use Rattle.bernstein.proofs.Rationals.{mean, mean_edge}
use Rattle.bernstein.proofs.Convex.{Excess, excess_trans, excess_weaken, mix_excess, convex_ratio}

-- the two sides on which a rounded number may lie of an exact one
pub data Side : Type 0 where
  over : Side
  under : Side

-- a whole number lies at most c on the side of an exact one
abbrev pub Near : Side → ℕ → ℤ → ℚ → Type 0
Near over c a x = Excess c (embed a) x
Near under c a x = Excess c x (embed a)

-- what one rounding adds on a side
abbrev pub error : Side → Rounding → ℕ
error over r = above r
error under r = below r

pub near_weaken : (side : Side) (c d : ℕ) (a : ℤ) (x : ℚ) → c ≤ d → Near side c a x → Near side d a x
near_weaken over c d a x l p = excess_weaken l p
near_weaken under c d a x l p = excess_weaken l p

module _ (r : Rounding) (s t d : ℕ) (whole-weight : s + t ≡ d) (positive : 0 < d) where
  affine-over : (a b : ℤ) → Excess (above r) (embed (affine r s t d a b)) (mean d positive s t (embed a) (embed b))
  unfolding affine mean mix
  affine-over a b =
      let z = pos s *ℤ a +ℤ pos t *ℤ b in
      record {
        bound =
            subst (λ x. embed (quotient r z d) ≤ℚ (x +ℚ embed (pos (above r)))) (ratio_affine d positive (pos s) (pos t) a b)
            (quotient-at-most d positive r z);
      }

  affine_under : (a b : ℤ) → Excess (below r) (mean d positive s t (embed a) (embed b)) (embed (affine r s t d a b))
  unfolding affine mean mix
  affine_under a b =
      let z = pos s *ℤ a +ℤ pos t *ℤ b in
      record {
        bound =
            subst (λ x. x ≤ℚ (embed (quotient r z d) +ℚ embed (pos (below r)))) (ratio_affine d positive (pos s) (pos t) a b)
            (quotient-at-least d positive r z);
      }

  pub mean_excess :
      {x y x' y' : ℚ} (c : ℕ) → Excess c x x' → Excess c y y' → Excess c (mean d positive s t x y) (mean d positive s t x' y')
  unfolding mean
  mean_excess = mix_excess (convex_ratio d positive s t whole-weight)

  -- one rounded mean is one rounding further from the exact one
  pub affine-near :
      (side : Side) (c : ℕ) (a b : ℤ) (x y : ℚ) → Near side c a x → Near side c b y →
      Near side (c + error side r) (affine r s t d a b) (mean d positive s t x y)
  affine-near over c a b x y p q = excess_trans (above r) c (affine-over a b) (mean_excess c p q)
  affine-near under c a b x y p q = rw (add_comm c) (excess_trans c (below r) (mean_excess c p q) (affine_under a b))

  module _ (side : Side) (P : ℕ → ℤ) (q : ℕ → ℚ) (n c : ℕ) (start : (k : ℕ) → k ≤ n → Near side (error side r * c) (P k) (q k)) where
    -- stage j is j roundings further
    pub table-near :
        (j k : ℕ) → j + k ≤ n → Near side (error side r * (c + j)) (table (affine r s t d) P j k) (table (mean d positive s t) q j k)
    table-near =
        table_relation (λ j a x. Near side (error side r * (c + j)) a x)
        (λ j a b x y u v. rw (add-suc, mul-suc) (affine-near side _ a b x y u v)) n (λ k h. rw add-zero (start k h))

    -- the points of the two pieces are at most n roundings further
    entry-near :
        (j k : ℕ) → j + k ≤ n → Near side (error side r * (c + n)) (table (affine r s t d) P j k) (table (mean d positive s t) q j k)
    entry-near j k h = near_weaken side _ _ _ _ (mul-le-mul_left (error side r) (omega arith)) (table-near j k h)

    pub left_near :
        (k : ℕ) → k ≤ n → Near side (error side r * (c + n)) (left (affine r s t d) P k) (left (mean d positive s t) q k)
    unfolding left
    left_near k h = entry-near k 0 (omega arith)

    pub right_near :
        (k : ℕ) → k ≤ n → Near side (error side r * (c + n)) (right (affine r s t d) P n k) (right (mean d positive s t) q n k)
    unfolding right
    right_near k h = entry-near (n - k) k (omega arith)

-- one elevation is one rounding further
pub elevate-near :
    (r : Rounding) (n : ℕ) (positive : 0 < suc n) (side : Side) (P : ℕ → ℤ) (q : ℕ → ℚ) (c : ℕ) →
    ((k : ℕ) → k ≤ n → Near side (error side r * c) (P k) (q k)) →
    (k : ℕ) → k ≤ suc n → Near side (error side r * suc c) (elevate (rounded r n) n P k) (elevate (mean (suc n) positive) n q k)
elevate-near r n positive side P q c =
    elevate_relation (Near side (error side r * c)) (Near side (error side r * suc c)) n
    (λ k m h a b x y u v. rw mul-suc (affine-near r k m (suc n) h positive side _ a b x y u v)) (rounded_edge r n) (mean_edge n positive)
