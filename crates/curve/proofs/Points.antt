-- Control points read back from a curve's places, and each side of the table's rectangles as the rounded table of that side alone.
-- Assumes nothing.
use mathlib.Core.Path.{◌≡◌, refl, ap, ◌∙◌}
use Prim.Native.Nat.{ℕ, ◌+◌, ◌-◌, ◌≤◌, ◌<◌}
use native.Mathlib.Numerals.{add-one}
use native.Mathlib.Omega.{arith}
use lib.IntN.{ℤ}
use Rattle.rational.specs.Rounding.{Rounding, down, up}
use Rattle.bernstein.specs.Affine.{affine}
use Rattle.bernstein.specs.DeCasteljau.{table, value, left, right}
use Rattle.bernstein.proofs.Table.{table_image}
use Rattle.bernstein.proofs.Elevate.{elevate}
use Rattle.bernstein.proofs.Bounds.{rounded}
use Rattle.curve.specs.declared.Rect.{Rect}
use Rattle.curve.specs.Limits.{max_degree}
use Rattle.curve.specs.Rect.{Coordinate, resistance, reactance, side, zero_rect, affine_interval, affine_rect}
use Rattle.curve.specs.Curve.{point, curve_of, elevated_point}
use Rattle.curve.proofs.Places.{points_at, points_past}

-- ---- places

-- the control points of a curve that is given by them
pub point_at : (n s : ℕ) (f : ℕ → Rect) (k : ℕ) → n ≤ max_degree → k ≤ n → point (curve_of n s f) k ≡ f k
point_at n s f k few h = points_at n f k (omega arith) h

-- zero past its degree
pub point-past : (n s : ℕ) (f : ℕ → Rect) (k : ℕ) → n < k → point (curve_of n s f) k ≡ zero_rect
point-past n s = points_past n

-- ---- sides

-- one side of a curve's control points
abbrev pub sides : Coordinate → Rounding → (ℕ → Rect) → ℕ → ℤ
sides x r P k = side x r (P k)

pub side-affine : (x : Coordinate) (r : Rounding) (s t d : ℕ) (p q : Rect) → side x r (affine_rect s t d p q) ≡ affine r s t d (side x r p) (side x r q)
unfolding affine_rect affine_interval
side-affine resistance down s t d p q = refl
side-affine resistance up s t d p q = refl
side-affine reactance down s t d p q = refl
side-affine reactance up s t d p q = refl

module _ (x : Coordinate) (r : Rounding) (P : ℕ → Rect) where
  module _ (s t d : ℕ) where
    pub side-table : (j k : ℕ) → side x r (table (affine_rect s t d) P j k) ≡ table (affine r s t d) (sides x r P) j k
    side-table = table_image (affine_rect s t d) (affine r s t d) (side x r) (side-affine x r s t d) P

    pub side-value : (n : ℕ) → side x r (value (affine_rect s t d) P n) ≡ value (affine r s t d) (sides x r P) n
    unfolding value
    side-value n = side-table n 0

    pub side_left : (k : ℕ) → side x r (left (affine_rect s t d) P k) ≡ left (affine r s t d) (sides x r P) k
    unfolding left
    side_left k = side-table k 0

    pub side_right : (n k : ℕ) → side x r (right (affine_rect s t d) P n k) ≡ right (affine r s t d) (sides x r P) n k
    unfolding right
    side_right n k = side-table (n - k) k

  pub side-elevated : (n k : ℕ) → side x r (elevated_point n P k) ≡ elevate (rounded r n) n (sides x r P) k
  unfolding elevated_point elevate
  side-elevated n k =
      side-affine x r k (n + 1 - k) (n + 1) (P (k - 1)) (P k)
      ∙ ap (λ (m : ℕ). affine r k (m - k) m (sides x r P (k - 1)) (sides x r P k)) (add-one n)
