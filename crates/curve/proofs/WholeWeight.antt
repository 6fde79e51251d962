-- A rectangle whose weight is the whole divisor is kept exactly, and nothing is left over.
-- Assumes nothing.
use mathlib.Core.Path.{◌≡◌}
use mathlib.Core.Bool.{true}
use Prim.Native.Nat.{ℕ, ◌<◌}
use Rattle.bernstein.proofs.WholeWeight.{affine-first, affine_second, exact_first, exact_second}
use Rattle.curve.specs.declared.Rect.{Rect}
use Rattle.curve.specs.Rect.{side, affine_rect, exact_rect}
use Rattle.curve.proofs.RectSides.{affine-rect_is, sides_exact}

module _ (d : ℕ) (positive : 0 < d) where
  pub affine-rect-first : (p q : Rect) → affine_rect d 0 d p q ≡ p
  affine-rect-first p q = affine-rect_is d 0 d p q p (λ x r. affine-first d positive r (side x r p) (side x r q))

  pub affine-rect_second : (p q : Rect) → affine_rect 0 d d p q ≡ q
  affine-rect_second p q = affine-rect_is 0 d d p q q (λ x r. affine_second d positive r (side x r p) (side x r q))

pub exact_rect-first : (d : ℕ) (p q : Rect) → exact_rect d 0 d p q ≡ true
exact_rect-first d p q = sides_exact d 0 d p q (λ x r. exact_first d (side x r p) (side x r q))

pub exact_rect_second : (d : ℕ) (p q : Rect) → exact_rect 0 d d p q ≡ true
exact_rect_second d p q = sides_exact 0 d d p q (λ x r. exact_second d (side x r p) (side x r q))
