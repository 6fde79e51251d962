-- A rectangle is its four sides, so a law of every side of a map is a law of the rectangle.
-- Assumes nothing.
use mathlib.Core.Path.{◌≡◌, sym, ◌∙◌}
use mathlib.Core.Bool.{true}
use Prim.Native.Nat.{ℕ}
use Rattle.rational.specs.Rounding.{Rounding, down, up}
use Rattle.rational.proofs.Truth.{same_truth, and_both, both_and}
use Rattle.bernstein.specs.Affine.{affine, affine_exact}
use Rattle.curve.specs.declared.Interval.{Interval}
use Rattle.curve.specs.declared.Rect.{Rect}
use Rattle.curve.specs.Rect.{Coordinate, resistance, reactance, end, side, affine_rect, exact_interval, exact_rect}
use Rattle.curve.proofs.Points.{side-affine}

pub same-sides : {p q : Rect} → ((x : Coordinate) (r : Rounding) → side x r p ≡ side x r q) → p ≡ q
same-sides h i =
    record {
      resistance = record { low = h resistance down i; high = h resistance up i };
      reactance = record { low = h reactance down i; high = h reactance up i };
    }

pub affine-rect_is :
    (s t d : ℕ) (p q o : Rect) → ((x : Coordinate) (r : Rounding) → affine r s t d (side x r p) (side x r q) ≡ side x r o) →
    affine_rect s t d p q ≡ o
affine-rect_is s t d p q o h = same-sides (λ x r. side-affine x r s t d p q ∙ h x r)

-- the map of two rectangles leaves no remainder exactly if no side does
pub exact_sides : (s t d : ℕ) (p q : Rect) → exact_rect s t d p q ≡ true → (x : Coordinate) (r : Rounding) → affine_exact s t d (side x r p) (side x r q) ≡ true
unfolding exact_rect exact_interval
exact_sides s t d p q h x r = go x r
  where
    both : (i j : Interval) → exact_interval s t d i j ≡ true → (affine_exact s t d i.low j.low ≡ true) × (affine_exact s t d i.high j.high ≡ true)
    both i j = and_both (affine_exact s t d i.low j.low) (affine_exact s t d i.high j.high)

    ends : (i j : Interval) → exact_interval s t d i j ≡ true → (r : Rounding) → affine_exact s t d (end r i) (end r j) ≡ true
    ends i j h down = (both i j h).0
    ends i j h up = (both i j h).1

    parts : (exact_interval s t d p.resistance q.resistance ≡ true) × (exact_interval s t d p.reactance q.reactance ≡ true)
    parts = and_both (exact_interval s t d p.resistance q.resistance) (exact_interval s t d p.reactance q.reactance) h

    go : (x : Coordinate) (r : Rounding) → affine_exact s t d (side x r p) (side x r q) ≡ true
    go resistance = ends p.resistance q.resistance parts.0
    go reactance = ends p.reactance q.reactance parts.1

pub sides_exact : (s t d : ℕ) (p q : Rect) → ((x : Coordinate) (r : Rounding) → affine_exact s t d (side x r p) (side x r q) ≡ true) → exact_rect s t d p q ≡ true
unfolding exact_rect exact_interval
sides_exact s t d p q h = both_and (both_and (h resistance down) (h resistance up)) (both_and (h reactance down) (h reactance up))

-- so it depends on the sides alone
pub exact_rect_equal :
    (s t d s' t' d' : ℕ) (p q p' q' : Rect) →
    ((x : Coordinate) (r : Rounding) → affine_exact s t d (side x r p) (side x r q) ≡ affine_exact s' t' d' (side x r p') (side x r q')) →
    exact_rect s t d p q ≡ exact_rect s' t' d' p' q'
exact_rect_equal s t d s' t' d' p q p' q' h =
    same_truth (exact_rect s t d p q) (exact_rect s' t' d' p' q')
    (λ lit. sides_exact s' t' d' p' q' (λ x r. sym (h x r) ∙ exact_sides s t d p q lit x r))
    (λ lit. sides_exact s t d p q (λ x r. h x r ∙ exact_sides s' t' d' p' q' lit x r))
