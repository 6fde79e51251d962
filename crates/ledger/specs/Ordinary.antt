-- Ordinary Bézier curves, whose control points are points and no rectangles, and what is exact about an interval curve.
-- Assumes nothing.
use Rattle.std.specs.Prelude.{◌≡◌, ℕ, ◌≤◌}
use Rattle.rational.specs.Rounding.{Rounding}
use Rattle.rational.specs.Fraction.{Frac, whole}
use Rattle.bernstein.specs.Bernstein.{bernstein}
use Rattle.curve.specs.declared.Curve.{Curve}
use Rattle.curve.specs.Rect.{Coordinate, side, Bounded}
use Rattle.curve.specs.Curve.{point}

-- an ordinary curve: its degree, and coordinate x of control point k in steps
pub record Ordinary : Type 0 where
  pub degree : ℕ
  pub control : Coordinate → ℕ → Frac

-- the ordinary curve is inside the curve's rectangles
pub record InsideOf (o : Ordinary) (c : Curve) : Type 0 where
  pub degrees : o.degree ≡ c.degree
  pub controls : (x : Coordinate) (r : Rounding) (k : ℕ) → k ≤ c.degree → Bounded r (o.control x k) (side x r (point c k))

-- coordinate x of the ordinary curve's load at a place
abbrev pub load_at : Ordinary → Coordinate → Frac → Frac
load_at o x place = bernstein o.degree (o.control x) place

-- the exact side of an interval curve at a place
abbrev pub exact_side : Curve → Coordinate → Rounding → Frac → Frac
exact_side c x r place = bernstein c.degree (λ k. whole (side x r (point c k))) place
