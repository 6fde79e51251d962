-- Sides, intervals and rectangles: their tests, the affine map of two, and the least one that holds two.
-- A side is a whole number of steps; a step is 1/1,024 ohm.
-- Assumes nothing.
use Rattle.std.specs.Prelude.{ℕ, ℤ, pos, neg_ℤ, ◌≤ℤ◌, Bool, ◌&&◌, cond, List, [], ◌∷◌}
use Rattle.std.specs.Int.Signed.{le_z}
use Rattle.rational.specs.Rounding.{Rounding, down, up}
use Rattle.rational.specs.Fraction.{Frac, whole, ◌≤ᶠ◌}
use Rattle.bernstein.specs.Affine.{affine, affine_exact}
use Rattle.curve.specs.declared.Interval.{Interval}
use Rattle.curve.specs.declared.Rect.{Rect}
use Rattle.curve.specs.Limits.{max_side}

abbrev pub zero_interval : Interval
zero_interval = record { low = pos 0; high = pos 0 }

abbrev pub zero_rect : Rect
zero_rect = record { resistance = zero_interval; reactance = zero_interval }

-- a rectangle's four sides in their order
abbrev pub sides : Rect → List ℤ
sides p = p.resistance.low ∷ p.resistance.high ∷ p.reactance.low ∷ p.reactance.high ∷ []

-- a rectangle's two coordinates
pub data Coordinate : Type 0 where
  resistance : Coordinate
  reactance : Coordinate

abbrev pub along : Coordinate → Rect → Interval
along resistance p = p.resistance
along reactance p = p.reactance

-- the end of an interval that is rounded so: the low one down, the high one up
abbrev pub end : Rounding → Interval → ℤ
end down i = i.low
end up i = i.high

-- one of a rectangle's four sides
abbrev pub side : Coordinate → Rounding → Rect → ℤ
side x r p = end r (along x p)

-- a side's range, both ends allowed
unfoldable pub in_range : ℤ → Bool
in_range z = le_z (neg_ℤ (pos max_side)) z && le_z z (pos max_side)

unfoldable pub ends_in_range : Interval → Bool
ends_in_range i = in_range i.low && in_range i.high

unfoldable pub sides_in_range : Rect → Bool
sides_in_range p = ends_in_range p.resistance && ends_in_range p.reactance

-- low is at most high
unfoldable pub ends_ordered : Interval → Bool
ends_ordered i = le_z i.low i.high

unfoldable pub sides_ordered : Rect → Bool
sides_ordered p = ends_ordered p.resistance && ends_ordered p.reactance

-- a side beyond or at another, outward: a low side at most it, a high side at least it
abbrev pub Outward : Rounding → ℤ → ℤ → Type 0
Outward down a b = b ≤ℤ a
Outward up a b = a ≤ℤ b

-- a value on the inner side of a side, edges included: at least a low, at most a high
abbrev pub Bounded : Rounding → Frac → ℤ → Type 0
Bounded down v s = whole s ≤ᶠ v
Bounded up v s = v ≤ᶠ whole s

-- the first rectangle lies inside the second, edges included
pub record Inside (inner outer : Rect) : Type 0 where
  pub at : (x : Coordinate) (r : Rounding) → Outward r (side x r inner) (side x r outer)

-- the affine map with the factors s and t, whose sum is d, rounded outward
unfoldable pub affine_interval : ℕ → ℕ → ℕ → Interval → Interval → Interval
affine_interval s t d i j =
    record { low = affine down s t d i.low j.low; high = affine up s t d i.high j.high }

unfoldable pub affine_rect : ℕ → ℕ → ℕ → Rect → Rect → Rect
affine_rect s t d p q =
    record {
      resistance = affine_interval s t d p.resistance q.resistance;
      reactance = affine_interval s t d p.reactance q.reactance;
    }

-- whether that map leaves no remainder, on the low side and on the high one
unfoldable pub exact_interval : ℕ → ℕ → ℕ → Interval → Interval → Bool
exact_interval s t d i j = affine_exact s t d i.low j.low && affine_exact s t d i.high j.high

unfoldable pub exact_rect : ℕ → ℕ → ℕ → Rect → Rect → Bool
exact_rect s t d p q = exact_interval s t d p.resistance q.resistance && exact_interval s t d p.reactance q.reactance

-- the least interval and the least rectangle that hold two
unfoldable pub least : ℤ → ℤ → ℤ
least a b = cond (le_z a b) a b

unfoldable pub greatest : ℤ → ℤ → ℤ
greatest a b = cond (le_z a b) b a

unfoldable pub hull_interval : Interval → Interval → Interval
hull_interval i j = record { low = least i.low j.low; high = greatest i.high j.high }

unfoldable pub hull : Rect → Rect → Rect
hull p q =
    record { resistance = hull_interval p.resistance q.resistance; reactance = hull_interval p.reactance q.reactance }
