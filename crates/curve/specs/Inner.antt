-- What the functions inside the crate ask of each other. No public contract cites it.
-- Assumes nothing.
use Rattle.std.specs.Prelude.{◌≡◌, Bool, List, ℕ, suc, ◌+◌, ◌*◌, ◌≤◌, ◌<◌, ℤ, pos, neg_ℤ, get_or, ◌≤ℤ◌}
use Rattle.std.specs.Int.{div_ceil}
use Rattle.rational.specs.Rounding.{Rounding}
use Rattle.bernstein.specs.DeCasteljau as DeCasteljau
use Rattle.bernstein.specs.DeCasteljau.{all_below}
use Rattle.curve.specs.declared.Interval.{Interval}
use Rattle.curve.specs.declared.Rect.{Rect}
use Rattle.curve.specs.declared.Curve.{Curve}
use Rattle.curve.specs.Limits.{max_degree, places, max_side, max_den}
use Rattle.curve.specs.Rect.{Coordinate, zero_rect, end, along, affine_rect, exact_rect}
use Rattle.curve.specs.Curve.{point}

-- a side within its range
pub record Side (z : ℤ) : Type 0 where
  pub from : neg_ℤ (pos max_side) ≤ℤ z
  pub to : z ≤ℤ pos max_side

-- both ends within their range
pub record Sides (i : Interval) : Type 0 where
  pub at : (r : Rounding) → Side (end r i)

-- all four sides within their range
pub record Held (p : Rect) : Type 0 where
  pub at : (x : Coordinate) → Sides (along x p)

-- two factors and the divisor that they add up to
pub record Factors (s t den : ℕ) : Type 0 where
  pub total : s + t ≡ den
  pub positive : 0 < den
  pub small : den ≤ max_den

-- the scale of a factor's part of its divisor, 2 to the power 31
abbrev pub scale : ℕ
scale = 2147483648

-- t / den in parts of the scale, or at most as many parts more as the highest degree, the largest factor of an elevation
pub record Part (t den part : ℕ) : Type 0 where
  pub least : t * scale ≤ part * den
  pub most : part * den ≤ t * scale + max_degree * den

-- how often a divisor goes into the least multiple of it that is at least twice the largest side
abbrev pub turns_of : ℕ → ℕ
turns_of den = div_ceil 33554432 den

-- ---- a table's sides, one after the other, four for each place

-- how many there are
abbrev pub all_sides : ℕ
all_sides = 4 * places

-- the rectangle at place k
unfoldable pub placed : List ℤ → ℕ → Rect
placed l k =
    record {
      resistance = record { low = get_or l (4 * k) (pos 0); high = get_or l (4 * k + 1) (pos 0) };
      reactance = record { low = get_or l (4 * k + 2) (pos 0); high = get_or l (4 * k + 3) (pos 0) };
    }

-- place k is given a rectangle, and the others are kept
pub record Stored (k : ℕ) (p : Rect) (before after : List ℤ) : Type 0 where
  pub here : placed after k ≡ p
  pub kept : (i : ℕ) → (i ≡ k → ⊥) → placed after i ≡ placed before i

-- the places hold a curve's control points, and zeros past them
pub record Taken (c : Curve) (l : List ℤ) : Type 0 where
  pub at : (k : ℕ) → k ≤ c.degree → placed l k ≡ point c k
  pub past : (k : ℕ) → c.degree < k → placed l k ≡ zero_rect

-- what a table of degree n asks of the places that it starts from
pub record Begun (n : ℕ) (l : List ℤ) : Type 0 where
  pub few : n ≤ max_degree
  pub held : (k : ℕ) → k ≤ n → Held (placed l k)
  pub past : (k : ℕ) → n < k → placed l k ≡ zero_rect

-- one stage: the first m places are mapped, each with the next, the others are kept, and the flag tells whether no map left a remainder
pub record Staged (s t d m : ℕ) (before after : List ℤ) (exact : Bool) : Type 0 where
  pub mapped : (k : ℕ) → k < m → placed after k ≡ affine_rect s t d (placed before k) (placed before (suc k))
  pub kept : (k : ℕ) → m ≤ k → placed after k ≡ placed before k
  pub flag : exact ≡ all_below m (λ k. exact_rect s t d (placed before k) (placed before (suc k)))

-- all stages of the table of P: both pieces, with zeros past their points, and the flag of all maps
pub record Tabled (s t d n : ℕ) (P : ℕ → Rect) (left right : List ℤ) (exact : Bool) : Type 0 where
  pub left_piece : (k : ℕ) → k ≤ n → placed left k ≡ DeCasteljau.left (affine_rect s t d) P k
  pub right_piece : (k : ℕ) → k ≤ n → placed right k ≡ DeCasteljau.right (affine_rect s t d) P n k
  pub left_past : (k : ℕ) → n < k → placed left k ≡ zero_rect
  pub right_past : (k : ℕ) → n < k → placed right k ≡ zero_rect
  pub flag : exact ≡ DeCasteljau.every_map (affine_rect s t d) P (exact_rect s t d) n

-- what elevation and the bounds ask of a curve
pub record Ready (c : Curve) : Type 0 where
  pub some : 1 ≤ c.degree
  pub few : c.degree ≤ max_degree
  pub held : (k : ℕ) → k ≤ c.degree → Held (point c k)
