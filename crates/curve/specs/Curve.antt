-- Curves and what is computed from an accepted one: the load, both pieces, the elevated curve, their exact flags, and the bounds.
-- Control points are read by number, and those past the degree play no part.
-- Assumes nothing.
use Rattle.std.specs.Prelude.{◌≡◌, List, [], ◌∷◌, Bool, cond, ℕ, zero, suc, ◌+◌, ◌-◌, ◌≤◌, leb, get_or}
use Rattle.bernstein.specs.DeCasteljau as DeCasteljau
use Rattle.curve.specs.declared.Rect.{Rect}
use Rattle.curve.specs.declared.Curve.{Curve}
use Rattle.curve.specs.Limits.{places}
use Rattle.curve.specs.Rect.{zero_rect, affine_rect, exact_rect, hull}

-- control point k
abbrev pub point : Curve → ℕ → Rect
point c k = get_or c.points k zero_rect

-- f 0, f 1, .. f (m − 1)
unfoldable pub tabulate {ℓ} : {A : Type ℓ} → ℕ → (ℕ → A) → List A
tabulate zero f = []
tabulate (suc m) f = f 0 ∷ tabulate m (λ k. f (suc k))

-- a record's places: f 0 to f n, and zero past n
unfoldable pub points_of : ℕ → (ℕ → Rect) → List Rect
points_of n f = tabulate places (λ k. cond (leb k n) (f k) zero_rect)

-- the curve of degree n with the sum of steps s and the control points f 0 to f n
abbrev pub curve_of : ℕ → ℕ → (ℕ → Rect) → Curve
curve_of n s f = record { degree = n; sum = s; points = points_of n f }

-- the curve with another sum
abbrev pub with_sum : ℕ → Curve → Curve
with_sum s c = record { degree = c.degree; sum = s; points = c.points }

abbrev pub zero_curve : Curve
zero_curve = curve_of 0 0 (λ k. zero_rect)

-- two curves are equal but for their sums if their degrees and their control points 0 to n are equal
pub record SameButSum (c e : Curve) : Type 0 where
  pub degrees : c.degree ≡ e.degree
  pub controls : (k : ℕ) → k ≤ c.degree → point c k ≡ point e k

-- and equal if their sums are, too
pub record SameCurve (c e : Curve) : Type 0 where
  pub sums : c.sum ≡ e.sum
  pub rest : SameButSum c e

-- the map of neighbours at the parameter num/den
abbrev pub map_at : ℕ → ℕ → Rect → Rect → Rect
map_at num den = affine_rect (den - num) num den

-- whether that map leaves no remainder
abbrev pub exact_at : ℕ → ℕ → Rect → Rect → Bool
exact_at num den = exact_rect (den - num) num den

-- the sum of steps of both pieces: the parent's plus its degree
abbrev pub piece_sum : Curve → ℕ
piece_sum c = c.sum + c.degree

-- the load at num/den, and the control points of the two pieces there, off one table (000, equations 18 and 19)
unfoldable pub load_of : Curve → ℕ → ℕ → Rect
load_of c num den = DeCasteljau.value (map_at num den) (point c) c.degree

unfoldable pub left_of : Curve → ℕ → ℕ → Curve
left_of c num den = curve_of c.degree (piece_sum c) (DeCasteljau.left (map_at num den) (point c))

unfoldable pub right_of : Curve → ℕ → ℕ → Curve
right_of c num den = curve_of c.degree (piece_sum c) (DeCasteljau.right (map_at num den) (point c) c.degree)

-- the exact flag of the load and of both pieces (document 02: the lamp). Lit, true: no map of the table left a remainder.
-- Dark, false: some map was rounded, and then some side of the load is not the exact one (`ExactLoad` of ledger_promises).
unfoldable pub table_exact : Curve → ℕ → ℕ → Bool
table_exact c num den = DeCasteljau.every_map (map_at num den) (point c) (exact_at num den) c.degree

-- control point k of the curve of degree n + 1: (k × P(k−1) + (n + 1 − k) × P(k)) / (n + 1); at k = 0 and k = n + 1 the absent point has factor 0
unfoldable pub elevated_point : ℕ → (ℕ → Rect) → ℕ → Rect
elevated_point n P k = affine_rect k (n + 1 - k) (n + 1) (P (k - 1)) (P k)

-- the sum of steps of the elevated curve: one more
abbrev pub elevated_sum : Curve → ℕ
elevated_sum c = c.sum + 1

unfoldable pub elevated_of : Curve → Curve
elevated_of c = curve_of (c.degree + 1) (elevated_sum c) (elevated_point c.degree (point c))

-- whether its map leaves no remainder
unfoldable pub elevated_exact : ℕ → (ℕ → Rect) → ℕ → Bool
elevated_exact n P k = exact_rect k (n + 1 - k) (n + 1) (P (k - 1)) (P k)

-- the exact flag of the elevated curve. Lit: no map left a remainder, for k from 0 to n + 1
unfoldable pub elevation_exact : Curve → Bool
elevation_exact c = DeCasteljau.all_below (c.degree + 2) (elevated_exact c.degree (point c))

-- the least rectangle that holds P 0 to P n
unfoldable pub hull_to : (ℕ → Rect) → ℕ → Rect
hull_to P zero = P 0
hull_to P (suc n) = hull (hull_to P n) (P (suc n))

unfoldable pub bounds_of : Curve → Rect
bounds_of c = hull_to (point c) c.degree
