-- Every place past the degree of a curve that is answered is zero, also where the call is refused.
-- Assumes nothing.
use mathlib.Core.Bool.{Bool, true, false, cond}
use Prim.Native.Nat.{ℕ, ◌+◌}
use lib.Dec.{eqb}
use Rattle.bernstein.specs.DeCasteljau.{left, right}
use Rattle.curve.specs.declared.Curve.{Curve}
use Rattle.curve.specs.declared.Elevation.{Elevation}
use Rattle.curve.specs.declared.Subdivision.{Subdivision}
use Rattle.curve.specs.Rect.{zero_rect}
use Rattle.curve.specs.Curve.{point, map_at, piece_sum, left_of, right_of, table_exact, elevated_point, elevated_sum, elevated_of, elevation_exact}
use Rattle.curve.specs.Calls.{subdivision_refusal, elevation_refusal, subdivided, elevated}
use Rattle.curve_promises.specs.Promises.{PastZero, ZeroPast}
use Rattle.curve.proofs.Answers.{subdivision, no_subdivision, elevation, no_elevation}
use Rattle.curve.proofs.Points.{point-past}

pieces-past : (c : Curve) (num den : ℕ) → PastZero (subdivided c num den).left × PastZero (subdivided c num den).right
unfolding subdivided left_of right_of
pieces-past c num den = go (eqb (subdivision_refusal c num den).number 0)
  where
    answer : Bool → Subdivision
    answer b = cond b (subdivision (left_of c num den) (right_of c num den) (table_exact c num den) (subdivision_refusal c num den)) (no_subdivision (subdivision_refusal c num den))

    go : (b : Bool) → PastZero (answer b).left × PastZero (answer b).right
    go true = (point-past c.degree (piece_sum c) (left (map_at num den) (point c)), point-past c.degree (piece_sum c) (right (map_at num den) (point c) c.degree))
    go false = (point-past 0 0 (λ j. zero_rect), point-past 0 0 (λ j. zero_rect))

elevated-past : (c : Curve) → PastZero (elevated c).curve
unfolding elevated elevated_of
elevated-past c = go (eqb (elevation_refusal c).number 0)
  where
    answer : Bool → Elevation
    answer b = cond b (elevation (elevated_of c) (elevation_exact c) (elevation_refusal c)) (no_elevation (elevation_refusal c))

    go : (b : Bool) → PastZero (answer b).curve
    go true = point-past (c.degree + 1) (elevated_sum c) (elevated_point c.degree (point c))
    go false = point-past 0 0 (λ j. zero_rect)

pub zero-past : ZeroPast
zero-past c = (pieces-past c, elevated-past c)
