-- Subdivision and degree elevation without rounding: exactly, on ordinary curves, whose control points are fractions.
-- Assumes nothing.
use Rattle.std.specs.Prelude.{◌+◌, ◌-◌}
use Rattle.rational.specs.Rounding.{Rounding}
use Rattle.rational.specs.Fraction.{Frac, whole, parameter}
use Rattle.bernstein.specs.Affine.{exact_affine}
use Rattle.bernstein.specs.DeCasteljau as DeCasteljau
use Rattle.curve.specs.declared.Curve.{Curve}
use Rattle.curve.specs.Rect.{side}
use Rattle.curve.specs.Curve.{point}
use Rattle.ledger.specs.Ordinary.{Ordinary}
use Rattle.ledger.specs.Ledger.{Piece, left, right}

-- the low sides or the high sides of a curve, as an ordinary curve
abbrev pub edge : Rounding → Curve → Ordinary
edge r c = record { degree = c.degree; control = λ x k. whole (side x r (point c k)) }

-- the pieces of an ordinary curve subdivided at t
abbrev pub part : Piece → Frac → Ordinary → Ordinary
part left t o = record { degree = o.degree; control = λ x. DeCasteljau.left (exact_affine t) (o.control x) }
part right t o = record { degree = o.degree; control = λ x. DeCasteljau.right (exact_affine t) (o.control x) o.degree }

-- an ordinary curve at one degree more: control point k is k / (n + 1) of the one before and (n + 1 − k) / (n + 1) of this one
abbrev pub raised : Ordinary → Ordinary
raised o =
    record {
      degree = o.degree + 1;
      control = λ x k. exact_affine (parameter (o.degree + 1 - k) (o.degree + 1)) (o.control x (k - 1)) (o.control x k);
    }
