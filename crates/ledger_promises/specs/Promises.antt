-- What is promised of the pieces of a subdivision, that the left one covers the first part of its parent's stretch and the right one the rest; of the exact flags, that they are lit exactly if every side is the exact one; and of the summed reading, how near its sides are to the exact ones.
-- Assumes nothing.
use Rattle.std.specs.Prelude.{◌≡◌, Bool, true, ℕ, ◌+◌, ◌^◌, ◌≤◌, ℤ, pos}
use Rattle.rational.specs.Rounding.{Rounding, down, up}
use Rattle.rational.specs.Fraction.{Frac, Equal, ◌+ᶠ◌, ◌*ᶠ◌, ◌<ᶠ◌, whole, complement, parameter}
use Rattle.curve.specs.declared.Curve.{Curve}
use Rattle.curve.specs.declared.Rect.{Rect}
use Rattle.curve.specs.declared.Refusal.{Refusal}
use Rattle.curve.specs.declared.Subdivision.{Subdivision}
use Rattle.curve.specs.Rect.{Coordinate, side, Bounded}
use Rattle.curve.specs.Curve.{point, piece_sum}
use Rattle.curve.specs.Refusals.{none, Accepted, AcceptedAt, AcceptedSum}
use Rattle.curve.specs.Calls.{evaluated, subdivided, elevated}
use Rattle.sixteenths.specs.Weights.{sixteenths}
use Rattle.sixteenths.specs.Sixteenths.{sum_of, evaluated_sixteenths}
use Rattle.ledger.specs.Ordinary.{Ordinary, InsideOf, load_at, exact_side}
use Rattle.ledger.specs.Ledger.{Piece, left, right, kept}
use Rattle.ledger.specs.Exact.{edge, part, raised}

-- where u on a piece lies on its parent: the left piece is the parent from 0 to t, the right one from t to 1
abbrev pub place_on : Piece → Frac → Frac → Frac
place_on left t u = t *ᶠ u
place_on right t u = t +ᶠ complement t *ᶠ u

-- an ordinary curve's piece lies inside the curve's, and its loads are the ordinary curve's at the places that the piece covers
pub record Covers (c : Curve) (o : Ordinary) (num den : ℕ) (piece : Piece) : Type 0 where
  pub inside : InsideOf (part piece (parameter num den) o) (kept piece (subdivided c num den))
  pub loads :
      (x : Coordinate) (u : Frac) →
      Equal (load_at (part piece (parameter num den) o) x u) (load_at o x (place_on piece (parameter num den) u))

abbrev pub PiecesCover : Type 0
PiecesCover =
    (c : Curve) → Accepted c → (o : Ordinary) → InsideOf o c → (num den : ℕ) → AcceptedAt num den → AcceptedSum (piece_sum c) →
    (piece : Piece) → Covers c o num den piece

-- ---- exact flags, whatever was rounded before: what they say is of the curve that the call was given

-- lit exactly if every side is exact: of a call that is not refused, all sides exact tells lit; and lit, which no refused call is, tells all sides exact
pub record LitExactly (refusal : Refusal) (flag : Bool) (exact : Type 0) : Type 0 where
  pub exactly : refusal ≡ none → exact → flag ≡ true
  pub lit : flag ≡ true → exact

-- the sides of a load are the exact sides at a place
abbrev pub ExactSides : Curve → Frac → Rect → Type 0
ExactSides c place load = (x : Coordinate) (r : Rounding) → Equal (whole (side x r load)) (exact_side c x r place)

-- an evaluation at num/den
abbrev pub ExactLoad : Type 0
ExactLoad =
    (c : Curve) (num den : ℕ) →
    let e = evaluated c num den in LitExactly e.refusal e.exact (ExactSides c (parameter num den) e.load)

-- the control points of both pieces have the sides of the curve that is subdivided exactly
abbrev pub SubdividedExactly : Curve → Frac → Subdivision → Type 0
SubdividedExactly c t s =
    (piece : Piece) (x : Coordinate) (r : Rounding) (k : ℕ) → k ≤ c.degree →
    Equal (whole (side x r (point (kept piece s) k))) ((part piece t (edge r c)).control x k)

abbrev pub ExactPieces : Type 0
ExactPieces =
    (c : Curve) (num den : ℕ) →
    let s = subdivided c num den in LitExactly s.refusal s.exact (SubdividedExactly c (parameter num den) s)

-- the control points of a curve have the sides of the curve that is elevated exactly
abbrev pub ElevatedExactly : Curve → Curve → Type 0
ElevatedExactly c e =
    (x : Coordinate) (r : Rounding) (k : ℕ) → k ≤ c.degree + 1 →
    Equal (whole (side x r (point e k))) ((raised (edge r c)).control x k)

abbrev pub ExactElevation : Type 0
ExactElevation = (c : Curve) → let e = elevated c in LitExactly e.refusal e.exact (ElevatedExactly c e.curve)

-- ---- the summed reading at j/16, of the curve that it is given

-- the sum over the weights is 16 to the power n times the exact side, the Bernstein sum
abbrev pub SumIsExact : Type 0
SumIsExact =
    (c : Curve) (j : ℕ) → j ≤ sixteenths → (x : Coordinate) (r : Rounding) →
    Equal (whole (sum_of c j x r)) (exact_side c x r (parameter j sixteenths) *ᶠ whole (pos (sixteenths ^ c.degree)))

-- a side is strictly less than one step beyond the exact side
abbrev pub LessThanAStep : Rounding → ℤ → Frac → Type 0
LessThanAStep down s exact = exact <ᶠ whole s +ᶠ whole (pos 1)
LessThanAStep up s exact = whole s <ᶠ exact +ᶠ whole (pos 1)

-- no side is short of the exact one, and each is strictly less than one step beyond it
abbrev pub WithinAStep : Type 0
WithinAStep =
    (c : Curve) (j : ℕ) → Accepted c → j ≤ sixteenths → (x : Coordinate) (r : Rounding) →
    let s = side x r (evaluated_sixteenths c j).load in
    let exact = exact_side c x r (parameter j sixteenths) in
    Bounded r exact s × LessThanAStep r s exact

-- its flag is lit exactly if its sides are the exact sides at j/16
abbrev pub ExactSum : Type 0
ExactSum =
    (c : Curve) (j : ℕ) →
    let e = evaluated_sixteenths c j in LitExactly e.refusal e.exact (ExactSides c (parameter j sixteenths) e.load)
