-- Lists of calls, and the ledger that keeps their place and their sum of steps (document 01: the book of places and sums).
-- The ledger is fed the starting curve and the calls, and no answers.
-- Assumes nothing.
use Rattle.std.specs.Prelude.{cond, ℕ, ◌+◌, eqb, pos}
use Rattle.rational.specs.Fraction.{Frac, ◌+ᶠ◌, ◌*ᶠ◌, whole, parameter, complement}
use Rattle.curve.specs.declared.Curve.{Curve}
use Rattle.curve.specs.declared.Refusal.{Refusal}
use Rattle.curve.specs.declared.Subdivision.{Subdivision}
use Rattle.curve.specs.Refusals.{◌or_else◌, parameter_refusal, highest_refusal, sum_refusal}
use Rattle.curve.specs.Calls.{evaluated, subdivided, elevated}
use Rattle.sixteenths.specs.Sixteenths.{numerator_refusal, evaluated_sixteenths}

-- the piece that is kept of a subdivision
pub data Piece : Type 0 where
  left : Piece
  right : Piece

-- a call of the list, with any numbers: an evaluation at num/den (the paper's reading), one at j/16 by the sum (its second reading), a subdivision at num/den with the piece that is kept (its cut), an elevation (its raising)
pub data Call : Type 0 where
  evaluate : ℕ → ℕ → Call
  evaluate_sixteenths : ℕ → Call
  subdivide : ℕ → ℕ → Piece → Call
  elevate : Call

-- ---- what the calls do

abbrev pub kept : Piece → Subdivision → Curve
kept left s = s.left
kept right s = s.right

-- the refusal that a call gives for the curve it gets
abbrev pub refusal_of : Curve → Call → Refusal
refusal_of c (evaluate num den) = (evaluated c num den).refusal
refusal_of c (evaluate_sixteenths j) = (evaluated_sixteenths c j).refusal
refusal_of c (subdivide num den piece) = (subdivided c num den).refusal
refusal_of c elevate = (elevated c).refusal

-- the curve that a call would answer; an evaluation hands on the one it got
abbrev pub answer_of : Curve → Call → Curve
answer_of c (evaluate num den) = c
answer_of c (evaluate_sixteenths j) = c
answer_of c (subdivide num den piece) = kept piece (subdivided c num den)
answer_of c elevate = (elevated c).curve

-- what a call leaves; a refused one leaves the curve it got
unfoldable pub leaves : Curve → Call → Curve
leaves c call = cond (eqb (refusal_of c call).number 0) (answer_of c call) c

-- ---- the ledger

-- its own sum of steps starts at 0; `brought` is the starting curve's sum, held to tell a 17 and for nothing else
pub record Ledger : Type 0 where
  pub degree : ℕ
  pub start : Frac
  pub width : Frac
  pub sum : ℕ
  pub brought : ℕ

unfoldable pub opened : Curve → Ledger
opened c = record { degree = c.degree; start = whole (pos 0); width = whole (pos 1); sum = 0; brought = c.sum }

-- the sum of steps after a subdivision, and after an elevation
abbrev pub subdivided_sum : Ledger → ℕ
subdivided_sum l = l.sum + l.degree

abbrev pub elevated_sum : Ledger → ℕ
elevated_sum l = l.sum + 1

-- the refusal, as what is fed and held tells it
abbrev pub refused : Ledger → Call → Refusal
refused l (evaluate num den) = parameter_refusal num den
refused l (evaluate_sixteenths j) = numerator_refusal j
refused l (subdivide num den piece) = parameter_refusal num den or_else sum_refusal (l.brought + subdivided_sum l)
refused l elevate = highest_refusal l.degree or_else sum_refusal (l.brought + elevated_sum l)

-- the place of t in the stretch that is left
unfoldable pub place_of : Ledger → Frac → Frac
place_of l t = l.start +ᶠ l.width *ᶠ t

-- the ledger of a piece, from a start and as wide as said
abbrev pub piece_from : Ledger → Frac → Frac → Ledger
piece_from l start width = record { degree = l.degree; start = start; width = width; sum = subdivided_sum l; brought = l.brought }

-- the ledger after an accepted call
abbrev pub entered : Ledger → Call → Ledger
entered l (evaluate num den) = l
entered l (evaluate_sixteenths j) = l
entered l (subdivide num den left) = piece_from l l.start (l.width *ᶠ parameter num den)
entered l (subdivide num den right) = piece_from l (place_of l (parameter num den)) (l.width *ᶠ complement (parameter num den))
entered l elevate =
    record { degree = l.degree + 1; start = l.start; width = l.width; sum = elevated_sum l; brought = l.brought }

-- the ledger after any call; a refused one changes nothing
unfoldable pub after : Ledger → Call → Ledger
after l call = cond (eqb (refused l call).number 0) (entered l call) l
