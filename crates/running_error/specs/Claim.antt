-- The record's sum of steps is true: one claim about every accepted curve whose sum is 0 and every list of calls.
-- Assumes nothing.
use Rattle.std.specs.Prelude.{◌≡◌, cond, List, [], ◌∷◌, ℕ, ◌+◌, ◌≤◌, eqb}
use Rattle.rational.specs.Rounding.{Rounding}
use Rattle.rational.specs.Fraction.{Frac, parameter}
use Rattle.curve.specs.declared.Curve.{Curve}
use Rattle.curve.specs.declared.Rect.{Rect}
use Rattle.curve.specs.Rect.{Coordinate, side, Bounded}
use Rattle.curve.specs.Curve.{point}
use Rattle.curve.specs.Refusals.{none, Accepted}
use Rattle.curve.specs.Calls.{evaluated}
use Rattle.sixteenths.specs.Weights.{sixteenths}
use Rattle.sixteenths.specs.Sixteenths.{evaluated_sixteenths}
use Rattle.ledger.specs.Ordinary.{Ordinary, exact_side}
use Rattle.ledger.specs.Ledger.{Ledger, Call, evaluate, evaluate_sixteenths, subdivide, elevate, opened, place_of, refusal_of, leaves, after}
use Rattle.ledger.specs.Exact.{edge, part, raised}
use Rattle.ledger.specs.Claim.{Near}

-- ---- the same calls without rounding

-- what a call would answer: the exact piece, or the curve elevated exactly; a reading hands on the one it got
abbrev pub exact_answer : Ordinary → Call → Ordinary
exact_answer o (evaluate num den) = o
exact_answer o (evaluate_sixteenths j) = o
exact_answer o (subdivide num den piece) = part piece (parameter num den) o
exact_answer o elevate = raised o

-- what it leaves; where the call is refused, the one it got
unfoldable pub exactly_leaves : Curve → Ordinary → Call → Ordinary
exactly_leaves now o call = cond (eqb (refusal_of now call).number 0) (exact_answer o call) o

-- ---- the claim

-- a curve beside what its low sides and its high sides are without rounding: no side of any control point lies short of the exact one, none lies farther out by more than the record's sum, and sum and degree are the ledger's
pub record TrueSum (now : Curve) (exact : Rounding → Ordinary) (l : Ledger) : Type 0 where
  pub degrees : (r : Rounding) → (exact r).degree ≡ now.degree
  pub holds : (x : Coordinate) (r : Rounding) (k : ℕ) → k ≤ now.degree → Bounded r ((exact r).control x k) (side x r (point now k))
  pub near : (x : Coordinate) (r : Rounding) (k : ℕ) → k ≤ now.degree → Near r now.sum (side x r (point now k)) ((exact r).control x k)
  pub same_sum : now.sum ≡ l.sum
  pub same_degree : now.degree ≡ l.degree

-- a rectangle read off it: no side lies short of the starting curve's exact one at the place, and none lies farther out by more than the record's sum plus its degree
pub record TrueReading (c now : Curve) (place : Frac) (load : Rect) : Type 0 where
  pub holds : (x : Coordinate) (r : Rounding) → Bounded r (exact_side c x r place) (side x r load)
  pub near : (x : Coordinate) (r : Rounding) → Near r (now.sum + now.degree) (side x r load) (exact_side c x r place)

-- what is claimed at a call, of the curve that it gets: at a reading of either kind that is accepted, a true one at the ledger's place
abbrev pub AtCall : Curve → Ledger → Curve → Call → Type 0
AtCall c l now (evaluate num den) =
    (evaluated now num den).refusal ≡ none → TrueReading c now (place_of l (parameter num den)) (evaluated now num den).load
AtCall c l now (evaluate_sixteenths j) =
    (evaluated_sixteenths now j).refusal ≡ none → TrueReading c now (place_of l (parameter j sixteenths)) (evaluated_sixteenths now j).load
AtCall c l now (subdivide num den piece) = Unit {0}
AtCall c l now elevate = Unit {0}

-- the claim along a list from c, of the curve at its start and of the one that each call leaves, and at each call
abbrev pub Along : Curve → Ledger → Curve → (Rounding → Ordinary) → List Call → Type 0
Along c l now exact [] = TrueSum now exact l
Along c l now exact (call ∷ calls) =
    TrueSum now exact l × AtCall c l now call × Along c (after l call) (leaves now call) (λ r. exactly_leaves now (exact r) call) calls

abbrev pub TrueFrom : Curve → List Call → Type 0
TrueFrom c calls = Along c (opened c) c (λ r. edge r c) calls

-- so it is for every accepted curve whose sum is 0, wherever it comes from, and every list of cuts, with either piece kept, raisings and readings, refused ones included
abbrev pub SumIsTrue : Type 0
SumIsTrue = (c : Curve) → Accepted c → c.sum ≡ 0 → (calls : List Call) → TrueFrom c calls
