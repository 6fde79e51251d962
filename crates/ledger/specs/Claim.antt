-- Demand 3: one claim about every accepted curve, every ordinary curve inside its rectangles and every list of calls.
-- Assumes nothing.
use Rattle.std.specs.Prelude.{◌≡◌, List, [], ◌∷◌, ℕ, ◌+◌, ℤ, pos}
use Rattle.rational.specs.Rounding.{Rounding, down, up}
use Rattle.rational.specs.Fraction.{Frac, ◌+ᶠ◌, ◌≤ᶠ◌, whole, parameter}
use Rattle.curve.specs.declared.Curve.{Curve}
use Rattle.curve.specs.declared.Rect.{Rect}
use Rattle.curve.specs.Rect.{Coordinate, side, Bounded}
use Rattle.curve.specs.Refusals.{none, Accepted, AcceptedAt}
use Rattle.curve.specs.Calls.{evaluated}
use Rattle.sixteenths.specs.Weights.{sixteenths}
use Rattle.sixteenths.specs.Sixteenths.{evaluated_sixteenths}
use Rattle.ledger.specs.Ordinary.{Ordinary, InsideOf, load_at, exact_side}
use Rattle.ledger.specs.Ledger.{Ledger, Call, evaluate, evaluate_sixteenths, subdivide, elevate, opened, place_of, refused, after, refusal_of, leaves}

-- a side is not farther out than the exact side by more than d steps
abbrev pub Near : Rounding → ℕ → ℤ → Frac → Type 0
Near down d s exact = exact ≤ᶠ whole s +ᶠ whole (pos d)
Near up d s exact = whole s ≤ᶠ exact +ᶠ whole (pos d)

-- what an evaluated rectangle says of the starting curve and the ordinary curve, at a place and with a sum of steps
pub record Sound (c : Curve) (o : Ordinary) (place : Frac) (d : ℕ) (load : Rect) : Type 0 where
  pub holds : (x : Coordinate) (r : Rounding) → Bounded r (load_at o x place) (side x r load)
  pub near : (x : Coordinate) (r : Rounding) → Near r d (side x r load) (exact_side c x r place)

-- what is claimed at a call, of the curve that it gets: at an evaluation of either kind that is accepted, a sound rectangle
abbrev pub AtCall : Curve → Ordinary → Ledger → Curve → Call → Type 0
AtCall c o l now (evaluate num den) =
    (evaluated now num den).refusal ≡ none → Sound c o (place_of l (parameter num den)) (l.sum + l.degree) (evaluated now num den).load
AtCall c o l now (evaluate_sixteenths j) =
    (evaluated_sixteenths now j).refusal ≡ none → Sound c o (place_of l (parameter j sixteenths)) (l.sum + l.degree) (evaluated_sixteenths now j).load
AtCall c o l now (subdivide num den piece) = Unit {0}
AtCall c o l now elevate = Unit {0}

-- the claim along a list: each call gets the curve that the last one left, and the ledger's own refusal is the call's
abbrev pub Along : Curve → Ordinary → Ledger → Curve → List Call → Type 0
Along c o l now [] = Unit {0}
Along c o l now (call ∷ calls) =
    (refusal_of now call ≡ refused l call) × AtCall c o l now call × Along c o (after l call) (leaves now call) calls

-- demand 3
abbrev pub Demand : Type 0
Demand = (c : Curve) → Accepted c → (o : Ordinary) → InsideOf o c → (calls : List Call) → Along c o (opened c) c calls

-- in the safety office's words, of one staged evaluation of one accepted curve: the load of every ordinary curve inside lies in the rectangle shown, and no side is more than the degree in steps beyond the exact one
abbrev pub OneEvaluation : Type 0
OneEvaluation =
    (c : Curve) → Accepted c → (o : Ordinary) → InsideOf o c → (num den : ℕ) → AcceptedAt num den →
    Sound c o (parameter num den) c.degree (evaluated c num den).load
