-- What is promised of a walk beside its equation, over the definitions that the contract cites.
-- Assumes nothing.
use Rattle.std.specs.Prelude.{◌≡◌, true, false, ℕ, ◌+◌, ◌-◌, ◌≤◌, ◌<◌, ◌^◌, ℤ, pos}
use Rattle.rational.specs.Rounding.{Rounding, down, up}
use Rattle.rational.specs.Fraction.{Frac, whole, ◌≤ᶠ◌, ◌<ᶠ◌, parameter}
use Rattle.curve.specs.declared.Rect.{Rect}
use Rattle.curve.specs.declared.Curve.{Curve}
use Rattle.curve.specs.Rect.{Coordinate, side}
use Rattle.curve.specs.Curve.{with_sum, SameButSum, SameCurve}
use Rattle.curve.specs.Refusals.{none}
use Rattle.curve.specs.Calls.{bounded, subdivided}
use Rattle.ledger.specs.Ordinary.{Ordinary, InsideOf, load_at}
use Rattle.search.specs.Limits.{max_budget}
use Rattle.search.specs.Verdict.{Report, reported, inside, outside, spent, undecided}
use Rattle.search.specs.Box.{apart_from}
use Rattle.search.specs.Search.{searched}
use Rattle.search_promises.specs.Pieces.{piece_at, across_to}

-- the answer's number and values
abbrev pub answered : Curve → Rect → ℕ → ℕ → Report
answered c box depth budget = reported (searched c box depth budget).verdict

-- equal curves get equal answers: nothing past the degree is read
abbrev pub PastUnread : Type 0
PastUnread = (c e : Curve) (box : Rect) (depth budget : ℕ) → SameCurve c e → searched c box depth budget ≡ searched e box depth budget

-- ---- the sum of steps

-- no cut down to the depth limit is refused, and its pieces and its answer are those of the same curve with the sum 0
pub record SumUnmet (c : Curve) (box : Rect) (depth budget : ℕ) : Type 0 where
  pub cuts : (d index : ℕ) → d < depth → (subdivided (piece_at c d index) 1 2).refusal ≡ none
  pub pieces : (d index : ℕ) → d ≤ depth → SameButSum (piece_at c d index) (piece_at (with_sum 0 c) d index)
  pub answer : searched c box depth budget ≡ searched (with_sum 0 c) box depth budget

-- so a walk that is not refused meets no 17 inside
abbrev pub NoSumInside : Type 0
NoSumInside = (c : Curve) (box : Rect) (depth budget : ℕ) → (searched c box depth budget).refusal ≡ none → SumUnmet c box depth budget

-- ---- the count

-- at most the budget, and at most as many pieces as there are down to the depth limit
abbrev pub Counted : Type 0
Counted =
    (c : Curve) (box : Rect) (depth budget : ℕ) →
    ((answered c box depth budget).count ≤ budget) × ((answered c box depth budget).count ≤ 2 ^ (depth + 1) - 1)

-- Spent carries the whole budget
abbrev pub SpentAll : Type 0
SpentAll = (c : Curve) (box : Rect) (depth budget : ℕ) → (answered c box depth budget).number ≡ spent → (answered c box depth budget).count ≡ budget

-- Spent never comes at the largest budget
abbrev pub NeverSpent : Type 0
NeverSpent = (c : Curve) (box : Rect) (depth : ℕ) → (answered c box depth max_budget).number ≡ spent → ⊥

-- a larger budget changes no answer but Spent
abbrev pub LargerBudget : Type 0
LargerBudget =
    (c : Curve) (box : Rect) (depth budget budget' : ℕ) → 1 ≤ budget → budget ≤ budget' → budget' ≤ max_budget →
    ((answered c box depth budget).number ≡ spent → ⊥) → searched c box depth budget' ≡ searched c box depth budget

-- ---- the pieces named

-- Undecided names the first piece at the depth limit that is noted
pub record FirstNoted (c : Curve) (box : Rect) (limit depth index : ℕ) : Type 0 where
  pub deepest : depth ≡ limit
  pub numbered : index < 2 ^ limit
  pub noted : across_to c box limit index ≡ true
  pub first : (earlier : ℕ) → earlier < index → across_to c box limit earlier ≡ false

abbrev pub UndecidedNames : Type 0
UndecidedNames =
    (c : Curve) (box : Rect) (depth budget : ℕ) → (answered c box depth budget).number ≡ undecided →
    FirstNoted c box depth (answered c box depth budget).depth (answered c box depth budget).index

-- Outside names a piece whose span is apart from the box
pub record FoundApart (c : Curve) (box : Rect) (limit depth index : ℕ) : Type 0 where
  pub limited : depth ≤ limit
  pub numbered : index < 2 ^ depth
  pub apart : apart_from (bounded (piece_at c depth index)).rect box ≡ true

abbrev pub OutsideNames : Type 0
OutsideNames =
    (c : Curve) (box : Rect) (depth budget : ℕ) → (answered c box depth budget).number ≡ outside →
    FoundApart c box depth (answered c box depth budget).depth (answered c box depth budget).index

-- ---- what the answers mean for ordinary curves

-- a value that a side of a box allows: at or above a low one, strictly below a high one
abbrev pub Allowed : Rounding → Frac → ℤ → Type 0
Allowed down v s = whole s ≤ᶠ v
Allowed up v s = v <ᶠ whole s

-- the load at t lies in the box
pub record LoadIn (o : Ordinary) (box : Rect) (t : Frac) : Type 0 where
  pub at : (x : Coordinate) (r : Rounding) → Allowed r (load_at o x t) (side x r box)

-- t lies from a to b, both included
pub record Between (a b t : Frac) : Type 0 where
  pub from : a ≤ᶠ t
  pub to : t ≤ᶠ b

-- Inside: no ordinary curve in the rectangles leaves the box
abbrev pub InsideMeans : Type 0
InsideMeans =
    (c : Curve) (box : Rect) (depth budget : ℕ) → (answered c box depth budget).number ≡ inside →
    (o : Ordinary) → InsideOf o c → (t : Frac) → Between (whole (pos 0)) (whole (pos 1)) t → LoadIn o box t

-- Outside: none enters it on the stretch of the piece that is named, from index/2^depth to (index + 1)/2^depth
abbrev pub OutsideMeans : Type 0
OutsideMeans =
    (c : Curve) (box : Rect) (depth budget : ℕ) → (answered c box depth budget).number ≡ outside →
    (o : Ordinary) → InsideOf o c → (t : Frac) →
    let r = answered c box depth budget in
    Between (parameter r.index (2 ^ r.depth)) (parameter (r.index + 1) (2 ^ r.depth)) t → LoadIn o box t → ⊥
