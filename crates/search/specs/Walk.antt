-- The walk over a box, rule by rule. The verdict on the pieces walked so far, with their count, is handed from piece to piece.
-- Assumes nothing.
use Rattle.std.specs.Prelude.{Bool, true, false, ℕ, zero, suc, ◌+◌, ◌*◌, eqb}
use Rattle.curve.specs.declared.Rect.{Rect}
use Rattle.curve.specs.declared.Curve.{Curve}
use Rattle.curve.specs.Calls.{bounded, subdivided}
use Rattle.search.specs.declared.Verdict.{Verdict}
use Rattle.search.specs.declared.Verdict.TheVariants.{Refused, Inside, Outside, Spent, Undecided}
use Rattle.search.specs.declared.visit.Visit.{Visit}
use Rattle.search.specs.declared.visit.Visit.TheVariants.{Ended, Exhausted, Contained, Apart, Across}
use Rattle.search.specs.Verdict.{reported}
use Rattle.search.specs.Box.{in_box, apart_from}

-- whether the walk goes on after this verdict so far: nothing noted (Inside), or a first piece noted (Undecided)
abbrev pub goes_on : Verdict → Bool
goes_on Refused = false
goes_on (Inside count) = true
goes_on (Outside depth index count) = false
goes_on (Spent count) = false
goes_on (Undecided depth index count) = true

-- the number of pieces looked at
abbrev pub count_of : Verdict → ℕ
count_of v = (reported v).count

-- looking at a piece adds one to the count of a walk that goes on
abbrev pub looked : Verdict → Verdict
looked Refused = Refused
looked (Inside count) = Inside (count + 1)
looked (Outside depth index count) = Outside depth index count
looked (Spent count) = Spent count
looked (Undecided depth index count) = Undecided depth index (count + 1)

-- the piece is noted, unless one was noted before it
abbrev pub noted : ℕ → ℕ → Verdict → Verdict
noted depth index Refused = Refused
noted depth index (Inside count) = Undecided depth index count
noted depth index (Outside depth' index' count) = Outside depth' index' count
noted depth index (Spent count) = Spent count
noted depth index (Undecided depth' index' count) = Undecided depth' index' count

-- what becomes of a piece that is due, by whether the walk goes on, whether its count is at the budget, whether the span lies in the box, and whether it is apart from it
abbrev pub visit_by : Bool → Bool → Bool → Bool → Visit
visit_by false full within apart = Ended
visit_by true true within apart = Exhausted
visit_by true false true apart = Contained
visit_by true false false true = Apart
visit_by true false false false = Across

-- the verdict after a visit; `further` is what follows where the span lies across the box's edge
abbrev pub after : Visit → ℕ → ℕ → Verdict → (Verdict → Verdict) → Verdict
after Ended depth index v further = v
after Exhausted depth index v further = Spent (count_of v)
after Contained depth index v further = looked v
after Apart depth index v further = Outside depth index (count_of v + 1)
after Across depth index v further = further (looked v)

module _ (box : Rect) (budget : ℕ) where
  -- the visit of a piece, from the verdict so far and the piece's span
  unfoldable pub visit_at : Curve → Verdict → Visit
  visit_at piece v =
      visit_by (goes_on v) (eqb (count_of v) budget) (in_box (bounded piece).rect box) (apart_from (bounded piece).rect box)

  -- the walk of a piece with so many depths below it: across the edge it is noted at the depth limit; above, it is cut at 1/2, and the left piece is walked wholly before the right
  unfoldable pub walked : ℕ → Curve → ℕ → ℕ → Verdict → Verdict
  walked zero piece depth index v = after (visit_at piece v) depth index v (noted depth index)
  walked (suc below) piece depth index v =
      after (visit_at piece v) depth index v (λ w.
      walked below (subdivided piece 1 2).right (depth + 1) (index * 2 + 1)
      (walked below (subdivided piece 1 2).left (depth + 1) (index * 2) w))
