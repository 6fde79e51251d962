-- What each call from outside gives of the answer of the call within: the answer, and the lent lists and numbers afterwards.
-- Assumes nothing.
use Rattle.std.specs.Prelude.{List, ℕ, ℤ, Float}
use Rattle.curve.specs.declared.Evaluation.{Evaluation}
use Rattle.curve.specs.declared.Subdivision.{Subdivision}
use Rattle.curve.specs.declared.Elevation.{Elevation}
use Rattle.curve.specs.declared.BoundingRect.{BoundingRect}
use Rattle.card_text.specs.declared.CardRead.{CardRead}
use Rattle.curve.specs.Rect.{sides}
use Rattle.search.specs.declared.SearchAnswer.{SearchAnswer}
use Rattle.settings.specs.declared.ChoiceAnswer.{ChoiceAnswer}
use Rattle.bridge.specs.declared.BridgeAnswer.{BridgeAnswer}
use Rattle.bridge.specs.Bridge.{reported}
use Rattle.interface.specs.Numbers.{curve_numbers, ohm_numbers, flag_number, verdict_numbers, choice_numbers, found_numbers}
use Rattle.interface.specs.Answer.{Gives, GivesNumber, GivesBothNumber}

-- the load, its ohms, and the exact flag
abbrev pub GivesEvaluation : Evaluation → List ℤ → List Float → ℕ → ℕ → List ℤ → List Float → ℕ → Type 0
GivesEvaluation e load ohms = GivesBothNumber e.refusal (sides e.load) load (ohm_numbers e.ohms) ohms (flag_number e.exact)

-- the left piece, the right one, and the exact flag
abbrev pub GivesSubdivision : Subdivision → List ℤ → List ℤ → ℕ → ℕ → List ℤ → List ℤ → ℕ → Type 0
GivesSubdivision s left right = GivesBothNumber s.refusal (curve_numbers s.left) left (curve_numbers s.right) right (flag_number s.exact)

-- the curve, and the exact flag
abbrev pub GivesElevation : Elevation → List ℤ → ℕ → ℕ → List ℤ → ℕ → Type 0
GivesElevation e raised = GivesNumber e.refusal (curve_numbers e.curve) raised (flag_number e.exact)

abbrev pub GivesBounds : BoundingRect → List ℤ → ℕ → List ℤ → Type 0
GivesBounds e = Gives e.refusal (sides e.rect)

abbrev pub GivesSearch : SearchAnswer → List ℕ → ℕ → List ℕ → Type 0
GivesSearch a = Gives a.refusal (verdict_numbers a.verdict)

abbrev pub GivesChoice : ChoiceAnswer → List ℕ → ℕ → List ℕ → Type 0
GivesChoice a = Gives a.refusal (choice_numbers a.choice)

abbrev pub GivesCard : CardRead → List ℤ → ℕ → List ℤ → Type 0
GivesCard r = Gives r.refusal (curve_numbers r.curve)

-- the rectangle, and the number of what was found
abbrev pub GivesFound : BridgeAnswer → List ℤ → ℕ → ℕ → List ℤ → ℕ → Type 0
GivesFound a rect = GivesNumber a.refusal (found_numbers a.found) rect (reported a.found).number
