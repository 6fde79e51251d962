-- What a result of the choice says as an answer of the papers.
use Rattle.std.specs.Prelude.{Result, Ok, Err, Option, Some, None}
use Rattle.curve.specs.declared.reason.Reason.{Reason}
use Rattle.curve.specs.Refusals as refusals
use Rattle.curve.specs.Reason.{listed}
use Rattle.settings.specs.declared.Fit.{Fit}
use Rattle.settings.specs.declared.Choice.{Choice}
use Rattle.settings.specs.declared.Choice.TheVariants.{Refused, Fits, NoneFits}
use Rattle.settings.specs.declared.ChoiceAnswer.{ChoiceAnswer}

-- the record that fits, or that none does
abbrev pub as_choice : Option Fit → Choice
as_choice (Some f) = Fits f.index f.number
as_choice None = NoneFits

abbrev pub as_choice_answer : Result (Option Fit) Reason → ChoiceAnswer
as_choice_answer (Ok found) = record { refusal = refusals.none; choice = as_choice found }
as_choice_answer (Err e) = record { refusal = listed e; choice = Refused }
