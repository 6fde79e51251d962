-- The answer of a call by whether it is refused, and what is known of one that is not.
-- Assumes nothing.
use mathlib.Core.Path.{◌≡◌, refl, sym, ap, ◌∙◌}
use borrow.Author.Tests.{ne_eqb}
use Rattle.std.specs.Prelude.{Err}
use mathlib.Core.Bool.{false}
use mathlib.Core.List.{List}
use Prim.Native.Nat.{ℕ}
use lib.Dec.{eqb}
use Rattle.curve.specs.declared.Curve.{Curve}
use Rattle.curve.specs.declared.Refusal.{Refusal}
use Rattle.curve.specs.Refusals.{none}
use Rattle.curve.proofs.Answers.{where_none, where_some, in_both}
use Rattle.settings.specs.declared.Setting.{Setting}
use Rattle.settings.specs.declared.Choice.{Choice}
use Rattle.settings.specs.declared.ChoiceAnswer.{ChoiceAnswer}
use Rattle.settings.specs.declared.Choice.TheVariants.{Refused}
use Rattle.curve.specs.declared.reason.Reason.{Reason}
use Rattle.curve.specs.Reason.{listed}
use Rattle.curve.proofs.Listed.{listed_some}
use Rattle.settings.specs.Results.{as_choice_answer}
use Rattle.settings.specs.Settings.{settings_refusal, fits, first_of, chosen}

abbrev pub answer : Choice → Refusal → ChoiceAnswer
answer choice r = record { refusal = r; choice = choice }

module _ (c : Curve) (settings : List Setting) (depth budget : ℕ) where
  pub chosen-refused : eqb (settings_refusal c settings depth budget).number 0 ≡ false → chosen c settings depth budget ≡ answer Refused (settings_refusal c settings depth budget)
  unfolding chosen
  chosen-refused h = where_some (answer (first_of (fits c depth budget) 0 settings)) (answer Refused) (settings_refusal c settings depth budget) h

  pub chosen-accepted : settings_refusal c settings depth budget ≡ none → chosen c settings depth budget ≡ answer (first_of (fits c depth budget) 0 settings) none
  unfolding chosen
  chosen-accepted h = where_none (answer (first_of (fits c depth budget) 0 settings)) (answer Refused) (settings_refusal c settings depth budget) h

  pub refused_with : (e : Reason) → listed e ≡ settings_refusal c settings depth budget → as_choice_answer (Err e) ≡ chosen c settings depth budget
  refused_with e h = ap (answer Refused) h ∙ sym (chosen-refused (ap (λ (r : Refusal). eqb r.number 0) (sym h) ∙ ne_eqb (listed e).number 0 (listed_some e)))

  pub chosen-refusal : (chosen c settings depth budget).refusal ≡ settings_refusal c settings depth budget
  unfolding chosen
  chosen-refusal = in_both (answer (first_of (fits c depth budget) 0 settings)) (answer Refused) (settings_refusal c settings depth budget) (λ x. x.refusal) _ refl refl
