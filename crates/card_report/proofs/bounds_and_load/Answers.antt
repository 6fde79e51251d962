-- `bounds_and_load` meets its contract: what a card gives is accepted, so its bounds and its load at 1/2 are not refused.
use Rattle.std.proofs.Common.{◌≡◌, Err, Ok, List, ap, sym, ◌∙◌, subst, refl, ℕ}
use Rattle.curve.specs.declared.BoundingRect.{BoundingRect}
use Rattle.curve.specs.declared.Curve.{Curve}
use Rattle.curve.specs.declared.Evaluation.{Evaluation}
use Rattle.curve.specs.declared.Refusal.{Refusal}
use Rattle.curve.specs.declared.reason.Reason.{Reason}
use Rattle.curve.specs.Calls.{bounded, evaluated}
use Rattle.curve.specs.Refusals.{Accepted, parameter_refusal}
use Rattle.curve.specs.Results.{as_evaluation, as_bounding_rect}
use Rattle.curve.proofs.Accepted.{accepted_call}
use Rattle.curve.proofs.Answers.{bounded-refusal, evaluated-refusal}
use Rattle.card_text.specs.declared.CardRead.{CardRead}
use Rattle.card_text.specs.Reading.{read_card}
use Rattle.card_text.specs.Results.{as_card_read}
use Rattle.card_text.proofs.ReadingAnswer.{read-curve-accepted}
use Rattle.curve.proofs.Listed.{listed_some}
use Rattle.card_report.proofs.bounds_and_load.Goals as goal

module _ (card : List ℕ) {c : Curve} (read : as_card_read (Ok c) ≡ read_card card) where
  accepted : Accepted c
  accepted =
      subst Accepted (ap (λ (x : CardRead). x.curve) (sym read))
      (read-curve-accepted card (ap (λ (x : CardRead). x.refusal.number) (sym read)))

  bounds_given : (e : Reason) → as_bounding_rect (Err e) ≡ bounded c → ⊥
  bounds_given e h = listed_some e (ap (λ (r : Refusal). r.number) (ap (λ (x : BoundingRect). x.refusal) h ∙ bounded-refusal c ∙ accepted))

  load_given : (e : Reason) → as_evaluation (Err e) ≡ evaluated c 1 2 → ⊥
  unfolding parameter_refusal
  load_given e h =
      listed_some e (ap (λ (r : Refusal). r.number) (ap (λ (x : Evaluation). x.refusal) h ∙ evaluated-refusal c 1 2 ∙ accepted_call c 1 2 accepted refl))

pub returns-in_err-bounds-clause-refusal : goal.returns-in_err-bounds-clause-refusal
returns-in_err-bounds-clause-refusal c = absurd (bounds_given c.args.card.now c.in_ok-c.ensures _ c.in_err-bounds.ensures)

pub returns-in_err-reading-clause-refusal : goal.returns-in_err-reading-clause-refusal
returns-in_err-reading-clause-refusal c = absurd (load_given c.args.card.now c.in_ok-c.ensures _ c.in_err-reading.ensures)
