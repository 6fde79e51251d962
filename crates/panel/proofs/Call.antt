-- The panel call's refusal and buffer, case by case, in the order of the code's tests.
-- Assumes nothing.
use Rattle.std.specs.Prelude.{Ok, Err}
use mathlib.Core.Path.{◌≡◌, sym, ap, ◌∙◌, subst}
use mathlib.Core.Bool.{Bool, cond}
use mathlib.Core.List.{List, ◌++◌}
use Prim.Native.Nat.{ℕ, ◌≤◌}
use lib.Dec.{leb, eqb}
use lib.ListN.{length, drop}
use borrow.Author.Tests.{eq-eqb, ne_eqb, leb-true}
use Rattle.curve.specs.declared.Curve.{Curve}
use Rattle.curve.specs.declared.Refusal.{Refusal}
use Rattle.curve.specs.declared.Evaluation.{Evaluation}
use Rattle.curve.specs.declared.Reading.{Reading}
use Rattle.curve.specs.declared.reason.Reason.{Reason}
use Rattle.curve.specs.Reason.{listed}
use Rattle.curve.specs.Refusals.{none, ◌or_else◌, parameter_refusal, Accepted, AcceptedAt, unless_at, unless_refused}
use Rattle.curve.specs.Calls.{evaluated}
use Rattle.curve.specs.Results.{as_evaluation}
use Rattle.curve.proofs.Refused.{number_passed}
use Rattle.curve.proofs.Tests.{or_split}
use Rattle.curve.proofs.Accepted.{number-accepted-at, call_parameter}
use Rattle.curve.proofs.Answers.{evaluated-refusal}
use Rattle.card_text.specs.declared.CardRead.{CardRead}
use Rattle.card_text.specs.Reading.{card_refusal, read_card}
use Rattle.card_text.specs.Results.{as_card_read}
use Rattle.card_text.proofs.Accepting.{unless-zero}
use Rattle.card_text.proofs.ReadingAnswer.{read-refusal, read-curve-accepted}
use Rattle.panel.specs.Panel.{load_bytes, load_length, panel_refusal, panel_load, panel_bytes}
use Rattle.curve.proofs.Listed.{listed_first}

-- the curve of a card that is not refused is accepted
pub card_accepted : (card : List ℕ) → (card_refusal card).number ≡ 0 → Accepted (read_card card).curve
card_accepted card h = read-curve-accepted card (number_passed (sym (read-refusal card)) h)

-- what a result of the reader says of the card's refusal
read_ok : (card : List ℕ) {c : Curve} → as_card_read (Ok c) ≡ read_card card → card_refusal card ≡ none
read_ok card h = sym (read-refusal card) ∙ ap (λ (x : CardRead). x.refusal) (sym h)

read_err : (card : List ℕ) (e : Reason) → as_card_read (Err e) ≡ read_card card → listed e ≡ card_refusal card
read_err card e h = ap (λ (x : CardRead). x.refusal) h ∙ read-refusal card

module _ (card : List ℕ) (num den : ℕ) where
  -- once the card is read, evaluation refuses the parameter alone
  refusal-read : {c : Curve} → as_card_read (Ok c) ≡ read_card card → parameter_refusal num den ≡ (evaluated c num den).refusal
  refusal-read {c} h =
      let a : Accepted c = subst Accepted (ap (λ (x : CardRead). x.curve) (sym h)) (card_accepted card (ap (λ (r : Refusal). r.number) (read_ok card h))) in
      sym (evaluated-refusal c num den ∙ call_parameter c num den a)

  module _ (size : ℕ) where
    -- 12, or none
    abbrev lack : Refusal
    lack = unless_at (leb load_length size) 12 load_length

    abbrev later : Refusal
    later = parameter_refusal num den or_else lack

    -- what is refused by the result of each step
    pub unread : (e : Reason) → as_card_read (Err e) ≡ read_card card → listed e ≡ panel_refusal card num den size
    unfolding panel_refusal
    unread e h = sym (listed_first e later) ∙ ap (λ (x : Refusal). x or_else later) (read_err card e h)

    module _ {c : Curve} (read : as_card_read (Ok c) ≡ read_card card) where
      past_card : later ≡ panel_refusal card num den size
      unfolding panel_refusal
      past_card = ap (λ (x : Refusal). x or_else later) (sym (read_ok card read))

      pub not_evaluated : (e : Reason) → as_evaluation (Err e) ≡ evaluated c num den → listed e ≡ panel_refusal card num den size
      not_evaluated e h =
          sym (listed_first e lack)
          ∙ ap (λ (x : Refusal). x or_else lack) (ap (λ (x : Evaluation). x.refusal) h ∙ sym (refusal-read read))
          ∙ past_card

      pub past_parameter : {r : Reading} → as_evaluation (Ok r) ≡ evaluated c num den → lack ≡ panel_refusal card num den size
      past_parameter h =
          ap (λ (x : Refusal). x or_else lack) (ap (λ (x : Evaluation). x.refusal) h ∙ sym (refusal-read read)) ∙ past_card

    -- number 0 says that none of them applies
    pub none-refused : (panel_refusal card num den size).number ≡ 0 → ((card_refusal card).number ≡ 0) × AcceptedAt num den × (load_length ≤ size)
    unfolding panel_refusal
    none-refused h =
        let (first, rest) = or_split (card_refusal card) later h in
        let (second, third) = or_split (parameter_refusal num den) lack rest in
        (first, number-accepted-at num den second, leb-true load_length size (unless-zero (leb load_length size) 11 load_length third))

  -- ---- the buffer

  module _ (out : List ℕ) {r : Refusal} (e : r ≡ panel_refusal card num den (length out)) where
    abbrev bytes_if : Bool → List ℕ
    bytes_if b = cond b (load_bytes (panel_load card num den) ++ drop load_length out) out

    to_bytes : bytes_if (eqb r.number 0) ≡ panel_bytes card num den out
    unfolding panel_bytes unless_refused
    to_bytes = ap (λ (x : Refusal). bytes_if (eqb x.number 0)) e

    pub kept : (r.number ≡ 0 → ⊥) → out ≡ panel_bytes card num den out
    kept some = ap bytes_if (sym (ne_eqb r.number 0 some)) ∙ to_bytes

    pub written : r.number ≡ 0 → load_bytes (panel_load card num den) ++ drop load_length out ≡ panel_bytes card num den out
    written zero = ap bytes_if (sym (eq-eqb r.number 0 zero)) ∙ to_bytes

    -- what a refused call answers and leaves
    pub refused : (r.number ≡ 0 → ⊥) → (r.number ≡ (panel_refusal card num den (length out)).number) × (out ≡ panel_bytes card num den out)
    refused some = (ap (λ (x : Refusal). x.number) e, kept some)
