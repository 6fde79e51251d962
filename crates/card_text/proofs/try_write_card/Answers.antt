-- `try_write_card` meets its contract: a refusal and an untouched buffer, or the first line and the others behind it.
use Rattle.std.proofs.Common.{rules, ◌≡◌, ℕ, ℤ, List, ◌∷◌, [], Bool, true, false, ◌≤◌, leb, length, pos, sym, ap, ◌∙◌, arith, Err, w64, to_z, of_z, refl, ◌++◌, drop}
use borrow.Author.Tests.{leb-true}
use Rattle.columns.specs.Line.{after_line}
use Rattle.curve.specs.declared.Curve.{Curve}
use Rattle.curve.specs.declared.reason.Reason.{Reason}
use Rattle.curve.specs.declared.reason.Reason.TheVariants.{BufferTooShort}
use Rattle.curve.specs.Refusals.{none, unless_at, curve_refusal}
use Rattle.curve.specs.Reason.{listed}
use Rattle.curve.proofs.Accepted.{accepted_facts}
use Rattle.card_text.specs.Card.{card_of, card_length}
use Rattle.card_text.specs.Writing.{writing_refusal, write_card, bytes_after}
use Rattle.card_text.specs.Results.{as_card_written}
use Rattle.card_text.proofs.Fitting.{header_put}
use Rattle.curve.proofs.Listed.{first_is, goes_on, listed_some, passed, failed}
use Rattle.card_text.proofs.WritingAnswer.{writing-accepted, write_refused, write_accepted, card_placed}
use Rattle.card_text.proofs.try_write_card.Goals as goal

module _ (v : Curve) (out : List ℕ) (e : Reason) where
  refused : listed e ≡ writing_refusal v (length out) → (as_card_written (Err e) ≡ write_card v out) × (out ≡ bytes_after v out)
  refused h = write_refused v out h (listed_some e)

  curve_refused : listed e ≡ curve_refusal v → (as_card_written (Err e) ≡ write_card v out) × (out ≡ bytes_after v out)
  unfolding writing_refusal
  curve_refused h = refused (first_is e (curve_refusal v) _ h)

  short_refused : (needed : ℕ) → none ≡ curve_refusal v → needed ≡ card_length v.degree → leb needed (length out) ≡ false → e ≡ BufferTooShort needed →
      (as_card_written (Err e) ≡ write_card v out) × (out ≡ bytes_after v out)
  unfolding writing_refusal
  short_refused needed ok is short named =
      refused (goes_on (curve_refusal v) _ (listed e) ok (ap listed named ∙ ap (λ (t : Bool). unless_at t 12 needed) (sym short) ∙ ap (λ (n : ℕ). unless_at (leb n (length out)) 12 n) is))

pub returns-in_err-check_curve-clause-answer : goal.returns-in_err-check_curve-clause-answer
returns-in_err-check_curve-clause-answer c =
    let told = (curve_refused c.args.c c.args.out.now c.in_err-check_curve.field-0.0 c.in_err-check_curve.ensures).0 in search rules

pub returns-in_err-check_curve-clause-bytes : goal.returns-in_err-check_curve-clause-bytes
returns-in_err-check_curve-clause-bytes c = (curve_refused c.args.c c.args.out.now c.in_err-check_curve.field-0.0 c.in_err-check_curve.ensures).1

pub returns-in_err-ensure-clause-answer : goal.returns-in_err-ensure-clause-answer
returns-in_err-ensure-clause-answer c =
    let needed = c.card_length-needed in
    let (short, named) = failed _ c.in_err-ensure.field-0.0 (BufferTooShort needed.result) c.in_err-ensure.ensures in
    let told = (short_refused c.args.c c.args.out.now c.in_err-ensure.field-0.0 needed.result c.in_ok-check_curve.ensures needed.ensures short named).0 in search rules

pub returns-in_err-ensure-clause-bytes : goal.returns-in_err-ensure-clause-bytes
returns-in_err-ensure-clause-bytes c =
    let needed = c.card_length-needed in
    let (short, named) = failed _ c.in_err-ensure.field-0.0 (BufferTooShort needed.result) c.in_err-ensure.ensures in
    (short_refused c.args.c c.args.out.now c.in_err-ensure.field-0.0 needed.result c.in_ok-check_curve.ensures needed.ensures short named).1

-- past both checks
module _ (v : Curve) (out : List ℕ) (needed : ℕ) (ok : none ≡ curve_refusal v) (is : needed ≡ card_length v.degree) (room : leb needed (length out) ≡ true) where
  enough : card_length v.degree ≤ length out
  enough = let h = leb-true needed (length out) room in omega arith

  written : (record { refusal = none; length = card_length v.degree } ≡ write_card v out) × (card_of v ++ drop (card_length v.degree) out ≡ bytes_after v out)
  written = write_accepted v out (sym (writing-accepted v (length out) (sym ok) enough)) refl

pub returns-clause-answer : goal.returns-clause-answer
returns-clause-answer c =
    let needed = c.card_length-needed in
    let room = passed _ (BufferTooShort needed.result) c.in_ok-ensure.field-0 c.in_ok-ensure.ensures in
    rw needed.ensures (written c.args.c c.args.out.now needed.result c.in_ok-check_curve.ensures needed.ensures room).0

pub returns-clause-bytes : goal.returns-clause-bytes
returns-clause-bytes c =
    let v = c.args.c in
    let out = c.args.out.now in
    let needed = c.card_length-needed in
    let ok = c.in_ok-check_curve.ensures in
    let room = passed _ (BufferTooShort needed.result) c.in_ok-ensure.field-0 c.in_ok-ensure.ensures in
    let enough = enough v out needed.result ok needed.ensures room in
    let few = (accepted_facts v (sym ok)).few in
    let degree : to_z w64 (of_z w64 c.from.result) ≡ pos v.degree = search rules in
    let first = c.put_line.ensures.1 ∙ ap (λ (z : ℤ). after_line out 0 (z ∷ [])) degree ∙ header_put out v.degree few (omega arith) in
    card_placed v out (sym ok) enough first c.write_rows.ensures ∙ (written v out needed.result ok needed.ensures room).1
