-- The promises of specs/Promises.antt, proved.
-- Assumes nothing.
use mathlib.Core.Path.{◌≡◌, refl, sym, ap, ap₂, ◌∙◌}
use mathlib.Core.Bool.{Bool, cond}
use mathlib.Core.List.{List, ◌++◌}
use Prim.Native.Nat.{ℕ, ◌+◌, ◌≤◌, ◌<◌}
use native.Mathlib.Omega.{arith}
use lib.Dec.{leb, eqb}
use lib.ListN.{length, take, drop}
use lib.Seq.{take_at}
use Rattle.curve.specs.declared.Curve.{Curve}
use Rattle.curve.specs.declared.Refusal.{Refusal}
use Rattle.curve.specs.Rect.{zero_rect}
use Rattle.curve.specs.Curve.{point, SameButSum}
use Rattle.curve.specs.Refusals.{none, ◌or_else◌, Accepted, unless_at, unless_refused}
use Rattle.curve.proofs.Accepted.{accepted_facts}
use Rattle.curve.proofs.Points.{point-past}
use Rattle.curve_promises.proofs.PastUnread.{refusals}
use Rattle.card_text.specs.declared.CardWritten.{CardWritten}
use Rattle.card_text.specs.Card.{header, rows, card_of, card_length, row_at}
use Rattle.card_text.specs.Reading.{number_at, degree_of, rect_at, decoded, read_card}
use Rattle.card_text.specs.Writing.{writing_refusal, write_card, bytes_after}
use Rattle.card_text_promises.specs.Promises.{CardLength, WrittenReads, ReadIsWritten, PastUnwritten, ReadZeroPast, ReadSum}
use Rattle.card_text_promises.proofs.CardReads.{card_reads, same_trimmed}
use Rattle.card_text.proofs.Fitting.{card_long}
use Rattle.card_text_promises.proofs.LinesStand.{rows_agree, card_stands}
use Rattle.card_text.proofs.ReadingAnswer.{first-line, either, zero-first, zero-later, read-curve, read-curve-accepted}
use Rattle.card_text.proofs.WritingAnswer.{writing-accepted, write_accepted}

pub card-length : CardLength
card-length c ok =
    let size = card_long c ok in
    let facts = accepted_facts c ok in
    (size, omega (arith, facts.some), omega (arith, facts.few))

-- the front of what is written
module _ (c : Curve) (out : List ℕ) (ok : Accepted c) (room : card_length c.degree ≤ length out) where
  written : (record { refusal = none; length = card_length c.degree } ≡ write_card c out) × (card_of c ++ drop (card_length c.degree) out ≡ bytes_after c out)
  written = write_accepted c out (sym (writing-accepted c (length out) ok room)) refl

  front : take (card_length c.degree) (bytes_after c out) ≡ card_of c
  front =
      ap (λ (l : List ℕ). take (card_length c.degree) l) (sym written.1)
      ∙ take_at (card_of c) (drop (card_length c.degree) out) (card_length c.degree) (card_long c ok)

pub written_reads : WrittenReads
written_reads c out ok room =
    let size : (write_card c out).length ≡ card_length c.degree = ap (λ (x : CardWritten). x.length) (sym (written c out ok room).0) in
    record {
      size = size;
      answer = ap (λ (m : ℕ). read_card (take m (bytes_after c out))) size ∙ ap read_card (front c out ok room) ∙ card_reads c ok;
      same = same_trimmed c (accepted_facts c ok).few;
    }

-- ---- reading

pub read_is_written : ReadIsWritten
read_is_written bytes h =
    let c = (read_card bytes).curve in
    let ok = read-curve-accepted bytes h in
    let exactly : card_of c ≡ bytes = ap card_of (read-curve bytes h) ∙ card_stands bytes (first-line bytes (zero-first bytes h)) (zero-later bytes h).0 in
    let size : length bytes ≡ card_length c.degree = sym (ap length exactly) ∙ card_long c ok in
    record {
      accepted = ok;
      exactly = exactly;
      again = λ out room. ap (λ (m : ℕ). take m (bytes_after c out)) size ∙ front c out ok (omega arith) ∙ exactly;
    }

pub read-zero-past : ReadZeroPast
unfolding decoded
read-zero-past bytes k =
    either bytes (λ r. r.curve.degree < k → point r.curve k ≡ zero_rect)
    (point-past (degree_of (number_at bytes 0)) 0 (λ j. rect_at bytes (row_at j)) k)
    (point-past 0 0 (λ j. zero_rect) k)

pub read-sum : ReadSum
unfolding decoded
read-sum bytes = either bytes (λ r. r.curve.sum ≡ 0) refl refl

-- ---- equal curves

module _ (c e : Curve) (same : SameButSum c e) where
  same_card : card_of c ≡ card_of e
  unfolding card_of
  same_card =
      ap (λ (l : List ℕ). header c.degree ++ l) (rows_agree (c.degree + 1) (λ k h. same.controls k (omega arith)))
      ∙ ap (λ (n : ℕ). header n ++ rows (n + 1) (point e)) same.degrees

  same-writing : (size : ℕ) → writing_refusal c size ≡ writing_refusal e size
  unfolding writing_refusal
  same-writing size =
      ap₂ (λ (r : Refusal) (n : ℕ). r or_else unless_at (leb (card_length n) size) 12 (card_length n)) (refusals c e same) same.degrees

pub past_unwritten : PastUnwritten
unfolding write_card bytes_after unless_refused
past_unwritten c e out same =
    let refused = same-writing c e same (length out) in
    let test = ap (λ (r : Refusal). eqb r.number 0) refused in (
      ap₂ (λ (r : Refusal) (n : ℕ). cond (eqb r.number 0) (record { refusal = r; length = card_length n }) (record { refusal = r; length = 0 })) refused same.degrees,
      ap (λ (b : Bool). cond b (card_of c ++ drop (card_length c.degree) out) out) test
          ∙ ap₂ (λ (l : List ℕ) (n : ℕ). cond (eqb (writing_refusal e (length out)).number 0) (l ++ drop (card_length n) out) out) (same_card c e same) same.degrees,
    )
