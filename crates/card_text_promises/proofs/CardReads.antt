-- The card of an accepted curve is read, without a refusal, as the curve.
-- Assumes nothing.
use mathlib.Core.Path.{◌≡◌, refl, sym, ap, ap₂, ◌∙◌}
use mathlib.Core.Bool.{◌&&◌}
use mathlib.Core.List.{List}
use Prim.Native.Nat.{ℕ, ◌+◌, ◌*◌, ◌≤◌}
use native.Mathlib.Omega.{arith}
use lib.Dec.{leb, eqb}
use lib.ListN.{length}
use borrow.Author.Tests.{le-leb, eq-eqb}
use Rattle.curve.specs.declared.Curve.{Curve}
use Rattle.curve.specs.declared.Rect.{Rect}
use Rattle.curve.specs.declared.Refusal.{Refusal}
use Rattle.curve.specs.Limits.{max_degree}
use Rattle.curve.specs.Curve.{point, curve_of, SameButSum}
use Rattle.curve.specs.Refusals.{none, unless, curve_refusal, degree_refusal, Accepted}
use Rattle.curve.proofs.Accepted.{accepted_ready}
use Rattle.curve_promises.proofs.PastUnread.{refusals}
use Rattle.curve.proofs.Places.{points_agree}
use Rattle.curve.proofs.Points.{point_at}
use Rattle.card_text.specs.Card.{header, rows, card_of, header_length, row_length, card_length, row_at}
use Rattle.card_text.specs.Reading.{degree_of, rect_at, decoded, column_refusal, line_end_refusal, short_refusal, length_refusal, header_refusal, row_refusal, rows_refusal, card_refusal, read_card}
use Rattle.card_text.proofs.Accepting.{or_none, unless-none}
use Rattle.card_text.proofs.UpTo.{degree_of_pos}
use Rattle.card_text.proofs.Fitting.{header_long, row_long, rows_long, card_long}
use Rattle.card_text_promises.proofs.LinesRead.{header_read, row_read, each_row, rows-read}
use Rattle.card_text.proofs.ReadingAnswer.{card_later, read-accepted}
use Rattle.card_text.proofs.Stands.{Stands, stands_whole, stands_first, stands_second}

-- a curve is equal to itself with zero past its degree, but for the sum
pub same_trimmed : (c : Curve) → c.degree ≤ max_degree → SameButSum c (curve_of c.degree 0 (point c))
same_trimmed c few = record { degrees = refl; controls = λ k h. sym (point_at c.degree 0 (point c) k few h) }

module _ (c : Curve) (ok : Accepted c) where
  abbrev n : ℕ
  n = c.degree

  abbrev card : List ℕ
  card = card_of c

  few : n ≤ max_degree
  few = (accepted_ready c ok).few

  first : Stands card 0 header_length (header n)
  unfolding card_of
  first = stands_first (header n) (rows (n + 1) (point c)) (stands_whole card) (header_long n few)

  others : Stands card header_length (row_length * (n + 1)) (rows (n + 1) (point c))
  unfolding card_of
  others =
      stands_second (header n) (rows (n + 1) (point c)) (stands_whole card) (header_long n few)
      (rows_long (n + 1) (point c) (λ k h. row_long ((accepted_ready c ok).held k (omega arith))))

  line : (k : ℕ) → k ≤ n → (row_refusal card (row_at k) ≡ none) × (rect_at card (row_at k) ≡ point c k)
  line k h =
      let held = (accepted_ready c ok).held in
      row_read card (row_at k) (point c k) (held k h) (each_row card (point c) (n + 1) (λ i l. held i (omega arith)) others k (omega arith))

  degree : (decoded card).degree ≡ n
  unfolding decoded
  degree = ap degree_of (header_read card n few first).1 ∙ degree_of_pos n few

  curve : decoded card ≡ curve_of n 0 (point c)
  unfolding decoded
  curve =
      ap (λ (m : ℕ). curve_of m 0 (λ k. rect_at card (row_at k))) degree
      ∙ ap (λ (l : List Rect). record { degree = n; sum = 0; points = l }) (points_agree n (λ k. rect_at card (row_at k)) (point c) (λ k h. (line k h).1))

  -- none of the refusals applies
  none-degree : degree_refusal (decoded card).degree ≡ none
  none-degree =
      ap (λ (m : ℕ). unless (leb 1 m && leb m max_degree) 1) degree
      ∙ unless-none (leb 1 n && leb n max_degree) 1 0 (ap₂ ◌&&◌ (le-leb 1 n (accepted_ready c ok).some) (le-leb n max_degree few))

  none-length : length_refusal (decoded card).degree (length card) ≡ none
  unfolding length_refusal
  none-length =
      ap (λ (m : ℕ). length_refusal m (length card)) degree
      ∙ unless-none (eqb (length card) (card_length n)) 10 (length card) (eq-eqb (length card) (card_length n) (card_long c ok))

  none_first : header_refusal card ≡ none
  unfolding header_refusal short_refusal
  none_first =
      let (entry, number, end) = header_read card n few first in
      let size = card_long c ok in
      or_none (short_refusal card) _ (unless-none (leb header_length (length card)) 10 (length card) (le-leb header_length (length card) (omega arith)))
      (or_none (column_refusal card 0) _ entry (or_none (line_end_refusal card 10) _ end (or_none (degree_refusal (decoded card).degree) (length_refusal (decoded card).degree (length card)) none-degree none-length)))

  none_all : card_refusal card ≡ none
  none_all =
      card_later card (ap (λ (r : Refusal). r.number) none_first)
      ∙ or_none (rows_refusal card ((decoded card).degree + 1)) (curve_refusal (decoded card))
      (ap (λ (m : ℕ). rows_refusal card (m + 1)) degree ∙ rows-read card (n + 1) (λ k h. (line k (omega arith)).0))
      (ap curve_refusal curve ∙ sym (refusals c (curve_of n 0 (point c)) (same_trimmed c few)) ∙ ok)

  pub card_reads : read_card (card_of c) ≡ record { refusal = none; curve = curve_of c.degree 0 (point c) }
  card_reads =
      sym (read-accepted card (sym none_all) refl) ∙ ap (λ (x : Curve). record { refusal = none; curve = x }) curve
