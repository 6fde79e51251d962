-- What is promised of cards beside the two calls' equations, over the definitions that their contracts cite.
-- Assumes nothing.
use Rattle.std.specs.Prelude.{◌≡◌, List, ℕ, ◌≤◌, ◌<◌, length, take}
use Rattle.curve.specs.declared.Curve.{Curve}
use Rattle.curve.specs.Rect.{zero_rect}
use Rattle.curve.specs.Curve.{point, curve_of, SameButSum}
use Rattle.curve.specs.Refusals.{none, Accepted}
use Rattle.card_text.specs.Card.{card_of, card_length, longest_card}
use Rattle.card_text.specs.Reading.{read_card}
use Rattle.card_text.specs.Writing.{write_card, bytes_after}

-- a card has exactly 11 + 41 × (n + 1) bytes, from those of degree 1 to those of the longest card
abbrev pub CardLength : Type 0
CardLength =
    (c : Curve) → Accepted c →
    (length (card_of c) ≡ card_length c.degree) × (card_length 1 ≤ length (card_of c)) × (length (card_of c) ≤ longest_card)

-- the bytes that the writer says it wrote are read, without a refusal, as the curve, with zero past its degree and the sum 0
pub record ReadBack (c : Curve) (out : List ℕ) : Type 0 where
  pub size : (write_card c out).length ≡ card_length c.degree
  pub answer : read_card (take (write_card c out).length (bytes_after c out)) ≡ record { refusal = none; curve = curve_of c.degree 0 (point c) }
  pub same : SameButSum c (curve_of c.degree 0 (point c))

abbrev pub WrittenReads : Type 0
WrittenReads = (c : Curve) (out : List ℕ) → Accepted c → card_length c.degree ≤ length out → ReadBack c out

-- a card that is read is the card of its curve, so writing the curve gives the same bytes again
pub record WrittenBack (bytes : List ℕ) : Type 0 where
  pub accepted : Accepted (read_card bytes).curve
  pub exactly : card_of (read_card bytes).curve ≡ bytes
  pub again : (out : List ℕ) → length bytes ≤ length out → take (length bytes) (bytes_after (read_card bytes).curve out) ≡ bytes

abbrev pub ReadIsWritten : Type 0
ReadIsWritten = (bytes : List ℕ) → (read_card bytes).refusal.number ≡ 0 → WrittenBack bytes

-- nothing past the degree is written and no sum of steps, and what is read has zero past its degree
abbrev pub PastUnwritten : Type 0
PastUnwritten = (c e : Curve) (out : List ℕ) → SameButSum c e → (write_card c out ≡ write_card e out) × (bytes_after c out ≡ bytes_after e out)

abbrev pub ReadZeroPast : Type 0
ReadZeroPast = (bytes : List ℕ) (k : ℕ) → (read_card bytes).curve.degree < k → point (read_card bytes).curve k ≡ zero_rect

-- the curve of a card has the sum 0, and so has the zero curve of a refused one
abbrev pub ReadSum : Type 0
ReadSum = (bytes : List ℕ) → (read_card bytes).curve.sum ≡ 0
