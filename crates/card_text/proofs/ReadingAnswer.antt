-- The reader's answer by whether the card is refused, its refusal once the first line is accepted, and what it is where nothing is refused.
-- Assumes nothing.
use mathlib.Core.Path.{◌≡◌, refl, sym, ap, ◌∙◌, subst}
use mathlib.Core.Bool.{Bool, true, false, cond}
use mathlib.Core.List.{List}
use Prim.Native.Nat.{ℕ, ◌+◌, ◌≤◌}
use lib.Dec.{eqb}
use lib.ListN.{length}
use borrow.Author.Tests.{eq-eqb, ne_eqb, eqb-true}
use Rattle.curve.specs.declared.Refusal.{Refusal}
use Rattle.curve.specs.Limits.{max_degree}
use Rattle.curve.specs.Curve.{zero_curve}
use Rattle.curve.specs.Refusals.{◌or_else◌, degree_refusal, range_refusal, order_refusal, curve_refusal, Accepted}
use Rattle.curve.proofs.Accepted.{number-accepted}
use Rattle.curve.proofs.Refused.{or_first, or_second}
use Rattle.curve.proofs.Tests.{or_split}
use Rattle.card_text.specs.declared.CardRead.{CardRead}
use Rattle.card_text.specs.Card.{card_length}
use Rattle.card_text.specs.Reading.{decoded, column_refusal, line_end_refusal, short_refusal, length_refusal, header_refusal, rows_refusal, card_refusal, read_card}
use Rattle.card_text.proofs.Accepting.{unless-zero, from_one}

module _ (bytes : List ℕ) where
  -- what is known once the first line is accepted
  pub record FirstLine : Type 0 where
    pub entry : (column_refusal bytes 0).number ≡ 0
    pub ended : (line_end_refusal bytes 10).number ≡ 0
    pub degree : (degree_refusal (decoded bytes).degree).number ≡ 0
    pub some : 1 ≤ (decoded bytes).degree
    pub few : (decoded bytes).degree ≤ max_degree
    pub size : length bytes ≡ card_length (decoded bytes).degree

  pub first-line : (header_refusal bytes).number ≡ 0 → FirstLine
  unfolding header_refusal length_refusal
  first-line h =
      let n = (decoded bytes).degree in
      let (short, h₁) = or_split (short_refusal bytes) _ h in
      let (entry, h₂) = or_split (column_refusal bytes 0) _ h₁ in
      let (ended, h₃) = or_split (line_end_refusal bytes 10) _ h₂ in
      let (degree, whole) = or_split (degree_refusal (decoded bytes).degree) (length_refusal n (length bytes)) h₃ in
      let (low, high) = from_one max_degree n degree in
      record {
        entry = entry;
        ended = ended;
        degree = degree;
        some = low;
        few = high;
        size = eqb-true (length bytes) (card_length n) (unless-zero (eqb (length bytes) (card_length n)) 9 (length bytes) whole);
      }

  -- the whole refusal, where the first line is refused and where it is not
  abbrev later_lines : Refusal
  later_lines = rows_refusal bytes ((decoded bytes).degree + 1) or_else range_refusal (decoded bytes) or_else order_refusal (decoded bytes)

  pub card_first : ((header_refusal bytes).number ≡ 0 → ⊥) → card_refusal bytes ≡ header_refusal bytes
  unfolding card_refusal
  card_first h = sym (or_first (header_refusal bytes) later_lines h)

  pub card_later : (header_refusal bytes).number ≡ 0 → card_refusal bytes ≡ (rows_refusal bytes ((decoded bytes).degree + 1) or_else curve_refusal (decoded bytes))
  unfolding card_refusal curve_refusal
  card_later h =
      let c = decoded bytes in
      sym (or_second (header_refusal bytes) later_lines h)
      ∙ ap (λ (r : Refusal). rows_refusal bytes (c.degree + 1) or_else r)
      (or_second (degree_refusal c.degree) (range_refusal c or_else order_refusal c) (first-line h).degree)

  -- the answer to a refusal, by the test of its number
  abbrev chosen : Bool → Refusal → CardRead
  chosen b r = cond b (record { refusal = r; curve = decoded bytes }) (record { refusal = r; curve = zero_curve })

  to-answer : {r : Refusal} → r ≡ card_refusal bytes → chosen (eqb r.number 0) r ≡ read_card bytes
  unfolding read_card
  to-answer e = ap (λ (x : Refusal). chosen (eqb x.number 0) x) e

  pub read-refused : {r : Refusal} → r ≡ card_refusal bytes → (r.number ≡ 0 → ⊥) → record { refusal = r; curve = zero_curve } ≡ read_card bytes
  read-refused {r} e some = ap (λ (b : Bool). chosen b r) (sym (ne_eqb r.number 0 some)) ∙ to-answer e

  pub read-accepted : {r : Refusal} → r ≡ card_refusal bytes → r.number ≡ 0 → record { refusal = r; curve = decoded bytes } ≡ read_card bytes
  read-accepted {r} e none = ap (λ (b : Bool). chosen b r) (sym (eq-eqb r.number 0 none)) ∙ to-answer e

  -- what holds of the answer wherever it holds of both cases
  pub either : (F : CardRead → Type 0) → F (chosen true (card_refusal bytes)) → F (chosen false (card_refusal bytes)) → F (read_card bytes)
  unfolding read_card
  either F yes? no? = by (eqb (card_refusal bytes).number 0)
    where
      by : (b : Bool) → F (chosen b (card_refusal bytes))
      by true = yes?
      by false = no?

  pub read-refusal : (read_card bytes).refusal ≡ card_refusal bytes
  read-refusal = either (λ r. r.refusal ≡ card_refusal bytes) refl refl

  -- a card that is not refused: its first line, its other lines, and its curve
  module _ (h : (read_card bytes).refusal.number ≡ 0) where
    zero_all : (card_refusal bytes).number ≡ 0
    zero_all = subst (λ (r : Refusal). r.number ≡ 0) read-refusal h

    pub zero-first : (header_refusal bytes).number ≡ 0
    unfolding card_refusal
    zero-first = (or_split (header_refusal bytes) later_lines zero_all).0

    pub zero-later : ((rows_refusal bytes ((decoded bytes).degree + 1)).number ≡ 0) × ((curve_refusal (decoded bytes)).number ≡ 0)
    zero-later =
        or_split (rows_refusal bytes ((decoded bytes).degree + 1)) (curve_refusal (decoded bytes))
        (subst (λ (r : Refusal). r.number ≡ 0) (card_later zero-first) zero_all)

    pub read-curve : (read_card bytes).curve ≡ decoded bytes
    read-curve = ap (λ (r : CardRead). r.curve) (sym (read-accepted refl zero_all))

    pub read-curve-accepted : Accepted (read_card bytes).curve
    read-curve-accepted = subst Accepted (sym read-curve) (number-accepted (decoded bytes) zero-later.1)
