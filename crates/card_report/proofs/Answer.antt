-- What is shown by whether the card is refused, and how long it is.
-- Assumes nothing.
use mathlib.Core.Path.{◌≡◌, ap, ◌∙◌}
use mathlib.Core.Bool.{Bool, true, cond}
use mathlib.Core.List.{List, [], ◌∷◌}
use Prim.Native.Nat.{ℕ, ◌≤◌}
use native.Mathlib.Omega.{arith}
use lib.IntN.{pos}
use lib.ListN.{length, take, length-append, length-take}
use borrow.Author.Tests.{eq-eqb, ne_eqb}
use Rattle.columns.specs.Line.{placed, all_fit, after_line}
use Rattle.columns.proofs.Lines.{number_fits, fit_none, fit_more, line_long}
use Rattle.columns.proofs.Put.{line_put}
use Rattle.curve.specs.declared.Curve.{Curve}
use Rattle.curve.specs.declared.Refusal.{Refusal}
use Rattle.curve.specs.Calls.{bounded, evaluated}
use Rattle.curve.proofs.BoundsHeld.{bounds_held}
use Rattle.curve.proofs.Loads.{load-held}
use Rattle.card_text.specs.declared.CardRead.{CardRead}
use Rattle.card_text.specs.Card.{row}
use Rattle.card_text.specs.Reading.{read_card}
use Rattle.card_text.proofs.Fitting.{row_long}
use Rattle.card_text.proofs.Places.{card_within}
use Rattle.card_text.proofs.ReadingAnswer.{read-refusal}
use Rattle.card_report.specs.Report.{most_bytes, curve_lines, refusal_line, shown, most_shown}

-- ---- lengths

pub lines_long : (c : Curve) → length (curve_lines c) ≡ most_shown
unfolding curve_lines
lines_long c =
    length-append (row (bounded c).rect) (row (evaluated c 1 2).load) ∙ rw (row_long (bounds_held c), row_long (load-held c 1 2))

-- a refusal's two numbers fit their columns
module _ (r : Refusal) (small : (r.number ≤ most_bytes) × (r.place ≤ most_bytes)) where
  refusal-fits : all_fit (pos r.number ∷ pos r.place ∷ []) ≡ true
  refusal-fits =
      fit_more (pos r.number) (pos r.place ∷ []) (number_fits r.number (omega arith)) (fit_more (pos r.place) [] (number_fits r.place (omega arith)) fit_none)

  pub refusal_long : length (refusal_line r) ≡ 21
  unfolding refusal_line
  refusal_long = line_long (pos r.number ∷ pos r.place ∷ []) refusal-fits

  pub refusal_put : (bytes : List ℕ) → 21 ≤ length bytes → after_line bytes 0 (pos r.number ∷ pos r.place ∷ []) ≡ placed bytes 0 (refusal_line r)
  unfolding refusal_line
  refusal_put bytes room = (line_put bytes 0 (pos r.number ∷ pos r.place ∷ []) refusal-fits room).1

-- ---- by the refusal

module _ (input : List ℕ) where
  abbrev card : List ℕ
  card = take most_bytes input

  card_size : length card ≤ most_bytes
  card_size = omega (arith, length-take most_bytes input)

  pub read-within : ((read_card card).refusal.number ≤ most_bytes) × ((read_card card).refusal.place ≤ most_bytes)
  read-within = rw (read-refusal card) (card_within most_bytes (omega arith) card card_size)

  abbrev shown_if : Bool → CardRead → List ℕ
  shown_if b read = cond b (curve_lines read.curve) (refusal_line read.refusal)

  pub shown-refused : ((read_card card).refusal.number ≡ 0 → ⊥) → shown input ≡ refusal_line (read_card card).refusal
  unfolding shown
  shown-refused h = ap (λ (b : Bool). shown_if b (read_card card)) (ne_eqb (read_card card).refusal.number 0 h)

  pub shown-accepted : (read_card card).refusal.number ≡ 0 → shown input ≡ curve_lines (read_card card).curve
  unfolding shown
  shown-accepted h = ap (λ (b : Bool). shown_if b (read_card card)) (eq-eqb (read_card card).refusal.number 0 h)
