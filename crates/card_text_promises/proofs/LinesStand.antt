-- Accepted lines are the text of what is read from them, so an accepted card is the card of its curve.
-- Assumes nothing.
use mathlib.Core.Path.{◌≡◌, refl, sym, ap, ap₂, ◌∙◌, subst}
use mathlib.Core.List.{List, [], ◌∷◌, ◌++◌}
use Prim.Native.Nat.{ℕ, zero, suc, ◌+◌, ◌*◌, ◌≤◌, ◌<◌}
use native.Mathlib.Omega.{arith}
use lib.IntN.{ℤ}
use Rattle.columns.specs.Line.{line}
use Rattle.curve.specs.declared.Rect.{Rect}
use Rattle.curve.specs.Limits.{max_degree}
use Rattle.curve.specs.Curve.{point}
use Rattle.curve.proofs.Points.{point_at}
use Rattle.curve.proofs.Tests.{or_split}
use Rattle.card_text.specs.Card.{header, row, rows, card_of, row_length, row_at, header_length}
use Rattle.card_text.specs.Reading.{number_at, degree_of, interval_at, rect_at, decoded, column_refusal, line_end_refusal, ends_refusal, row_refusal, rows_refusal}
use Rattle.card_text.proofs.UpTo.{degree_back}
use Rattle.card_text.proofs.Entry.{entry_stands, end_stands, columns-none, column_then}
use Rattle.card_text.proofs.ReadingAnswer.{FirstLine}
use Rattle.card_text.proofs.Stands.{Stands, stands_none, stands_both, stands_at, stands_sized, stands_is}

-- lines of equal rectangles
pub rows_agree : (m : ℕ) {P Q : ℕ → Rect} → ((k : ℕ) → k < m → P k ≡ Q k) → rows m P ≡ rows m Q
unfolding rows
rows_agree zero h = refl
rows_agree (suc m) h = ap₂ (λ (l : List ℕ) (p : Rect). l ++ row p) (rows_agree m (λ k l. h k (omega arith))) (h m (omega arith))

module _ (bytes : List ℕ) where
  pub row_stands : (at : ℕ) → (row_refusal bytes at).number ≡ 0 → Stands bytes at row_length (row (rect_at bytes at))
  unfolding row_refusal ends_refusal rect_at interval_at row line
  row_stands at h =
      let p = rect_at bytes at in
      let (first, h₁) = or_split (ends_refusal bytes at) _ h in
      let (second, end) = or_split (ends_refusal bytes (at + 20)) (line_end_refusal bytes (at + 40)) h₁ in
      let (a, b) = or_split (column_refusal bytes at) (column_refusal bytes (at + 10)) first in
      let (c, d) = or_split (column_refusal bytes (at + 20)) (column_refusal bytes (at + 20 + 10)) second in
      let last = column_then p.reactance.high [] (entry_stands bytes (at + 20 + 10) d) (columns-none bytes (at + 20 + 10 + 10)) in
      let later = column_then p.reactance.low _ (entry_stands bytes (at + 20) c) last in
      let most = column_then p.resistance.high _ (entry_stands bytes (at + 10) b) (stands_at (omega arith) later) in
      stands_both (column_then p.resistance.low _ (entry_stands bytes at a) most) (end_stands bytes (at + 40) end)

  -- the rectangles of the lines
  abbrev rects : ℕ → Rect
  rects k = rect_at bytes (row_at k)

  pub rows_stand : (m : ℕ) → (rows_refusal bytes m).number ≡ 0 → Stands bytes header_length (row_length * m) (rows m rects)
  unfolding rows_refusal rows
  rows_stand zero h = stands_none bytes header_length
  rows_stand (suc m) h =
      let (before, last) = or_split (rows_refusal bytes m) (row_refusal bytes (row_at m)) h in
      let size : row_length * m + row_length ≡ row_length * suc m = omega arith in
      stands_sized size (stands_both (rows_stand m before) (row_stands (row_at m) last))

  pub header_stands : FirstLine bytes → Stands bytes 0 header_length (header (decoded bytes).degree)
  unfolding header decoded line
  header_stands f =
      subst (λ (z : ℤ). Stands bytes 0 header_length (line (z ∷ []))) (degree_back (number_at bytes 0) f.some)
      (stands_both (column_then (number_at bytes 0) [] (entry_stands bytes 0 f.entry) (columns-none bytes 10)) (end_stands bytes 10 f.ended))

  pub card_stands : FirstLine bytes → (rows_refusal bytes ((decoded bytes).degree + 1)).number ≡ 0 → card_of (decoded bytes) ≡ bytes
  unfolding card_of
  card_stands f h =
      let n = (decoded bytes).degree in
      let lines : rows (n + 1) (point (decoded bytes)) ≡ rows (n + 1) rects = rows_agree (n + 1) (λ k l. decoded-point k f.few (omega arith)) in
      ap (λ (l : List ℕ). header n ++ l) lines
      ∙ stands_is (stands_sized (sym f.size) (stands_both (header_stands f) (rows_stand (n + 1) h)))
    where
      decoded-point : (k : ℕ) → (decoded bytes).degree ≤ max_degree → k ≤ (decoded bytes).degree → point (decoded bytes) k ≡ rects k
      decoded-point k few h = unfold decoded in point_at (degree_of (number_at bytes 0)) 0 rects k few h
