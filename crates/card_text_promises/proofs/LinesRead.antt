-- Lines that stand at their offsets are read without a refusal as what they are the text of, so the card of a curve is read as the curve.
-- Assumes nothing.
use mathlib.Core.Path.{◌≡◌, refl, ap₂, subst}
use mathlib.Core.List.{List, [], ◌∷◌}
use mathlib.Core.Logic.{inl, inr}
use Prim.Native.Nat.{ℕ, zero, suc, ◌+◌, ◌*◌, ◌≤◌, ◌<◌}
use native.Mathlib.Nat.{eq-or-lt_of_le}
use native.Mathlib.Omega.{arith}
use lib.IntN.{ℤ, pos}
use Rattle.curve.specs.declared.Interval.{Interval}
use Rattle.curve.specs.declared.Rect.{Rect}
use Rattle.curve.specs.Limits.{max_degree}
use Rattle.curve.specs.Refusals.{none}
use Rattle.curve.specs.Inner.{Held}
use Rattle.curve.specs.Rect.{sides}
use Rattle.card_text.specs.Card.{header, row, rows, header_length, row_length, row_at}
use Rattle.card_text.specs.Reading.{number_at, interval_at, rect_at, column_refusal, line_end_refusal, ends_refusal, row_refusal, rows_refusal}
use Rattle.card_text.proofs.Accepting.{or_none}
use Rattle.card_text.proofs.Entry.{line_read, line-end-read}
use Rattle.card_text.proofs.Fitting.{sides_fit, header-fits, row_long, rows_long}
use Rattle.card_text.proofs.Stands.{Stands, stands_first, stands_second}

module _ (bytes : List ℕ) where
  pub row_read : (at : ℕ) (p : Rect) → Held p → Stands bytes at row_length (row p) → (row_refusal bytes at ≡ none) × (rect_at bytes at ≡ p)
  unfolding row_refusal ends_refusal rect_at interval_at row
  row_read at p h s =
      let entry = line_read bytes at (sides p) (sides_fit h) s in
      let (a, first) = entry 0 at (omega arith) (omega arith) in
      let (b, second) = entry 1 (at + 10) (omega arith) refl in
      let (c, third) = entry 2 (at + 20) (omega arith) refl in
      let (d, fourth) = entry 3 (at + 20 + 10) (omega arith) (omega arith) in
      let end = line-end-read bytes at (sides p) (sides_fit h) s in (
        or_none (ends_refusal bytes at) _ (or_none (column_refusal bytes at) (column_refusal bytes (at + 10)) a b)
            (or_none (ends_refusal bytes (at + 20)) (line_end_refusal bytes (at + 40)) (or_none (column_refusal bytes (at + 20)) (column_refusal bytes (at + 20 + 10)) c d) end),
        ap₂ (λ (i j : Interval). record { resistance = i; reactance = j })
            (ap₂ (λ (x y : ℤ). record { low = x; high = y }) first second)
            (ap₂ (λ (x y : ℤ). record { low = x; high = y }) third fourth),
      )

  pub header_read : (n : ℕ) → n ≤ max_degree → Stands bytes 0 header_length (header n) →
      (column_refusal bytes 0 ≡ none) × (number_at bytes 0 ≡ pos n) × (line_end_refusal bytes 10 ≡ none)
  unfolding header
  header_read n few s =
      let (a, z) = line_read bytes 0 (pos n ∷ []) (header-fits n few) s 0 0 (omega arith) refl in
      (a, z, line-end-read bytes 0 (pos n ∷ []) (header-fits n few) s)

  pub rows-read : (m : ℕ) → ((k : ℕ) → k < m → row_refusal bytes (row_at k) ≡ none) → rows_refusal bytes m ≡ none
  unfolding rows_refusal
  rows-read zero h = refl
  rows-read (suc m) h = or_none (rows_refusal bytes m) (row_refusal bytes (row_at m)) (rows-read m (λ k l. h k (omega arith))) (h m (omega arith))

  -- each of m lines stands at its offset
  pub each_row : (P : ℕ → Rect) (m : ℕ) → ((k : ℕ) → k < m → Held (P k)) → Stands bytes header_length (row_length * m) (rows m P) →
      (k : ℕ) → k < m → Stands bytes (row_at k) row_length (row (P k))
  unfolding rows
  each_row P zero held s k h = absurd (omega arith)
  each_row P (suc m) held s k h =
      let size = rows_long m P (λ i l. row_long (held i (omega arith))) in
      let last = stands_second (rows m P) (row (P m)) s size (row_long (held m (omega arith))) in
      elim (eq-or-lt_of_le h) [
        | inl e ↦ let same : m ≡ k = omega arith in subst (λ (i : ℕ). Stands bytes (row_at i) row_length (row (P i))) same last
        | inr l ↦ each_row P m (λ i l. held i (omega arith)) (stands_first (rows m P) (row (P m)) s size) k (omega arith)
      ]
