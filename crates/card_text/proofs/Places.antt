-- The number and the place of a card's refusal are at most any limit that neither the longest card nor the given bytes exceed.
-- Assumes nothing.
use mathlib.Core.Bool.{Bool, true, false, cond, ◌&&◌}
use mathlib.Core.List.{List}
use Prim.Native.Nat.{ℕ, zero, suc, ◌+◌, ◌*◌, ◌≤◌}
use native.Mathlib.Omega.{arith}
use lib.Dec.{leb, eqb}
use lib.ListN.{length, get_or}
use Rattle.columns.specs.Column.{read_at}
use Rattle.columns.specs.Line.{newline}
use Rattle.curve.specs.declared.Refusal.{Refusal}
use Rattle.curve.specs.Limits.{max_degree}
use Rattle.curve.specs.Rect.{sides_in_range, sides_ordered}
use Rattle.curve.specs.Curve.{point}
use Rattle.curve.specs.Refusals.{◌or_else◌, first_failing, degree_refusal, range_refusal, order_refusal, unless_at}
use Rattle.card_text.specs.Card.{header_length, row_length, card_length, longest_card, row_at}
use Rattle.card_text.specs.Reading.{well_formed, number_at, decoded, column_refusal, line_end_refusal, ends_refusal, row_refusal, rows_refusal, short_refusal, length_refusal, header_refusal, card_refusal}
use Rattle.card_text.proofs.UpTo.{degree-at-most}

degree-few : (bytes : List ℕ) → (decoded bytes).degree ≤ max_degree
unfolding decoded
degree-few bytes = degree-at-most (number_at bytes 0)

module _ (m : ℕ) (enough : longest_card ≤ m) where
  -- ---- refusals with a number and a place of at most m

  abbrev Within : Refusal → Type 0
  Within r = (r.number ≤ m) × (r.place ≤ m)

  within_or : (a b : Refusal) → Within a → Within b → Within (a or_else b)
  within_or a b h k = go (eqb a.number 0)
    where
      go : (t : Bool) → Within (cond t b a)
      go true = k
      go false = h

  within-unless : (ok : Bool) (number place : ℕ) → number ≤ m → place ≤ m → Within (unless_at ok number place)
  within-unless true number place h k = omega arith
  within-unless false number place h k = (h, k)

  within_failing : (ok : ℕ → Bool) (number count from : ℕ) → number ≤ m → from + count ≤ m → Within (first_failing ok number count from)
  unfolding first_failing
  within_failing ok number zero from h k = omega arith
  within_failing ok number (suc count) from h k = go (ok from) (within_failing ok number count (suc from) h (omega arith))
    where
      go : (t : Bool) → Within (first_failing ok number count (suc from)) → Within (cond t (first_failing ok number count (suc from)) (record { number = number; place = from }))
      go true rest = rest
      go false rest = omega arith

  -- ---- a card's lines

  module _ (bytes : List ℕ) where
    within-column : (at : ℕ) → at ≤ m → Within (column_refusal bytes at)
    unfolding column_refusal
    within-column at h = within-unless (well_formed (read_at bytes at)) 11 at (omega arith) h

    within_end : (at : ℕ) → at ≤ m → Within (line_end_refusal bytes at)
    unfolding line_end_refusal
    within_end at h = within-unless (eqb (get_or bytes at 0) newline) 11 at (omega arith) h

    within-ends : (at : ℕ) → at + 10 ≤ m → Within (ends_refusal bytes at)
    unfolding ends_refusal
    within-ends at h = within_or (column_refusal bytes at) (column_refusal bytes (at + 10)) (within-column at (omega arith)) (within-column (at + 10) h)

    within-row : (at : ℕ) → at + 40 ≤ m → Within (row_refusal bytes at)
    unfolding row_refusal
    within-row at h =
        within_or (ends_refusal bytes at) _ (within-ends at (omega arith))
        (within_or (ends_refusal bytes (at + 20)) (line_end_refusal bytes (at + 40)) (within-ends (at + 20) (omega arith)) (within_end (at + 40) h))

    within-rows : (count : ℕ) → header_length + row_length * count ≤ m → Within (rows_refusal bytes count)
    unfolding rows_refusal
    within-rows zero h = omega arith
    within-rows (suc count) h =
        within_or (rows_refusal bytes count) (row_refusal bytes (row_at count)) (within-rows count (omega arith)) (within-row (row_at count) (omega arith))

    -- ---- the card

    module _ (size : length bytes ≤ m) where
      first-within : Within (header_refusal bytes)
      unfolding header_refusal short_refusal length_refusal
      first-within =
          let n = (decoded bytes).degree in
          within_or (short_refusal bytes) _ (within-unless (leb header_length (length bytes)) 10 (length bytes) (omega arith) size)
          (within_or (column_refusal bytes 0) _ (within-column 0 (omega arith))
          (within_or (line_end_refusal bytes 10) _ (within_end 10 (omega arith))
          (within_or (degree_refusal (decoded bytes).degree) (length_refusal n (length bytes))
          (within-unless (leb 1 n && leb n max_degree) 1 0 (omega arith) (omega arith))
          (within-unless (eqb (length bytes) (card_length n)) 10 (length bytes) (omega arith) size))))

      pub card_within : ((card_refusal bytes).number ≤ m) × ((card_refusal bytes).place ≤ m)
      unfolding card_refusal range_refusal order_refusal
      card_within =
          let c = decoded bytes in
          let h = degree-few bytes in
          within_or (header_refusal bytes) _ first-within
          (within_or (rows_refusal bytes (c.degree + 1)) _ (within-rows (c.degree + 1) (omega arith))
          (within_or (range_refusal c) (order_refusal c)
          (within_failing (λ k. sides_in_range (point c k)) 2 (c.degree + 1) 0 (omega arith) (omega arith))
          (within_failing (λ k. sides_ordered (point c k)) 3 (c.degree + 1) 0 (omega arith) (omega arith))))
