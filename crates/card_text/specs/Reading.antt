-- The answer of `read_card` for any bytes: the first refusal in document 01's order with the zero curve, or the curve that the numbers give.
-- Assumes nothing.
use Rattle.std.specs.Prelude.{ℕ, zero, suc, ◌+◌, Bool, true, false, cond, Option, None, Some, List, leb, eqb, ℤ, pos, negsuc, length, get_or}
use Rattle.columns.specs.Column.{read_at}
use Rattle.columns.specs.Line.{newline}
use Rattle.curve.specs.declared.Curve.{Curve}
use Rattle.curve.specs.declared.Interval.{Interval}
use Rattle.curve.specs.declared.Rect.{Rect}
use Rattle.curve.specs.declared.Refusal.{Refusal}
use Rattle.curve.specs.Limits.{max_degree}
use Rattle.curve.specs.Curve.{curve_of, zero_curve}
use Rattle.curve.specs.Refusals.{none, ◌or_else◌, unless_at, degree_refusal, range_refusal, order_refusal}
use Rattle.card_text.specs.declared.CardRead.{CardRead}
use Rattle.card_text.specs.Card.{header_length, card_length, row_at}

-- ---- the numbers

-- whether a column is well-formed, and the number in it, 0 if it is not
abbrev pub well_formed : Option ℤ → Bool
well_formed (Some z) = true
well_formed None = false

abbrev pub number_of : Option ℤ → ℤ
number_of (Some z) = z
number_of None = pos 0

-- the number in the column at an offset
abbrev pub number_at : List ℕ → ℕ → ℤ
number_at bytes at = number_of (read_at bytes at)

-- a number from 0 to the most, and another in the place of any that is not
unfoldable pub up_to : ℕ → ℕ → ℤ → ℕ
up_to most other (pos n) = cond (leb n most) n other
up_to most other (negsuc n) = other

-- a number as a degree: one above the highest or below 0 becomes 0, so that refusal 1 meets it
abbrev pub degree_of : ℤ → ℕ
degree_of = up_to max_degree 0

-- the interval whose columns begin at an offset, and the rectangle whose line does
unfoldable pub interval_at : List ℕ → ℕ → Interval
interval_at bytes at = record { low = number_at bytes at; high = number_at bytes (at + 10) }

unfoldable pub rect_at : List ℕ → ℕ → Rect
rect_at bytes at = record { resistance = interval_at bytes at; reactance = interval_at bytes (at + 20) }

-- the curve that the numbers give, with whatever sides, however large; its sum of steps is counted from here, so it is 0
unfoldable pub decoded : List ℕ → Curve
decoded bytes = curve_of (degree_of (number_at bytes 0)) 0 (λ k. rect_at bytes (row_at k))

-- ---- the refusals

-- 11: the column at an offset is malformed
unfoldable pub column_refusal : List ℕ → ℕ → Refusal
column_refusal bytes at = unless_at (well_formed (read_at bytes at)) 11 at

-- 11: the byte at an offset does not end a line
unfoldable pub line_end_refusal : List ℕ → ℕ → Refusal
line_end_refusal bytes at = unless_at (eqb (get_or bytes at 0) newline) 11 at

-- 11 in the two columns of an interval, and in the line of a rectangle, that begin at an offset
unfoldable pub ends_refusal : List ℕ → ℕ → Refusal
ends_refusal bytes at = column_refusal bytes at or_else column_refusal bytes (at + 10)

unfoldable pub row_refusal : List ℕ → ℕ → Refusal
row_refusal bytes at = ends_refusal bytes at or_else ends_refusal bytes (at + 20) or_else line_end_refusal bytes (at + 40)

-- 11 in the lines of the first m rectangles
unfoldable pub rows_refusal : List ℕ → ℕ → Refusal
rows_refusal bytes zero = none
rows_refusal bytes (suc m) = rows_refusal bytes m or_else row_refusal bytes (row_at m)

-- 10: fewer bytes than the first line has, or not the length for the degree
unfoldable pub short_refusal : List ℕ → Refusal
short_refusal bytes = unless_at (leb header_length (length bytes)) 10 (length bytes)

unfoldable pub length_refusal : ℕ → ℕ → Refusal
length_refusal n size = unless_at (eqb size (card_length n)) 10 size

-- what is refused before the other lines are read: 10, 11 in the first line, 1, 10
unfoldable pub header_refusal : List ℕ → Refusal
header_refusal bytes =
    short_refusal bytes
    or_else column_refusal bytes 0
    or_else line_end_refusal bytes 10
    or_else degree_refusal (decoded bytes).degree
    or_else length_refusal (decoded bytes).degree (length bytes)

-- all of a card's refusals: then 11 in the other lines, 2, 3
unfoldable pub card_refusal : List ℕ → Refusal
card_refusal bytes =
    let c = decoded bytes in
    header_refusal bytes or_else rows_refusal bytes (c.degree + 1) or_else range_refusal c or_else order_refusal c

-- ---- the answer

unfoldable pub read_card : List ℕ → CardRead
read_card bytes =
    let r = card_refusal bytes in
    cond (eqb r.number 0) (record { refusal = r; curve = decoded bytes }) (record { refusal = r; curve = zero_curve })
