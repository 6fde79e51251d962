-- The curve card: its bytes, its length, and the offset of each line.
-- Assumes nothing.
use Rattle.std.specs.Prelude.{ℕ, zero, suc, ◌+◌, ◌*◌, List, [], ◌∷◌, ◌++◌, pos}
use Rattle.columns.specs.Line.{line}
use Rattle.curve.specs.declared.Curve.{Curve}
use Rattle.curve.specs.declared.Rect.{Rect}
use Rattle.curve.specs.Limits.{places}
use Rattle.curve.specs.Rect.{sides}
use Rattle.curve.specs.Curve.{point}

-- the first line: the degree
unfoldable pub header : ℕ → List ℕ
header n = line (pos n ∷ [])

-- the line of a rectangle: its sides
unfoldable pub row : Rect → List ℕ
row p = line (sides p)

-- the lines of the first m rectangles
unfoldable pub rows : ℕ → (ℕ → Rect) → List ℕ
rows zero P = []
rows (suc m) P = rows m P ++ row (P m)

-- the card of a curve
unfoldable pub card_of : Curve → List ℕ
card_of c = header c.degree ++ rows (c.degree + 1) (point c)

-- the bytes of the first line, and of each other line
abbrev pub header_length : ℕ
header_length = 11

abbrev pub row_length : ℕ
row_length = 41

-- the bytes of a card of degree n
abbrev pub card_length : ℕ → ℕ
card_length n = header_length + row_length * (n + 1)

-- the bytes of the longest card
abbrev pub longest_card : ℕ
longest_card = header_length + row_length * places

-- the offset of rectangle k's line; its sides stand there and 10, 20 and 30 bytes on, its line end 40 bytes on
abbrev pub row_at : ℕ → ℕ
row_at k = header_length + row_length * k
