-- Lines of numbers in columns, and the bytes into which they are put.
-- Assumes nothing.
use Rattle.std.specs.Prelude.{ℕ, ◌+◌, ◌*◌, Bool, true, cond, ◌&&◌, List, [], ◌∷◌, ◌++◌, leb, ℤ, length, take, drop}
use Rattle.columns.specs.Column.{column, fits_column}

-- the bytes with a text at an offset
unfoldable pub placed : List ℕ → ℕ → List ℕ → List ℕ
placed bytes at text = take at bytes ++ text ++ drop (at + length text) bytes

-- the byte that ends a line
abbrev pub newline : ℕ
newline = 10

-- the columns of some numbers
unfoldable pub columns : List ℤ → List ℕ
columns [] = []
columns (z ∷ zs) = column z ++ columns zs

-- the line of some numbers
unfoldable pub line : List ℤ → List ℕ
line zs = columns zs ++ (newline ∷ [])

-- the bytes of a line of so many columns
abbrev pub line_length : ℕ → ℕ
line_length count = 10 * count + 1

-- whether each of the numbers fits a column
unfoldable pub all_fit : List ℤ → Bool
all_fit [] = true
all_fit (z ∷ zs) = fits_column z && all_fit zs

-- whether the line of some numbers fits at an offset, and the bytes after an attempt to put it there
unfoldable pub can_put_line : List ℕ → ℕ → List ℤ → Bool
can_put_line bytes at zs = leb (at + line_length (length zs)) (length bytes) && all_fit zs

unfoldable pub after_line : List ℕ → ℕ → List ℤ → List ℕ
after_line bytes at zs = cond (can_put_line bytes at zs) (placed bytes at (line zs)) bytes
