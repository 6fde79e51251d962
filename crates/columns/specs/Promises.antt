-- The promises about columns that a caller relies on, each as a type; their proofs are in proofs/Promises.antt.
-- Assumes nothing.
use Rattle.std.specs.Prelude.{ℕ, ◌+◌, ◌*◌, ◌≤◌, ◌<◌, true, Some, List, ◌++◌, ◌≡◌, leb, ℤ, pos, length, get_or, take, drop}
use Rattle.columns.specs.Column.{text, column, fits_column, read_at}
use Rattle.columns.specs.Line.{placed, columns, line, line_length, all_fit}

-- the numbers that fit are those whose text has at most ten bytes
abbrev pub FitsIsWidth : Type 0
FitsIsWidth = (z : ℤ) → fits_column z ≡ leb (length (text z)) 10

-- the column of a number that fits has ten bytes
abbrev pub ColumnIsTen : Type 0
ColumnIsTen = (z : ℤ) → fits_column z ≡ true → length (column z) ≡ 10

-- ten bytes that are a number's column are read as that number
abbrev pub ColumnReads : Type 0
ColumnReads = (bytes : List ℕ) (at : ℕ) (z : ℤ) → take 10 (drop at bytes) ≡ column z → read_at bytes at ≡ Some z

-- a line of numbers that fit has ten bytes for each and the line end
abbrev pub LineIsLong : Type 0
LineIsLong = (zs : List ℤ) → all_fit zs ≡ true → length (line zs) ≡ line_length (length zs)

-- each number that is put in columns, with any bytes behind them, is read back
abbrev pub WrittenReads : Type 0
WrittenReads =
    (bytes : List ℕ) (at : ℕ) (zs : List ℤ) (more : List ℕ) (k : ℕ) → all_fit zs ≡ true → at ≤ length bytes → k < length zs →
    read_at (placed bytes at (columns zs ++ more)) (at + 10 * k) ≡ Some (get_or zs k (pos 0))

-- a column that is read as z: z fits, the ten bytes are there and are exactly its column, and to put it there again changes nothing
pub record Accepted (bytes : List ℕ) (at : ℕ) (z : ℤ) : Type 0 where
  pub fits : fits_column z ≡ true
  pub room : at + 10 ≤ length bytes
  pub exactly : take 10 (drop at bytes) ≡ column z
  pub again : placed bytes at (column z) ≡ bytes

abbrev pub ReadIsWritten : Type 0
ReadIsWritten = (bytes : List ℕ) (at : ℕ) (z : ℤ) → read_at bytes at ≡ Some z → Accepted bytes at z

-- putting a text where there is room keeps the length, and each byte before and behind the text
pub record Kept (bytes : List ℕ) (at : ℕ) (text : List ℕ) : Type 0 where
  pub size : length (placed bytes at text) ≡ length bytes
  pub before : (k : ℕ) → k < at → get_or (placed bytes at text) k 0 ≡ get_or bytes k 0
  pub behind : (k : ℕ) → at + length text ≤ k → get_or (placed bytes at text) k 0 ≡ get_or bytes k 0

abbrev pub PutKeeps : Type 0
PutKeeps = (bytes : List ℕ) (at : ℕ) (text : List ℕ) → at + length text ≤ length bytes → Kept bytes at text
