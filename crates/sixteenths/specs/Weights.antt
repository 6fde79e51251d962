-- The rule of the table of weights (document 02, point 4), and where an entry stands in it.
-- Assumes nothing.
use Rattle.std.specs.Prelude.{◌≡◌, List, ℕ, ◌+◌, ◌*◌, ◌-◌, ◌/◌, ◌≤◌, length, get_or}
use Rattle.bernstein.specs.WholeSum.{weight}

-- the loads of the summed reading are at j/16, for j from 0 to 16
abbrev pub sixteenths : ℕ
sixteenths = 16

-- the highest degree that the table has
abbrev pub highest : ℕ
highest = 8

-- all entries, and those of one j
abbrev pub entries : ℕ
entries = 748

abbrev pub block : ℕ
block = 44

-- where the entries of degree n begin among those of one j
unfoldable pub start : ℕ → ℕ
start n = (n - 1) * (n + 2) / 2

-- the index of the weight of point k of degree n at j/16
unfoldable pub index : ℕ → ℕ → ℕ → ℕ
index n j k = block * j + (start n + k)

-- the rule of all entries: each is its weight
pub record Rule (table : List ℕ) : Type 0 where
  pub full : length table ≡ entries
  pub entry :
      (n j k : ℕ) → 1 ≤ n → n ≤ highest → j ≤ sixteenths → k ≤ n →
      get_or table (index n j k) 0 ≡ weight n (sixteenths - j) j k
