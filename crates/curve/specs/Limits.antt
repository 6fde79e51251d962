-- The limits of documents 01 and 02, named once.
-- Assumes nothing.
use Rattle.std.specs.Prelude.{ℕ}

-- the highest degree of a curve
abbrev pub max_degree : ℕ
max_degree = 8

-- the places of a curve's record
abbrev pub places : ℕ
places = 9

-- the largest side, in steps
abbrev pub max_side : ℕ
max_side = 16777216

-- the largest denominator of a parameter
abbrev pub max_den : ℕ
max_den = 65536

-- the largest sum of steps of a curve
abbrev pub max_sum : ℕ
max_sum = 65535

-- the steps in an ohm
abbrev pub steps_per_ohm : ℕ
steps_per_ohm = 1024
