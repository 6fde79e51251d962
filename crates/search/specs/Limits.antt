-- The limits of a walk over a box, named once.
-- Assumes nothing.
use Rattle.std.specs.Prelude.{ℕ}

-- the largest depth limit
abbrev pub max_depth : ℕ
max_depth = 12

-- the largest budget: as many pieces as a walk of the largest depth can have
abbrev pub max_budget : ℕ
max_budget = 8191
