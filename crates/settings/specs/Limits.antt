-- The limit of a list of settings, named once.
-- Assumes nothing.
use Rattle.std.specs.Prelude.{ℕ}

-- the longest list
abbrev pub max_settings : ℕ
max_settings = 64
