-- The choice of a setting as numbers: which of the two, the index of the record that fits, and its setting number.
-- Assumes nothing.
use Rattle.std.specs.Prelude.{ℕ}
use Rattle.settings.specs.declared.Choice.{Choice}
use Rattle.settings.specs.declared.Choice.TheVariants.{Refused, Fits, NoneFits}

-- the numbers of the two
abbrev pub fitting : ℕ
fitting = 1

abbrev pub none_fitting : ℕ
none_fitting = 2

-- a choice in numbers
pub record Report : Type 0 where
  pub number : ℕ
  pub index : ℕ
  pub setting : ℕ

abbrev pub report : ℕ → ℕ → ℕ → Report
report number index setting = record { number = number; index = index; setting = setting }

-- a choice's number and values; a refused call gives zeros
abbrev pub reported : Choice → Report
reported Refused = report 0 0 0
reported (Fits index setting) = report fitting index setting
reported NoneFits = report none_fitting 0 0
