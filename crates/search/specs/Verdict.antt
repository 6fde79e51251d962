-- The answers of a walk as numbers: which of the four, the depth and the index of the piece that is named, and the number of pieces looked at.
-- Assumes nothing.
use Rattle.std.specs.Prelude.{ℕ}
use Rattle.search.specs.declared.Verdict.{Verdict}
use Rattle.search.specs.declared.Verdict.TheVariants.{Refused, Inside, Outside, Spent, Undecided}

-- the numbers of the four
abbrev pub inside : ℕ
inside = 1

abbrev pub outside : ℕ
outside = 2

abbrev pub spent : ℕ
spent = 3

abbrev pub undecided : ℕ
undecided = 4

-- an answer in numbers
pub record Report : Type 0 where
  pub number : ℕ
  pub depth : ℕ
  pub index : ℕ
  pub count : ℕ

abbrev pub report : ℕ → ℕ → ℕ → ℕ → Report
report number depth index count = record { number = number; depth = depth; index = index; count = count }

-- an answer's number and values; a refused walk gives zeros
abbrev pub reported : Verdict → Report
reported Refused = report 0 0 0 0
reported (Inside count) = report inside 0 0 count
reported (Outside depth index count) = report outside depth index count
reported (Spent count) = report spent 0 0 count
reported (Undecided depth index count) = report undecided depth index count
