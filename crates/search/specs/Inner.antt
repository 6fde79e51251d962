-- The count of a walk as one that is Inside. No public contract cites it.
use Rattle.std.specs.Prelude.{ℕ, Option, Some, None}
use Rattle.search.specs.declared.Verdict.{Verdict}
use Rattle.search.specs.declared.Verdict.TheVariants.{Refused, Inside, Outside, Spent, Undecided}

-- the count of a walk that is Inside so far, and none of any other
abbrev pub count_inside : Verdict → Option ℕ
count_inside Refused = None
count_inside (Inside count) = Some count
count_inside (Outside depth index count) = None
count_inside (Spent count) = None
count_inside (Undecided depth index count) = None
