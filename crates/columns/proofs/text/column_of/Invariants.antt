-- The bytes are filled from the right so far; the measure is what is left of the number.
use Rattle.std.proofs.Common.{nat_abs}
use Rattle.columns.proofs.Filling.{Filled}
use Rattle.columns.proofs.text.column_of.Given as goal

abbrev pub invariant-loop-rest : goal.invariant-loop-rest
invariant-loop-rest l = Filled (nat_abs l.value) l.b l.first l.rest

abbrev pub decreases-loop-rest : goal.decreases-loop-rest
decreases-loop-rest l = l.rest
