-- The columns of the first k numbers stand at the offset.
use Rattle.std.proofs.Common.{◌≡◌, take}
use Rattle.columns.specs.Line.{placed, columns}
use Rattle.columns.proofs.write.write_columns.Given as goal

abbrev pub invariant-loop-k : goal.invariant-loop-k
invariant-loop-k l = l.out ≡ placed l.initial.out l.at (columns (take l.k l.numbers))
