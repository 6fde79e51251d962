-- The lines of k rectangles stand behind the first line.
use Rattle.std.proofs.Common.{◌≡◌}
use Rattle.columns.specs.Line.{placed}
use Rattle.curve.specs.Curve.{point}
use Rattle.card_text.specs.Card.{rows, header_length}
use Rattle.card_text.proofs.write.write_rows.Given as goal

abbrev pub invariant-loop-k : goal.invariant-loop-k
invariant-loop-k l = l.out ≡ placed l.initial.out header_length (rows l.k (point l.fn.c))
