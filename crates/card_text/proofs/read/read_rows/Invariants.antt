-- The lines of k rectangles are read, and none of them is refused.
use Rattle.card_text.proofs.RowsRead.{RowsRead}
use Rattle.card_text.proofs.read.read_rows.Given as goal

abbrev pub invariant-loop-k : goal.invariant-loop-k
invariant-loop-k l = RowsRead l.bytes l.k l.points
