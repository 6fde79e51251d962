-- The degree, the sum and the sides of the first k rectangles stand in front.
use Rattle.std.proofs.Common.{◌≡◌, length}
use Rattle.foreign.proofs.Lent.{front}
use Rattle.foreign.proofs.Stored.{stored}
use Rattle.foreign.proofs.results.store_curve.Given as goal

abbrev pub invariant-loop-k : goal.invariant-loop-k
invariant-loop-k l = record { size : length l.out ≡ length l.fn.out; filled : l.out ≡ front (stored l.c l.k) l.fn.out }
