-- The first k numbers stand in their places.
use Rattle.std.proofs.Common.{◌≡◌, ◌+◌, ◌≤◌, length}
use lib.Seq.{paste}
use Rattle.foreign.proofs.results.store.Given as goal

abbrev pub invariant-loop-k : goal.invariant-loop-k
invariant-loop-k g l = record {
  room : l.at + length l.numbers ≤ length l.initial.out;
  front : l.out ≡ paste l.initial.out l.at l.numbers l.k;
}
