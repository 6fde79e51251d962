-- What is read lies within the buffer, and what is left of it falls.
use Rattle.std.proofs.Common.{◌-◌, ◌≤◌}
use Rattle.card.proofs.main.Given as goal

abbrev pub invariant-loop-size : goal.invariant-loop-size
invariant-loop-size l = l.size ≤ 4096

abbrev pub decreases-loop-size : goal.decreases-loop-size
decreases-loop-size l = 4096 - l.size
