-- The places before k are filled.
use Rattle.std.proofs.Common.{◌≡◌}
use Rattle.foreign.proofs.Points.{rects, filled}
use Rattle.foreign.proofs.given.curve_from.Given as goal

abbrev pub invariant-loop-k : goal.invariant-loop-k
invariant-loop-k l = l.points ≡ filled (rects l.numbers) l.k
