-- The walk's measure is the number of depths below the piece.
use Rattle.search.proofs.visit.Task.+walk.Given as goal

abbrev pub decreases-walk : goal.decreases-walk
decreases-walk l = l.piece.now.below
