-- The measure is the number of depths below the piece.
use Rattle.settings.proofs.inside.+inside_count.Given as goal

abbrev pub decreases-inside_count : goal.decreases-inside_count
decreases-inside_count l = l.piece.now.below
