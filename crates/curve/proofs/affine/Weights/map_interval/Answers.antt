-- `map_interval` meets its contract, by its two ends.
use Rattle.rational.specs.Rounding.{down, up}
use Rattle.curve.proofs.Sides.{side_passed}
use Rattle.curve.proofs.affine.Weights.map_interval.Goals as goal

pub map_side-low-requires-clause-side : goal.map_side-low-requires-clause-side
map_side-low-requires-clause-side c = side_passed (c.requires.sides.at down)

pub map_side-low-requires-clause-side_2 : goal.map_side-low-requires-clause-side_2
map_side-low-requires-clause-side_2 c = side_passed (c.requires.sides_2.at down)

pub map_side-high-requires-clause-side : goal.map_side-high-requires-clause-side
map_side-high-requires-clause-side c = side_passed (c.requires.sides.at up)

pub map_side-high-requires-clause-side_2 : goal.map_side-high-requires-clause-side_2
map_side-high-requires-clause-side_2 c = side_passed (c.requires.sides_2.at up)
