-- `map_rect` meets its contract, by the two coordinates.
use Rattle.curve.specs.Rect.{resistance, reactance}
use Rattle.curve.proofs.affine.Weights.map_rect.Goals as goal

pub map_interval-resistance-requires-clause-sides : goal.map_interval-resistance-requires-clause-sides
map_interval-resistance-requires-clause-sides c = c.requires.held.at resistance

pub map_interval-resistance-requires-clause-sides_2 : goal.map_interval-resistance-requires-clause-sides_2
map_interval-resistance-requires-clause-sides_2 c = c.requires.held_2.at resistance

pub map_interval-reactance-requires-clause-sides : goal.map_interval-reactance-requires-clause-sides
map_interval-reactance-requires-clause-sides c = c.requires.held.at reactance

pub map_interval-reactance-requires-clause-sides_2 : goal.map_interval-reactance-requires-clause-sides_2
map_interval-reactance-requires-clause-sides_2 c = c.requires.held_2.at reactance
