-- `ohms_of` meets its contract, by its four sides.
use Rattle.rational.specs.Rounding.{down, up}
use Rattle.curve.specs.Rect.{resistance, reactance}
use Rattle.curve.proofs.Sides.{side_passed}
use Rattle.curve.proofs.display.ohms_of.Goals as goal

pub ohms_of_side-requires : goal.ohms_of_side-requires
ohms_of_side-requires c = side_passed ((c.requires.at resistance).at down)

pub ohms_of_side-requires-2 : goal.ohms_of_side-requires-2
ohms_of_side-requires-2 c = side_passed ((c.requires.at resistance).at up)

pub ohms_of_side-requires-3 : goal.ohms_of_side-requires-3
ohms_of_side-requires-3 c = side_passed ((c.requires.at reactance).at down)

pub ohms_of_side-requires-4 : goal.ohms_of_side-requires-4
ohms_of_side-requires-4 c = side_passed ((c.requires.at reactance).at up)
