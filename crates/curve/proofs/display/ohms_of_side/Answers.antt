-- `ohms_of_side` meets its contract: the cast loses nothing, since a side is at most 2^24 in size.
use Rattle.curve.specs.Ohms.{ohm}
use lib.Ieee.{of_int, of_bits}
use Rattle.rational.proofs.Machine.{back}
use Rattle.curve.proofs.display.ohms_of_side.Goals as goal

pub returns : goal.returns
unfolding ohm of_int of_bits
returns c = rw (back c.ranges.side)
