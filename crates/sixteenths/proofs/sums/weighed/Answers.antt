-- `weighed` meets its contract: a lifted side is a natural number, and its product with a weight is at most 2 to the power 57.
use mathlib.Core.Path.{◌≡◌}
use native.Mathlib.Omega.{arith}
use lib.IntN.{ℤ, pos, ◌+ℤ◌}
use mir.Syntax.{w32}
use mir.Val.{to_z, of_z}
use Rattle.rational.proofs.Machine.{signed}
use Rattle.curve.specs.Inner.{Side}
use Rattle.curve.proofs.Sides.{side_back}
use Rattle.sixteenths.specs.Inner.{lifted}
use Rattle.sixteenths.proofs.Lifted.{lifted_is, lifted-most}
use Rattle.sixteenths.proofs.sums.weighed.Goals as goal

-- the lifted side, as the machine has it
sum : {z : ℤ} → Side z → to_z w32 (of_z w32 z) +ℤ pos 16777216 ≡ pos (lifted z)
sum h = rw (side_back h) (lifted_is h)

cast : {z : ℤ} → Side z → to_z w32 (lifted z) ≡ pos (lifted z)
cast {z} h = let most = lifted-most h in signed (lifted z) (omega arith)

pub returns : goal.returns
returns c = rw (sum c.requires.side, cast c.requires.side)
