-- Sides in range: they are small, they fit an i32 and a single-precision float, and they are what their bits say.
-- Assumes nothing.
use mathlib.Core.Path.{◌≡◌, sym, subst}
use native.Mathlib.Omega.{arith}
use lib.Dec.{T, leb→le, le→leb, lt→ltb}
use lib.Ieee.{binary32, in_float}
use lib.IntN.{ℤ, pos, negsuc}
use mir.Syntax.{w32}
use mir.Val.{SFits, to_z, of_z}
use Rattle.rational.proofs.Order.{pos_reflects}
use Rattle.curve.specs.Inner.{Side}
use Rattle.rational.proofs.Machine.{back, within-fits}

pub side-fits : {z : ℤ} → Side z → SFits w32 z
side-fits {z} h = within-fits 16777215 z (omega arith) h.from h.to

-- a side is a single-precision float exactly
pub side_in_float : (z : ℤ) → Side z → T (in_float binary32 z)
unfolding in_float
side_in_float (pos n) h = le→leb n 16777216 (pos_reflects h.to)
side_in_float (negsuc n) h = lt→ltb n 16777216 (let g = leb→le n 16777215 h.from.le in omega arith)

-- a side in range is what its bits say, and its bits are in range
pub side_back : {z : ℤ} → Side z → to_z w32 (of_z w32 z) ≡ z
side_back h = back (side-fits h)

pub side_passed : {z : ℤ} → Side z → Side (to_z w32 (of_z w32 z))
side_passed h = subst Side (sym (side_back h)) h
