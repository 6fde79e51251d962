-- Sides in ohms, as single-precision floats: the number of steps divided by 1,024.
-- Assumes nothing.
use Rattle.std.specs.Prelude.{cond, ℤ, pos, Float}
use Rattle.std.specs.Float.{binary32}
use Rattle.std.specs.Float.Ieee.{of_int, div}
use Rattle.curve.specs.declared.Rect.{Rect}
use Rattle.curve.specs.declared.Ohms.{Ohms}
use Rattle.curve.specs.Limits.{steps_per_ohm}
use Rattle.curve.specs.Rect.{sides_in_range}

unfoldable pub ohm : ℤ → Float
ohm z = div binary32 (of_int binary32 z) (of_int binary32 (pos steps_per_ohm))

unfoldable pub ohms_of : Rect → Ohms
ohms_of p =
    record {
      rlow = ohm p.resistance.low;
      rhigh = ohm p.resistance.high;
      xlow = ohm p.reactance.low;
      xhigh = ohm p.reactance.high;
    }

abbrev pub zero_ohms : Ohms
zero_ohms = record { rlow = zero_float; rhigh = zero_float; xlow = zero_float; xhigh = zero_float }
  where
    zero_float : Float
    zero_float = of_int binary32 (pos 0)

-- the ohms of any rectangle: zeros where a side is out of range
unfoldable pub checked_ohms : Rect → Ohms
checked_ohms p = cond (sides_in_range p) (ohms_of p) zero_ohms
