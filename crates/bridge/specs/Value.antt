-- The exact value of a number of ohms in single precision, and the whole steps about it.
-- `fin s m e` is the finite number m × 2^e, below zero where s is true, and 2^e is up e / down e.
-- Assumes nothing.
use Rattle.std.specs.Prelude.{Bool, true, false, ◌&&◌, ℕ, ◌*◌, ℤ, pos, neg_ℤ, ◌*ℤ◌, Float}
use Rattle.std.specs.Int.Signed.{le_z}
use Rattle.std.specs.Float.Ieee as Ieee
use Rattle.std.specs.Float.{nan, inf, fin}
use Rattle.std.specs.Float.Ieee.Fits.{down_pos}
use Rattle.rational.specs.Rounding.{Rounding, down, up, quotient}
use Rattle.rational.specs.Fraction.{Frac, whole, ◌*ᶠ◌}
use Rattle.curve.specs.declared.Interval.{Interval}
use Rattle.curve.specs.Limits.{steps_per_ohm}

-- the largest load, either way, and the largest spread, in ohms
abbrev pub max_ohms : ℕ
max_ohms = 16384

-- a whole number by its sign and its size; minus zero is zero
abbrev pub signed : Bool → ℕ → ℤ
signed false size = pos size
signed true size = neg_ℤ (pos size)

-- whether a number is finite: neither an infinity nor not a number
unfoldable pub finite : Float → Bool
finite nan = false
finite (inf s) = false
finite (fin s m e) = true

-- its exact value; 0 stands for one that is not finite, which has none, and no answer rests on that
unfoldable pub ohms : Float → Frac
ohms nan = whole (pos 0)
ohms (inf s) = whole (pos 0)
ohms (fin s m e) = record { upper = signed s (m * Ieee.up e); lower = Ieee.down e; positive = down_pos e }

-- the same in steps
unfoldable pub steps : Float → Frac
steps x = ohms x *ᶠ whole (pos steps_per_ohm)

-- rounded to a whole step: down to the step below, up to the step above; a whole number of steps is both
unfoldable pub step_at : Rounding → Float → ℤ
step_at r x = quotient r (steps x).upper (steps x).lower

unfoldable pub steps_about : Float → Interval
steps_about x = record { low = step_at down x; high = step_at up x }

-- whether a number is finite and from one whole number of ohms to another, both included
unfoldable pub is_from : ℤ → ℤ → Float → Bool
is_from least most x =
    finite x && le_z (least *ℤ pos (ohms x).lower) (ohms x).upper && le_z (ohms x).upper (most *ℤ pos (ohms x).lower)

-- a load's resistance or reactance, and a spread, that are not refused
abbrev pub is_load : Float → Bool
is_load = is_from (neg_ℤ (pos max_ohms)) (pos max_ohms)

abbrev pub is_spread : Float → Bool
is_spread = is_from (pos 0) (pos max_ohms)
