-- What the functions inside the crate ask of each other: a plain load with a spread, and a single-precision number by its bits. No public contract cites it.
-- Assumes nothing.
use Rattle.std.specs.Prelude.{ℕ, zero, suc, ◌+◌, ◌*◌, ◌/◌, ◌%◌, ◌^◌, false, pos}
use Rattle.std.specs.Float.{fin}
use Rattle.rational.specs.Rounding.{down, up, quotient}
use Rattle.curve.specs.declared.Interval.{Interval}
use Rattle.bridge.specs.declared.Measurement.{Measurement}
use Rattle.bridge.specs.declared.Measurement.TheVariants.{NoCarrier, Load, LoadWithSpread}

-- a plain load as one with a spread of zero
abbrev pub with_spread : Measurement → Measurement
with_spread NoCarrier = NoCarrier
with_spread (Load r x) = LoadWithSpread r x (fin false 0 (pos 0))
with_spread (LoadWithSpread r x spread) = LoadWithSpread r x spread

-- ---- a number by its bits without the sign: the exponent's field, and the digits below the leading one

-- the weight of the exponent's field
abbrev pub field : ℕ
field = 0x800000

-- the bits of 16,384 ohms
abbrev pub largest : ℕ
largest = 0x46800000

-- the size of a finite number in units of the smallest one, 2^-149 ohm, by its exponent's field and its digits
unfoldable pub units_by : ℕ → ℕ → ℕ
units_by zero digits = digits
units_by (suc exponent) digits = (field + digits) * 2 ^ exponent

-- the same by its bits without the sign
unfoldable pub units_of : ℕ → ℕ
units_of bits = units_by (bits / field) (bits % field)

-- the whole steps about such a size: a step is 2^139 units
unfoldable pub size_about : ℕ → Interval
size_about bits = record { low = quotient down (pos (units_of bits)) (2 ^ 139); high = quotient up (pos (units_of bits)) (2 ^ 139) }
