-- What is promised of a measurement's answer beside its equation, by what is reported of it: its number and its rectangle.
-- Assumes nothing.
use Rattle.std.specs.Prelude.{◌≡◌, Bool, true, false, ◌&&◌, ℕ, zero, suc, ◌<◌, pos, Float}
use Rattle.std.specs.Float.{nan, inf, fin}
use Rattle.std.specs.Float.Ieee.Exact.{HasValue}
use Rattle.rational.specs.Rounding.{Rounding, up}
use Rattle.rational.specs.Fraction.{Frac, Equal, ◌≤ᶠ◌, ◌+ᶠ◌}
use Rattle.rational.specs.Promises.{over}
use Rattle.curve.specs.declared.Rect.{Rect}
use Rattle.curve.specs.Rect.{Coordinate, resistance, reactance, side, Bounded, Inside, zero_rect, sides_in_range, sides_ordered}
use Rattle.curve.specs.Refusals.{none}
use Rattle.bridge.specs.declared.Measurement.{Measurement}
use Rattle.bridge.specs.declared.Measurement.TheVariants.{NoCarrier, Load, LoadWithSpread}
use Rattle.bridge.specs.Value.{signed, finite, ohms, steps, step_at}
use Rattle.bridge.specs.Bridge.{Report, moved, enclosed, no_carrier, rectangle, reported}

-- the value of a number is its exact one, with sign s and size a / d
abbrev pub ExactValue : Type 0
ExactValue = (x : Float) (s : Bool) (a d : ℕ) (h : 0 < d) → HasValue x s a d → (finite x ≡ true) × Equal (ohms x) (over d h (signed s a))

-- what is reported of a measurement
abbrev pub report_of : Measurement → Report
report_of m = reported (enclosed m).found

-- a measurement's rectangle
abbrev pub Encloses : Measurement → Rect → Type 0
Encloses m p = report_of m ≡ record { number = rectangle; rect = p }

-- a refused measurement reports number 0 and zeros, no carrier its own number and zeros with no refusal, and every other one a rectangle
pub record Reports : Type 0 where
  pub refusing : (m : Measurement) → ((enclosed m).refusal.number ≡ 0 → ⊥) → report_of m ≡ record { number = 0; rect = zero_rect }
  pub silent : ((enclosed NoCarrier).refusal ≡ none) × (report_of NoCarrier ≡ record { number = no_carrier; rect = zero_rect })
  pub enclosing : (m : Measurement) → (enclosed m).refusal.number ≡ 0 → (m ≡ NoCarrier → ⊥) → (p : Rect) × Encloses m p

-- a load's number in a coordinate
abbrev pub number_of : Coordinate → Float → Float → Float
number_of resistance r x = r
number_of reactance r x = x

-- a rectangle of whole steps holds a value in a coordinate, edges included
abbrev pub Holds : Rect → Coordinate → Frac → Type 0
Holds p c v = (r : Rounding) → Bounded r v (side c r p)

-- a plain load's rectangle holds its value in both coordinates, and lies inside every rectangle of whole steps that does
abbrev pub Smallest : Type 0
Smallest =
    (r x : Float) (p : Rect) → Encloses (Load r x) p →
    ((c : Coordinate) → Holds p c (steps (number_of c r x)))
    × ((q : Rect) → ((c : Coordinate) → Holds q c (steps (number_of c r x))) → Inside p q)

-- with a spread, every value within the spread of the load lies in the rectangle: neither is above the other by more than the spread
abbrev pub SpreadHolds : Type 0
SpreadHolds =
    (r x spread : Float) (p : Rect) → Encloses (LoadWithSpread r x spread) p → (c : Coordinate) (v : Frac) →
    steps (number_of c r x) ≤ᶠ v +ᶠ steps spread → v ≤ᶠ steps (number_of c r x) +ᶠ steps spread → Holds p c v

-- its sides are those of the plain load, moved outward by the spread rounded up to steps
pub record Moved (r x spread : Float) (p plain : Rect) : Type 0 where
  pub encloses : Encloses (Load r x) plain
  pub sides : (c : Coordinate) (o : Rounding) → side c o p ≡ moved o (side c o plain) (step_at up spread)

abbrev pub SpreadMoves : Type 0
SpreadMoves = (r x spread : Float) (p : Rect) → Encloses (LoadWithSpread r x spread) p → (plain : Rect) × Moved r x spread p plain

-- a rectangle that is answered is accepted as one of a curve's: in range, and low at most high
abbrev pub GoodRect : Type 0
GoodRect = (m : Measurement) (p : Rect) → Encloses m p → (sides_in_range p ≡ true) × (sides_ordered p ≡ true)

-- a number with minus zero taken as zero
abbrev pub plus_zero : Float → Float
plus_zero nan = nan
plus_zero (inf s) = inf s
plus_zero (fin s zero e) = fin false zero e
plus_zero (fin s (suc m) e) = fin s (suc m) e

-- minus zero and zero give equal answers, wherever they stand
abbrev pub MinusZero : Type 0
MinusZero =
    (r x spread : Float) →
    (enclosed (Load r x) ≡ enclosed (Load (plus_zero r) (plus_zero x)))
    × (enclosed (LoadWithSpread r x spread) ≡ enclosed (LoadWithSpread (plus_zero r) (plus_zero x) (plus_zero spread)))

-- a spread of zero gives the plain load's answer
abbrev pub ZeroSpread : Type 0
ZeroSpread = (r x : Float) → enclosed (LoadWithSpread r x (fin false 0 (pos 0))) ≡ enclosed (Load r x)

-- a number that is not finite is a 13, wherever it stands
abbrev pub NotFinite : Type 0
NotFinite =
    (r x spread : Float) →
    ((finite r && finite x) ≡ false → (enclosed (Load r x)).refusal.number ≡ 13)
    × ((finite r && finite x && finite spread) ≡ false → (enclosed (LoadWithSpread r x spread)).refusal.number ≡ 13)
