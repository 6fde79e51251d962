-- The answer of `enclose` for every measurement of the bridge (the paper's reading of it): a refusal, no carrier, or a rectangle of whole steps.
-- Assumes nothing.
use Rattle.std.specs.Prelude.{cond, ℕ, eqb, ℤ, ◌+ℤ◌, ◌-ℤ◌, Float}
use Rattle.rational.specs.Rounding.{Rounding, down, up}
use Rattle.curve.specs.declared.Interval.{Interval}
use Rattle.curve.specs.declared.Rect.{Rect}
use Rattle.curve.specs.declared.Refusal.{Refusal}
use Rattle.curve.specs.Rect.{zero_rect, ends_in_range}
use Rattle.curve.specs.Refusals.{none, ◌or_else◌, unless_at}
use Rattle.bridge.specs.declared.Measurement.{Measurement}
use Rattle.bridge.specs.declared.Measurement.TheVariants.{NoCarrier, Load, LoadWithSpread}
use Rattle.bridge.specs.declared.Found.{Found}
use Rattle.bridge.specs.declared.Found.TheVariants.{Refused, NoCarrier as CarrierAbsent, Rectangle}
use Rattle.bridge.specs.declared.BridgeAnswer.{BridgeAnswer}
use Rattle.bridge.specs.Value.{step_at, steps_about, is_load, is_spread}

-- ---- rectangles

-- of a plain load: the step below and the step above in each coordinate
unfoldable pub load_rect : Float → Float → Rect
load_rect r x = record { resistance = steps_about r; reactance = steps_about x }

-- a side moved outward: a low one down, a high one up
abbrev pub moved : Rounding → ℤ → ℤ → ℤ
moved down z by = z -ℤ by
moved up z by = z +ℤ by

abbrev pub widened : Interval → ℤ → Interval
widened i by = record { low = moved down i.low by; high = moved up i.high by }

-- of a load with a spread: the plain one, widened by the spread rounded up to steps
unfoldable pub spread_rect : Float → Float → Float → Rect
spread_rect r x spread =
    record { resistance = widened (steps_about r) (step_at up spread); reactance = widened (steps_about x) (step_at up spread) }

-- ---- refusals; the place is 0 for the resistance, 1 for the reactance, 2 for the spread

-- 13: a number that is not finite, a load beyond the largest either way, a spread below 0 or beyond the largest
unfoldable pub load_refusal : Float → Float → Refusal
load_refusal r x = unless_at (is_load r) 13 0 or_else unless_at (is_load x) 13 1

unfoldable pub number_refusal : Float → Float → Float → Refusal
number_refusal r x spread = load_refusal r x or_else unless_at (is_spread spread) 13 2

-- 14: a side out of range
unfoldable pub side_refusal : Rect → Refusal
side_refusal p = unless_at (ends_in_range p.resistance) 14 0 or_else unless_at (ends_in_range p.reactance) 14 1

unfoldable pub spread_refusal : Float → Float → Float → Refusal
spread_refusal r x spread = number_refusal r x spread or_else side_refusal (spread_rect r x spread)

-- ---- the call

abbrev pub answered : Refusal → Rect → BridgeAnswer
answered r p = cond (eqb r.number 0) (record { refusal = r; found = Rectangle p }) (record { refusal = r; found = Refused })

-- the three forms: no carrier, a plain load, a load with a spread
unfoldable pub enclosed : Measurement → BridgeAnswer
enclosed NoCarrier = record { refusal = none; found = CarrierAbsent }
enclosed (Load r x) = answered (load_refusal r x) (load_rect r x)
enclosed (LoadWithSpread r x spread) = answered (spread_refusal r x spread) (spread_rect r x spread)

-- ---- what was found, in numbers

-- which it is, and its rectangle
pub record Report : Type 0 where
  pub number : ℕ
  pub rect : Rect

abbrev pub no_carrier : ℕ
no_carrier = 1

abbrev pub rectangle : ℕ
rectangle = 2

-- no carrier has no rectangle, and counts as zeros there; a refused call gives zeros
abbrev pub reported : Found → Report
reported Refused = record { number = 0; rect = zero_rect }
reported CarrierAbsent = record { number = no_carrier; rect = zero_rect }
reported (Rectangle p) = record { number = rectangle; rect = p }
