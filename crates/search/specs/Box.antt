-- How a rectangle lies to a box: in it, or apart from it. The walk cites these two and nothing else of a box.
-- A box's low sides lie inside it and its high sides outside: a high side is the first value not allowed. A span includes both its ends.
-- Assumes nothing.
use Rattle.std.specs.Prelude.{Bool, ◌&&◌, ◌||◌}
use Rattle.std.specs.Int.Signed.{le_z, lt_z}
use Rattle.curve.specs.declared.Interval.{Interval}
use Rattle.curve.specs.declared.Rect.{Rect}
use Rattle.curve.specs.Rect.{ends_in_range}

-- one coordinate: the limits allow every value of the span
unfoldable pub within : Interval → Interval → Bool
within span limits = le_z limits.low span.low && lt_z span.high limits.high

-- one coordinate: the limits allow no value of the span
unfoldable pub disjoint : Interval → Interval → Bool
disjoint span limits = lt_z span.high limits.low || le_z limits.high span.low

-- the span lies in the box
unfoldable pub in_box : Rect → Rect → Bool
in_box span box = within span.resistance box.resistance && within span.reactance box.reactance

-- the span and the box have no common point
unfoldable pub apart_from : Rect → Rect → Bool
apart_from span box = disjoint span.resistance box.resistance || disjoint span.reactance box.reactance

-- one coordinate: both ends in range, and low strictly below high, so that some value is allowed
unfoldable pub are_limits : Interval → Bool
are_limits limits = ends_in_range limits && lt_z limits.low limits.high

-- a box that is not refused
unfoldable pub is_box : Rect → Bool
is_box box = are_limits box.resistance && are_limits box.reactance
