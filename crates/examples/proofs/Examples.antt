-- The list of examples, computed as a whole.
-- Assumes nothing.
use mathlib.Core.Path.{refl}
use lib.Ieee.{of_bits}
use Rattle.rational.specs.Rounding.{floor, ceiling, quotient, divisible}
use Rattle.rational.specs.Fraction.{◌+ᶠ◌, ◌*ᶠ◌, ◌^ᶠ◌, whole, complement, parameter}
use Rattle.bernstein.specs.Affine.{affine, affine_exact}
use Rattle.bernstein.specs.Bernstein.{choose, sum_to, term, bernstein}
use Rattle.bernstein.specs.DeCasteljau.{all_below, table, value, left, right, every_map}
use Rattle.bernstein.specs.WholeSum.{weight, total_below, whole_sum}
use Rattle.sixteenths.specs.Sixteenths.{sum_of, summed_side, side_exact, summed_interval, summed_load, summed_exact, numerator_refusal, sixteenths_refusal, evaluated_sixteenths}
use Rattle.columns.specs.Column.{digits_before, digits, text, column, value_after, has_minus, signed, decode, same_bytes, read_bytes, read_at}
use Rattle.card_text.specs.Reading.{up_to, interval_at, rect_at, decoded, column_refusal, line_end_refusal, ends_refusal, row_refusal, rows_refusal, short_refusal, length_refusal, header_refusal, card_refusal, read_card}
use Rattle.search.specs.Box.{within, disjoint, in_box, apart_from, are_limits, is_box}
use Rattle.search.specs.Walk.{visit_at, walked}
use Rattle.search.specs.Search.{effort_refusal, box_refusal, search_refusal, searched, ends_inside}
use Rattle.settings.specs.Settings.{list_refusal, boxes_refusal, settings_refusal, fits, first_of, chosen}
use Rattle.bridge.specs.Value as bridge
use Rattle.bridge.specs.Value.{finite, ohms, steps, steps_about, is_from}
use Rattle.bridge.specs.Bridge.{load_rect, spread_rect, load_refusal, number_refusal, side_refusal, spread_refusal, enclosed}
use Rattle.curve.specs.Rect.{least, greatest, hull_interval, hull, in_range, ends_in_range, sides_in_range, ends_ordered, sides_ordered, affine_interval, affine_rect, exact_interval, exact_rect}
use Rattle.curve.specs.Curve.{tabulate, points_of, load_of, left_of, right_of, table_exact, elevated_point, elevated_of, elevated_exact, elevation_exact, hull_to, bounds_of}
use Rattle.curve.specs.Refusals.{first_failing, range_refusal, order_refusal, curve_refusal, parameter_refusal, highest_refusal, sum_refusal}
use Rattle.curve.specs.Calls.{call_refusal, subdivision_refusal, elevation_refusal, evaluated, subdivided, elevated, bounded}
use Rattle.examples.specs.Shown.{resistances_from, resistances_shown}
use Rattle.examples.specs.Examples.{card_curve, exact_load, exact_resistance, examples, Agree}

pub agree : Agree
unfolding floor ceiling quotient divisible affine_exact all_below every_map exact_interval exact_rect table_exact elevated_exact elevation_exact exact_resistance ◌+ᶠ◌ ◌*ᶠ◌ ◌^ᶠ◌ whole complement choose sum_to term bernstein parameter exact_load digits_before digits text column value_after has_minus signed decode same_bytes read_bytes read_at up_to interval_at rect_at decoded column_refusal line_end_refusal ends_refusal row_refusal rows_refusal short_refusal length_refusal header_refusal card_refusal read_card affine table value left right in_range ends_in_range sides_in_range ends_ordered sides_ordered affine_interval affine_rect tabulate points_of load_of left_of right_of elevated_point elevated_of first_failing range_refusal order_refusal curve_refusal parameter_refusal highest_refusal sum_refusal call_refusal subdivision_refusal elevation_refusal evaluated subdivided elevated bounded resistances_from resistances_shown card_curve examples least greatest hull_interval hull hull_to bounds_of within disjoint in_box apart_from are_limits is_box visit_at walked effort_refusal box_refusal search_refusal searched ends_inside list_refusal boxes_refusal settings_refusal fits first_of chosen of_bits finite ohms steps bridge.step_at steps_about is_from load_rect spread_rect load_refusal number_refusal side_refusal spread_refusal enclosed weight total_below whole_sum sum_of summed_side side_exact summed_interval summed_load summed_exact numerator_refusal sixteenths_refusal evaluated_sixteenths
agree = refl
