-- What a result says as an answer of the papers: its value with no refusal, or its refusal with zeros and a dark flag.
use Rattle.std.specs.Prelude.{Result, Ok, Err, false}
use Rattle.curve.specs.declared.Rect.{Rect}
use Rattle.curve.specs.declared.Curve.{Curve}
use Rattle.curve.specs.declared.Rounded.{Rounded}
use Rattle.curve.specs.declared.Reading.{Reading}
use Rattle.curve.specs.declared.Evaluation.{Evaluation}
use Rattle.curve.specs.declared.Subdivision.{Subdivision}
use Rattle.curve.specs.declared.Elevation.{Elevation}
use Rattle.curve.specs.declared.BoundingRect.{BoundingRect}
use Rattle.curve.specs.declared.reason.Reason.{Reason}
use Rattle.curve.specs.Rect.{zero_rect}
use Rattle.curve.specs.Curve.{zero_curve}
use Rattle.curve.specs.Ohms.{zero_ohms}
use Rattle.curve.specs.Refusals.{none}
use Rattle.curve.specs.Reason.{listed}

abbrev pub as_evaluation : Result Reading Reason → Evaluation
as_evaluation (Ok r) = record { refusal = none; load = r.load; ohms = r.ohms; exact = r.exact }
as_evaluation (Err e) = record { refusal = listed e; load = zero_rect; ohms = zero_ohms; exact = false }

abbrev pub as_subdivision : Result (Rounded (Curve × Curve)) Reason → Subdivision
as_subdivision (Ok p) = record { refusal = none; left = p.value.0; right = p.value.1; exact = p.exact }
as_subdivision (Err e) = record { refusal = listed e; left = zero_curve; right = zero_curve; exact = false }

abbrev pub as_elevation : Result (Rounded Curve) Reason → Elevation
as_elevation (Ok r) = record { refusal = none; curve = r.value; exact = r.exact }
as_elevation (Err e) = record { refusal = listed e; curve = zero_curve; exact = false }

abbrev pub as_bounding_rect : Result Rect Reason → BoundingRect
as_bounding_rect (Ok p) = record { refusal = none; rect = p }
as_bounding_rect (Err e) = record { refusal = listed e; rect = zero_rect }
