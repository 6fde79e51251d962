-- The answer of each public call, for every input: a refusal with zeros and a dark flag, or the result.
-- Assumes nothing.
use Rattle.std.specs.Prelude.{ℕ, false, cond, eqb}
use Rattle.curve.specs.declared.Curve.{Curve}
use Rattle.curve.specs.declared.Refusal.{Refusal}
use Rattle.curve.specs.declared.Evaluation.{Evaluation}
use Rattle.curve.specs.declared.Subdivision.{Subdivision}
use Rattle.curve.specs.declared.Elevation.{Elevation}
use Rattle.curve.specs.declared.BoundingRect.{BoundingRect}
use Rattle.curve.specs.Rect.{zero_rect}
use Rattle.curve.specs.Curve.{zero_curve, piece_sum, load_of, left_of, right_of, table_exact, elevated_sum, elevated_of, elevation_exact, bounds_of}
use Rattle.curve.specs.Ohms.{ohms_of, zero_ohms}
use Rattle.curve.specs.Refusals.{◌or_else◌, curve_refusal, parameter_refusal, highest_refusal, sum_refusal}

-- refusals 1 to 5
unfoldable pub call_refusal : Curve → ℕ → ℕ → Refusal
call_refusal c num den = curve_refusal c or_else parameter_refusal num den

-- evaluation (the paper's reading)
unfoldable pub evaluated : Curve → ℕ → ℕ → Evaluation
evaluated c num den =
    let r = call_refusal c num den in
    cond (eqb r.number 0)
    (record { refusal = r; load = load_of c num den; ohms = ohms_of (load_of c num den); exact = table_exact c num den })
    (record { refusal = r; load = zero_rect; ohms = zero_ohms; exact = false })

-- subdivision (its cut): refusals 1 to 5, and 17
unfoldable pub subdivision_refusal : Curve → ℕ → ℕ → Refusal
subdivision_refusal c num den = call_refusal c num den or_else sum_refusal (piece_sum c)

unfoldable pub subdivided : Curve → ℕ → ℕ → Subdivision
subdivided c num den =
    let r = subdivision_refusal c num den in
    cond (eqb r.number 0)
    (record { refusal = r; left = left_of c num den; right = right_of c num den; exact = table_exact c num den })
    (record { refusal = r; left = zero_curve; right = zero_curve; exact = false })

-- degree elevation (its raising): refusals 1 to 3, 6, and 17
unfoldable pub elevation_refusal : Curve → Refusal
elevation_refusal c = curve_refusal c or_else highest_refusal c.degree or_else sum_refusal (elevated_sum c)

unfoldable pub elevated : Curve → Elevation
elevated c =
    let r = elevation_refusal c in
    cond (eqb r.number 0)
    (record { refusal = r; curve = elevated_of c; exact = elevation_exact c })
    (record { refusal = r; curve = zero_curve; exact = false })

-- the bounds (its span)
unfoldable pub bounded : Curve → BoundingRect
bounded c =
    let r = curve_refusal c in
    cond (eqb r.number 0) (record { refusal = r; rect = bounds_of c }) (record { refusal = r; rect = zero_rect })
