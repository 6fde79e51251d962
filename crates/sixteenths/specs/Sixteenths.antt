-- The reading at j/16 by the Bernstein sum (document 02, point 4): the sum is taken whole, and each side rounded outward once.
-- Assumes nothing.
use Rattle.std.specs.Prelude.{Bool, false, ◌&&◌, cond, ℕ, ◌-◌, ◌^◌, leb, eqb, ℤ}
use Rattle.rational.specs.Rounding.{Rounding, down, up, quotient, divisible}
use Rattle.bernstein.specs.WholeSum.{whole_sum}
use Rattle.curve.specs.declared.Interval.{Interval}
use Rattle.curve.specs.declared.Rect.{Rect}
use Rattle.curve.specs.declared.Curve.{Curve}
use Rattle.curve.specs.declared.Refusal.{Refusal}
use Rattle.curve.specs.declared.Evaluation.{Evaluation}
use Rattle.curve.specs.Rect.{Coordinate, resistance, reactance, side, zero_rect}
use Rattle.curve.specs.Curve.{point}
use Rattle.curve.specs.Ohms.{ohms_of, zero_ohms}
use Rattle.curve.specs.Refusals.{◌or_else◌, unless, curve_refusal}
use Rattle.sixteenths.specs.Weights.{sixteenths}

-- 16 to the power n times the Bernstein sum at j/16 of one side of a curve's control points
unfoldable pub sum_of : Curve → ℕ → Coordinate → Rounding → ℤ
sum_of c j x r = whole_sum c.degree (sixteenths - j) j (λ k. side x r (point c k))

-- one side of the load: that sum divided by 16 to the power n, rounded once
unfoldable pub summed_side : Curve → ℕ → Coordinate → Rounding → ℤ
summed_side c j x r = quotient r (sum_of c j x r) (sixteenths ^ c.degree)

-- whether its division left no remainder
unfoldable pub side_exact : Curve → ℕ → Coordinate → Rounding → Bool
side_exact c j x r = divisible (sum_of c j x r) (sixteenths ^ c.degree)

unfoldable pub summed_interval : Curve → ℕ → Coordinate → Interval
summed_interval c j x = record { low = summed_side c j x down; high = summed_side c j x up }

unfoldable pub summed_load : Curve → ℕ → Rect
summed_load c j = record { resistance = summed_interval c j resistance; reactance = summed_interval c j reactance }

-- the exact flag (the paper's lamp). Lit, true: none of the four divisions left a remainder.
unfoldable pub summed_exact : Curve → ℕ → Bool
summed_exact c j =
    (side_exact c j resistance down && side_exact c j resistance up) && (side_exact c j reactance down && side_exact c j reactance up)

-- 15: j is above 16
unfoldable pub numerator_refusal : ℕ → Refusal
numerator_refusal j = unless (leb j sixteenths) 15

-- refusals 1 to 3, then 15
unfoldable pub sixteenths_refusal : Curve → ℕ → Refusal
sixteenths_refusal c j = curve_refusal c or_else numerator_refusal j

-- the summed reading (the paper's second reading)
unfoldable pub evaluated_sixteenths : Curve → ℕ → Evaluation
evaluated_sixteenths c j =
    let r = sixteenths_refusal c j in
    cond (eqb r.number 0)
    (record { refusal = r; load = summed_load c j; ohms = ohms_of (summed_load c j); exact = summed_exact c j })
    (record { refusal = r; load = zero_rect; ohms = zero_ohms; exact = false })
