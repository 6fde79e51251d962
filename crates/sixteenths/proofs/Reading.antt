-- The sums of lifted sides, divided and moved down again, are the sides of the summed load.
-- Assumes nothing.
use mathlib.Core.Path.{◌≡◌, ap, ◌∙◌}
use Prim.Native.Nat.{ℕ, ◌+◌, ◌*◌, ◌-◌, ◌^◌, ◌≤◌, ◌<◌}
use native.Mathlib.Omega.{arith}
use lib.IntN.{ℤ, pos, ◌+ℤ◌, ◌-ℤ◌, ◌*ℤ◌, +ℤ-neg_ℤ_cancel}
use Rattle.rational.specs.Rounding.{Rounding, quotient, divisible}
use Rattle.rational.proofs.Order.{pos_reflects, ≤ℤ-reflexive, ≤ℤ-trans, +ℤ-mono_right}
use Rattle.rational.proofs.Quotient.{quotient_shift}
use Rattle.rational.proofs.Divisible.{divisible_shift}
use Rattle.bernstein.specs.WholeSum.{weight, whole_sum}
use Rattle.bernstein.proofs.WholeSum.{power_positive, sum_moved, sum-most}
use Rattle.curve.specs.declared.Curve.{Curve}
use Rattle.curve.specs.Limits.{max_side}
use Rattle.curve.specs.Rect.{Coordinate, side}
use Rattle.curve.specs.Curve.{point}
use Rattle.curve.specs.Refusals.{Accepted}
use Rattle.curve.proofs.Accepted.{accepted_facts}
use Rattle.sixteenths.specs.declared.sums.Sums.{Sums}
use Rattle.sixteenths.specs.Weights.{sixteenths}
use Rattle.sixteenths.specs.Sixteenths.{sum_of, summed_side, side_exact}
use Rattle.sixteenths.specs.Inner.{sum_at, Summed, SmallQuotients}

-- the sums over all points of an accepted curve
module _
    (c : Curve) (j : ℕ) (accepted : Accepted c) (most : j ≤ sixteenths) (s : Sums)
    (sums : Summed (weight c.degree (sixteenths - j) j) (point c) (c.degree + 1) s) where
  abbrev both : sixteenths - j + j ≡ sixteenths
  both = omega arith

  abbrev above_zero : 0 < sixteenths ^ c.degree
  above_zero = power_positive sixteenths c.degree (omega arith)

  -- the sum of lifted sides is that of the sides, and the lift times 16 to the power n
  lifted-sum : (x : Coordinate) (r : Rounding) → pos (sum_at x r s) ≡ sum_of c j x r +ℤ pos max_side *ℤ pos (sixteenths ^ c.degree)
  unfolding sum_of whole_sum
  lifted-sum x r =
      sums.total x r
      ∙ sum_moved (sixteenths - j) j sixteenths both (omega arith) c.degree (λ k. side x r (point c k)) (pos max_side)

  pub small-quotients : SmallQuotients c.degree s
  unfolding whole_sum
  small-quotients = record {
    most = λ x r.
        pos_reflects
        (≤ℤ-trans (≤ℤ-reflexive (sums.total x r))
        (sum-most (sixteenths - j) j sixteenths both (omega arith) c.degree (λ k. side x r (point c k) +ℤ pos max_side) (pos (2 * max_side))
        (λ k h. +ℤ-mono_right (pos max_side) ((accepted_facts c accepted).in_range k h x r).to)));
  }

  pub summed-side : (x : Coordinate) (r : Rounding) → quotient r (pos (sum_at x r s)) (sixteenths ^ c.degree) -ℤ pos max_side ≡ summed_side c j x r
  unfolding summed_side
  summed-side x r =
      ap (λ (z : ℤ). quotient r z (sixteenths ^ c.degree) -ℤ pos max_side) (lifted-sum x r)
      ∙ ap (λ (z : ℤ). z -ℤ pos max_side) (quotient_shift (sixteenths ^ c.degree) above_zero r (sum_of c j x r) (pos max_side))
      ∙ +ℤ-neg_ℤ_cancel (quotient r (sum_of c j x r) (sixteenths ^ c.degree)) (pos max_side)

  pub summed-exact : (x : Coordinate) (r : Rounding) → divisible (pos (sum_at x r s)) (sixteenths ^ c.degree) ≡ side_exact c j x r
  unfolding side_exact
  summed-exact x r =
      ap (λ (z : ℤ). divisible z (sixteenths ^ c.degree)) (lifted-sum x r) ∙ divisible_shift (sixteenths ^ c.degree) (sum_of c j x r) (pos max_side)
