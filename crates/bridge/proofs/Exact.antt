-- The exact value of a number: what `HasValue` says of it, and its tests and its steps by that.
-- Assumes nothing.
use mathlib.Core.Path.{◌≡◌, refl, sym, ap, ap₂, ◌∙◌}
use mathlib.Core.Bool.{Bool, true, false, ◌&&◌}
use Prim.Native.Nat.{ℕ, ◌*◌, ◌<◌}
use native.Mathlib.Nat.{mul-one as nat-mul-one}
use lib.IntN.{ℤ, pos, ◌*ℤ◌}
use lib.Signed.{le_z}
use lib.Ieee as Ieee
use lib.Ieee.{Float, nan, inf, fin}
use lib.Ieee.Exact.{HasValue}
use Rattle.rational.specs.Rounding.{Rounding, quotient}
use Rattle.rational.specs.Fraction.{Frac, Equal, whole, ◌*ᶠ◌}
use Rattle.rational.specs.Promises.{over}
use Rattle.rational.proofs.Whole.{neg_mul, mul-one}
use Rattle.rational.proofs.RationalOrder.{at-most_equal}
use Rattle.rational.proofs.Rational.{mul_equal}
use Rattle.rational.proofs.Quotient.{quotient_equal}
use Rattle.curve.specs.Limits.{steps_per_ohm}
use Rattle.bridge.specs.Value.{signed, finite, ohms, steps, step_at, is_from}

-- a whole number by sign and size, times a natural number
pub signed_times : (s : Bool) (a d : ℕ) → signed s a *ℤ pos d ≡ signed s (a * d)
signed_times false a d = refl
signed_times true a d = neg_mul (pos a) (pos d)

pub value_of : (x : Float) (s : Bool) (a d : ℕ) (h : 0 < d) → HasValue x s a d → (finite x ≡ true) × Equal (ohms x) (over d h (signed s a))
unfolding finite ohms
value_of nan s a d h v = absurd v
value_of (inf t) s a d h v = absurd v
value_of (fin t m e) s a d h (same, size) = (
  refl,
  record { crosswise = signed_times t (m * Ieee.up e) d ∙ ap₂ signed same size ∙ sym (signed_times s a (Ieee.down e)) },
)

same : (a : Frac) → Equal a a
same a = record { crosswise = refl }

module _ (x : Float) (s : Bool) (a d : ℕ) (positive : 0 < d) (v : HasValue x s a d) where
  value : Frac
  value = over d positive (signed s a)

  equal_value : Equal (ohms x) value
  unfolding value
  equal_value = (value_of x s a d positive v).1

  -- the tests compare the value, multiplied out
  pub from-value : (least most : ℤ) → is_from least most x ≡ (le_z (least *ℤ pos d) (signed s a) && le_z (signed s a) (most *ℤ pos d))
  unfolding is_from whole value
  from-value least most = rw (value_of x s a d positive v).0 (ap₂ ◌&&◌ from to)
    where
      from : le_z (least *ℤ pos (ohms x).lower) (ohms x).upper ≡ le_z (least *ℤ pos d) (signed s a)
      from =
          ap (λ (z : ℤ). le_z (least *ℤ pos (ohms x).lower) z) (sym (mul-one (ohms x).upper))
          ∙ at-most_equal (whole least) (ohms x) (whole least) value (same (whole least)) equal_value
          ∙ ap (λ (z : ℤ). le_z (least *ℤ pos d) z) (mul-one (signed s a))

      to : le_z (ohms x).upper (most *ℤ pos (ohms x).lower) ≡ le_z (signed s a) (most *ℤ pos d)
      to =
          ap (λ (z : ℤ). le_z z (most *ℤ pos (ohms x).lower)) (sym (mul-one (ohms x).upper))
          ∙ at-most_equal (ohms x) (whole most) value (whole most) equal_value (same (whole most))
          ∙ ap (λ (z : ℤ). le_z z (most *ℤ pos d)) (mul-one (signed s a))

  -- its steps are the value's, times the steps in an ohm
  pub step_value : (r : Rounding) → step_at r x ≡ quotient r (signed s (a * steps_per_ohm)) d
  unfolding step_at steps ◌*ᶠ◌ whole value
  step_value r =
      quotient_equal r (steps x).lower (value *ᶠ whole (pos steps_per_ohm)).lower (steps x).positive (value *ᶠ whole (pos steps_per_ohm)).positive (steps x).upper (value *ᶠ whole (pos steps_per_ohm)).upper
      (mul_equal (ohms x) (whole (pos steps_per_ohm)) value (whole (pos steps_per_ohm)) equal_value (same (whole (pos steps_per_ohm)))).crosswise
      ∙ ap₂ (quotient r) (signed_times s a steps_per_ohm) (nat-mul-one d)
