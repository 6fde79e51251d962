-- A plain load is a load with a spread of zero: its sides are in range, and nothing is moved.
-- Assumes nothing.
use mathlib.Core.Path.{◌≡◌, refl, sym, ap, ap₂, ◌∙◌}
use mathlib.Core.Bool.{Bool, true, false}
use borrow.Author.Tests.{eqb-false}
use lib.Dec.{T}
use lib.IntN.{ℤ, pos, +ℤ_idr}
use lib.Ieee.{Float, fin}
use Rattle.rational.specs.Rounding.{down, up, quotient, floor, ceiling}
use Rattle.rational.specs.Fraction.{◌*ᶠ◌, whole}
use Rattle.curve.specs.declared.Interval.{Interval}
use Rattle.curve.specs.declared.Rect.{Rect}
use Rattle.curve.specs.declared.Refusal.{Refusal}
use Rattle.curve.specs.Rect.{in_range, ends_in_range}
use Rattle.curve.specs.Refusals.{none, ◌or_else◌, unless_at}
use Rattle.rational.proofs.Truth.{both_and}
use Rattle.curve.proofs.Tests.{true_of}
use Rattle.curve.proofs.Refused.{or_first, by_number, settled_or, settled_unless}
use Rattle.curve.proofs.Accepted.{side_range}
use Rattle.bridge.specs.Value.{finite, ohms, steps, step_at, steps_about, is_from, is_load, is_spread}
use Rattle.bridge.specs.Bridge.{widened, load_rect, spread_rect, load_refusal, number_refusal, side_refusal, spread_refusal, answered, enclosed}
use Rattle.bridge.specs.declared.Measurement.TheVariants.{Load, LoadWithSpread}
use Rattle.bridge.proofs.Steps.{load_side}
use Rattle.bridge.proofs.Answers.{loads_passed}

zero_float : Float
zero_float = fin false 0 (pos 0)

zero_is_spread : is_spread zero_float ≡ true
unfolding zero_float is_from finite ohms
zero_is_spread = refl

zero_step : step_at up zero_float ≡ pos 0
unfolding zero_float step_at steps ohms ◌*ᶠ◌ whole quotient ceiling floor
zero_step = refl

unmoved : (i : Interval) → widened i (pos 0) ≡ i
unmoved i = ap₂ (λ (l h : ℤ). record { low = l; high = h }) (+ℤ_idr i.low) (+ℤ_idr i.high)

-- a load's own sides are in range
ends_range : (x : Float) → T (is_load x) → ends_in_range (steps_about x) ≡ true
unfolding ends_in_range steps_about
ends_range x t = both_and (true_of (in_range (step_at down x)) (side_range (step_at down x) (load_side down x t))) (true_of (in_range (step_at up x)) (side_range (step_at up x) (load_side up x t)))

load-sides : (r x : Float) → T (is_load r) → T (is_load x) → side_refusal (load_rect r x) ≡ none
unfolding side_refusal load_rect
load-sides r x s t = ap₂ (λ (a b : Bool). unless_at a 14 0 or_else unless_at b 14 1) (ends_range r s) (ends_range x t)

module _ (r x : Float) where
  same-rect : spread_rect r x zero_float ≡ load_rect r x
  unfolding spread_rect load_rect
  same-rect = rw zero_step (ap₂ (λ (i j : Interval). record { resistance = i; reactance = j }) (unmoved (steps_about r)) (unmoved (steps_about x)))

  settled : (load_refusal r x or_else none) ≡ load_refusal r x
  unfolding load_refusal
  settled = settled_or (unless_at (is_load r) 13 0) (unless_at (is_load x) 13 1) (settled_unless (is_load r) 12 0) (settled_unless (is_load x) 12 1)

  same_numbers : number_refusal r x zero_float ≡ load_refusal r x
  unfolding number_refusal
  same_numbers = ap (λ (b : Bool). load_refusal r x or_else unless_at b 13 2) zero_is_spread ∙ settled

  same-refusal : spread_refusal r x zero_float ≡ load_refusal r x
  unfolding spread_refusal
  same-refusal = ap₂ (λ (a : Refusal) (p : Rect). a or_else side_refusal p) same_numbers same-rect ∙ by_number (load_refusal r x).number accepted (λ e. sym (or_first (load_refusal r x) (side_refusal (load_rect r x)) (eqb-false (load_refusal r x).number 0 e)))
    where
      accepted : (load_refusal r x).number ≡ 0 → (load_refusal r x or_else side_refusal (load_rect r x)) ≡ load_refusal r x
      accepted h = let (s, t) = loads_passed r x h in ap (λ (a : Refusal). load_refusal r x or_else a) (load-sides r x s t) ∙ settled

pub same_answer : (r x : Float) → enclosed (LoadWithSpread r x (fin false 0 (pos 0))) ≡ enclosed (Load r x)
unfolding enclosed zero_float
same_answer r x = ap₂ answered (same-refusal r x) (same-rect r x)
