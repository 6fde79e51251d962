-- Minus zero is zero, and what is not finite is a 13, wherever it stands.
-- Assumes nothing.
use mathlib.Core.Path.{◌≡◌, refl, sym, ap, ap₂, ◌∙◌}
use mathlib.Core.Bool.{Bool, true, false, ◌&&◌, true≢false}
use Prim.Native.Nat.{ℕ, zero, suc}
use native.Mathlib.Nat.{zero-mul}
use lib.IntN.{ℤ, pos, neg_ℤ, ◌*ℤ◌}
use lib.Signed.{le_z}
use lib.Ieee as Ieee
use lib.Ieee.{Float, nan, inf, fin}
use lib.Ieee.Fits.{down_pos}
use Rattle.rational.specs.Rounding.{Rounding, down, up, quotient}
use Rattle.rational.specs.Fraction.{Frac, whole, ◌*ᶠ◌}
use Rattle.rational.proofs.Truth.{and_both, both_and, and_true}
use Rattle.curve.specs.declared.Interval.{Interval}
use Rattle.curve.specs.declared.Rect.{Rect}
use Rattle.curve.specs.declared.Refusal.{Refusal}
use Rattle.curve.specs.Limits.{steps_per_ohm}
use Rattle.curve.specs.Refusals.{◌or_else◌, unless_at}
use Rattle.bridge.specs.declared.Measurement.TheVariants.{LoadWithSpread}
use Rattle.bridge.specs.Value.{finite, ohms, steps, step_at, steps_about, is_from, is_load, is_spread}
use Rattle.bridge.specs.Bridge.{widened, spread_rect, load_refusal, number_refusal, side_refusal, spread_refusal, answered, enclosed}
use Rattle.bridge_promises.specs.Promises.{plus_zero, MinusZero, NotFinite}
use Rattle.bridge.proofs.Answers.{answered-refusal}
use Rattle.bridge.proofs.ZeroSpread.{same_answer}

-- ---- minus zero

-- a number's value does not tell minus zero from zero, and its test and its steps go by the value
value_plus : (x : Float) → ohms x ≡ ohms (plus_zero x)
unfolding ohms
value_plus nan = refl
value_plus (inf s) = refl
value_plus (fin true zero e) = ap (λ (z : ℤ). record { upper = z; lower = Ieee.down e; positive = down_pos e }) (ap (λ (n : ℕ). neg_ℤ (pos n)) (zero-mul (Ieee.up e)) ∙ sym (ap pos (zero-mul (Ieee.up e))))
value_plus (fin false zero e) = refl
value_plus (fin s (suc m) e) = refl

finite_plus : (x : Float) → finite x ≡ finite (plus_zero x)
unfolding finite
finite_plus nan = refl
finite_plus (inf s) = refl
finite_plus (fin s zero e) = refl
finite_plus (fin s (suc m) e) = refl

test_plus : (least most : ℤ) (x : Float) → is_from least most x ≡ is_from least most (plus_zero x)
unfolding is_from
test_plus least most x =
    ap₂ (λ (b : Bool) (v : Frac). b && le_z (least *ℤ pos v.lower) v.upper && le_z v.upper (most *ℤ pos v.lower)) (finite_plus x) (value_plus x)

step_plus : (o : Rounding) (x : Float) → step_at o x ≡ step_at o (plus_zero x)
unfolding step_at steps
step_plus o x = ap (λ (v : Frac). quotient o (v *ᶠ whole (pos steps_per_ohm)).upper (v *ᶠ whole (pos steps_per_ohm)).lower) (value_plus x)

steps_plus : (x : Float) → steps_about x ≡ steps_about (plus_zero x)
unfolding steps_about
steps_plus x = ap₂ (λ (l h : ℤ). record { low = l; high = h }) (step_plus down x) (step_plus up x)

module _ (r x spread : Float) where
  rect_plus : spread_rect r x spread ≡ spread_rect (plus_zero r) (plus_zero x) (plus_zero spread)
  unfolding spread_rect
  rect_plus =
      ap₂ (λ (i j : Interval). record { resistance = i; reactance = j }) (ap₂ widened (steps_plus r) (step_plus up spread))
      (ap₂ widened (steps_plus x) (step_plus up spread))

  numbers_plus : number_refusal r x spread ≡ number_refusal (plus_zero r) (plus_zero x) (plus_zero spread)
  unfolding number_refusal load_refusal
  numbers_plus =
      ap₂ (λ (a : Refusal) (b : Bool). a or_else unless_at b 13 2)
      (ap₂ (λ (a b : Bool). unless_at a 13 0 or_else unless_at b 13 1) (test_plus _ _ r) (test_plus _ _ x))
      (test_plus _ _ spread)

  spread_plus : enclosed (LoadWithSpread r x spread) ≡ enclosed (LoadWithSpread (plus_zero r) (plus_zero x) (plus_zero spread))
  unfolding enclosed spread_refusal
  spread_plus = ap₂ answered (ap₂ (λ (a : Refusal) (p : Rect). a or_else side_refusal p) numbers_plus rect_plus) rect_plus

pub minus-zero : MinusZero
minus-zero r x spread =
    (sym (same_answer r x) ∙ spread_plus r x (fin false 0 (pos 0)) ∙ same_answer (plus_zero r) (plus_zero x), spread_plus r x spread)

-- ---- what is not finite

in_range_finite : (least most : ℤ) (x : Float) → is_from least most x ≡ true → finite x ≡ true
unfolding is_from
in_range_finite least most x t =
    let v = ohms x in
    (and_both (finite x) (le_z (least *ℤ pos v.lower) v.upper) (and_both (finite x && le_z (least *ℤ pos v.lower) v.upper) (le_z v.upper (most *ℤ pos v.lower)) t).0).0

-- a 13 where one of three tests fails, whatever the sides are
not_all : (a b c : Bool) (rest : Refusal) → (a && b && c) ≡ false → (((unless_at a 13 0 or_else unless_at b 13 1) or_else unless_at c 13 2) or_else rest).number ≡ 13
not_all true true true rest h = absurd (true≢false h)
not_all true true false rest h = refl
not_all true false c rest h = refl
not_all false b c rest h = refl

spread_not-finite : (r x spread : Float) → (finite r && finite x && finite spread) ≡ false → (enclosed (LoadWithSpread r x spread)).refusal.number ≡ 13
unfolding enclosed spread_refusal number_refusal load_refusal
spread_not-finite r x spread h =
    ap (λ (a : Refusal). a.number) (answered-refusal (spread_refusal r x spread) (spread_rect r x spread))
    ∙ not_all (is_load r) (is_load x) (is_spread spread) (side_refusal (spread_rect r x spread)) (fails (is_load r && is_load x && is_spread spread) refl)
  where
    fails : (b : Bool) → (is_load r && is_load x && is_spread spread) ≡ b → (is_load r && is_load x && is_spread spread) ≡ false
    fails false e = e
    fails true e =
        let (load, last) = and_both (is_load r && is_load x) (is_spread spread) e in
        let (first, second) = and_both (is_load r) (is_load x) load in
        absurd (true≢false (sym (both_and (both_and (in_range_finite _ _ r first) (in_range_finite _ _ x second)) (in_range_finite _ _ spread last)) ∙ h))

pub not_finite : NotFinite
unfolding finite
not_finite r x spread = (
  (λ h. ap (λ a. a.refusal.number) (sym (same_answer r x)) ∙ spread_not-finite r x (fin false 0 (pos 0)) (and_true (finite r && finite x) ∙ h)),
  spread_not-finite r x spread,
)
