-- The whole steps about a load's number and a spread's: they are sides, and a spread's are not below zero.
-- Assumes nothing.
use mathlib.Core.Path.{◌≡◌, refl, sym, subst}
use mathlib.Core.Bool.{Bool, true, false}
use Prim.Native.Nat.{ℕ, ◌*◌, ◌≤◌, zero-le}
use native.Mathlib.Omega.{arith}
use lib.Dec.{T}
use lib.IntN.{ℤ, pos, neg_ℤ, ◌*ℤ◌, neg_ℤ-neg_ℤ, zero-*ℤ}
use lib.Signed.{le_z, ◌≤ℤ◌, le_z_yes}
use lib.Ieee as Ieee
use lib.Ieee.{Float, nan, inf, fin}
use lib.Ieee.Fits.{down_pos}
use Rattle.rational.specs.Rounding.{Rounding, up, quotient}
use Rattle.rational.proofs.Order.{≤ℤ-trans, ≤ℤ-reflexive, pos_mono, pos_reflects, negℤ-anti, *ℤ-mono}
use Rattle.rational.proofs.Quotient.{quotient-greatest, quotient-least}
use Rattle.curve.specs.Limits.{max_side, steps_per_ohm}
use Rattle.curve.specs.Inner.{Side}
use Rattle.curve.proofs.Tests.{both, join}
use Rattle.bridge.specs.Value.{signed, max_ohms, finite, step_at, is_from, is_load, is_spread}
use Rattle.bridge.proofs.Exact.{signed_times, from-value, step_value}

-- ---- a number between two of opposite signs, by its size

pub size-within : (s : Bool) (a most : ℕ) → neg_ℤ (pos most) ≤ℤ signed s a → signed s a ≤ℤ pos most → a ≤ most
size-within false a most from to = pos_reflects to
size-within true a most from to =
    pos_reflects (≤ℤ-trans (≤ℤ-reflexive (sym (neg_ℤ-neg_ℤ (pos a)))) (≤ℤ-trans (negℤ-anti from) (≤ℤ-reflexive (neg_ℤ-neg_ℤ (pos most)))))

pub signed-within : (s : Bool) (a most : ℕ) → a ≤ most → (neg_ℤ (pos most) ≤ℤ signed s a) × (signed s a ≤ℤ pos most)
signed-within false a most h = (≤ℤ-trans (negℤ-anti {a = pos 0} {b = pos most} (pos_mono zero-le)) (pos_mono zero-le), pos_mono h)
signed-within true a most h = (negℤ-anti (pos_mono h), ≤ℤ-trans (negℤ-anti {a = pos 0} {b = pos a} (pos_mono zero-le)) (pos_mono zero-le))

-- a side turned about is a side
pub negated : {z : ℤ} → Side z → Side (neg_ℤ z)
negated h = record { from = negℤ-anti h.to; to = negℤ-anti h.from }

-- ---- what the tests say of a finite number, by its sign, digits and exponent

module _ (s : Bool) (m : ℕ) (e : ℤ) where
  between : (least most : ℤ) → T (is_from least most (fin s m e)) →
      ((least *ℤ pos (Ieee.down e)) ≤ℤ signed s (m * Ieee.up e)) × (signed s (m * Ieee.up e) ≤ℤ (most *ℤ pos (Ieee.down e)))
  between least most t =
      let (from, to) = both (le_z (least *ℤ pos (Ieee.down e)) (signed s (m * Ieee.up e))) (le_z (signed s (m * Ieee.up e)) (most *ℤ pos (Ieee.down e)))
      (subst T (from-value (fin s m e) s (m * Ieee.up e) (Ieee.down e) (down_pos e) (refl, refl) least most) t) in
      (le_z_yes from, le_z_yes to)

  load-size : T (is_load (fin s m e)) → m * Ieee.up e * steps_per_ohm ≤ max_side * Ieee.down e
  load-size t =
      let (from, to) = between (neg_ℤ (pos max_ohms)) (pos max_ohms) t in
      in_steps (m * Ieee.up e) (Ieee.down e)
      (size-within s (m * Ieee.up e) (max_ohms * Ieee.down e) (≤ℤ-trans (≤ℤ-reflexive (sym (signed_times true max_ohms (Ieee.down e)))) from) to)
    where
      in_steps : (a d : ℕ) → a ≤ max_ohms * d → a * steps_per_ohm ≤ max_side * d
      in_steps a d h = omega arith

  step_is : (r : Rounding) → step_at r (fin s m e) ≡ quotient r (signed s (m * Ieee.up e * steps_per_ohm)) (Ieee.down e)
  step_is r = step_value (fin s m e) s (m * Ieee.up e) (Ieee.down e) (down_pos e) (refl, refl) r

  rounded_side : T (is_load (fin s m e)) → (r : Rounding) → Side (step_at r (fin s m e))
  rounded_side t r =
      let z = signed s (m * Ieee.up e * steps_per_ohm) in
      let d = Ieee.down e in
      let (from, to) = signed-within s (m * Ieee.up e * steps_per_ohm) (max_side * d) (load-size t) in
      subst Side (sym (step_is r))
      (record {
        from = quotient-greatest d (down_pos e) r (neg_ℤ (pos max_side)) z (≤ℤ-trans (≤ℤ-reflexive (signed_times true max_side d)) from);
        to = quotient-least d (down_pos e) r (pos max_side) z to;
      })

  rounded_positive : T (is_spread (fin s m e)) → pos 0 ≤ℤ step_at up (fin s m e)
  rounded_positive t =
      let d = Ieee.down e in
      let none = zero-*ℤ (pos d) in
      subst (λ (z : ℤ). pos 0 ≤ℤ z) (sym (step_is up))
      (quotient-greatest d (down_pos e) up (pos 0) (signed s (m * Ieee.up e * steps_per_ohm))
      (≤ℤ-trans (≤ℤ-reflexive none)
      (≤ℤ-trans (*ℤ-mono {a = pos 0} {b = signed s (m * Ieee.up e)} steps_per_ohm (≤ℤ-trans (≤ℤ-reflexive (sym none)) (between (pos 0) (pos max_ohms) t).0))
      (≤ℤ-reflexive (signed_times s (m * Ieee.up e) steps_per_ohm)))))

  spread_between : T (is_spread (fin s m e)) → T (is_load (fin s m e))
  spread_between t =
      let value = signed s (m * Ieee.up e) in
      let d = Ieee.down e in
      let (from, to) = between (pos 0) (pos max_ohms) t in
      subst T (sym (from-value (fin s m e) s (m * Ieee.up e) d (down_pos e) (refl, refl) (neg_ℤ (pos max_ohms)) (pos max_ohms)))
      (join (le_z (neg_ℤ (pos max_ohms) *ℤ pos d) value) (le_z value (pos max_ohms *ℤ pos d))
      (≤ℤ-trans (*ℤ-mono {a = neg_ℤ (pos max_ohms)} {b = pos 0} d (record { le = tt })) from).le to.le)

-- ---- so they are finite

only_finite : (least most : ℤ) (P : Float → Type 0) → ((s : Bool) (m : ℕ) (e : ℤ) → T (is_from least most (fin s m e)) → P (fin s m e)) → (x : Float) → T (is_from least most x) → P x
unfolding is_from finite
only_finite least most P f nan t = absurd t
only_finite least most P f (inf s) t = absurd t
only_finite least most P f (fin s m e) t = f s m e t

-- the steps about a load's number are sides
pub load_side : (r : Rounding) (x : Float) → T (is_load x) → Side (step_at r x)
load_side r = only_finite _ _ (λ x. Side (step_at r x)) (λ s m e t. rounded_side s m e t r)

-- a spread is within the range of a load, and its steps are not below zero
pub spread_load : (x : Float) → T (is_spread x) → T (is_load x)
spread_load = only_finite _ _ (λ x. T (is_load x)) spread_between

pub spread_steps : (x : Float) → T (is_spread x) → pos 0 ≤ℤ step_at up x
spread_steps = only_finite _ _ (λ x. pos 0 ≤ℤ step_at up x) rounded_positive
