-- Every load in ohms is the load in steps, with nothing lost.
-- Assumes nothing.
use mathlib.Core.Path.{◌≡◌, refl, sym, subst}
use mathlib.Core.Bool.{false}
use Prim.Native.Nat.{ℕ}
use lib.Dec.{eqb}
use lib.IntN.{nat_abs}
use lib.Ieee.Exact.{HasValue}
use Rattle.rational.specs.Rounding.{Rounding, down, up}
use Rattle.curve.specs.declared.Curve.{Curve}
use Rattle.curve.specs.declared.Evaluation.{Evaluation}
use Rattle.curve.specs.declared.Rect.{Rect}
use Rattle.curve.specs.declared.Ohms.{Ohms}
use Rattle.curve.specs.Limits.{steps_per_ohm}
use Rattle.curve.specs.Rect.{Coordinate, resistance, reactance, side}
use Rattle.curve.specs.Ohms.{ohms_of}
use Rattle.curve.specs.Inner.{Held}
use Rattle.curve.specs.Calls.{call_refusal, evaluated}
use Rattle.curve_promises.specs.Promises.{negative, ohms_at, LoadOhms}
use Rattle.curve.proofs.Refused.{by_number}
use Rattle.curve.proofs.Accepted.{side_range, call_accepted}
use Rattle.curve.proofs.Answers.{evaluated-accepted, evaluated_refused}
use Rattle.curve.proofs.Loads.{zero-ohms, load-held}
use Rattle.curve_promises.proofs.OhmsExact.{exact_ohms}

abbrev pub Exactly : Coordinate → Rounding → Rect → Ohms → Type 0
Exactly x r p o = HasValue (ohms_at x r o) (negative (side x r p)) (nat_abs (side x r p)) steps_per_ohm

-- a rectangle in range, side by side
pub rect-ohms : (p : Rect) → Held p → (x : Coordinate) (r : Rounding) → Exactly x r p (ohms_of p)
unfolding ohms_of
rect-ohms p h resistance down = exact_ohms p.resistance.low (side_range _ ((h.at resistance).at down))
rect-ohms p h resistance up = exact_ohms p.resistance.high (side_range _ ((h.at resistance).at up))
rect-ohms p h reactance down = exact_ohms p.reactance.low (side_range _ ((h.at reactance).at down))
rect-ohms p h reactance up = exact_ohms p.reactance.high (side_range _ ((h.at reactance).at up))

-- an evaluation's ohms are those of its load, also where both are zero
load_is : (c : Curve) (num den : ℕ) → (evaluated c num den).ohms ≡ ohms_of (evaluated c num den).load
load_is c num den = by_number (call_refusal c num den).number accepted refused
  where
    Same : Evaluation → Type 0
    Same e = e.ohms ≡ ohms_of e.load

    accepted : (call_refusal c num den).number ≡ 0 → Same (evaluated c num den)
    accepted h = let (ok, at) = call_accepted c num den h in subst Same (sym (evaluated-accepted c num den ok at)) refl

    refused : eqb (call_refusal c num den).number 0 ≡ false → Same (evaluated c num den)
    refused e = subst Same (sym (evaluated_refused c num den e)) (sym zero-ohms)

pub load-ohms : LoadOhms
load-ohms c num den x r =
    subst (Exactly x r (evaluated c num den).load) (sym (load_is c num den)) (rect-ohms (evaluated c num den).load (load-held c num den) x r)
