-- The load of every call is in range, that of a refused one too, and a zero load has zero ohms.
-- Assumes nothing.
use mathlib.Core.Path.{◌≡◌, refl, sym, subst}
use mathlib.Core.Bool.{false}
use Prim.Native.Nat.{ℕ}
use native.Mathlib.Omega.{arith}
use lib.Dec.{eqb}
use lib.Ieee.{of_int, div}
use Rattle.curve.specs.declared.Curve.{Curve}
use Rattle.curve.specs.declared.Evaluation.{Evaluation}
use Rattle.curve.specs.Rect.{zero_rect}
use Rattle.curve.specs.Curve.{right_of}
use Rattle.curve.specs.Ohms.{ohm, ohms_of, zero_ohms}
use Rattle.curve.specs.Inner.{Held}
use Rattle.curve.specs.Calls.{call_refusal, evaluated}
use Rattle.curve.proofs.Refused.{by_number}
use Rattle.curve.proofs.Accepted.{call_accepted}
use Rattle.curve.proofs.Answers.{evaluated-accepted, evaluated_refused}
use Rattle.curve.proofs.Pieces.{right-load, right-accepted}
use Rattle.curve.proofs.Ranges.{zero_held, accepted_ranged}

pub zero-ohms : ohms_of zero_rect ≡ zero_ohms
unfolding ohms_of ohm div of_int
zero-ohms = refl

-- the load of every call is in range
pub load-held : (c : Curve) (num den : ℕ) → Held (evaluated c num den).load
load-held c num den = by_number (call_refusal c num den).number accepted refused
  where
    accepted : (call_refusal c num den).number ≡ 0 → Held (evaluated c num den).load
    accepted h =
        let (ok, at) = call_accepted c num den h in
        subst (λ (e : Evaluation). Held e.load) (sym (evaluated-accepted c num den ok at))
        (subst Held (right-load c num den ok) ((accepted_ranged (right_of c num den) (right-accepted c ok num den at)).held 0 (omega arith)))

    refused : eqb (call_refusal c num den).number 0 ≡ false → Held (evaluated c num den).load
    refused e = subst (λ (x : Evaluation). Held x.load) (sym (evaluated_refused c num den e)) zero_held
