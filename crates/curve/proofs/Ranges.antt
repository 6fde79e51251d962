-- Every curve that a call answers has a degree and sides in range, the zero curve of a refused call too.
-- Assumes nothing.
use mathlib.Core.Path.{◌≡◌, sym, subst}
use Prim.Native.Nat.{ℕ, ◌≤◌}
use native.Mathlib.Omega.{arith}
use mathlib.Core.Bool.{false}
use lib.Dec.{eqb}
use lib.Signed.{le_z_yes}
use Rattle.rational.specs.Rounding.{Rounding, down, up}
use Rattle.curve.specs.declared.Curve.{Curve}
use Rattle.curve.specs.declared.Elevation.{Elevation}
use Rattle.curve.specs.declared.Subdivision.{Subdivision}
use Rattle.curve.specs.Limits.{max_degree}
use Rattle.curve.specs.Rect.{Coordinate, resistance, reactance, side, zero_rect}
use Rattle.curve.specs.Curve.{point, zero_curve, left_of, right_of, elevated_of}
use Rattle.curve.specs.Refusals.{Accepted}
use Rattle.curve.specs.Inner.{Side, Held}
use Rattle.curve.specs.Calls.{subdivision_refusal, elevation_refusal, subdivided, elevated}
use Rattle.curve.proofs.Refused.{by_number}
use Rattle.curve.proofs.Accepted.{accepted_ready, subdivision_accepted, elevation_accepted}
use Rattle.curve.proofs.Answers.{subdivided-accepted, subdivided-refused, elevated-accepted, elevated-refused}
use Rattle.curve.proofs.Points.{point_at}
use Rattle.curve.proofs.Pieces.{left-accepted, right-accepted, elevated_of-accepted}

pub record Ranged (c : Curve) : Type 0 where
  pub few : c.degree ≤ max_degree
  pub held : (k : ℕ) → k ≤ c.degree → Held (point c k)

pub accepted_ranged : (c : Curve) → Accepted c → Ranged c
accepted_ranged c ok = let r = accepted_ready c ok in record { few = r.few; held = r.held }

-- ---- zero

pub zero_held : Held zero_rect
zero_held = record { at = λ x. record { at = λ r. go x r } }
  where
    go : (x : Coordinate) (r : Rounding) → Side (side x r zero_rect)
    go resistance down = record { from = le_z_yes tt; to = le_z_yes tt }
    go resistance up = record { from = le_z_yes tt; to = le_z_yes tt }
    go reactance down = record { from = le_z_yes tt; to = le_z_yes tt }
    go reactance up = record { from = le_z_yes tt; to = le_z_yes tt }

zero_ranged : Ranged zero_curve
zero_ranged =
    record {
      few = omega arith;
      held = λ k h. subst Held (sym (point_at 0 0 (λ k. zero_rect) k (omega arith) h)) zero_held;
    }

-- ---- the answers

abbrev Both : Subdivision → Type 0
Both s = Ranged s.left × Ranged s.right

pub pieces_ranged : (c : Curve) (num den : ℕ) → Ranged (subdivided c num den).left × Ranged (subdivided c num den).right
pieces_ranged c num den = by_number (subdivision_refusal c num den).number accepted refused
  where
    accepted : (subdivision_refusal c num den).number ≡ 0 → Both (subdivided c num den)
    accepted h =
        let (ok, at, room) = subdivision_accepted c num den h in
        subst Both (sym (subdivided-accepted c num den ok at room))
        (accepted_ranged (left_of c num den) (left-accepted c ok num den at), accepted_ranged (right_of c num den) (right-accepted c ok num den at))

    refused : eqb (subdivision_refusal c num den).number 0 ≡ false → Both (subdivided c num den)
    refused e = subst Both (sym (subdivided-refused c num den e)) (zero_ranged, zero_ranged)

pub elevated_ranged : (c : Curve) → Ranged (elevated c).curve
elevated_ranged c = by_number (elevation_refusal c).number accepted refused
  where
    accepted : (elevation_refusal c).number ≡ 0 → Ranged (elevated c).curve
    accepted h =
        let (ok, below, room) = elevation_accepted c h in
        subst (λ (e : Elevation). Ranged e.curve) (sym (elevated-accepted c ok below room)) (accepted_ranged (elevated_of c) (elevated_of-accepted c ok below))

    refused : eqb (elevation_refusal c).number 0 ≡ false → Ranged (elevated c).curve
    refused e = subst (λ (x : Elevation). Ranged x.curve) (sym (elevated-refused c e)) zero_ranged
