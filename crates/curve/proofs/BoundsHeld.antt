-- The bounds have their sides in range, since each is a side of a control point, or zero where the curve is refused.
-- Assumes nothing.
use mathlib.Core.Path.{◌≡◌, sym, subst}
use mathlib.Core.Bool.{false}
use Prim.Native.Nat.{ℕ, zero, suc, ◌≤◌}
use native.Mathlib.Omega.{arith}
use lib.Dec.{eqb}
use Rattle.rational.specs.Rounding.{Rounding, down, up}
use Rattle.rational.proofs.Order.{chosen}
use Rattle.curve.specs.declared.Curve.{Curve}
use Rattle.curve.specs.declared.BoundingRect.{BoundingRect}
use Rattle.curve.specs.declared.Interval.{Interval}
use Rattle.curve.specs.declared.Rect.{Rect}
use Rattle.curve.specs.Rect.{Coordinate, resistance, reactance, along, end, least, greatest, hull_interval, hull}
use Rattle.curve.specs.Curve.{point, hull_to, bounds_of}
use Rattle.curve.specs.Refusals.{curve_refusal}
use Rattle.curve.specs.Calls.{bounded}
use Rattle.curve.specs.Inner.{Side, Sides, Held}
use Rattle.curve.proofs.Refused.{by_number}
use Rattle.curve.proofs.Accepted.{number-accepted, accepted_ready}
use Rattle.curve.proofs.Answers.{bounded-accepted, bounded-refused}
use Rattle.curve.proofs.Ranges.{zero_held}

interval_sides : (i j : Interval) → Sides i → Sides j → Sides (hull_interval i j)
unfolding hull_interval least greatest
interval_sides i j h k = record { at = go }
  where
    go : (r : Rounding) → Side (end r (hull_interval i j))
    go down = chosen i.low j.low i.low j.low Side (λ l. h.at down) (λ l. k.at down)
    go up = chosen i.high j.high j.high i.high Side (λ l. k.at up) (λ l. h.at up)

hull-held : (p q : Rect) → Held p → Held q → Held (hull p q)
unfolding hull
hull-held p q h k = record { at = go }
  where
    go : (x : Coordinate) → Sides (along x (hull p q))
    go resistance = interval_sides p.resistance q.resistance (h.at resistance) (k.at resistance)
    go reactance = interval_sides p.reactance q.reactance (h.at reactance) (k.at reactance)

hull-to-held : (P : ℕ → Rect) (n : ℕ) → ((k : ℕ) → k ≤ n → Held (P k)) → Held (hull_to P n)
unfolding hull_to
hull-to-held P zero h = h 0 (omega arith)
hull-to-held P (suc n) h = hull-held (hull_to P n) (P (suc n)) (hull-to-held P n (λ k l. h k (omega arith))) (h (suc n) (omega arith))

pub bounds_held : (c : Curve) → Held (bounded c).rect
unfolding bounds_of
bounds_held c = by_number (curve_refusal c).number accepted refused
  where
    accepted : (curve_refusal c).number ≡ 0 → Held (bounded c).rect
    accepted h =
        let ok = number-accepted c h in
        subst (λ (x : BoundingRect). Held x.rect) (sym (bounded-accepted c ok)) (hull-to-held (point c) c.degree (accepted_ready c ok).held)

    refused : eqb (curve_refusal c).number 0 ≡ false → Held (bounded c).rect
    refused e = subst (λ (x : BoundingRect). Held x.rect) (sym (bounded-refused c e)) zero_held
