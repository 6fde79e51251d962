-- The loads of an ordinary curve inside the rectangles, on a piece's stretch, lie in the piece's span.
-- Assumes nothing.
use mathlib.Core.Path.{◌≡◌, sym, ap, ◌∙◌, subst}
use Prim.Native.Nat.{ℕ, ◌+◌, ◌≤◌}
use native.Mathlib.Nat.{mul-zero}
use native.Mathlib.Omega.{arith}
use lib.IntN.{ℤ, pos}
use Rattle.rational.specs.Rounding.{Rounding, down, up}
use Rattle.rational.specs.Fraction.{Frac}
use Rattle.rational.proofs.Rational.{ℚ, rat, embed}
use Rattle.rational.proofs.RationalOrder.{◌≤ℚ◌, ≤ℚ-trans, embed_mono}
use Rattle.bernstein.specs.DeCasteljau.{value}
use Rattle.bernstein.specs.Bernstein.{bernstein}
use Rattle.bernstein.proofs.Convex.{convex_parameter, table-least, table-most, order_excess, excess_order}
use Rattle.bernstein.proofs.Curve.{curve, bernstein-curve}
use Rattle.bernstein.proofs.Rounded.{Near}
use Rattle.curve.specs.declared.Interval.{Interval}
use Rattle.curve.specs.declared.Rect.{Rect}
use Rattle.curve.specs.declared.Curve.{Curve}
use Rattle.curve.specs.Rect.{Coordinate, along, end, side, Outward, Bounded}
use Rattle.curve.specs.Curve.{point}
use Rattle.curve.specs.Calls.{bounded}
use Rattle.curve_promises.proofs.BoundsLeast.{least_bounds}
use Rattle.ledger.specs.Ordinary.{Ordinary, InsideOf, load_at}
use Rattle.ledger.proofs.Evaluation.{inward, inward_none, bounded-near, near-bounded}
use Rattle.search_promises.proofs.Dyadic.{Along}
use Rattle.search_promises.proofs.Laid.{Laid}

-- a value that lies in an interval, and a load that lies in a rectangle, edges included
abbrev pub Spanned : Interval → Frac → Type 0
Spanned i v = (r : Rounding) → Bounded r v (end r i)

abbrev pub LoadSpanned : Ordinary → Rect → Frac → Type 0
LoadSpanned o p t = (x : Coordinate) → Spanned (along x p) (load_at o x t)

near_outward : (r : Rounding) (s s' : ℤ) (y : ℚ) → Near (inward r) 0 s y → Outward r s s' → Near (inward r) 0 s' y
near_outward down s s' y n h = order_excess (≤ℚ-trans (embed_mono h) (excess_order n))
near_outward up s s' y n h = order_excess (≤ℚ-trans (excess_order n) (embed_mono h))

-- a bound on every control point is a bound on the curve from 0 to 1
curve-near :
    (r : Rounding) (s : ℤ) (P : ℕ → ℚ) (n : ℕ) (u : ℚ) → embed (pos 0) ≤ℚ u → u ≤ℚ embed (pos 1) →
    ((k : ℕ) → k ≤ n → Near (inward r) 0 s (P k)) → Near (inward r) 0 s (curve P n u)
unfolding curve value
curve-near down s P n u low high h = order_excess (table-least (convex_parameter low high) (embed s) n (λ k l. excess_order (h k l)) n 0 (omega arith))
curve-near up s P n u low high h = order_excess (table-most (convex_parameter low high) (embed s) n (λ k l. excess_order (h k l)) n 0 (omega arith))

module _ (c : Curve) (d i : ℕ) (piece : Curve) (laid : Laid c d i piece) (o : Ordinary) (inside : InsideOf o c) (t : Frac) (at : Along d i (rat t)) where
  -- the ordinary curve's control points, moved to the piece, lie in the piece's rectangles, and so in its span
  moved-near :
      (x : Coordinate) (r : Rounding) (k : ℕ) → k ≤ piece.degree →
      Near (inward r) 0 (side x r (bounded piece).rect) (laid.stretch.move (λ j. rat (o.control x j)) k)
  moved-near x r k h =
      let moved = laid.stretch.move (λ j. rat (o.control x j)) k in
      near_outward r (side x r (point piece k)) (side x r (bounded piece).rect) moved
      (subst (λ (m : ℕ). Near (inward r) m (side x r (point piece k)) moved) (inward_none r (0 + laid.steps))
      (laid.stretch.near x r (inward r) 0 (λ j. rat (o.control x j))
      (λ j g. rw mul-zero (bounded-near r (o.control x j) (side x r (point c j)) (inside.controls x r j g))) k h))
      (((least_bounds piece laid.accepted).0 k h).at x r)

  load_is : (x : Coordinate) → curve (laid.stretch.move (λ j. rat (o.control x j))) piece.degree at.parameter ≡ rat (load_at o x t)
  load_is x =
      laid.stretch.moved (λ j. rat (o.control x j)) at.parameter
      ∙ ap (curve (λ j. rat (o.control x j)) c.degree) at.place
      ∙ sym (ap (λ (n : ℕ). rat (bernstein n (o.control x) t)) inside.degrees ∙ bernstein-curve c.degree (o.control x) t)

  span_holds : (x : Coordinate) (r : Rounding) → Near (inward r) 0 (side x r (bounded piece).rect) (rat (load_at o x t))
  span_holds x r =
      subst (Near (inward r) 0 (side x r (bounded piece).rect)) (load_is x)
      (curve-near r (side x r (bounded piece).rect) (laid.stretch.move (λ j. rat (o.control x j))) piece.degree at.parameter at.least at.most (moved-near x r))

  pub load_in_span : LoadSpanned o (bounded piece).rect t
  load_in_span x r = near-bounded r (load_at o x t) (side x r (bounded piece).rect) (span_holds x r)
