-- The bounds hold every control point and lie inside every rectangle that does, and the load lies inside them.
-- Assumes nothing.
use mathlib.Core.Path.{◌≡◌, refl, sym, subst}
use mathlib.Core.Logic.{◌⊎◌, inl, inr}
use Prim.Native.Nat.{ℕ, zero, suc, ◌+◌, ◌-◌, ◌≤◌, ◌<◌}
use native.Mathlib.Nat.{le_refl, eq-or-lt_of_le}
use native.Mathlib.Omega.{arith}
use lib.IntN.{ℤ}
use lib.Signed.{◌≤ℤ◌, ≤ℤ_refl}
use Rattle.rational.specs.Rounding.{Rounding, down, up}
use Rattle.rational.proofs.Order.{≤ℤ-trans, <ℤ-≤ℤ, chosen}
use Rattle.rational.proofs.Quotient.{convex_lower, convex_upper}
use Rattle.bernstein.specs.Affine.{affine}
use Rattle.bernstein.specs.DeCasteljau.{value}
use Rattle.bernstein.proofs.Table.{table_property}
use Rattle.curve.specs.declared.Rect.{Rect}
use Rattle.curve.specs.declared.Curve.{Curve}
use Rattle.curve.specs.declared.Evaluation.{Evaluation}
use Rattle.curve.specs.declared.BoundingRect.{BoundingRect}
use Rattle.curve.specs.Rect.{Coordinate, resistance, reactance, side, Outward, Inside, affine_rect, least, greatest, hull_interval, hull}
use Rattle.curve.specs.Curve.{point, load_of, hull_to, bounds_of}
use Rattle.curve.specs.Refusals.{AcceptedAt}
use Rattle.curve.specs.Calls.{bounded}
use Rattle.curve_promises.specs.Promises.{LeastBounds, LoadInBounds}
use Rattle.curve.proofs.Accepted.{parameter_facts}
use Rattle.curve.proofs.Answers.{evaluated-accepted, bounded-accepted}
use Rattle.curve.proofs.Points.{side-affine}

-- ---- one side

outward_refl : (r : Rounding) (a : ℤ) → Outward r a a
outward_refl down a = ≤ℤ_refl a
outward_refl up a = ≤ℤ_refl a

outward_trans : (r : Rounding) (a b c : ℤ) → Outward r a b → Outward r b c → Outward r a c
outward_trans down a b c h k = ≤ℤ-trans k h
outward_trans up a b c h k = ≤ℤ-trans h k

-- the outer one of two sides
outer : Rounding → ℤ → ℤ → ℤ
outer down = least
outer up = greatest

outer_first : (r : Rounding) (a b : ℤ) → Outward r a (outer r a b)
unfolding outer least greatest
outer_first down a b = chosen a b a b (λ z. z ≤ℤ a) (λ h. ≤ℤ_refl a) (λ h. <ℤ-≤ℤ h)
outer_first up a b = chosen a b b a (λ z. a ≤ℤ z) (λ h. h) (λ h. ≤ℤ_refl a)

outer_second : (r : Rounding) (a b : ℤ) → Outward r b (outer r a b)
unfolding outer least greatest
outer_second down a b = chosen a b a b (λ z. z ≤ℤ b) (λ h. h) (λ h. ≤ℤ_refl b)
outer_second up a b = chosen a b b a (λ z. b ≤ℤ z) (λ h. ≤ℤ_refl b) (λ h. <ℤ-≤ℤ h)

outer_least : (r : Rounding) (a b o : ℤ) → Outward r a o → Outward r b o → Outward r (outer r a b) o
unfolding outer least greatest
outer_least down a b o h k = chosen a b a b (λ z. o ≤ℤ z) (λ l. h) (λ l. k)
outer_least up a b o h k = chosen a b b a (λ z. z ≤ℤ o) (λ l. k) (λ l. h)

affine_outward : (r : Rounding) (s t d : ℕ) → s + t ≡ d → 0 < d → (a b o : ℤ) → Outward r a o → Outward r b o → Outward r (affine r s t d a b) o
unfolding affine
affine_outward down s t d total positive a b o h k = convex_lower down s t d total positive o a b h k
affine_outward up s t d total positive a b o h k = convex_upper up s t d total positive o a b h k

-- ---- rectangles

side-hull : (x : Coordinate) (r : Rounding) (p q : Rect) → side x r (hull p q) ≡ outer r (side x r p) (side x r q)
unfolding hull hull_interval outer
side-hull resistance down p q = refl
side-hull resistance up p q = refl
side-hull reactance down p q = refl
side-hull reactance up p q = refl

inside_refl : (p : Rect) → Inside p p
inside_refl p = record { at = λ x r. outward_refl r (side x r p) }

inside_trans : (p q o : Rect) → Inside p q → Inside q o → Inside p o
inside_trans p q o h k = record { at = λ x r. outward_trans r (side x r p) (side x r q) (side x r o) (h.at x r) (k.at x r) }

inside-first : (p q : Rect) → Inside p (hull p q)
inside-first p q = record { at = λ x r. subst (Outward r (side x r p)) (sym (side-hull x r p q)) (outer_first r (side x r p) (side x r q)) }

inside_second : (p q : Rect) → Inside q (hull p q)
inside_second p q = record { at = λ x r. subst (Outward r (side x r q)) (sym (side-hull x r p q)) (outer_second r (side x r p) (side x r q)) }

hull-inside : (p q o : Rect) → Inside p o → Inside q o → Inside (hull p q) o
hull-inside p q o h k =
    record {
      at = λ x r. subst (λ (z : ℤ). Outward r z (side x r o)) (sym (side-hull x r p q)) (outer_least r (side x r p) (side x r q) (side x r o) (h.at x r) (k.at x r));
    }

affine-inside : (s t d : ℕ) → s + t ≡ d → 0 < d → (o p q : Rect) → Inside p o → Inside q o → Inside (affine_rect s t d p q) o
affine-inside s t d total positive o p q h k =
    record {
      at = λ x r. subst (λ (z : ℤ). Outward r z (side x r o)) (sym (side-affine x r s t d p q))
          (affine_outward r s t d total positive (side x r p) (side x r q) (side x r o) (h.at x r) (k.at x r));
    }

-- ---- control points

pub hull-holds : (P : ℕ → Rect) (n k : ℕ) → k ≤ n → Inside (P k) (hull_to P n)
unfolding hull_to
hull-holds P zero k h =
    let first : 0 ≡ k = omega arith in
    subst (λ (j : ℕ). Inside (P j) (P 0)) first (inside_refl (P 0))
hull-holds P (suc n) k h = go (eq-or-lt_of_le h) (hull-holds P n k)
  where
    whole : Rect
    whole = hull (hull_to P n) (P (suc n))

    go : (k ≡ suc n) ⊎ (k < suc n) → (k ≤ n → Inside (P k) (hull_to P n)) → Inside (P k) whole
    go (inl e) earlier = subst (λ (j : ℕ). Inside (P j) whole) (sym e) (inside_second (hull_to P n) (P (suc n)))
    go (inr l) earlier = inside_trans (P k) (hull_to P n) whole (earlier (omega arith)) (inside-first (hull_to P n) (P (suc n)))

pub hull-least : (P : ℕ → Rect) (n : ℕ) (o : Rect) → ((k : ℕ) → k ≤ n → Inside (P k) o) → Inside (hull_to P n) o
unfolding hull_to
hull-least P zero o h = h 0 (le_refl 0)
hull-least P (suc n) o h = hull-inside (hull_to P n) (P (suc n)) o (hull-least P n o (λ k l. h k (omega arith))) (h (suc n) (le_refl (suc n)))

-- a rectangle that holds every control point holds the load
pub load_inside : (c : Curve) (num den : ℕ) → AcceptedAt num den → (o : Rect) → ((k : ℕ) → k ≤ c.degree → Inside (point c k) o) → Inside (load_of c num den) o
unfolding load_of value
load_inside c num den at o h =
    let f = (parameter_facts num den at).factors in
    table_property (λ p. Inside p o) (λ p q. affine-inside (den - num) num den f.total f.positive o p q) c.degree h c.degree 0 (omega arith)

-- ---- the promises

pub least_bounds : LeastBounds
unfolding bounds_of
least_bounds c a =
    subst (λ (x : BoundingRect). ((k : ℕ) → k ≤ c.degree → Inside (point c k) x.rect) × ((p : Rect) → ((k : ℕ) → k ≤ c.degree → Inside (point c k) p) → Inside x.rect p)) (sym (bounded-accepted c a))
    (hull-holds (point c) c.degree, hull-least (point c) c.degree)

pub load_in_bounds : LoadInBounds
load_in_bounds c num den a at =
    subst (λ (x : Evaluation). Inside x.load (bounded c).rect) (sym (evaluated-accepted c num den a at))
    (load_inside c num den at (bounded c).rect (least_bounds c a).0)
