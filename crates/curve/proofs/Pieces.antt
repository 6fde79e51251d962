-- The pieces of an accepted curve at an accepted parameter are accepted and of its degree, and so is its elevated curve, of one degree more.
-- Assumes nothing.
use mathlib.Core.Path.{◌≡◌, refl, sym, ◌∙◌, subst, subst₂}
use Prim.Native.Nat.{ℕ, ◌+◌, ◌-◌, ◌≤◌, ◌<◌}
use native.Mathlib.Omega.{arith}
use lib.IntN.{ℤ, pos, neg_ℤ}
use lib.Signed.{◌≤ℤ◌}
use Rattle.rational.specs.Rounding.{Rounding, down, up}
use Rattle.rational.proofs.Quotient.{down-up}
use Rattle.bernstein.specs.DeCasteljau.{table, left, right}
use Rattle.bernstein.proofs.Table.{right-first}
use Rattle.bernstein.proofs.Bounds.{Within, table-within, table-ordered, elevate-within, elevate-ordered}
use Rattle.curve.specs.declared.Rect.{Rect}
use Rattle.curve.specs.declared.Curve.{Curve}
use Rattle.curve.specs.Limits.{max_degree, max_side}
use Rattle.curve.specs.Rect.{Coordinate, side}
use Rattle.curve.specs.Curve.{point, curve_of, map_at, piece_sum, load_of, left_of, right_of, elevated_point, elevated_sum, elevated_of}
use Rattle.curve.specs.Refusals.{Accepted, AcceptedAt}
use Rattle.curve.specs.Inner.{Side}
use Rattle.curve.proofs.Accepted.{Facts, accepted_facts, facts_accepted, parameter_facts}
use Rattle.curve.proofs.Points.{sides, point_at, side-table, side-elevated}

side-within : {z : ℤ} → Side z → Within (neg_ℤ (pos max_side)) (pos max_side) z
side-within h = record { least = h.from; most = h.to }

within-side : {z : ℤ} → Within (neg_ℤ (pos max_side)) (pos max_side) z → Side z
within-side h = record { from = h.least; to = h.most }

-- a curve is accepted if the sides of the control points that it is given by are in range and ordered
given-accepted :
    (n s : ℕ) (f : ℕ → Rect) → 1 ≤ n → n ≤ max_degree →
    ((k : ℕ) → k ≤ n → (x : Coordinate) (r : Rounding) → Side (side x r (f k))) →
    ((k : ℕ) → k ≤ n → (x : Coordinate) → side x down (f k) ≤ℤ side x up (f k)) → Accepted (curve_of n s f)
given-accepted n s f some few range order = facts_accepted (record {
  some = some;
  few = few;
  in_range = λ k h. subst (λ (p : Rect). (x : Coordinate) (r : Rounding) → Side (side x r p)) (sym (point_at n s f k few h)) (range k h);
  ordered = λ k h. subst (λ (p : Rect). (x : Coordinate) → side x down p ≤ℤ side x up p) (sym (point_at n s f k few h)) (order k h);
})

module _ (c : Curve) (accepted : Accepted c) where
  known : Facts c
  known = accepted_facts c accepted

  -- entries of the table within the triangle
  module _ (num den : ℕ) (at : AcceptedAt num den) where
    entries-accepted : (s : ℕ) (i j : ℕ → ℕ) → ((k : ℕ) → k ≤ c.degree → i k + j k ≤ c.degree) → Accepted (curve_of c.degree s (λ k. table (map_at num den) (point c) (i k) (j k)))
    entries-accepted s i j inside =
        let f = (parameter_facts num den at).factors in
        given-accepted c.degree s (λ k. table (map_at num den) (point c) (i k) (j k)) known.some known.few
        (λ k h x r. subst Side (sym (side-table x r (point c) (den - num) num den (i k) (j k)))
        (within-side (table-within r _ _ (sides x r (point c)) c.degree (λ k h. side-within (known.in_range k h x r)) (den - num) num den f.total f.positive (i k) (j k) (inside k h))))
        (λ k h x. subst₂ ◌≤ℤ◌ (sym (side-table x down (point c) (den - num) num den (i k) (j k))) (sym (side-table x up (point c) (den - num) num den (i k) (j k)))
        (table-ordered down up down-up (sides x down (point c)) (sides x up (point c)) c.degree (λ k h. known.ordered k h x) (den - num) num den f.positive (i k) (j k) (inside k h)))

    pub left-accepted : Accepted (left_of c num den)
    unfolding left_of left
    left-accepted = entries-accepted _ (λ k. k) (λ k. 0) (λ k h. omega arith)

    pub right-accepted : Accepted (right_of c num den)
    unfolding right_of right
    right-accepted = entries-accepted _ (λ k. c.degree - k) (λ k. k) (λ k h. omega arith)

  pub elevated_of-accepted : c.degree < max_degree → Accepted (elevated_of c)
  unfolding elevated_of
  elevated_of-accepted few =
      let one_more = known.some in
      given-accepted (c.degree + 1) _ (elevated_point c.degree (point c)) (omega arith) (omega arith)
      (λ k h x r. subst Side (sym (side-elevated x r (point c) c.degree k))
      (within-side (elevate-within r _ _ (sides x r (point c)) c.degree (λ k h. side-within (known.in_range k h x r)) k (omega arith))))
      (λ k h x. subst₂ ◌≤ℤ◌ (sym (side-elevated x down (point c) c.degree k)) (sym (side-elevated x up (point c) c.degree k))
      (elevate-ordered down up down-up (sides x down (point c)) (sides x up (point c)) c.degree (λ k h. known.ordered k h x) k (omega arith)))

-- ---- control points and sides

module _ (c : Curve) (num den : ℕ) where
  pub left-point : (k : ℕ) → c.degree ≤ max_degree → k ≤ c.degree → point (left_of c num den) k ≡ left (map_at num den) (point c) k
  unfolding left_of
  left-point k few h = point_at c.degree (left_of c num den).sum (left (map_at num den) (point c)) k few h

  pub right-point : (k : ℕ) → c.degree ≤ max_degree → k ≤ c.degree → point (right_of c num den) k ≡ right (map_at num den) (point c) c.degree k
  unfolding right_of
  right-point k few h = point_at c.degree (right_of c num den).sum (right (map_at num den) (point c) c.degree) k few h

pub elevated-point : (c : Curve) (k : ℕ) → c.degree < max_degree → k ≤ c.degree + 1 → point (elevated_of c) k ≡ elevated_point c.degree (point c) k
unfolding elevated_of
elevated-point c k few h = point_at (c.degree + 1) (elevated_of c).sum (elevated_point c.degree (point c)) k (omega arith) h

pub left-degree : (c : Curve) (num den : ℕ) → (left_of c num den).degree ≡ c.degree
unfolding left_of
left-degree c num den = refl

pub right-degree : (c : Curve) (num den : ℕ) → (right_of c num den).degree ≡ c.degree
unfolding right_of
right-degree c num den = refl

pub elevated-degree : (c : Curve) → (elevated_of c).degree ≡ c.degree + 1
unfolding elevated_of
elevated-degree c = refl

-- ---- sums of steps

pub left-sum : (c : Curve) (num den : ℕ) → (left_of c num den).sum ≡ piece_sum c
unfolding left_of
left-sum c num den = refl

pub right-sum : (c : Curve) (num den : ℕ) → (right_of c num den).sum ≡ piece_sum c
unfolding right_of
right-sum c num den = refl

pub elevated-sum : (c : Curve) → (elevated_of c).sum ≡ elevated_sum c
unfolding elevated_of
elevated-sum c = refl

-- ---- the load

pub right-load : (c : Curve) (num den : ℕ) → Accepted c → point (right_of c num den) 0 ≡ load_of c num den
unfolding load_of
right-load c num den ok = right-point c num den 0 (accepted_facts c ok).few (omega arith) ∙ right-first (map_at num den) (point c) c.degree
