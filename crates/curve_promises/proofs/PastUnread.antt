-- Equal curves give equal answers: whatever is computed from a degree n and control points is the same for points that agree as far as n.
-- Assumes nothing.
use mathlib.Core.Path.{◌≡◌, refl, sym, ap, ap₂, ◌∙◌, subst}
use mathlib.Core.Bool.{Bool, cond, ◌&&◌}
use mathlib.Core.Logic.{◌⊎◌, inl, inr}
use Prim.Native.Nat.{ℕ, zero, suc, ◌+◌, ◌-◌, ◌≤◌, ◌<◌}
use native.Mathlib.Nat.{le_refl, sub_self, eq-or-lt_of_le}
use native.Mathlib.Omega.{arith}
use lib.Dec.{leb}
use Rattle.bernstein.specs.DeCasteljau as DeCasteljau
use Rattle.bernstein.proofs.Table.{table_agree}
use Rattle.bernstein.proofs.EveryMap.{all_agree, every_agree}
use Rattle.curve.specs.declared.Rect.{Rect}
use Rattle.curve.specs.declared.Curve.{Curve}
use Rattle.curve.specs.declared.Refusal.{Refusal}
use Rattle.curve.specs.Limits.{max_degree}
use Rattle.curve.specs.Rect.{sides_in_range, sides_ordered, affine_rect, exact_rect, hull}
use Rattle.curve.specs.Curve.{point, SameButSum, SameCurve, curve_of, map_at, exact_at, piece_sum, load_of, left_of, right_of, table_exact, elevated_point, elevated_sum, elevated_of, elevated_exact, elevation_exact, hull_to, bounds_of}
use Rattle.curve.specs.Refusals.{refusal, ◌or_else◌, unless, first_failing, range_refusal, order_refusal, curve_refusal, parameter_refusal, highest_refusal, sum_refusal}
use Rattle.curve.specs.Calls.{call_refusal, subdivision_refusal, elevation_refusal, evaluated, subdivided, elevated, bounded}
use Rattle.curve_promises.specs.Promises.{PastUnread}
use Rattle.curve.proofs.WholeWeight.{affine-rect-first}
use Rattle.curve.proofs.ElevatedPoints.{exact_last}
use Rattle.curve_promises.proofs.EqualAnswers.{curve_of_equal, evaluated_equal, subdivided_equal, elevated_equal, bounded_equal}

-- points that agree as far as n
abbrev Agree : ℕ → (ℕ → Rect) → (ℕ → Rect) → Type 0
Agree n P Q = (k : ℕ) → k ≤ n → P k ≡ Q k

-- the first failing place is found within the places looked at
first_agree :
    (ok ok' : ℕ → Bool) (number m from : ℕ) → ((k : ℕ) → k < from + m → ok k ≡ ok' k) →
    first_failing ok number m from ≡ first_failing ok' number m from
unfolding first_failing
first_agree ok ok' number zero from h = refl
first_agree ok ok' number (suc m) from h =
    ap₂ (λ (b : Bool) (r : Refusal). cond b r (refusal number from)) (h from (omega arith))
    (first_agree ok ok' number m (suc from) (λ k l. h k (omega arith)))

-- the curve's refusal, from its degree and points
curve_refusal_at : ℕ → (ℕ → Rect) → Refusal
curve_refusal_at n P =
    unless (leb 1 n && leb n max_degree) 1
    or_else first_failing (λ k. sides_in_range (P k)) 2 (n + 1) 0
    or_else first_failing (λ k. sides_ordered (P k)) 3 (n + 1) 0

module _ (n : ℕ) {P Q : ℕ → Rect} (agree : Agree n P Q) where
  first_of : (ok : Rect → Bool) (number : ℕ) → first_failing (λ k. ok (P k)) number (n + 1) 0 ≡ first_failing (λ k. ok (Q k)) number (n + 1) 0
  first_of ok number = first_agree (λ k. ok (P k)) (λ k. ok (Q k)) number (n + 1) 0 (λ k l. ap ok (agree k (omega arith)))

  refusal_agree : curve_refusal_at n P ≡ curve_refusal_at n Q
  unfolding curve_refusal_at
  refusal_agree = ap₂ (λ (a b : Refusal). unless (leb 1 n && leb n max_degree) 1 or_else a or_else b) (first_of sides_in_range 2) (first_of sides_ordered 3)

  left_agree : (s : ℕ) (map : Rect → Rect → Rect) → curve_of n s (DeCasteljau.left map P) ≡ curve_of n s (DeCasteljau.left map Q)
  unfolding DeCasteljau.left
  left_agree s map = curve_of_equal n s (DeCasteljau.left map P) (DeCasteljau.left map Q) (λ k l. table_agree map n agree k 0 (omega arith))

  right_agree : (s : ℕ) (map : Rect → Rect → Rect) → curve_of n s (DeCasteljau.right map P n) ≡ curve_of n s (DeCasteljau.right map Q n)
  unfolding DeCasteljau.right
  right_agree s map = curve_of_equal n s (DeCasteljau.right map P n) (DeCasteljau.right map Q n) (λ k l. table_agree map n agree (n - k) k (omega arith))

  -- the point past the degree has weight 0
  elevated-point_agree : (k : ℕ) → k ≤ n + 1 → elevated_point n P k ≡ elevated_point n Q k
  unfolding elevated_point
  elevated-point_agree k h = go (eq-or-lt_of_le h)
    where
      edge : (R : ℕ → Rect) → affine_rect (n + 1) (n + 1 - (n + 1)) (n + 1) (R (n + 1 - 1)) (R (n + 1)) ≡ R n
      edge R =
          let last : n + 1 - 1 ≡ n = omega arith in
          ap₂ (λ (t : ℕ) (p : Rect). affine_rect (n + 1) t (n + 1) p (R (n + 1))) (sub_self (n + 1)) (ap R last)
          ∙ affine-rect-first (n + 1) (omega arith) (R n) (R (n + 1))

      go : (k ≡ n + 1) ⊎ (k < n + 1) → elevated_point n P k ≡ elevated_point n Q k
      go (inl e) =
          subst (λ (j : ℕ). elevated_point n P j ≡ elevated_point n Q j) (sym e)
          (edge P ∙ agree n (le_refl n) ∙ sym (edge Q))
      go (inr l) = ap₂ (affine_rect k (n + 1 - k) (n + 1)) (agree (k - 1) (omega arith)) (agree k (omega arith))

  elevated_agree : (s : ℕ) → curve_of (n + 1) s (elevated_point n P) ≡ curve_of (n + 1) s (elevated_point n Q)
  elevated_agree s = curve_of_equal (n + 1) s (elevated_point n P) (elevated_point n Q) elevated-point_agree

  -- and so it does not darken a flag
  elevated_exact_agree : (k : ℕ) → k < n + 2 → elevated_exact n P k ≡ elevated_exact n Q k
  unfolding elevated_exact
  elevated_exact_agree k h = go (eq-or-lt_of_le {n = k} {m = n + 1} (omega arith))
    where
      go : (k ≡ n + 1) ⊎ (k < n + 1) → elevated_exact n P k ≡ elevated_exact n Q k
      go (inl e) = ap (elevated_exact n P) e ∙ exact_last n P ∙ sym (exact_last n Q) ∙ sym (ap (elevated_exact n Q) e)
      go (inr l) = ap₂ (exact_rect k (n + 1 - k) (n + 1)) (agree (k - 1) (omega arith)) (agree k (omega arith))

  load_agree : (map : Rect → Rect → Rect) → DeCasteljau.value map P n ≡ DeCasteljau.value map Q n
  unfolding DeCasteljau.value
  load_agree map = table_agree map n agree n 0 (omega arith)

hull_agree : (n : ℕ) {P Q : ℕ → Rect} → Agree n P Q → hull_to P n ≡ hull_to Q n
unfolding hull_to
hull_agree zero agree = agree 0 (le_refl 0)
hull_agree (suc n) agree = ap₂ hull (hull_agree n (λ k l. agree k (omega arith))) (agree (suc n) (le_refl (suc n)))

module _ (c e : Curve) (same : SameButSum c e) where
  -- the degree is the same too
  unread : {A : Type 0} (F : ℕ → (ℕ → Rect) → A) → F c.degree (point c) ≡ F c.degree (point e) → F c.degree (point c) ≡ F e.degree (point e)
  unread F h = h ∙ ap (λ (n : ℕ). F n (point e)) same.degrees

  pub refusals : curve_refusal c ≡ curve_refusal e
  unfolding curve_refusal range_refusal order_refusal curve_refusal_at
  refusals = unread curve_refusal_at (refusal_agree c.degree same.controls)

  bounds_same : bounded c ≡ bounded e
  unfolding bounds_of
  bounds_same = bounded_equal c e refusals (unread (λ m P. hull_to P m) (hull_agree c.degree same.controls))

  module _ (num den : ℕ) where
    call_refusals : call_refusal c num den ≡ call_refusal e num den
    unfolding call_refusal
    call_refusals = ap (λ (r : Refusal). r or_else parameter_refusal num den) refusals

    flags : table_exact c num den ≡ table_exact e num den
    unfolding table_exact
    flags = unread (λ m P. DeCasteljau.every_map (map_at num den) P (exact_at num den) m) (every_agree (map_at num den) (exact_at num den) c.degree same.controls)

    evaluation_same : evaluated c num den ≡ evaluated e num den
    unfolding load_of
    evaluation_same = evaluated_equal c e num den num den call_refusals (unread (λ m P. DeCasteljau.value (map_at num den) P m) (load_agree c.degree same.controls (map_at num den))) flags

    -- pieces with one sum
    lefts : (s : ℕ) → curve_of c.degree s (DeCasteljau.left (map_at num den) (point c)) ≡ curve_of e.degree s (DeCasteljau.left (map_at num den) (point e))
    lefts s = unread (λ m P. curve_of m s (DeCasteljau.left (map_at num den) P)) (left_agree c.degree same.controls s (map_at num den))

    rights : (s : ℕ) → curve_of c.degree s (DeCasteljau.right (map_at num den) (point c) c.degree) ≡ curve_of e.degree s (DeCasteljau.right (map_at num den) (point e) e.degree)
    rights s = unread (λ m P. curve_of m s (DeCasteljau.right (map_at num den) P m)) (right_agree c.degree same.controls s (map_at num den))

    -- the pieces of curves that are equal but for their sums are so too
    pub lefts_same : SameButSum (left_of c num den) (left_of e num den)
    unfolding left_of
    lefts_same = record { degrees = same.degrees; controls = λ k h. ap (λ (x : Curve). point x k) (lefts 0) }

    pub rights_same : SameButSum (right_of c num den) (right_of e num den)
    unfolding right_of
    rights_same = record { degrees = same.degrees; controls = λ k h. ap (λ (x : Curve). point x k) (rights 0) }

  raised_exact : elevation_exact c ≡ elevation_exact e
  unfolding elevation_exact
  raised_exact =
      let n = c.degree in
      unread (λ m P. DeCasteljau.all_below (m + 2) (elevated_exact m P)) (all_agree (n + 2) (elevated_exact n (point c)) (elevated_exact n (point e)) (elevated_exact_agree n same.controls))

module _ (c e : Curve) (same : SameCurve c e) where
  sums_same : piece_sum c ≡ piece_sum e
  sums_same = ap₂ ◌+◌ same.sums same.rest.degrees

  subdivision_same : (num den : ℕ) → subdivided c num den ≡ subdivided e num den
  unfolding subdivision_refusal left_of right_of
  subdivision_same num den =
      subdivided_equal c e num den num den
      (ap₂ (λ (r : Refusal) (s : ℕ). r or_else sum_refusal s) (call_refusals c e same.rest num den) sums_same)
      (lefts c e same.rest num den (piece_sum c) ∙ ap (λ (s : ℕ). curve_of e.degree s (DeCasteljau.left (map_at num den) (point e))) sums_same)
      (rights c e same.rest num den (piece_sum c) ∙ ap (λ (s : ℕ). curve_of e.degree s (DeCasteljau.right (map_at num den) (point e) e.degree)) sums_same)
      (flags c e same.rest num den)

  elevation_same : elevated c ≡ elevated e
  unfolding elevation_refusal elevated_of
  elevation_same =
      let raised : elevated_sum c ≡ elevated_sum e = ap (λ (s : ℕ). s + 1) same.sums in
      let own = ap₂ (λ (m s : ℕ). highest_refusal m or_else sum_refusal s) same.rest.degrees raised in
      elevated_equal c e (ap₂ ◌or_else◌ (refusals c e same.rest) own)
      (unread c e same.rest (λ m P. curve_of (m + 1) (elevated_sum c) (elevated_point m P)) (elevated_agree c.degree same.rest.controls (elevated_sum c))
      ∙ ap (λ (s : ℕ). curve_of (e.degree + 1) s (elevated_point e.degree (point e))) raised)
      (raised_exact c e same.rest)

pub past_unread : PastUnread
past_unread = record { evaluating = evaluation_same; bounding = bounds_same; subdividing = subdivision_same; elevating = elevation_same }
