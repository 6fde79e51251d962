-- The record's sum of steps is true: along every list of calls the sides of the present curve lie within the ledger's sum of the exact ones, each accepted reading's within its sum and degree, and both are the record's.
-- Assumes nothing.
use mathlib.Core.Path.{◌≡◌, refl, sym, ap, ap₂, ◌∙◌, subst, subst₂}
use mathlib.Core.Bool.{Bool, true, false, cond}
use mathlib.Core.List.{List, [], ◌∷◌}
use Prim.Native.Nat.{ℕ, ◌+◌, ◌*◌, ◌-◌, ◌≤◌}
use native.Mathlib.Nat.{zero-add, mul-zero}
use lib.Dec.{T, eqb, eqb→eq}
use lib.Signed.{◌≤ℤ◌}
use Rattle.rational.specs.Rounding.{Rounding, down, up}
use Rattle.rational.specs.Fraction.{Frac, whole, parameter}
use Rattle.rational.proofs.Rational.{ℚ, rat, embed}
use Rattle.rational.proofs.RationalOrder.{≤ᶠ-of, ≤ℚ-refl, embed_mono}
use Rattle.bernstein.proofs.Rounded.{Side, Near, error}
use Rattle.curve.specs.declared.Curve.{Curve}
use Rattle.curve.specs.declared.Elevation.{Elevation}
use Rattle.curve.specs.declared.Rect.{Rect}
use Rattle.curve.specs.declared.Refusal.{Refusal}
use Rattle.curve.specs.declared.Subdivision.{Subdivision}
use Rattle.curve.specs.Rect.{Coordinate, side, Bounded}
use Rattle.curve.specs.Curve.{point, left_of, right_of, table_exact, elevated_of}
use Rattle.curve.specs.Refusals.{none, Accepted}
use Rattle.curve.specs.Inner.{Factors}
use Rattle.curve.proofs.Accepted.{accepted_facts, parameter_facts}
use Rattle.curve.proofs.Answers.{subdivision, subdivided-accepted, elevated-accepted}
use Rattle.curve.proofs.Pieces.{left-degree, right-degree, elevated-degree}
use Rattle.ledger.specs.Ordinary.{Ordinary, InsideOf, exact_side}
use Rattle.ledger.specs.Ledger.{Ledger, Piece, Call, evaluate, evaluate_sixteenths, subdivide, elevate, left, right, kept as keeps, opened, subdivided_sum, refused, entered, after, answer_of, leaves}
use Rattle.ledger.specs.Exact.{edge, part}
use Rattle.ledger.specs.Claim as Claimed
use Rattle.ledger.specs.Claim.{Sound}
use Rattle.ledger.proofs.Stretch.{Stretch}
use Rattle.ledger.proofs.Steps.{left_stretch, right_stretch, elevated_stretch, left_exact, right_exact, raised_exact}
use Rattle.ledger.proofs.Evaluation.{inward, inward_none, near-bounded, outward, outward_one, near_itself, near_claimed}
use Rattle.ledger.proofs.Demand.{Kept, opened-kept, same-refusal, evaluation_sound, after_kept, subdivision_allowed, elevation_allowed}
use Rattle.running_error.specs.Claim.{exact_answer, exactly_leaves, TrueSum, TrueReading, AtCall, Along, SumIsTrue}

-- every side of a curve lies within m roundings of the exact one, on either side of it
record Tracked (now : Curve) (m : ℕ) (exact : Rounding → Ordinary) : Type 0 where
  pub degrees : (r : Rounding) → (exact r).degree ≡ now.degree
  pub near :
      (x : Coordinate) (r : Rounding) (way : Side) (k : ℕ) → k ≤ now.degree →
      Near way (error way r * m) (side x r (point now k)) (rat ((exact r).control x k))

-- so it is at the start, with no rounding
started : (c : Curve) → Tracked c 0 (λ r. edge r c)
unfolding embed
started c = record { degrees = λ r. refl; near = λ x r way k h. rw mul-zero (near_itself way (side x r (point c k))) }

-- a stretch of the present curve that moves the exact control points as an exact step does
followed :
    (now next : Curve) (m : ℕ) (exact moved : Rounding → Ordinary) (start width : ℚ) (steps : ℕ) (stretch : Stretch start width steps now next) →
    Tracked now m exact → ((r : Rounding) → (moved r).degree ≡ next.degree) →
    ((x : Coordinate) (r : Rounding) (k : ℕ) → k ≤ next.degree → rat ((moved r).control x k) ≡ stretch.move (λ i. rat ((exact r).control x i)) k) →
    Tracked next (m + steps) moved
followed now next m exact moved start width steps stretch t degrees same = record {
  degrees = degrees;
  near = λ x r way k h.
      subst (λ (y : ℚ). Near way (error way r * (m + steps)) (side x r (point next k)) y) (sym (same x r k h))
      (stretch.near x r way m (λ i. rat ((exact r).control x i)) (t.near x r way) k h);
}

-- a cut adds the same whichever piece is kept
entered-sum : (l : Ledger) (num den : ℕ) (piece : Piece) → (entered l (subdivide num den piece)).sum ≡ subdivided_sum l
entered-sum l num den left = refl
entered-sum l num den right = refl

-- the low sides of an accepted curve lie inside it, and so do its high sides
edge-inside : (c : Curve) → Accepted c → (r : Rounding) → InsideOf (edge r c) c
unfolding embed
edge-inside c ok r = record { degrees = refl; controls = λ x way k h. go r way (point c k) x ((accepted_facts c ok).ordered k h x) }
  where
    go : (r way : Rounding) (p : Rect) (x : Coordinate) → side x down p ≤ℤ side x up p → Bounded way (whole (side x r p)) (side x way p)
    go down down p x h = ≤ᶠ-of (whole (side x down p)) (whole (side x down p)) (≤ℚ-refl (embed (side x down p)))
    go down up p x h = ≤ᶠ-of (whole (side x down p)) (whole (side x up p)) (embed_mono h)
    go up down p x h = ≤ᶠ-of (whole (side x down p)) (whole (side x up p)) (embed_mono h)
    go up up p x h = ≤ᶠ-of (whole (side x up p)) (whole (side x up p)) (≤ℚ-refl (embed (side x up p)))

module _ (c : Curve) (l : Ledger) (now : Curve) (kept : Kept c l now) (exact : Rounding → Ordinary) (t : Tracked now l.sum exact) where
  -- either piece of a cut
  piece_tracked :
      (num den : ℕ) → Factors (den - num) num den → (piece : Piece) →
      Tracked (keeps piece (subdivision (left_of now num den) (right_of now num den) (table_exact now num den) none)) (l.sum + now.degree) (λ r. part piece (parameter num den) (exact r))
  piece_tracked num den f left =
      followed now (left_of now num den) l.sum exact _ _ _ _ (left_stretch now kept.accepted num den f) t (λ r. t.degrees r ∙ sym (left-degree now num den))
      (λ x r k h. left_exact now kept.accepted (exact r) (t.degrees r) num den f x k)
  piece_tracked num den f right =
      followed now (right_of now num den) l.sum exact _ _ _ _ (right_stretch now kept.accepted num den f) t (λ r. t.degrees r ∙ sym (right-degree now num den))
      (λ x r k h. right_exact now kept.accepted (exact r) (t.degrees r) num den f x k)

  -- after an accepted call
  entered_tracked : (call : Call) → (refused l call).number ≡ 0 → Tracked (answer_of now call) (entered l call).sum (λ r. exact_answer (exact r) call)
  entered_tracked (evaluate num den) h = t
  entered_tracked (evaluate_sixteenths j) h = t
  entered_tracked (subdivide num den piece) h =
      let (at, room) = subdivision_allowed c l now kept num den h in
      subst₂ (λ (s : Subdivision) (n : ℕ). Tracked (keeps piece s) n (λ r. part piece (parameter num den) (exact r)))
      (sym (subdivided-accepted now num den kept.accepted at room)) (ap (λ (n : ℕ). l.sum + n) kept.degrees ∙ sym (entered-sum l num den piece))
      (piece_tracked num den (parameter_facts num den at).factors piece)
  entered_tracked elevate h =
      let (few, room) = elevation_allowed c l now kept h in
      subst (λ (e : Elevation). Tracked e.curve (l.sum + 1) (λ r. exact_answer (exact r) elevate)) (sym (elevated-accepted now kept.accepted few room))
      (followed now (elevated_of now) l.sum exact _ _ _ _ (elevated_stretch now kept.accepted few) t (λ r. ap (λ (n : ℕ). n + 1) (t.degrees r) ∙ sym (elevated-degree now))
      (λ x r k h. raised_exact now kept.accepted (exact r) (t.degrees r) few x k (subst (λ (n : ℕ). k ≤ n) (elevated-degree now) h)))

  -- and after any call
  after_tracked : (call : Call) → Tracked (leaves now call) (after l call).sum (λ r. exactly_leaves now (exact r) call)
  unfolding after leaves exactly_leaves
  after_tracked call =
      subst (λ (x : Refusal). Tracked (cond (eqb x.number 0) (answer_of now call) now) (after l call).sum (λ r. cond (eqb x.number 0) (exact_answer (exact r) call) (exact r)))
      (sym (same-refusal c l now kept call)) (go (eqb (refused l call).number 0) refl)
    where
      go :
          (b : Bool) → eqb (refused l call).number 0 ≡ b →
          Tracked (cond b (answer_of now call) now) (cond b (entered l call) l).sum (λ r. cond b (exact_answer (exact r) call) (exact r))
      go true e = entered_tracked call (eqb→eq (refused l call).number 0 (subst T (sym e) tt))
      go false e = t

  -- the ledger was opened with a sum of 0, so its sum is the record's
  module _ (zero : l.brought ≡ 0) where
    same : now.sum ≡ l.sum
    same = kept.sums ∙ ap (λ (n : ℕ). n + l.sum) zero ∙ zero-add l.sum

    true-sum : TrueSum now exact l
    true-sum = record {
      degrees = t.degrees;
      holds = λ x r k h. near-bounded r ((exact r).control x k) (side x r (point now k))
          (subst (λ (n : ℕ). Near (inward r) n (side x r (point now k)) (rat ((exact r).control x k))) (inward_none r l.sum) (t.near x r (inward r) k h));
      near = λ x r k h. near_claimed r now.sum (side x r (point now k)) ((exact r).control x k)
          (subst (λ (n : ℕ). Near (outward r) n (side x r (point now k)) (rat ((exact r).control x k))) (outward_one r l.sum ∙ sym same) (t.near x r (outward r) k h));
      same_sum = same;
      same_degree = kept.degrees;
    }

    -- a sound reading, with the low or the high sides as the ordinary curve
    true-reading : (place : Frac) (load : Rect) → ((r : Rounding) → Sound c (edge r c) place (l.sum + l.degree) load) → TrueReading c now place load
    true-reading place load sound = record {
      holds = λ x r. (sound r).holds x r;
      near = λ x r. subst (λ (n : ℕ). Claimed.Near r n (side x r load) (exact_side c x r place)) (ap₂ ◌+◌ (sym same) (sym kept.degrees)) ((sound r).near x r);
    }

    true_call : Accepted c → (call : Call) → AtCall c l now call
    true_call ok (evaluate num den) = λ h. true-reading _ _ (λ r. evaluation_sound c l now kept (edge r c) (edge-inside c ok r) (evaluate num den) h)
    true_call ok (evaluate_sixteenths j) = λ h. true-reading _ _ (λ r. evaluation_sound c l now kept (edge r c) (edge-inside c ok r) (evaluate_sixteenths j) h)
    true_call ok (subdivide num den piece) = tt
    true_call ok elevate = tt

-- a ledger keeps what was brought
entered-brought : (l : Ledger) (call : Call) → (entered l call).brought ≡ l.brought
entered-brought l (evaluate num den) = refl
entered-brought l (evaluate_sixteenths j) = refl
entered-brought l (subdivide num den left) = refl
entered-brought l (subdivide num den right) = refl
entered-brought l elevate = refl

after-brought : (l : Ledger) (call : Call) → (after l call).brought ≡ l.brought
unfolding after
after-brought l call = go (eqb (refused l call).number 0)
  where
    go : (b : Bool) → (cond b (entered l call) l).brought ≡ l.brought
    go true = entered-brought l call
    go false = refl

along :
    (c : Curve) → Accepted c → (calls : List Call) (l : Ledger) (now : Curve) (exact : Rounding → Ordinary) →
    Kept c l now → Tracked now l.sum exact → l.brought ≡ 0 → Along c l now exact calls
along c ok [] l now exact kept t zero = true-sum c l now kept exact t zero
along c ok (call ∷ calls) l now exact kept t zero = (
  true-sum c l now kept exact t zero,
  true_call c l now kept exact t zero ok call,
  along c ok calls (after l call) (leaves now call) (λ r. exactly_leaves now (exact r) call) (after_kept c l now kept call) (after_tracked c l now kept exact t call) (after-brought l call ∙ zero),
)

pub sum_is_true : SumIsTrue
unfolding opened
sum_is_true c ok zero calls = along c ok calls (opened c) c (λ r. edge r c) (opened-kept c ok) (started c) zero
