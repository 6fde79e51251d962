-- A curve whose sides the reader holds: it is refused as the decoded one is, and is the decoded one where that is accepted.
-- Assumes nothing.
use mathlib.Core.Path.{◌≡◌, refl, sym, ap, ◌∙◌, fun_ext}
use mathlib.Core.Bool.{Bool, true, false, cond}
use mathlib.Core.List.{List}
use Prim.Native.Nat.{ℕ, zero, suc, ◌+◌, ◌≤◌, ◌<◌}
use native.Mathlib.Decide.{dec_le}
use native.Mathlib.Omega.{arith}
use Rattle.curve.specs.declared.Curve.{Curve}
use Rattle.curve.specs.declared.Rect.{Rect}
use Rattle.curve.specs.declared.Refusal.{Refusal}
use Rattle.curve.specs.Limits.{max_degree}
use Rattle.curve.specs.Rect.{zero_rect, sides_in_range, sides_ordered}
use Rattle.curve.specs.Curve.{point, curve_of}
use Rattle.curve.specs.Refusals.{refusal, ◌or_else◌, first_failing, degree_refusal, range_refusal, order_refusal, curve_refusal, Accepted}
use Rattle.curve.proofs.Accepted.{accepted_facts, sides_range}
use Rattle.curve.proofs.Places.{points_agree}
use Rattle.curve.proofs.Points.{point_at, point-past}
use Rattle.card_text.specs.Inner.{fits_side, limited, limited_ends, limited_rect}
use Rattle.card_text.proofs.Limited.{rect_range, rect_in, holds-true}

-- a second test that differs only where the first fails is not reached there
first_two : (a b b' : ℕ → Bool) → ((k : ℕ) → a k ≡ true → b k ≡ b' k) → (m from : ℕ) →
    (first_failing a 2 m from or_else first_failing b 3 m from) ≡ (first_failing a 2 m from or_else first_failing b' 3 m from)
unfolding first_failing
first_two a b b' same zero from = refl
first_two a b b' same (suc m) from = by (a from) (b from) refl refl (first_two a b b' same m (suc from))
  where
    by : (s t : Bool) → a from ≡ s → b from ≡ t →
        (first_failing a 2 m (suc from) or_else first_failing b 3 m (suc from)) ≡ (first_failing a 2 m (suc from) or_else first_failing b' 3 m (suc from)) →
        (cond (a from) (first_failing a 2 m (suc from)) (refusal 2 from) or_else cond (b from) (first_failing b 3 m (suc from)) (refusal 3 from))
        ≡ (cond (a from) (first_failing a 2 m (suc from)) (refusal 2 from) or_else cond (b' from) (first_failing b' 3 m (suc from)) (refusal 3 from))
    by true true e f rest = rw (sym (same from e) ∙ f, e, f) rest
    by true false e f rest = rw (sym (same from e) ∙ f, e, f)
    by false t e f rest = rw e

module _ (n : ℕ) (P : ℕ → Rect) (few : n ≤ max_degree) where
  -- the two curves
  abbrev given : Curve
  given = curve_of n 0 P

  abbrev held : Curve
  held = curve_of n 0 (λ k. limited_rect (P k))

  zero-limited : limited_rect zero_rect ≡ zero_rect
  unfolding limited_rect limited_ends limited fits_side
  zero-limited = refl

  point-limited : (k : ℕ) → point held k ≡ limited_rect (point given k)
  point-limited k = by (dec_le k n)
    where
      by : Dec (k ≤ n) → point held k ≡ limited_rect (point given k)
      by (yes h) = point_at n 0 (λ i. limited_rect (P i)) k few h ∙ ap limited_rect (sym (point_at n 0 P k few h))
      by (no h) =
          let past : n < k = omega arith in
          point-past n 0 (λ i. limited_rect (P i)) k past ∙ sym (ap limited_rect (point-past n 0 P k past) ∙ zero-limited)

  range_limited : (k : ℕ) → sides_in_range (point held k) ≡ sides_in_range (point given k)
  range_limited k = ap sides_in_range (point-limited k) ∙ rect_range (point given k)

  order-limited : (k : ℕ) → sides_in_range (point given k) ≡ true → sides_ordered (point held k) ≡ sides_ordered (point given k)
  order-limited k ok = ap sides_ordered (point-limited k ∙ rect_in (point given k) ok)

  pub refusal-limited : curve_refusal held ≡ curve_refusal given
  unfolding curve_refusal range_refusal order_refusal
  refusal-limited =
      let range : ◌≡◌ {A = ℕ → Bool} (λ k. sides_in_range (point held k)) (λ k. sides_in_range (point given k)) = fun_ext range_limited in
      ap (λ (r : Refusal). degree_refusal given.degree or_else r)
      (ap (λ (ok : ℕ → Bool). first_failing ok 2 (n + 1) 0 or_else order_refusal held) range
      ∙ first_two (λ k. sides_in_range (point given k)) (λ k. sides_ordered (point held k)) (λ k. sides_ordered (point given k)) order-limited (n + 1) 0)

  pub curve-limited : Accepted given → held ≡ given
  curve-limited ok =
      ap (λ (l : List Rect). record { degree = n; sum = 0; points = l })
      (points_agree n (λ k. limited_rect (P k)) P
      (λ k h. rect_in (P k) (ap sides_in_range (sym (point_at n 0 P k few h)) ∙ holds-true (sides_in_range (point given k)) (sides_range (point given k) ((accepted_facts given ok).in_range k h)))))
