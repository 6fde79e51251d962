-- A piece that is accepted, and whose sum has room for a cut, is bounded and cut without a refusal, and what is known of it holds of its halves.
use mathlib.Core.Path.{◌≡◌, refl, sym, ap, ◌∙◌, subst}
use Prim.Native.Nat.{ℕ, ◌+◌, ◌-◌, ◌≤◌}
use native.Mathlib.Omega.{arith}
use Rattle.std.specs.Prelude.{Result, Ok, Err}
use Rattle.std.specs.Result.{IsOk}
use Rattle.curve.specs.declared.Rect.{Rect}
use Rattle.curve.specs.declared.Curve.{Curve}
use Rattle.curve.specs.declared.Rounded.{Rounded}
use Rattle.curve.specs.declared.BoundingRect.{BoundingRect}
use Rattle.curve.specs.declared.Subdivision.{Subdivision}
use Rattle.curve.specs.declared.Refusal.{Refusal}
use Rattle.curve.specs.declared.reason.Reason.{Reason}
use Rattle.curve.specs.Limits.{max_sum}
use Rattle.curve.specs.Curve.{piece_sum, left_of, right_of, table_exact}
use Rattle.curve.specs.Refusals.{none, curve_refusal, parameter_refusal, Accepted, AcceptedAt, AcceptedSum}
use Rattle.curve.specs.Calls.{bounded, subdivided}
use Rattle.curve.specs.Results.{as_bounding_rect, as_subdivision}
use Rattle.curve.proofs.Accepted.{number-accepted, most-accepted, accepted_subdivision}
use Rattle.curve.proofs.Answers.{subdivision, subdivided-accepted, subdivided-refusal, bounded-refusal}
use Rattle.curve.proofs.Pieces.{left-accepted, right-accepted, left-degree, right-degree, left-sum, right-sum}
use Rattle.search.specs.Search.{deepest_sum}
use Rattle.curve.proofs.Listed.{listed_some}

pub at_half : AcceptedAt 1 2
unfolding parameter_refusal
at_half = refl

pub bounds_ok : (c : Curve) (r : Result Rect Reason) → as_bounding_rect r ≡ bounded c → (curve_refusal c).number ≡ 0 → IsOk r
bounds_ok c (Ok p) e h = refl
bounds_ok c (Err e') e h = absurd (listed_some e' (ap (λ (x : BoundingRect). x.refusal.number) e ∙ ap (λ (r : Refusal). r.number) (bounded-refusal c) ∙ h))

-- a piece with some depths below it
module _ (c : Curve) (deep below : ℕ) (ok : (curve_refusal c).number ≡ 0) (room : deepest_sum c deep ≤ max_sum) (less : (1 ≤ deep) × (below ≡ deep - 1)) where
  room_below : deepest_sum c (below + 1) ≤ max_sum
  room_below = let same : deep ≡ below + 1 = omega (arith, less) in subst (λ (n : ℕ). deepest_sum c n ≤ max_sum) same room

  accepted : Accepted c
  accepted = number-accepted c ok

  one_more : AcceptedSum (piece_sum c)
  one_more = most-accepted (piece_sum c) (omega (arith, room_below))

  pub cut_ok : (r : Result (Rounded (Curve × Curve)) Reason) → as_subdivision r ≡ subdivided c 1 2 → IsOk r
  cut_ok (Ok p) e = refl
  cut_ok (Err e') e =
      absurd (listed_some e' (ap (λ (x : Subdivision). x.refusal.number) e ∙ ap (λ (r : Refusal). r.number) (subdivided-refusal c 1 2 ∙ accepted_subdivision c 1 2 accepted at_half one_more)))

  cut : subdivided c 1 2 ≡ subdivision (left_of c 1 2) (right_of c 1 2) (table_exact c 1 2) none
  cut = subdivided-accepted c 1 2 accepted at_half one_more

  -- what is known of a half
  pub record Half (half : Curve) : Type 0 where
    pub good : (curve_refusal half).number ≡ 0
    pub spare : deepest_sum half below ≤ max_sum

  half_of : (half : Curve) → Accepted half → half.degree ≡ c.degree → half.sum ≡ piece_sum c → Half half
  half_of half a d s = record { good = ap (λ (r : Refusal). r.number) a; spare = rw (d, s) (omega (arith, room_below)) }

  pub left_half : (half : Curve) → half ≡ (subdivided c 1 2).left → Half half
  left_half half e =
      subst Half (sym (e ∙ ap (λ (x : Subdivision). x.left) cut))
      (half_of (left_of c 1 2) (left-accepted c accepted 1 2 at_half) (left-degree c 1 2) (left-sum c 1 2))

  pub right_half : (half : Curve) → half ≡ (subdivided c 1 2).right → Half half
  right_half half e =
      subst Half (sym (e ∙ ap (λ (x : Subdivision). x.right) cut))
      (half_of (right_of c 1 2) (right-accepted c accepted 1 2 at_half) (right-degree c 1 2) (right-sum c 1 2))
