-- The answers of the public calls by whether they are refused: the refusal, the results where number 0 says that nothing was refused, and zeros otherwise.
-- Assumes nothing.
use mathlib.Core.Path.{◌≡◌, refl, ap}
use mathlib.Core.Bool.{Bool, true, false, cond}
use Prim.Native.Nat.{ℕ, ◌<◌}
use lib.Dec.{eqb}
use Rattle.curve.specs.declared.Curve.{Curve}
use Rattle.curve.specs.declared.Rect.{Rect}
use Rattle.curve.specs.declared.Refusal.{Refusal}
use Rattle.curve.specs.declared.Evaluation.{Evaluation}
use Rattle.curve.specs.declared.Subdivision.{Subdivision}
use Rattle.curve.specs.declared.Elevation.{Elevation}
use Rattle.curve.specs.declared.BoundingRect.{BoundingRect}
use Rattle.curve.specs.Limits.{max_degree}
use Rattle.curve.specs.Rect.{zero_rect}
use Rattle.curve.specs.Curve.{zero_curve, piece_sum, load_of, left_of, right_of, table_exact, elevated_sum, elevated_of, elevation_exact, bounds_of}
use Rattle.curve.specs.Ohms.{ohms_of, zero_ohms}
use Rattle.curve.specs.Refusals.{none, curve_refusal, Accepted, AcceptedAt, AcceptedSum}
use Rattle.curve.specs.Calls.{call_refusal, subdivision_refusal, elevation_refusal, evaluated, subdivided, elevated, bounded}
use Rattle.curve.proofs.Accepted.{accepted_call, accepted_subdivision, accepted_elevation}

-- an answer chosen by a refusal's number: its value where nothing is refused, where something is, and what both share
module _ {A : Type 0} (result zeros : Refusal → A) (r : Refusal) where
  pub where_none : r ≡ none → cond (eqb r.number 0) (result r) (zeros r) ≡ result none
  where_none h = ap (λ (x : Refusal). cond (eqb x.number 0) (result x) (zeros x)) h

  pub where_some : eqb r.number 0 ≡ false → cond (eqb r.number 0) (result r) (zeros r) ≡ zeros r
  where_some h = ap (λ (b : Bool). cond b (result r) (zeros r)) h

  pub in_both : {B : Type 0} (f : A → B) (y : B) → f (result r) ≡ y → f (zeros r) ≡ y → f (cond (eqb r.number 0) (result r) (zeros r)) ≡ y
  in_both {B} f y h k = go (eqb r.number 0)
    where
      go : (b : Bool) → f (cond b (result r) (zeros r)) ≡ y
      go true = h
      go false = k

abbrev pub evaluation : Rect → Bool → Refusal → Evaluation
evaluation p b r = record { refusal = r; load = p; ohms = ohms_of p; exact = b }

abbrev pub no_evaluation : Refusal → Evaluation
no_evaluation r = record { refusal = r; load = zero_rect; ohms = zero_ohms; exact = false }

abbrev pub subdivision : Curve → Curve → Bool → Refusal → Subdivision
subdivision l r b x = record { refusal = x; left = l; right = r; exact = b }

abbrev pub no_subdivision : Refusal → Subdivision
no_subdivision = subdivision zero_curve zero_curve false

abbrev pub elevation : Curve → Bool → Refusal → Elevation
elevation c b r = record { refusal = r; curve = c; exact = b }

abbrev pub no_elevation : Refusal → Elevation
no_elevation = elevation zero_curve false

abbrev pub enclosure : Rect → Refusal → BoundingRect
enclosure p r = record { refusal = r; rect = p }

module _ (c : Curve) (num den : ℕ) where
  pub evaluated-accepted : Accepted c → AcceptedAt num den → evaluated c num den ≡ evaluation (load_of c num den) (table_exact c num den) none
  unfolding evaluated
  evaluated-accepted a b = where_none (evaluation (load_of c num den) (table_exact c num den)) no_evaluation (call_refusal c num den) (accepted_call c num den a b)

  pub evaluated_refused : eqb (call_refusal c num den).number 0 ≡ false → evaluated c num den ≡ no_evaluation (call_refusal c num den)
  unfolding evaluated
  evaluated_refused h = where_some (evaluation (load_of c num den) (table_exact c num den)) no_evaluation (call_refusal c num den) h

  pub evaluated-refusal : (evaluated c num den).refusal ≡ call_refusal c num den
  unfolding evaluated
  evaluated-refusal = in_both (evaluation (load_of c num den) (table_exact c num den)) no_evaluation (call_refusal c num den) (λ x. x.refusal) _ refl refl

  pub subdivided-accepted : Accepted c → AcceptedAt num den → AcceptedSum (piece_sum c) → subdivided c num den ≡ subdivision (left_of c num den) (right_of c num den) (table_exact c num den) none
  unfolding subdivided
  subdivided-accepted a b s = where_none (subdivision (left_of c num den) (right_of c num den) (table_exact c num den)) no_subdivision (subdivision_refusal c num den) (accepted_subdivision c num den a b s)

  pub subdivided-refused : eqb (subdivision_refusal c num den).number 0 ≡ false → subdivided c num den ≡ no_subdivision (subdivision_refusal c num den)
  unfolding subdivided
  subdivided-refused h = where_some (subdivision (left_of c num den) (right_of c num den) (table_exact c num den)) no_subdivision (subdivision_refusal c num den) h

  pub subdivided-refusal : (subdivided c num den).refusal ≡ subdivision_refusal c num den
  unfolding subdivided
  subdivided-refusal = in_both (subdivision (left_of c num den) (right_of c num den) (table_exact c num den)) no_subdivision (subdivision_refusal c num den) (λ x. x.refusal) _ refl refl

module _ (c : Curve) where
  pub elevated-accepted : Accepted c → c.degree < max_degree → AcceptedSum (elevated_sum c) → elevated c ≡ elevation (elevated_of c) (elevation_exact c) none
  unfolding elevated
  elevated-accepted a h s = where_none (elevation (elevated_of c) (elevation_exact c)) no_elevation (elevation_refusal c) (accepted_elevation c a h s)

  pub elevated-refused : eqb (elevation_refusal c).number 0 ≡ false → elevated c ≡ no_elevation (elevation_refusal c)
  unfolding elevated
  elevated-refused h = where_some (elevation (elevated_of c) (elevation_exact c)) no_elevation (elevation_refusal c) h

  pub elevated-refusal : (elevated c).refusal ≡ elevation_refusal c
  unfolding elevated
  elevated-refusal = in_both (elevation (elevated_of c) (elevation_exact c)) no_elevation (elevation_refusal c) (λ x. x.refusal) _ refl refl

  pub bounded-accepted : Accepted c → bounded c ≡ enclosure (bounds_of c) none
  unfolding bounded
  bounded-accepted a = where_none (enclosure (bounds_of c)) (enclosure zero_rect) (curve_refusal c) a

  pub bounded-refused : eqb (curve_refusal c).number 0 ≡ false → bounded c ≡ enclosure zero_rect (curve_refusal c)
  unfolding bounded
  bounded-refused h = where_some (enclosure (bounds_of c)) (enclosure zero_rect) (curve_refusal c) h

  pub bounded-refusal : (bounded c).refusal ≡ curve_refusal c
  unfolding bounded
  bounded-refusal = in_both (enclosure (bounds_of c)) (enclosure zero_rect) (curve_refusal c) (λ x. x.refusal) _ refl refl
