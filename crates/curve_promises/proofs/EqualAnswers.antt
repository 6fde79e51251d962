-- Equal refusals and equal results give equal answers, and a record's places depend only on the points as far as the degree.
-- Assumes nothing.
use mathlib.Core.Path.{◌≡◌, ap, ap₂}
use mathlib.Core.Bool.{cond}
use mathlib.Core.List.{List}
use Prim.Native.Nat.{ℕ, ◌≤◌}
use lib.Dec.{eqb}
use Rattle.curve.specs.declared.Rect.{Rect}
use Rattle.curve.specs.declared.Curve.{Curve}
use Rattle.curve.specs.declared.Refusal.{Refusal}
use Rattle.curve.specs.Rect.{zero_rect}
use Rattle.curve.specs.Curve.{curve_of, load_of, left_of, right_of, table_exact, elevated_of, elevation_exact, bounds_of}
use Rattle.curve.specs.Refusals.{curve_refusal}
use Rattle.curve.specs.Calls.{call_refusal, subdivision_refusal, elevation_refusal, evaluated, subdivided, elevated, bounded}
use Rattle.curve.proofs.Places.{points_agree}
use Rattle.curve.proofs.Answers.{evaluation, no_evaluation, subdivision, no_subdivision, elevation, no_elevation, enclosure}

module _ (c e : Curve) (num den num' den' : ℕ) where
  pub evaluated_equal :
      call_refusal c num den ≡ call_refusal e num' den' → load_of c num den ≡ load_of e num' den' → table_exact c num den ≡ table_exact e num' den' →
      evaluated c num den ≡ evaluated e num' den'
  unfolding evaluated
  evaluated_equal refusals p b i = let r : Refusal = refusals i in cond (eqb r.number 0) (evaluation (p i) (b i) r) (no_evaluation r)

  pub subdivided_equal :
      subdivision_refusal c num den ≡ subdivision_refusal e num' den' → left_of c num den ≡ left_of e num' den' → right_of c num den ≡ right_of e num' den' → table_exact c num den ≡ table_exact e num' den' →
      subdivided c num den ≡ subdivided e num' den'
  unfolding subdivided
  subdivided_equal refusals p q b i =
      let r : Refusal = refusals i in cond (eqb r.number 0) (subdivision (p i) (q i) (b i) r) (no_subdivision r)

module _ (c e : Curve) where
  pub elevated_equal :
      elevation_refusal c ≡ elevation_refusal e → elevated_of c ≡ elevated_of e → elevation_exact c ≡ elevation_exact e → elevated c ≡ elevated e
  unfolding elevated
  elevated_equal refusals p b i =
      let r : Refusal = refusals i in cond (eqb r.number 0) (elevation (p i) (b i) r) (no_elevation r)

  pub bounded_equal : curve_refusal c ≡ curve_refusal e → bounds_of c ≡ bounds_of e → bounded c ≡ bounded e
  unfolding bounded
  bounded_equal = ap₂ (λ (r : Refusal) (p : Rect). cond (eqb r.number 0) (enclosure p r) (enclosure zero_rect r))

-- curves of one degree and sum whose points agree as far as that degree
pub curve_of_equal : (n s : ℕ) (f g : ℕ → Rect) → ((k : ℕ) → k ≤ n → f k ≡ g k) → curve_of n s f ≡ curve_of n s g
curve_of_equal n s f g agree = ap (λ (l : List Rect). record { degree = n; sum = s; points = l }) (points_agree n f g agree)
