-- The exact flags: evaluation and subdivision share one, which is lit at both ends; a lit one tells that the call was accepted, and that no map of any side left a remainder.
-- Assumes nothing.
use mathlib.Core.Path.{◌≡◌, sym, ap, ◌∙◌, subst, subst₂}
use mathlib.Core.Bool.{Bool, true, false}
use Prim.Native.Nat.{ℕ, suc, ◌+◌, ◌-◌, ◌≤◌}
use native.Mathlib.Nat.{sub-zero, sub_self}
use native.Mathlib.Omega.{arith}
use lib.Dec.{T, eqb}
use lib.IntN.{ℤ}
use Rattle.rational.specs.Rounding.{Rounding}
use Rattle.bernstein.specs.Affine.{affine, affine_exact}
use Rattle.bernstein.specs.DeCasteljau.{table}
use Rattle.bernstein.proofs.EveryMap.{all_at, every_at, every_of}
use Rattle.curve.specs.declared.Curve.{Curve}
use Rattle.curve.specs.declared.Elevation.{Elevation}
use Rattle.curve.specs.declared.Evaluation.{Evaluation}
use Rattle.curve.specs.declared.Rect.{Rect}
use Rattle.curve.specs.declared.Subdivision.{Subdivision}
use Rattle.curve.specs.Rect.{Coordinate, side, exact_rect}
use Rattle.curve.specs.Curve.{point, map_at, exact_at, table_exact, elevated_exact, elevation_exact}
use Rattle.curve.specs.Refusals.{Accepted, AcceptedAt}
use Rattle.curve.specs.Calls.{call_refusal, subdivision_refusal, elevation_refusal, evaluated, subdivided}
use Rattle.curve_promises.specs.Promises.{SameFlag, Lit, LitEnds, LitAccepted}
use Rattle.curve.proofs.Refused.{by_number}
use Rattle.curve.proofs.Accepted.{call_accepted, subdivision_accepted, subdivision_refused, elevation_accepted}
use Rattle.curve.proofs.Answers.{evaluated-accepted, evaluated_refused, subdivided-accepted, subdivided-refused, elevated-refused}
use Rattle.curve.proofs.WholeWeight.{exact_rect-first, exact_rect_second}
use Rattle.curve_promises.proofs.EndPoints.{start-accepted}
use Rattle.curve.proofs.Points.{sides, side-table}
use Rattle.curve.proofs.RectSides.{exact_sides}

pub same_flag : SameFlag
same_flag c num den room = by_number (call_refusal c num den).number accepted refused
  where
    accepted : (call_refusal c num den).number ≡ 0 → (evaluated c num den).exact ≡ (subdivided c num den).exact
    accepted h =
        let (ok, at) = call_accepted c num den h in
        ap (λ (e : Evaluation). e.exact) (evaluated-accepted c num den ok at)
        ∙ sym (ap (λ (s : Subdivision). s.exact) (subdivided-accepted c num den ok at room))

    refused : eqb (call_refusal c num den).number 0 ≡ false → (evaluated c num den).exact ≡ (subdivided c num den).exact
    refused e =
        ap (λ (x : Evaluation). x.exact) (evaluated_refused c num den e)
        ∙ sym (ap (λ (s : Subdivision). s.exact) (subdivided-refused c num den (subdivision_refused c num den e)))

-- ---- only an accepted call is lit

lit-dark : {A : Type 0} {b : Bool} → b ≡ true → b ≡ false → A
lit-dark lit dark = absurd (subst T (sym lit ∙ dark) tt)

pub lit-accepted : LitAccepted
lit-accepted = record {
  evaluating = λ c num den lit. by_number (call_refusal c num den).number (call_accepted c num den)
      (λ e. lit-dark lit (ap (λ (x : Evaluation). x.exact) (evaluated_refused c num den e)));
  subdividing = λ c num den lit. by_number (subdivision_refusal c num den).number (subdivision_accepted c num den)
      (λ e. lit-dark lit (ap (λ (x : Subdivision). x.exact) (subdivided-refused c num den e)));
  elevating = λ c lit. by_number (elevation_refusal c).number (elevation_accepted c)
      (λ e. lit-dark lit (ap (λ (x : Elevation). x.exact) (elevated-refused c e)));
}

-- ---- both ends

-- a test that holds of any two points
all_lit : (c : Curve) (num den : ℕ) → ((p q : Rect) → exact_at num den p q ≡ true) → table_exact c num den ≡ true
unfolding table_exact
all_lit c num den all = every_of (map_at num den) (exact_at num den) (point c) c.degree (λ j k h. all _ _)

module _ (c : Curve) (den : ℕ) where
  pub lit-first : table_exact c 0 den ≡ true
  lit-first = all_lit c 0 den (λ p q. ap (λ (s : ℕ). exact_rect s 0 den p q) (sub-zero den) ∙ exact_rect-first den p q)

  pub lit_last : table_exact c den den ≡ true
  lit_last = all_lit c den den (λ p q. ap (λ (s : ℕ). exact_rect s den den p q) (sub_self den) ∙ exact_rect_second den p q)

both_lit : (c : Curve) (num den : ℕ) → Accepted c → AcceptedAt num den → table_exact c num den ≡ true → Lit c num den
both_lit c num den a h lit =
    let first : (evaluated c num den).exact ≡ true = ap (λ (e : Evaluation). e.exact) (evaluated-accepted c num den a h) ∙ lit in
    (first, λ room. sym (same_flag c num den room) ∙ first)

pub lit-ends : LitEnds
lit-ends c den a h = (both_lit c 0 den a (start-accepted den h) (lit-first c den), both_lit c den den a h (lit_last c den))

-- ---- what a lit flag says of each side

module _ (c : Curve) (x : Coordinate) (r : Rounding) where
  pub table-lit :
      (num den : ℕ) → table_exact c num den ≡ true → (j k : ℕ) → j + suc k ≤ c.degree →
      let entry = table (affine r (den - num) num den) (sides x r (point c)) in
      affine_exact (den - num) num den (entry j k) (entry j (suc k)) ≡ true
  unfolding table_exact
  table-lit num den lit j k h =
      let same = side-table x r (point c) (den - num) num den in
      subst₂ (λ (a b : ℤ). affine_exact (den - num) num den a b ≡ true) (same j k) (same j (suc k))
      (exact_sides (den - num) num den _ _ (every_at (map_at num den) (exact_at num den) (point c) c.degree lit j k h) x r)

  pub elevation_lit :
      elevation_exact c ≡ true → (k : ℕ) → k ≤ c.degree + 1 →
      affine_exact k (c.degree + 1 - k) (c.degree + 1) (side x r (point c (k - 1))) (side x r (point c k)) ≡ true
  unfolding elevation_exact elevated_exact
  elevation_lit lit k h =
      exact_sides k (c.degree + 1 - k) (c.degree + 1) _ _ (all_at (c.degree + 2) (elevated_exact c.degree (point c)) lit k (omega arith)) x r
