-- A flag is lit exactly if every side is the exact one. Lit, no map left a remainder, so the rounded table and the rounded elevation are the exact ones.
-- With every side exact no map left one: off the last value of the table by the stages backwards, unless a factor is 0, where none ever does; off an elevation map by map.
-- Assumes nothing.
use mathlib.Core.Path.{◌≡◌, sym, ap, ◌∙◌, subst, subst₂}
use mathlib.Core.Bool.{true}
use Prim.Native.Nat.{ℕ, suc, ◌+◌, ◌-◌, ◌≤◌, ◌<◌}
use native.Mathlib.Decide.{dec_lt}
use native.Mathlib.Omega.{arith}
use lib.IntN.{ℤ}
use Rattle.rational.specs.Rounding.{Rounding}
use Rattle.rational.specs.Fraction.{whole, parameter}
use Rattle.rational.proofs.Rational.{rat, embed, equal_rat}
use Rattle.rational.proofs.RationalOrder.{equal_of}
use Rattle.bernstein.specs.Affine.{affine, affine_exact, exact_affine}
use Rattle.bernstein.specs.DeCasteljau as DeCasteljau
use Rattle.bernstein.specs.DeCasteljau.{table}
use Rattle.bernstein.proofs.Rationals.{mean}
use Rattle.bernstein.proofs.Promises.{sum_is_value}
use Rattle.bernstein.proofs.EveryMap.{all_of, every_of}
use Rattle.bernstein.proofs.Unrounded.{affine_mean, table_mean}
use Rattle.curve.specs.declared.Curve.{Curve}
use Rattle.curve.specs.declared.Elevation.{Elevation}
use Rattle.curve.specs.declared.Evaluation.{Evaluation}
use Rattle.curve.specs.declared.Rect.{Rect}
use Rattle.curve.specs.declared.Refusal.{Refusal}
use Rattle.curve.specs.declared.Subdivision.{Subdivision}
use Rattle.curve.specs.Limits.{max_degree}
use Rattle.curve.specs.Rect.{Coordinate, side}
use Rattle.curve.specs.Curve.{point, map_at, exact_at, load_of, left_of, right_of, table_exact, elevated_point, elevated_exact, elevated_of, elevation_exact}
use Rattle.curve.specs.Refusals.{none, Accepted, AcceptedAt}
use Rattle.curve.specs.Calls.{evaluated, subdivided, elevated}
use Rattle.curve.specs.Inner.{Factors}
use Rattle.curve.proofs.Accepted.{accepted_facts, parameter_facts, call_accepted, subdivision_accepted, elevation_accepted}
use Rattle.curve.proofs.Answers.{subdivision, evaluated-accepted, evaluated-refusal, subdivided-accepted, subdivided-refusal, elevated-accepted, elevated-refusal}
use Rattle.curve.proofs.Points.{sides, side-table, side-affine}
use Rattle.curve.proofs.Pieces.{left-point, right-point, elevated-point}
use Rattle.curve.proofs.RectSides.{sides_exact}
use Rattle.curve_promises.proofs.Flags.{lit-accepted, lit-first, lit_last, table-lit, elevation_lit}
use Rattle.ledger.specs.Ordinary.{exact_side}
use Rattle.ledger.specs.Ledger.{Piece, left, right, kept}
use Rattle.ledger_promises.specs.Promises.{ExactSides, ExactLoad, SubdividedExactly, ExactPieces, ElevatedExactly, ExactElevation}
use Rattle.ledger.specs.Exact.{edge, part, raised}
use Rattle.ledger.proofs.Steps.{exact_map, exact_mean}
use Rattle.ledger_promises.proofs.Tight.{exact_of, table_tight}

-- ---- every side is exact: no map left a remainder

-- off the last value of the table of an accepted call
module _ (c : Curve) (num den : ℕ) (ok : Accepted c) (at : AcceptedAt num den) (same : ExactSides c (parameter num den) (load_of c num den)) where
  abbrev factors : Factors (den - num) num den
  factors = (parameter_facts num den at).factors

  -- between the ends both factors are above 0
  inner_lit : 0 < num → num < den → table_exact c num den ≡ true
  unfolding table_exact embed load_of DeCasteljau.value
  inner_lit low high =
      every_of (map_at num den) (exact_at num den) (point c) c.degree
      (λ j k h. sides_exact (den - num) num den _ _ (λ x r.
      subst₂ (λ (a b : ℤ). affine_exact (den - num) num den a b ≡ true) (sym (side-table x r (point c) (den - num) num den j k)) (sym (side-table x r (point c) (den - num) num den j (suc k)))
      (table_tight (den - num) num den factors.total factors.positive (omega arith) low r (sides x r (point c)) c.degree (end x r) j k h)))
    where
      end :
          (x : Coordinate) (r : Rounding) →
          embed (table (affine r (den - num) num den) (sides x r (point c)) c.degree 0) ≡ table (mean den factors.positive (den - num) num) (λ i. embed (side x r (point c i))) c.degree 0
      end x r =
          ap embed (sym (side-table x r (point c) (den - num) num den c.degree 0))
          ∙ equal_rat (same x r)
          ∙ equal_rat (sum_is_value c.degree ((edge r c).control x) (parameter num den))
          ∙ exact_mean num den factors ((edge r c).control x) c.degree 0

  -- at the ends no map leaves a remainder anyway
  load-lit : table_exact c num den ≡ true
  load-lit = go (dec_lt 0 num) (dec_lt num den)
    where
      go : Dec (0 < num) → Dec (num < den) → table_exact c num den ≡ true
      go (no low) end = let e : 0 ≡ num = omega arith in subst (λ (n : ℕ). table_exact c n den ≡ true) e (lit-first c den)
      go (yes low) (no high) =
          let e : den ≡ num = omega (arith, (parameter_facts num den at).most) in subst (λ (n : ℕ). table_exact c n den ≡ true) e (lit_last c den)
      go (yes low) (yes high) = inner_lit low high

-- the load is the last control point of the left piece
load_of_pieces :
    (c : Curve) (num den : ℕ) → c.degree ≤ max_degree → SubdividedExactly c (parameter num den) (subdivision (left_of c num den) (right_of c num den) (table_exact c num den) none) →
    ExactSides c (parameter num den) (load_of c num den)
unfolding load_of DeCasteljau.value DeCasteljau.left
load_of_pieces c num den few same x r =
    equal_of (whole (side x r (load_of c num den))) (exact_side c x r (parameter num den))
    (ap (λ (p : Rect). rat (whole (side x r p))) (sym (left-point c num den c.degree few (omega arith)))
    ∙ equal_rat (same left x r c.degree (omega arith))
    ∙ sym (equal_rat (sum_is_value c.degree ((edge r c).control x) (parameter num den))))

-- a side of an elevated control point, rounded and exact
module _ (c : Curve) (below : c.degree < max_degree) (x : Coordinate) (r : Rounding) (k : ℕ) (h : k ≤ c.degree + 1) where
  abbrev before : ℤ
  before = side x r (point c (k - 1))

  abbrev this : ℤ
  this = side x r (point c k)

  abbrev some : 0 < c.degree + 1
  some = omega arith

  rounded_side : rat (whole (side x r (point (elevated_of c) k))) ≡ embed (affine r k (c.degree + 1 - k) (c.degree + 1) before this)
  unfolding embed elevated_point
  rounded_side =
      ap (λ (p : Rect). embed (side x r p)) (elevated-point c k below h)
      ∙ ap embed (side-affine x r k (c.degree + 1 - k) (c.degree + 1) (point c (k - 1)) (point c k))

  exact_side_is : rat ((raised (edge r c)).control x k) ≡ mean (c.degree + 1) some k (c.degree + 1 - k) (embed before) (embed this)
  unfolding embed
  exact_side_is =
      let n = c.degree in
      let rest : n + 1 - (n + 1 - k) ≡ k = omega arith in
      let factors : Factors (n + 1 - (n + 1 - k)) (n + 1 - k) (n + 1) = record { total = omega arith; positive = some; small = omega arith } in
      exact_map (n + 1 - k) (n + 1) factors (whole before) (whole this)
      ∙ ap (λ (s : ℕ). mean (n + 1) some s (n + 1 - k) (embed before) (embed this)) rest

-- each map of an elevation by itself
maps_lit : (c : Curve) → c.degree < max_degree → ElevatedExactly c (elevated_of c) → elevation_exact c ≡ true
unfolding elevation_exact elevated_exact
maps_lit c below same =
    all_of (c.degree + 2) (elevated_exact c.degree (point c))
    (λ k l. sides_exact k (c.degree + 1 - k) (c.degree + 1) _ _ (λ x r.
    let most : k ≤ c.degree + 1 = omega arith in
    exact_of r k (c.degree + 1 - k) (c.degree + 1) (some c below x r k most) _ _
    (sym (rounded_side c below x r k most) ∙ equal_rat (same x r k (omega arith)) ∙ exact_side_is c below x r k most)))

-- ---- lit: every side is exact

-- the table of an accepted curve whose flag is lit
module _ (c : Curve) (num den : ℕ) (at : AcceptedAt num den) (lit : table_exact c num den ≡ true) (x : Coordinate) (r : Rounding) where
  abbrev f : Factors (den - num) num den
  f = (parameter_facts num den at).factors

  -- every entry's side is that of the exact table
  entry_exact :
      (j k : ℕ) → j + k ≤ c.degree →
      rat (whole (side x r (table (map_at num den) (point c) j k))) ≡ rat (table (exact_affine (parameter num den)) ((edge r c).control x) j k)
  unfolding embed
  entry_exact j k h =
      ap embed (side-table x r (point c) (den - num) num den j k)
      ∙ table_mean r (den - num) num den f.positive (sides x r (point c)) c.degree (table-lit c x r num den lit) j k h
      ∙ sym (exact_mean num den f ((edge r c).control x) j k)

lit-load : (c : Curve) (num den : ℕ) → (evaluated c num den).exact ≡ true → ExactSides c (parameter num den) (evaluated c num den).load
unfolding load_of DeCasteljau.value
lit-load c num den flag x r =
    let (ok, at) = lit-accepted.evaluating c num den flag in
    let answer = evaluated-accepted c num den ok at in
    let lit : table_exact c num den ≡ true = sym (ap (λ (e : Evaluation). e.exact) answer) ∙ flag in
    equal_of (whole (side x r _)) (exact_side c x r (parameter num den))
    (ap (λ (e : Evaluation). rat (whole (side x r e.load))) answer
    ∙ entry_exact c num den at lit x r c.degree 0 (omega arith)
    ∙ sym (equal_rat (sum_is_value c.degree ((edge r c).control x) (parameter num den))))

lit-pieces : (c : Curve) (num den : ℕ) → (subdivided c num den).exact ≡ true → SubdividedExactly c (parameter num den) (subdivided c num den)
unfolding DeCasteljau.left DeCasteljau.right
lit-pieces c num den flag piece x r k h =
    let (ok, at, room) = lit-accepted.subdividing c num den flag in
    let answer = subdivided-accepted c num den ok at room in
    let lit : table_exact c num den ≡ true = sym (ap (λ (s : Subdivision). s.exact) answer) ∙ flag in
    equal_of (whole (side x r _)) ((part piece (parameter num den) (edge r c)).control x k)
    (ap (λ (s : Subdivision). rat (whole (side x r (point (kept piece s) k)))) answer ∙ at_piece piece (accepted_facts c ok).few (entry_exact c num den at lit x r))
  where
    at_piece :
        (piece : Piece) → c.degree ≤ max_degree →
        ((j i : ℕ) → j + i ≤ c.degree → rat (whole (side x r (table (map_at num den) (point c) j i))) ≡ rat (table (exact_affine (parameter num den)) ((edge r c).control x) j i)) →
        rat (whole (side x r (point (kept piece (subdivision (left_of c num den) (right_of c num den) (table_exact c num den) none)) k)))
        ≡ rat ((part piece (parameter num den) (edge r c)).control x k)
    at_piece left few entry = ap (λ (p : Rect). rat (whole (side x r p))) (left-point c num den k few h) ∙ entry k 0 (omega arith)
    at_piece right few entry = ap (λ (p : Rect). rat (whole (side x r p))) (right-point c num den k few h) ∙ entry (c.degree - k) k (omega arith)

lit_elevation : (c : Curve) → (elevated c).exact ≡ true → ElevatedExactly c (elevated c).curve
lit_elevation c flag x r k h =
    let (ok, below, room) = lit-accepted.elevating c flag in
    let answer = elevated-accepted c ok below room in
    let lit : elevation_exact c ≡ true = sym (ap (λ (e : Elevation). e.exact) answer) ∙ flag in
    equal_of (whole (side x r _)) ((raised (edge r c)).control x k)
    (ap (λ (e : Elevation). rat (whole (side x r (point e.curve k)))) answer
    ∙ rounded_side c below x r k h
    ∙ affine_mean r k (c.degree + 1 - k) (c.degree + 1) (some c below x r k h) _ _ (elevation_lit c x r lit k h)
    ∙ sym (exact_side_is c below x r k h))

-- ---- the promises

pub exact-load : ExactLoad
exact-load c num den = record {
  exactly = λ none same.
      let (ok, at) = call_accepted c num den (ap (λ (a : Refusal). a.number) (sym (evaluated-refusal c num den) ∙ none)) in
      let answer = evaluated-accepted c num den ok at in
      ap (λ (e : Evaluation). e.exact) answer ∙ load-lit c num den ok at (subst (λ (e : Evaluation). ExactSides c (parameter num den) e.load) answer same);
  lit = lit-load c num den;
}

pub exact_pieces : ExactPieces
exact_pieces c num den = record {
  exactly = λ none same.
      let (ok, at, room) = subdivision_accepted c num den (ap (λ (a : Refusal). a.number) (sym (subdivided-refusal c num den) ∙ none)) in
      let answer = subdivided-accepted c num den ok at room in
      ap (λ (s : Subdivision). s.exact) answer
      ∙ load-lit c num den ok at (load_of_pieces c num den (accepted_facts c ok).few (subst (SubdividedExactly c (parameter num den)) answer same));
  lit = lit-pieces c num den;
}

pub exact_elevation : ExactElevation
exact_elevation c = record {
  exactly = λ none same.
      let (ok, below, room) = elevation_accepted c (ap (λ (a : Refusal). a.number) (sym (elevated-refusal c) ∙ none)) in
      let answer = elevated-accepted c ok below room in
      ap (λ (e : Elevation). e.exact) answer ∙ maps_lit c below (subst (λ (e : Elevation). ElevatedExactly c e.curve) answer same);
  lit = lit_elevation c;
}
