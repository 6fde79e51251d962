-- What Inside and Outside mean for every ordinary curve inside the rectangles.
-- Assumes nothing.
use mathlib.Core.Path.{◌≡◌, refl, sym, ap, ◌∙◌, subst}
use mathlib.Core.Bool.{Bool, true, false, ◌||◌, false≢true}
use mathlib.Core.Logic.{◌⊎◌, inl, inr, ⊎_elim}
use Prim.Native.Nat.{ℕ, ◌+◌, ◌*◌, ◌≤◌, ◌^◌}
use native.Mathlib.Numerals.{add-one}
use native.Mathlib.Omega.{arith}
use borrow.Author.Tests.{eqb-false}
use lib.Dec.{T}
use lib.IntN.{ℤ, pos, ◌*ℤ◌}
use lib.Signed.{le_z, lt_z, ◌≤ℤ◌, ◌<ℤ◌, le_z_yes, lt_z_yes, clash_ℤ}
use Rattle.rational.specs.Rounding.{Rounding, down, up}
use Rattle.rational.specs.Fraction.{Frac, whole, ◌≤ᶠ◌, parameter}
use Rattle.rational.proofs.Order.{≤ℤ-total}
use Rattle.rational.proofs.Rational.{rat, embed}
use Rattle.rational.proofs.RationalOrder.{◌≤ℚ◌, ≤ℚ-trans, ≤ᶠ-of, ≤ℚ-of, embed_mono, embed_reflects}
use Rattle.curve.specs.declared.Interval.{Interval}
use Rattle.curve.specs.declared.Rect.{Rect}
use Rattle.curve.specs.declared.Curve.{Curve}
use Rattle.curve.specs.Rect.{Coordinate, resistance, reactance, end, along}
use Rattle.curve.specs.Calls.{bounded}
use Rattle.curve.specs.Refusals.{Accepted, AcceptedSum}
use Rattle.curve.proofs.Tests.{both}
use Rattle.ledger.specs.Ordinary.{Ordinary, InsideOf, load_at}
use Rattle.search.specs.declared.Verdict.TheVariants.{Inside as InsideV}
use Rattle.search.specs.Verdict.{reported, inside, outside}
use Rattle.search.specs.Box.{within, disjoint, in_box, apart_from}
use Rattle.search.specs.Search.{deepest_sum}
use Rattle.search_promises.specs.Pieces.{piece_at}
use Rattle.search_promises.specs.Promises.{answered, Allowed, LoadIn, Between, InsideMeans, OutsideMeans}
use Rattle.search.proofs.InsideWalk.{inside_on, looked-inside, noted-inside}
use Rattle.search.proofs.Visits.{Rules, walk_keeps}
use Rattle.search.proofs.Accepted.{Facts, by_answer}
use Rattle.search_promises.proofs.Named.{Place, whole_place, place_half, outside_names}
use Rattle.search_promises.proofs.Dyadic.{dyadic, parameter_dyadic, dyadic_whole, dyadic_left, dyadic_end, along as point-along}
use Rattle.search_promises.proofs.Laid.{Laid, laid}
use Rattle.search_promises.proofs.Loads.{Spanned, LoadSpanned, load_in_span}

-- ---- boxes

-- a value at least one number and at most another
crossed : (v : Frac) (a b : ℤ) → whole a ≤ᶠ v → v ≤ᶠ whole b → a ≤ℤ b
unfolding embed
crossed v a b h k = embed_reflects a b (≤ℚ-trans (≤ℚ-of h) (≤ℚ-of k))

-- a value at least a number is at least every lesser one
at_least : (v : Frac) (a b : ℤ) → a ≤ℤ b → whole b ≤ᶠ v → whole a ≤ᶠ v
unfolding embed
at_least v a b h k = ≤ᶠ-of (whole a) v (≤ℚ-trans (embed_mono h) (≤ℚ-of k))

-- a span in the limits starts at or above the low one and ends below the high one
within-ends : (i j : Interval) → T (within i j) → (j.low ≤ℤ i.low) × (i.high <ℤ j.high)
unfolding within
within-ends i j t = let (low, high) = both (le_z j.low i.low) (lt_z i.high j.high) t in (le_z_yes low, lt_z_yes high)

-- so each of its values is allowed
within_allowed : (i j : Interval) → T (within i j) → (v : Frac) → Spanned i v → (r : Rounding) → Allowed r v (end r j)
within_allowed i j t v s down = at_least v j.low i.low (within-ends i j t).0 (s down)
within_allowed i j t v s up = λ h. clash_ℤ (within-ends i j t).1 (crossed v j.high i.high h (s up))

-- and a load in a span in the box lies in the box
box-load : (o : Ordinary) (t : Frac) (p q : Rect) → in_box p q ≡ true → LoadSpanned o p t → LoadIn o q t
unfolding in_box
box-load o t p q e l = record { at = λ x. within_allowed (along x p) (along x q) (coordinate x) (load_at o x t) (l x) }
  where
    coordinates : T (within p.resistance q.resistance) × T (within p.reactance q.reactance)
    coordinates = both (within p.resistance q.resistance) (within p.reactance q.reactance) (subst T (sym e) tt)

    coordinate : (x : Coordinate) → T (within (along x p) (along x q))
    coordinate resistance = coordinates.0
    coordinate reactance = coordinates.1

either : (a b : Bool) → T (a || b) → T a ⊎ T b
either true b t = inl tt
either false b t = inr t

-- no value of a span apart from the limits is allowed
disjoint_clash : (i j : Interval) → T (disjoint i j) → (v : Frac) → Spanned i v → ((r : Rounding) → Allowed r v (end r j)) → ⊥
unfolding disjoint
disjoint_clash i j t v s a =
    ⊎_elim (λ l. clash_ℤ (lt_z_yes l) (crossed v j.low i.high (a down) (s up))) (λ l. a up (at_least v j.high i.low (le_z_yes l) (s down)))
    (either (lt_z i.high j.low) (le_z j.high i.low) t)

-- so no load in a span apart from the box lies in the box
apart_clash : (o : Ordinary) (t : Frac) (p q : Rect) → apart_from p q ≡ true → LoadSpanned o p t → LoadIn o q t → ⊥
unfolding apart_from
apart_clash o t p q e l k =
    ⊎_elim (λ h. at resistance h) (λ h. at reactance h) (either (disjoint p.resistance q.resistance) (disjoint p.reactance q.reactance) (subst T (sym e) tt))
  where
    at : (x : Coordinate) → T (disjoint (along x p) (along x q)) → ⊥
    at x h = disjoint_clash (along x p) (along x q) h (load_at o x t) (l x) (k.at x)

-- ---- loads on the stretch of a piece

total : (a b : Frac) → (a ≤ᶠ b) ⊎ (b ≤ᶠ a)
total a b = elim (≤ℤ-total (a.upper *ℤ pos b.lower) (b.upper *ℤ pos a.lower)) [ inl h ↦ inl (record { crosswise = h }) | inr h ↦ inr (record { crosswise = h }) ]

module _ (c : Curve) (accepted : Accepted c) (limit : ℕ) (room : AcceptedSum (deepest_sum c limit)) (box : Rect) (o : Ordinary) (within-rectangles : InsideOf o c) where
  -- every load on the stretch of piece i of depth d lies in the box
  Loads : ℕ → ℕ → Type 0
  Loads d i = (t : Frac) → dyadic d i ≤ℚ rat t → rat t ≤ℚ dyadic d (i + 1) → LoadIn o box t

  -- every load there lies in the piece's span
  span_loads : (d i : ℕ) (piece : Curve) → d ≤ limit → Place c box d i piece → (t : Frac) → dyadic d i ≤ℚ rat t → rat t ≤ℚ dyadic d (i + 1) → LoadSpanned o (bounded piece).rect t
  span_loads d i piece deep p t low high =
      let here = subst (Laid c d i) (sym p.is) (laid c limit room accepted d i deep p.numbered) in
      load_in_span c d i piece here o within-rectangles t (point-along d i (rat t) low high)

  -- both halves make the whole
  halves_loads : (d i : ℕ) → Loads (d + 1) (i * 2) → Loads (d + 1) (i * 2 + 1) → Loads d i
  unfolding Loads
  halves_loads d i left right t low high =
      let middle = parameter (i * 2 + 1) (2 ^ (d + 1)) in
      let deeper = sym (add-one d) in
      elim (total t middle) [
        | inl h ↦ left t (subst (λ x. x ≤ℚ rat t) (dyadic_left d i ∙ ap (λ (n : ℕ). dyadic n (i * 2)) deeper) low)
            (subst (λ x. rat t ≤ℚ x) (parameter_dyadic (d + 1) (i * 2 + 1)) (≤ℚ-of h))
        | inr h ↦ right t (subst (λ x. x ≤ℚ rat t) (parameter_dyadic (d + 1) (i * 2 + 1)) (≤ℚ-of h))
            (subst (λ x. rat t ≤ℚ x) (dyadic_end d i ∙ ap (λ (n : ℕ). dyadic n (i * 2 + 1 + 1)) deeper) high)
      ]

  inside_rules : (budget : ℕ) → Rules box budget (λ m piece d i v u. d + m ≡ limit → Place c box d i piece → (reported u).number ≡ inside → ((reported v).number ≡ inside) × Loads d i)
  unfolding Loads
  inside_rules budget = record {
    ended = λ m piece d i v e s p h. absurd (false≢true (sym e ∙ inside_on v h));
    exhausted = λ m piece d i v g f s p h. absurd (eqb-false 3 1 refl h);
    contained = λ m piece d i v l w s p h. (
      looked-inside l.going h,
      λ t low high. box-load o t (bounded piece).rect box w.contained (span_loads d i piece (omega arith) p t low high),
    );
    apart = λ m piece d i v l f s p h. absurd (eqb-false 2 1 refl h);
    limit = λ piece d i v l f s p h. absurd (noted-inside d i l.going h);
    halves = λ m piece d i v l f w u e g left right s p h.
        let (left-inside, right-loads) = right (omega arith) (place_half c box d i piece p f (i * 2 + 1) 1 (omega arith) (omega arith)) h in
        let (whole-inside, left-loads) = left (omega arith) (place_half c box d i piece p f (i * 2) 0 (omega arith) (omega arith)) left-inside in
        (looked-inside l.going whole-inside, halves_loads d i left-loads right-loads);
  }

-- ---- the promises

pub inside_means : InsideMeans
unfolding Loads embed
inside_means c box depth budget =
    by_answer c box depth budget (λ v. (reported v).number ≡ inside → (o : Ordinary) → InsideOf o c → (t : Frac) → Between (whole (pos 0)) (whole (pos 1)) t → LoadIn o box t)
    (λ e. absurd (eqb-false 0 1 refl e))
    (λ f e o within-rectangles t b.
    (walk_keeps box budget
    (λ m piece d i v u. d + m ≡ depth → Place c box d i piece → (reported u).number ≡ inside → ((reported v).number ≡ inside) × Loads c f.accepted depth f.effort.room box o within-rectangles d i)
    (inside_rules c f.accepted depth f.effort.room box o within-rectangles budget) depth c 0 0 (InsideV 0) (omega arith) (whole_place c box) e).1 t
    (subst (λ x. x ≤ℚ rat t) (dyadic_whole 0) (≤ℚ-of b.from)) (subst (λ x. rat t ≤ℚ x) (dyadic_whole 1) (≤ℚ-of b.to)))

-- an answer Outside is of a walk that is not refused
outside_facts : (c : Curve) (box : Rect) (depth budget : ℕ) → (answered c box depth budget).number ≡ outside → Facts c box depth budget
outside_facts c box depth budget =
    by_answer c box depth budget (λ v. (reported v).number ≡ outside → Facts c box depth budget) (λ e. absurd (eqb-false 0 2 refl e)) (λ f e. f)

pub outside_means : OutsideMeans
outside_means c box depth budget e o within-rectangles t b l =
    let found = outside_names c box depth budget e in
    let f = outside_facts c box depth budget e in
    let d = (answered c box depth budget).depth in
    let i = (answered c box depth budget).index in
    apart_clash o t (bounded (piece_at c d i)).rect box found.apart
    (load_in_span c d i (piece_at c d i) (laid c depth f.effort.room f.accepted d i found.limited found.numbered) o within-rectangles t
    (point-along d i (rat t) (subst (λ x. x ≤ℚ rat t) (parameter_dyadic d i) (≤ℚ-of b.from)) (subst (λ x. rat t ≤ℚ x) (parameter_dyadic d (i + 1)) (≤ℚ-of b.to))))
    l
