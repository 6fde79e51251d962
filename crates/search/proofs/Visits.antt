-- The walk by its visits: what each visit says of the verdict and the span before it, and an induction over the walk by the rules of document 01.
-- Assumes nothing.
use mathlib.Core.Path.{◌≡◌, refl, sym, ap, ◌∙◌, subst}
use mathlib.Core.Bool.{Bool, true, false, false≢true}
use Prim.Native.Nat.{ℕ, zero, suc, ◌+◌, ◌*◌}
use lib.Dec.{T, eqb}
use borrow.Author.Tests.{eqb-true, eqb-false, eq-eqb, ne_eqb}
use Rattle.curve.specs.declared.Rect.{Rect}
use Rattle.curve.specs.declared.Curve.{Curve}
use Rattle.curve.specs.Calls.{bounded, subdivided}
use Rattle.search.specs.declared.Verdict.{Verdict}
use Rattle.search.specs.declared.Verdict.TheVariants.{Refused, Inside, Outside, Spent, Undecided}
use Rattle.search.specs.declared.visit.Visit.{Visit}
use Rattle.search.specs.declared.visit.Visit.TheVariants.{Ended, Exhausted, Contained, Apart, Across}
use Rattle.search.specs.Box.{in_box, apart_from}
use Rattle.search.specs.Walk.{goes_on, count_of, looked, noted, visit_by, after, visit_at, walked}

-- a visit that looks at its piece
abbrev pub looks_at : Visit → Bool
looks_at Ended = false
looks_at Exhausted = false
looks_at Contained = true
looks_at Apart = true
looks_at Across = true

-- a verdict after which the walk goes on: nothing noted so far, or a first piece
pub data Going : Verdict → Type 0 where
  clear : {n : ℕ} → Going (Inside n)
  marked : {d i n : ℕ} → Going (Undecided d i n)

on_going : (v : Verdict) → goes_on v ≡ true → Going v
on_going Refused h = absurd (false≢true h)
on_going (Inside n) h = clear
on_going (Outside d i n) h = absurd (false≢true h)
on_going (Spent n) h = absurd (false≢true h)
on_going (Undecided d i n) h = marked

pub going_on : {v : Verdict} → Going v → goes_on v ≡ true
going_on clear = refl
going_on marked = refl

-- a walk that looks at its next piece
pub record Looks (budget : ℕ) (v : Verdict) : Type 0 where
  pub going : Going v
  pub below : count_of v ≡ budget → ⊥

module _ (box : Rect) where
  -- how a piece lies to the box
  pub record Within (piece : Curve) : Type 0 where
    pub contained : in_box (bounded piece).rect box ≡ true

  pub record Separate (piece : Curve) : Type 0 where
    pub outside : in_box (bounded piece).rect box ≡ false
    pub apart : apart_from (bounded piece).rect box ≡ true

  pub record Crossing (piece : Curve) : Type 0 where
    pub outside : in_box (bounded piece).rect box ≡ false
    pub meeting : apart_from (bounded piece).rect box ≡ false

  module _ (budget : ℕ) where
    -- a visit by its cases
    pub by_visit :
        (P : Visit → Type 0) (piece : Curve) (v : Verdict) →
        (goes_on v ≡ false → P Ended) → (Going v → count_of v ≡ budget → P Exhausted) →
        (Looks budget v → Within piece → P Contained) → (Looks budget v → Separate piece → P Apart) → (Looks budget v → Crossing piece → P Across) →
        P (visit_at box budget piece v)
    unfolding visit_at
    by_visit P piece v ended exhausted contained apart across =
        go (goes_on v) (eqb (count_of v) budget) (in_box (bounded piece).rect box) (apart_from (bounded piece).rect box) refl refl refl refl
      where
        looks : goes_on v ≡ true → eqb (count_of v) budget ≡ false → Looks budget v
        looks e f = record { going = on_going v e; below = eqb-false (count_of v) budget f }

        go : (g f i o : Bool) →
            goes_on v ≡ g → eqb (count_of v) budget ≡ f → in_box (bounded piece).rect box ≡ i → apart_from (bounded piece).rect box ≡ o →
            P (visit_by g f i o)
        go false f i o p q r s = ended p
        go true true i o p q r s = exhausted (on_going v p) (eqb-true (count_of v) budget q)
        go true false true o p q r s = contained (looks p q) (record { contained = r })
        go true false false true p q r s = apart (looks p q) (record { outside = r; apart = s })
        go true false false false p q r s = across (looks p q) (record { outside = r; meeting = s })

    -- each visit by what it says
    visit_is : (piece : Curve) (v : Verdict) (f i o : Bool) →
        Going v → eqb (count_of v) budget ≡ f → in_box (bounded piece).rect box ≡ i → apart_from (bounded piece).rect box ≡ o →
        visit_at box budget piece v ≡ visit_by true f i o
    unfolding visit_at
    visit_is piece v f i o g p q r = rw (going_on g, p, q, r)

    pub visit_ended : (piece : Curve) (v : Verdict) → goes_on v ≡ false → visit_at box budget piece v ≡ Ended
    unfolding visit_at
    visit_ended piece v e = rw e

    pub visit_exhausted : (piece : Curve) (v : Verdict) → Going v → count_of v ≡ budget → visit_at box budget piece v ≡ Exhausted
    visit_exhausted piece v g e = visit_is piece v true _ _ g (eq-eqb (count_of v) budget e) refl refl

    pub visit_contained : (piece : Curve) (v : Verdict) → Looks budget v → Within piece → visit_at box budget piece v ≡ Contained
    visit_contained piece v l w = visit_is piece v false true _ l.going (ne_eqb (count_of v) budget l.below) w.contained refl

    pub visit_apart : (piece : Curve) (v : Verdict) → Looks budget v → Separate piece → visit_at box budget piece v ≡ Apart
    visit_apart piece v l w = visit_is piece v false false true l.going (ne_eqb (count_of v) budget l.below) w.outside w.apart

    pub visit_across : (piece : Curve) (v : Verdict) → Looks budget v → Crossing piece → visit_at box budget piece v ≡ Across
    visit_across piece v l w = visit_is piece v false false false l.going (ne_eqb (count_of v) budget l.below) w.outside w.meeting

    -- what follows across the edge
    unfoldable pub further : ℕ → Curve → ℕ → ℕ → Verdict → Verdict
    further zero piece depth index v = noted depth index v
    further (suc below) piece depth index v =
        walked box budget below (subdivided piece 1 2).right (depth + 1) (index * 2 + 1)
        (walked box budget below (subdivided piece 1 2).left (depth + 1) (index * 2) v)

    walked_is :
        (below : ℕ) (piece : Curve) (depth index : ℕ) (v : Verdict) →
        walked box budget below piece depth index v ≡ after (visit_at box budget piece v) depth index v (further below piece depth index)
    unfolding walked further
    walked_is zero piece depth index v = refl
    walked_is (suc below) piece depth index v = refl

    -- the walk after a visit that is known
    pub walked_by :
        (below : ℕ) (piece : Curve) (depth index : ℕ) (v : Verdict) (s : Visit) → visit_at box budget piece v ≡ s →
        after s depth index v (further below piece depth index) ≡ walked box budget below piece depth index v
    walked_by below piece depth index v s e =
        sym (walked_is below piece depth index v ∙ ap (λ (t : Visit). after t depth index v (further below piece depth index)) e)

    -- at the depth limit, and above it
    pub further_limit : (below : ℕ) (piece : Curve) (depth index : ℕ) (v : Verdict) → below ≡ 0 → noted depth index v ≡ further below piece depth index v
    unfolding further
    further_limit below piece depth index v e = sym (ap (λ (m : ℕ). further m piece depth index v) e)

    -- what each rule says of the verdict before a piece's walk and the one after it
    pub record Rules (P : ℕ → Curve → ℕ → ℕ → Verdict → Verdict → Type 0) : Type 0 where
      pub ended : (m : ℕ) (piece : Curve) (d i : ℕ) (v : Verdict) → goes_on v ≡ false → P m piece d i v v
      pub exhausted : (m : ℕ) (piece : Curve) (d i : ℕ) (v : Verdict) → Going v → count_of v ≡ budget → P m piece d i v (Spent (count_of v))
      pub contained : (m : ℕ) (piece : Curve) (d i : ℕ) (v : Verdict) → Looks budget v → Within piece → P m piece d i v (looked v)
      pub apart : (m : ℕ) (piece : Curve) (d i : ℕ) (v : Verdict) → Looks budget v → Separate piece → P m piece d i v (Outside d i (count_of v + 1))
      pub limit : (piece : Curve) (d i : ℕ) (v : Verdict) → Looks budget v → Crossing piece → P 0 piece d i v (noted d i (looked v))
      pub halves :
          (m : ℕ) (piece : Curve) (d i : ℕ) (v : Verdict) → Looks budget v → Crossing piece → (w u : Verdict) →
          w ≡ walked box budget m (subdivided piece 1 2).left (d + 1) (i * 2) (looked v) →
          u ≡ walked box budget m (subdivided piece 1 2).right (d + 1) (i * 2 + 1) w →
          P m (subdivided piece 1 2).left (d + 1) (i * 2) (looked v) w → P m (subdivided piece 1 2).right (d + 1) (i * 2 + 1) w u →
          P (suc m) piece d i v u

    -- what every rule keeps, the walk keeps
    pub walk_keeps :
        (P : ℕ → Curve → ℕ → ℕ → Verdict → Verdict → Type 0) → Rules P →
        (m : ℕ) (piece : Curve) (d i : ℕ) (v : Verdict) → P m piece d i v (walked box budget m piece d i v)
    unfolding walked further
    walk_keeps P r zero piece d i v =
        by_visit (λ s. P 0 piece d i v (after s d i v (further 0 piece d i))) piece v
        (r.ended 0 piece d i v) (r.exhausted 0 piece d i v) (r.contained 0 piece d i v) (r.apart 0 piece d i v) (r.limit piece d i v)
    walk_keeps P r (suc m) piece d i v =
        by_visit (λ s. P (suc m) piece d i v (after s d i v (further (suc m) piece d i))) piece v
        (r.ended (suc m) piece d i v) (r.exhausted (suc m) piece d i v) (r.contained (suc m) piece d i v) (r.apart (suc m) piece d i v)
        (λ l o. r.halves m piece d i v l o _ _ refl refl
        (walk_keeps P r m (subdivided piece 1 2).left (d + 1) (i * 2) (looked v))
        (walk_keeps P r m (subdivided piece 1 2).right (d + 1) (i * 2 + 1) _))

    -- a visit that looks is made by a walk that looks
    pub visit_looks : (piece : Curve) (v : Verdict) (s : Visit) → visit_at box budget piece v ≡ s → T (looks_at s) → Looks budget v
    visit_looks piece v s e =
        subst (λ (t : Visit). T (looks_at t) → Looks budget v) e
        (by_visit (λ t. T (looks_at t) → Looks budget v) piece v (λ p t. absurd t) (λ p q t. absurd t) (λ l h t. l) (λ l h t. l) (λ l h t. l))
