-- A walk that ends Inside was Inside all along, and its count grows: so it can be left as soon as it is not Inside any more.
-- Assumes nothing.
use mathlib.Core.Path.{◌≡◌, refl, sym, ap, ◌∙◌, subst}
use mathlib.Core.Bool.{Bool, true, false, not, false≢true}
use Prim.Native.Nat.{ℕ, ◌+◌, ◌≤◌, ◌<◌}
use native.Mathlib.Omega.{arith}
use mathlib.Core.Logic.{◌⊎◌, inl, inr}
use lib.Dec.{T, eqb}
use Rattle.std.specs.Prelude.{Option, Some, None, is_some}
use borrow.Author.Tests.{eqb-false}
use Rattle.curve.specs.declared.Rect.{Rect}
use Rattle.curve.specs.declared.Curve.{Curve}
use Rattle.curve.specs.Calls.{bounded}
use Rattle.search.specs.declared.Verdict.{Verdict}
use Rattle.search.specs.declared.Verdict.TheVariants.{Refused, Inside, Outside, Spent, Undecided}
use Rattle.search.specs.declared.SearchAnswer.{SearchAnswer}
use Rattle.search.specs.declared.visit.Visit.{Visit}
use Rattle.search.specs.declared.piece.Piece.{Piece}
use Rattle.search.specs.Piece.{AreHalves}
use Rattle.search.specs.declared.visit.Visit.TheVariants.{Ended, Exhausted, Contained, Apart, Across}
use Rattle.search.specs.Box.{in_box, apart_from}
use Rattle.search.specs.Verdict.{reported, inside}
use Rattle.search.specs.Walk.{goes_on, count_of, looked, noted, after, visit_at, walked}
use Rattle.search.specs.Search.{ends_inside}
use Rattle.search.specs.Inner.{count_inside}
use Rattle.search.proofs.Visits.{Going, clear, marked, Looks, Rules, looks_at, by_visit, visit_looks, walk_keeps, visit_contained, visit_apart, walked_by, further, further_limit}
use Rattle.search.proofs.PieceWalk.{walked_of, visited, both_halves}
use Rattle.search.proofs.Counts.{looked-count, walked_budget}
use Rattle.search.proofs.Accepted.{Facts, searched-accepted}

-- ---- verdicts

pub inside_on : (v : Verdict) → (reported v).number ≡ inside → goes_on v ≡ true
inside_on Refused e = absurd (eqb-false 0 1 refl e)
inside_on (Inside n) e = refl
inside_on (Outside d i n) e = absurd (eqb-false 2 1 refl e)
inside_on (Spent n) e = absurd (eqb-false 3 1 refl e)
inside_on (Undecided d i n) e = refl

pub looked-inside : {v : Verdict} → Going v → (reported (looked v)).number ≡ inside → (reported v).number ≡ inside
looked-inside clear e = refl
looked-inside marked e = e

pub noted-inside : (d i : ℕ) {v : Verdict} → Going v → (reported (noted d i (looked v))).number ≡ inside → ⊥
noted-inside d i clear e = eqb-false 4 1 refl e
noted-inside d i marked e = eqb-false 4 1 refl e

-- a verdict with no count is not Inside, and one with a count is
inside-counts : (v : Verdict) → count_inside v ≡ None → (reported v).number ≡ inside → ⊥
inside-counts Refused h e = eqb-false 0 1 refl e
inside-counts (Inside n) h e = false≢true (sym (ap is_some h))
inside-counts (Outside d i n) h e = eqb-false 2 1 refl e
inside-counts (Spent n) h e = eqb-false 3 1 refl e
inside-counts (Undecided d i n) h e = eqb-false 4 1 refl e

not-inside : (v : Verdict) → ((reported v).number ≡ inside → ⊥) → count_inside v ≡ None
not-inside Refused h = refl
not-inside (Inside n) h = absurd (h refl)
not-inside (Outside d i n) h = refl
not-inside (Spent n) h = refl
not-inside (Undecided d i n) h = refl

is_inside : (v : Verdict) (n : ℕ) → Some n ≡ count_inside v → v ≡ Inside n
is_inside Refused n e = absurd (false≢true (sym (ap is_some e)))
is_inside (Inside m) n e = ap Inside (ap count_in (sym e))
  where
    count_in : Option ℕ → ℕ
    count_in None = 0
    count_in (Some x) = x
is_inside (Outside d i m) n e = absurd (false≢true (sym (ap is_some e)))
is_inside (Spent m) n e = absurd (false≢true (sym (ap is_some e)))
is_inside (Undecided d i m) n e = absurd (false≢true (sym (ap is_some e)))

module _ (box : Rect) (budget : ℕ) where
  -- a walk that ends Inside was so before, with a smaller count
  abbrev Keeps : Verdict → Verdict → Type 0
  Keeps v u = (reported u).number ≡ inside → ((reported v).number ≡ inside) × (count_of v < count_of u)

  keeps_rules : Rules box budget (λ m piece d i v u. Keeps v u)
  keeps_rules = record {
    ended = λ m piece d i v e h. absurd (false≢true (sym e ∙ inside_on v h));
    exhausted = λ m piece d i v g f h. absurd (eqb-false 3 1 refl h);
    contained = λ m piece d i v l w h. (looked-inside l.going h, omega (arith, looked-count l.going));
    apart = λ m piece d i v l o h. absurd (eqb-false 2 1 refl h);
    limit = λ piece d i v l o h. absurd (noted-inside d i l.going h);
    halves = λ m piece d i v l o w u e f left right h.
        let (half, more) = right h in
        let (seen, most) = left half in
        (looked-inside l.going seen, omega (arith, looked-count l.going, more, most));
  }

  keeps : (m : ℕ) (piece : Curve) (d i : ℕ) (v : Verdict) → Keeps v (walked box budget m piece d i v)
  keeps = walk_keeps box budget (λ m piece d i v u. Keeps v u) keeps_rules

  -- once a walk is not Inside, it does not end Inside
  none_after : (p : Piece) (v : Verdict) → count_inside v ≡ None → count_inside (walked_of box budget p v) ≡ None
  none_after p v h = not-inside (walked_of box budget p v) (λ e. inside-counts v h (keeps p.below p.curve p.depth p.index v e).0)

  -- ---- the walk of a piece, visit by visit

  module _ (p : Piece) (before : ℕ) where
    told : (s : Visit) → s ≡ visit_at box budget p.curve (Inside before) → count_inside (after s p.depth p.index (Inside before) (further box budget p.below p.curve p.depth p.index)) ≡ count_inside (walked_of box budget p (Inside before))
    told s e = ap count_inside (visited box budget p (Inside before) s e)

    pub told_contained : Contained ≡ visit_at box budget p.curve (Inside before) → Some (before + 1) ≡ count_inside (walked_of box budget p (Inside before))
    told_contained e = told Contained e

    -- a walk that is Inside has not ended
    not_ended : Ended ≡ visit_at box budget p.curve (Inside before) → ⊥
    not_ended e = subst (λ (s : Visit). T (not (is_ended s))) (sym e) (by_visit box budget (λ s. T (not (is_ended s))) p.curve (Inside before) (λ h. false≢true (sym h)) (λ g h. tt) (λ l h. tt) (λ l h. tt) (λ l h. tt))
      where
        is_ended : Visit → Bool
        is_ended Ended = true
        is_ended Exhausted = false
        is_ended Contained = false
        is_ended Apart = false
        is_ended Across = false

    pub told_over : (s : Visit) → s ≡ visit_at box budget p.curve (Inside before) → (s ≡ Ended) ⊎ ((s ≡ Exhausted) ⊎ (s ≡ Apart)) → None ≡ count_inside (walked_of box budget p (Inside before))
    told_over s e (inl h) = absurd (not_ended (sym h ∙ e))
    told_over s e (inr (inl h)) = told Exhausted (sym h ∙ e)
    told_over s e (inr (inr h)) = told Apart (sym h ∙ e)

    -- where it lies across the edge or in the box, there is room for it
    pub told_room : (s : Visit) → T (looks_at s) → s ≡ visit_at box budget p.curve (Inside before) → before ≤ budget → before + 1 ≤ budget
    told_room s t e h = let l = visit_looks box budget p.curve (Inside before) s (sym e) t in let b = l.below in omega (arith, b, h)

    module _ (e : Across ≡ visit_at box budget p.curve (Inside before)) where
      pub told_limit : p.below ≡ 0 → None ≡ count_inside (walked_of box budget p (Inside before))
      told_limit z = ap count_inside (further_limit box budget p.below p.curve p.depth p.index (Inside (before + 1)) z ∙ visited box budget p (Inside before) Across e)

      -- by its halves
      module _ (l r : Piece) (cut : AreHalves p l r) where
        both : walked_of box budget r (walked_of box budget l (Inside (before + 1))) ≡ walked_of box budget p (Inside before)
        both = both_halves box budget p l r cut (Inside (before + 1)) ∙ visited box budget p (Inside before) Across e

        pub told_none : None ≡ count_inside (walked_of box budget l (Inside (before + 1))) → None ≡ count_inside (walked_of box budget p (Inside before))
        told_none h = sym (none_after r (walked_of box budget l (Inside (before + 1))) (sym h)) ∙ ap count_inside both

        pub told_both :
            (half : ℕ) (n : Option ℕ) → Some half ≡ count_inside (walked_of box budget l (Inside (before + 1))) → n ≡ count_inside (walked_of box budget r (Inside half)) →
            n ≡ count_inside (walked_of box budget p (Inside before))
        told_both half n h k = k ∙ ap (λ (v : Verdict). count_inside (walked_of box budget r v)) (sym (is_inside _ half h)) ∙ ap count_inside both

        -- the first half's count is within the budget
        pub half_within : (half : ℕ) → before + 1 ≤ budget → Some half ≡ count_inside (walked_of box budget l (Inside (before + 1))) → half ≤ budget
        half_within half m h = subst (λ (v : Verdict). count_of v ≤ budget) (is_inside _ half h) (walked_budget box budget l.below l.curve l.depth l.index (Inside (before + 1)) m)

-- ---- whether a walk ends Inside

module _ (c : Curve) (box : Rect) (depth budget : ℕ) where
  pub ends_by_walk : Facts c box depth budget → ends_inside c box depth budget ≡ eqb (reported (walked box budget depth c 0 0 (Inside 0))).number inside
  unfolding ends_inside
  ends_by_walk f = ap (λ (a : SearchAnswer). eqb (reported a.verdict).number inside) (searched-accepted c box depth budget f)

  -- it does exactly if there is a count as one Inside
  pub ends-told : Facts c box depth budget → (r : Option ℕ) → r ≡ count_inside (walked box budget depth c 0 0 (Inside 0)) → is_some r ≡ ends_inside c box depth budget
  ends-told f r t = ap is_some t ∙ by_verdict (walked box budget depth c 0 0 (Inside 0)) ∙ sym (ends_by_walk f)
    where
      by_verdict : (v : Verdict) → is_some (count_inside v) ≡ eqb (reported v).number inside
      by_verdict Refused = refl
      by_verdict (Inside n) = refl
      by_verdict (Outside d i n) = refl
      by_verdict (Spent n) = refl
      by_verdict (Undecided d i n) = refl

  -- and the first look may tell
  first_look : (s : Visit) → visit_at box budget c (Inside 0) ≡ s → Facts c box depth budget → ends_inside c box depth budget ≡ eqb (reported (after s 0 0 (Inside 0) (further box budget depth c 0 0))).number inside
  first_look s e f = ends_by_walk f ∙ ap (λ (v : Verdict). eqb (reported v).number inside) (sym (walked_by box budget depth c 0 0 (Inside 0) s e))

  some_budget : Facts c box depth budget → Looks budget (Inside 0)
  some_budget f = record { going = clear; below = λ e. omega (arith, e, f.effort.some) }

  pub look_within : Facts c box depth budget → in_box (bounded c).rect box ≡ true → ends_inside c box depth budget ≡ true
  look_within f e = first_look Contained (visit_contained box budget c (Inside 0) (some_budget f) (record { contained = e })) f

  pub look_apart : Facts c box depth budget → in_box (bounded c).rect box ≡ false → apart_from (bounded c).rect box ≡ true → ends_inside c box depth budget ≡ false
  look_apart f o e = first_look Apart (visit_apart box budget c (Inside 0) (some_budget f) (record { outside = o; apart = e })) f
