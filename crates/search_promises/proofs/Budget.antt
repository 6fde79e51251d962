-- The budget of a walk: Spent carries it whole and needs a piece more than there are, and a larger one changes no other answer.
-- Assumes nothing.
use mathlib.Core.Path.{◌≡◌, refl, sym, ap, ◌∙◌, subst}
use mathlib.Core.Bool.{Bool, true, false}
use Prim.Native.Nat.{ℕ, suc, ◌+◌, ◌*◌, ◌-◌, ◌≤◌, ◌^◌}
use native.Mathlib.Numerals.{add-one}
use native.Mathlib.Omega.{arith}
use lib.Dec.{eqb}
use lib.Pow.{pow_mono}
use borrow.Author.Tests.{eqb-true, eqb-false}
use Rattle.curve.specs.declared.Rect.{Rect}
use Rattle.curve.specs.declared.Curve.{Curve}
use Rattle.curve.specs.declared.Refusal.{Refusal}
use Rattle.curve.specs.Calls.{subdivided}
use Rattle.curve.specs.Refusals.{none}
use Rattle.search.specs.declared.Verdict.{Verdict}
use Rattle.search.specs.declared.Verdict.TheVariants.{Refused, Inside, Outside, Spent, Undecided}
use Rattle.search.specs.declared.SearchAnswer.{SearchAnswer}
use Rattle.search.specs.declared.visit.Visit.TheVariants.{Ended, Contained, Apart, Across}
use Rattle.search.specs.Limits.{max_budget}
use Rattle.search.specs.Verdict.{reported, spent}
use Rattle.search.specs.Walk.{goes_on, count_of, looked, walked}
use Rattle.search.specs.Search.{search_refusal, searched}
use Rattle.search_promises.specs.Promises.{Counted, SpentAll, NeverSpent, LargerBudget}
use Rattle.search.proofs.Visits.{Going, clear, marked, Looks, Rules, walk_keeps, walked_by, visit_ended, visit_contained, visit_apart, visit_across, further}
use Rattle.search.proofs.Counts.{due_of, count_due, looked_going, noted_going, looked_budget, walked_budget, walked_due}
use Rattle.search.proofs.Accepted.{number_facts, same-refusal, answer, searched-accepted, searched-refused, by_answer}

-- a walk that goes on is not spent
going_unspent : {v : Verdict} → Going v → (reported v).number ≡ spent → ⊥
going_unspent clear e = eqb-false 1 3 refl e
going_unspent marked e = eqb-false 4 3 refl e

spent_due : (v : Verdict) → (reported v).number ≡ spent → due_of v ≡ count_of v + 1
spent_due Refused e = absurd (eqb-false 0 3 refl e)
spent_due (Inside n) e = absurd (going_unspent (clear {n = n}) e)
spent_due (Outside d i n) e = absurd (eqb-false 2 3 refl e)
spent_due (Spent n) e = refl
spent_due (Undecided d i n) e = absurd (going_unspent (marked {d = d} {i = i} {n = n}) e)

spent-ended : (v : Verdict) → (reported v).number ≡ spent → goes_on v ≡ false
spent-ended Refused e = refl
spent-ended (Inside n) e = absurd (going_unspent (clear {n = n}) e)
spent-ended (Outside d i n) e = refl
spent-ended (Spent n) e = refl
spent-ended (Undecided d i n) e = absurd (going_unspent (marked {d = d} {i = i} {n = n}) e)

module _ (box : Rect) (budget : ℕ) where
  -- a walk is spent at its budget alone
  abbrev SpentAt : Verdict → Type 0
  SpentAt v = (reported v).number ≡ spent → count_of v ≡ budget

  spent_rules : Rules box budget (λ m piece d i v u. SpentAt v → SpentAt u)
  spent_rules = record {
    ended = λ m piece d i v e h. h;
    exhausted = λ m piece d i v g f h s. f;
    contained = λ m piece d i v l w h s. absurd (going_unspent (looked_going l.going) s);
    apart = λ m piece d i v l o h s. absurd (eqb-false 2 3 refl s);
    limit = λ piece d i v l o h s. absurd (going_unspent (noted_going d i (looked_going l.going)) s);
    halves = λ m piece d i v l o w u e f left right h. right (left (λ s. absurd (going_unspent (looked_going l.going) s)));
  }

  walked-spent : (m : ℕ) (piece : Curve) (d i : ℕ) (v : Verdict) → SpentAt v → SpentAt (walked box budget m piece d i v)
  walked-spent = walk_keeps box budget (λ m piece d i v u. SpentAt v → SpentAt u) spent_rules

  -- a walk that has ended stays as it is
  walked-ended : (m : ℕ) (piece : Curve) (d i : ℕ) (v : Verdict) → goes_on v ≡ false → v ≡ walked box budget m piece d i v
  walked-ended m piece d i v e = walked_by box budget m piece d i v Ended (visit_ended box budget piece v e)

-- the same walk with a larger budget
module _ (box : Rect) (budget budget' : ℕ) (larger : budget ≤ budget') where
  looks_larger : {v : Verdict} → count_of v ≤ budget → Looks budget v → Looks budget' v
  looks_larger h l = record { going = l.going; below = λ e. let b = l.below in absurd (omega (arith, b)) }

  abbrev Same : ℕ → Curve → ℕ → ℕ → Verdict → Verdict → Type 0
  Same m piece d i v u = count_of v ≤ budget → ((reported u).number ≡ spent → ⊥) → u ≡ walked box budget' m piece d i v

  larger_rules : Rules box budget Same
  unfolding further
  larger_rules = record {
    ended = λ m piece d i v e h n. walked-ended box budget' m piece d i v e;
    exhausted = λ m piece d i v g f h n. absurd (n refl);
    contained = λ m piece d i v l w h n. walked_by box budget' m piece d i v Contained (visit_contained box budget' piece v (looks_larger h l) w);
    apart = λ m piece d i v l o h n. walked_by box budget' m piece d i v Apart (visit_apart box budget' piece v (looks_larger h l) o);
    limit = λ piece d i v l o h n. walked_by box budget' 0 piece d i v Across (visit_across box budget' piece v (looks_larger h l) o);
    halves = λ m piece d i v l o w u e f left right h n.
        let seen = looked_budget box budget v l h in
        let counted = subst (λ (x : Verdict). count_of x ≤ budget) (sym e) (walked_budget box budget m (subdivided piece 1 2).left (d + 1) (i * 2) (looked v) seen) in
        let unspent : (reported w).number ≡ spent → ⊥ = λ s. n (subst (λ (x : Verdict). (reported x).number ≡ spent)
        (walked-ended box budget m (subdivided piece 1 2).right (d + 1) (i * 2 + 1) w (spent-ended w s) ∙ sym f) s) in
        right counted n
        ∙ ap (walked box budget' m (subdivided piece 1 2).right (d + 1) (i * 2 + 1)) (left seen unspent)
        ∙ walked_by box budget' (suc m) piece d i v Across (visit_across box budget' piece v (looks_larger h l) o);
  }

  walked_larger : (m : ℕ) (piece : Curve) (d i : ℕ) (v : Verdict) → Same m piece d i v (walked box budget m piece d i v)
  walked_larger = walk_keeps box budget Same larger_rules

-- ---- the promises

pub counted : Counted
counted c box depth budget =
    by_answer c box depth budget (λ v. (count_of v ≤ budget) × (count_of v ≤ 2 ^ (depth + 1) - 1)) (omega arith, omega arith)
    (λ f. (
      walked_budget box budget depth c 0 0 (Inside 0) (omega arith),
      rw (add-one depth) (omega (arith, count_due (walked box budget depth c 0 0 (Inside 0)), walked_due box budget depth c 0 0 (Inside 0))),
    ))

pub spent_all : SpentAll
spent_all c box depth budget =
    by_answer c box depth budget (λ v. (reported v).number ≡ spent → count_of v ≡ budget) (λ e. absurd (eqb-false 0 3 refl e))
    (λ f. walked-spent box budget depth c 0 0 (Inside 0) (λ e. absurd (going_unspent (clear {n = 0}) e)))

pub never_spent : NeverSpent
never_spent c box depth =
    by_answer c box depth max_budget (λ v. (reported v).number ≡ spent → ⊥) (λ e. eqb-false 0 3 refl e)
    (λ f s.
    let v = walked box max_budget depth c 0 0 (Inside 0) in
    let whole-budget = walked-spent box max_budget depth c 0 0 (Inside 0) (λ e. absurd (going_unspent (clear {n = 0}) e)) s in
    let shallow = f.effort.shallow in
    let pieces : 2 ^ suc depth ≤ 2 ^ 13 = pow_mono {i = suc depth} {j = 13} (omega arith) in
    omega (arith, spent_due v s, walked_due box max_budget depth c 0 0 (Inside 0), whole-budget, pieces))

pub larger_budget : LargerBudget
larger_budget c box depth budget budget' some larger few unspent =
    go (eqb (search_refusal c box depth budget).number 0) refl
  where
    same : search_refusal c box depth budget' ≡ search_refusal c box depth budget
    same = same-refusal c box depth budget' budget (omega arith) few some (omega arith)

    go : (b : Bool) → eqb (search_refusal c box depth budget).number 0 ≡ b → searched c box depth budget' ≡ searched c box depth budget
    go true e =
        let f = number_facts c box depth budget (eqb-true (search_refusal c box depth budget).number 0 e) in
        let unended = subst (λ (a : SearchAnswer). (reported a.verdict).number ≡ spent → ⊥) (searched-accepted c box depth budget f) unspent in
        searched-accepted c box depth budget' (record { accepted = f.accepted; sides = f.sides; effort = record { shallow = f.effort.shallow; some = omega arith; few = few; room = f.effort.room } })
        ∙ ap (λ (v : Verdict). answer v none) (sym (walked_larger box budget budget' larger depth c 0 0 (Inside 0) (omega arith) unended))
        ∙ sym (searched-accepted c box depth budget f)
    go false e =
        searched-refused c box depth budget' (ap (λ (r : Refusal). eqb r.number 0) same ∙ e) ∙ ap (answer Refused) same
        ∙ sym (searched-refused c box depth budget e)
