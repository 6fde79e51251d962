-- What it means that a walk is not refused, and its answer by whether it is.
-- Assumes nothing.
use mathlib.Core.Path.{◌≡◌, refl, sym, ap, ◌∙◌, subst}
use mathlib.Core.Bool.{false, ◌&&◌}
use Prim.Native.Nat.{ℕ, ◌≤◌}
use lib.Dec.{T, leb, eqb, leb→le, le→leb}
use Rattle.curve.specs.declared.Rect.{Rect}
use Rattle.curve.specs.declared.Curve.{Curve}
use Rattle.curve.specs.declared.Refusal.{Refusal}
use Rattle.curve.specs.Refusals.{none, ◌or_else◌, unless, curve_refusal, sum_refusal, Accepted, AcceptedSum}
use Rattle.curve.proofs.Refused.{by_number}
use Rattle.curve.proofs.Tests.{or_split, or_none, unless_holds, unless-none, between_holds, between_none}
use Rattle.curve.proofs.Accepted.{number-accepted, number-accepted-sum}
use Rattle.curve.proofs.Answers.{where_none, where_some, in_both}
use Rattle.search.specs.declared.SearchAnswer.{SearchAnswer}
use Rattle.search.specs.declared.Verdict.{Verdict}
use Rattle.search.specs.declared.Verdict.TheVariants.{Refused, Inside}
use Rattle.search.specs.Limits.{max_depth, max_budget}
use Rattle.search.specs.Box.{is_box}
use Rattle.search.specs.Walk.{walked}
use Rattle.search.specs.Results.{as_search_answer}
use Rattle.curve.proofs.Listed.{listed_some, first_is, second_is}
use Rattle.curve.specs.Reason.{listed}
use Rattle.curve.specs.declared.reason.Reason.{Reason}
use borrow.Author.Tests.{ne_eqb}
use Rattle.std.specs.Prelude.{Err}
use Rattle.search.specs.Search.{effort_refusal, box_refusal, deepest_sum, search_refusal, searched}

abbrev pub answer : Verdict → Refusal → SearchAnswer
answer v r = record { refusal = r; verdict = v }

-- what it means that depth, budget and the deepest sum are not refused
pub record Effort (c : Curve) (depth budget : ℕ) : Type 0 where
  pub shallow : depth ≤ max_depth
  pub some : 1 ≤ budget
  pub few : budget ≤ max_budget
  pub room : AcceptedSum (deepest_sum c depth)

module _ (c : Curve) (depth budget : ℕ) where
  pub effort_holds : (effort_refusal c depth budget).number ≡ 0 → Effort c depth budget
  unfolding effort_refusal
  effort_holds h =
      let (depth-none, rest) = or_split (unless (leb depth max_depth) 8) (unless (leb 1 budget && leb budget max_budget) 9 or_else sum_refusal (deepest_sum c depth)) h in
      let (budget-none, last) = or_split (unless (leb 1 budget && leb budget max_budget) 9) (sum_refusal (deepest_sum c depth)) rest in
      let (low, high) = between_holds budget max_budget 8 budget-none in
      record {
        shallow = leb→le depth max_depth (unless_holds (leb depth max_depth) 7 0 depth-none);
        some = low;
        few = high;
        room = number-accepted-sum (deepest_sum c depth) last;
      }

  pub effort_none : Effort c depth budget → effort_refusal c depth budget ≡ none
  unfolding effort_refusal
  effort_none e =
      or_none (unless (leb depth max_depth) 8) _ (unless-none (leb depth max_depth) 8 (le→leb depth max_depth e.shallow))
      ∙ or_none (unless (leb 1 budget && leb budget max_budget) 9) _ (between_none budget max_budget 9 e.some e.few)
      ∙ e.room

  pub effort_settled : (effort_refusal c depth budget).number ≡ 0 → effort_refusal c depth budget ≡ none
  effort_settled h = effort_none (effort_holds h)

-- what is known of a walk that is not refused
pub record Facts (c : Curve) (box : Rect) (depth budget : ℕ) : Type 0 where
  pub accepted : Accepted c
  pub sides : T (is_box box)
  pub effort : Effort c depth budget

module _ (c : Curve) (box : Rect) (depth budget : ℕ) where
  pub number_facts : (search_refusal c box depth budget).number ≡ 0 → Facts c box depth budget
  unfolding search_refusal box_refusal
  number_facts h =
      let (curve-none, rest) = or_split (curve_refusal c) (box_refusal c box depth budget) h in
      let (box-none, effort) = or_split (unless (is_box box) 7) (effort_refusal c depth budget) rest in
      record { accepted = number-accepted c curve-none; sides = unless_holds (is_box box) 6 0 box-none; effort = effort_holds c depth budget effort }

  pub facts_none : Facts c box depth budget → search_refusal c box depth budget ≡ none
  unfolding search_refusal box_refusal
  facts_none f =
      or_none (curve_refusal c) _ f.accepted ∙ or_none (unless (is_box box) 7) _ (unless-none (is_box box) 7 f.sides)
      ∙ effort_none c depth budget f.effort

  -- the answer of a walk that is not refused, of one that is, and its refusal
  pub searched-accepted : Facts c box depth budget → searched c box depth budget ≡ answer (walked box budget depth c 0 0 (Inside 0)) none
  unfolding searched
  searched-accepted f = where_none (answer (walked box budget depth c 0 0 (Inside 0))) (answer Refused) (search_refusal c box depth budget) (facts_none f)

  pub searched-refused : eqb (search_refusal c box depth budget).number 0 ≡ false → searched c box depth budget ≡ answer Refused (search_refusal c box depth budget)
  unfolding searched
  searched-refused h = where_some (answer (walked box budget depth c 0 0 (Inside 0))) (answer Refused) (search_refusal c box depth budget) h

  -- a reason to refuse it, where all that is tested before holds
  pub curve_is : (e : Reason) → listed e ≡ curve_refusal c → listed e ≡ search_refusal c box depth budget
  unfolding search_refusal
  curve_is e h = first_is e (curve_refusal c) (box_refusal c box depth budget) h

  pub box_is : (e : Reason) → none ≡ curve_refusal c → listed e ≡ unless (is_box box) 7 → listed e ≡ search_refusal c box depth budget
  unfolding search_refusal box_refusal
  box_is e curve h = first_is e (unless (is_box box) 7) (effort_refusal c depth budget) h ∙ second_is (curve_refusal c) (box_refusal c box depth budget) curve

  pub effort_is : none ≡ curve_refusal c → none ≡ unless (is_box box) 7 → effort_refusal c depth budget ≡ search_refusal c box depth budget
  unfolding search_refusal box_refusal
  effort_is curve sides = second_is (unless (is_box box) 7) (effort_refusal c depth budget) sides ∙ second_is (curve_refusal c) (box_refusal c box depth budget) curve

  pub passed : none ≡ curve_refusal c → none ≡ unless (is_box box) 7 → none ≡ effort_refusal c depth budget → Facts c box depth budget
  passed curve sides effort = number_facts (ap (λ (r : Refusal). r.number) (sym (effort ∙ effort_is curve sides)))

  pub refused_with : (e : Reason) → listed e ≡ search_refusal c box depth budget → as_search_answer (Err e) ≡ searched c box depth budget
  refused_with e h = ap (answer Refused) h ∙ sym (searched-refused (ap (λ (r : Refusal). eqb r.number 0) (sym h) ∙ ne_eqb (listed e).number 0 (listed_some e)))

  pub searched-refusal : (searched c box depth budget).refusal ≡ search_refusal c box depth budget
  unfolding searched
  searched-refusal = in_both (answer (walked box budget depth c 0 0 (Inside 0))) (answer Refused) (search_refusal c box depth budget) (λ x. x.refusal) _ refl refl

  -- what holds of the verdict of a refused walk, and of that of an accepted one, holds of the answer's
  pub by_answer :
      (P : Verdict → Type 0) → P Refused → (Facts c box depth budget → P (walked box budget depth c 0 0 (Inside 0))) →
      P (searched c box depth budget).verdict
  by_answer P refused accepted =
      by_number (search_refusal c box depth budget).number
      (λ h. let f = number_facts h in subst (λ (a : SearchAnswer). P a.verdict) (sym (searched-accepted f)) (accepted f))
      (λ e. subst (λ (a : SearchAnswer). P a.verdict) (sym (searched-refused e)) refused)

-- two budgets from 1 to the largest are refused alike
pub same-refusal :
    (c : Curve) (box : Rect) (depth budget budget' : ℕ) → 1 ≤ budget → budget ≤ max_budget → 1 ≤ budget' → budget' ≤ max_budget →
    search_refusal c box depth budget ≡ search_refusal c box depth budget'
unfolding search_refusal box_refusal effort_refusal
same-refusal c box depth budget budget' some few some' few' =
    ap (λ (r : Refusal). curve_refusal c or_else unless (is_box box) 7 or_else unless (leb depth max_depth) 8 or_else r or_else sum_refusal (deepest_sum c depth))
    (between_none budget max_budget 9 some few ∙ sym (between_none budget' max_budget 9 some' few'))
