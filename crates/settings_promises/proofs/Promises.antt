-- The promises: what is chosen is the first record that fits, it is safe to hold, and nothing behind it is read.
-- Assumes nothing.
use mathlib.Core.Path.{◌≡◌, sym, ap, ap₂, ◌∙◌, subst}
use mathlib.Core.Bool.{true, false, cond}
use mathlib.Core.List.{List, ◌++◌}
use Prim.Native.Nat.{ℕ}
use native.Mathlib.Nat.{zero-add}
use native.Mathlib.Omega.{arith}
use borrow.Author.Tests.{eqb-true, eq-eqb, ne_eqb}
use lib.Dec.{T, eqb}
use lib.ListN.{length}
use Rattle.curve.specs.declared.Curve.{Curve}
use Rattle.curve.specs.declared.Refusal.{Refusal}
use Rattle.curve.specs.Curve.{with_sum}
use Rattle.curve.specs.Refusals.{none, ◌or_else◌}
use Rattle.curve.proofs.Refused.{by_number}
use Rattle.curve_promises.proofs.PastUnread as Curves
use Rattle.search.specs.declared.SearchAnswer.{SearchAnswer}
use Rattle.search.specs.Verdict.{inside}
use Rattle.search.specs.Verdict as Verdict
use Rattle.search.specs.Search.{ends_inside}
use Rattle.search_promises.proofs.Meaning as Meaning
use Rattle.search.proofs.Accepted.{searched-refusal}
use Rattle.search_promises.proofs.PastUnread as Walks
use Rattle.search_promises.proofs.SumUnmet as Walk
use Rattle.search_promises.proofs.SumUnmet.{same-curve_unsummed, same_effort_unsummed, searched_unsummed}
use Rattle.settings.specs.declared.Setting.{Setting}
use Rattle.settings.specs.declared.Choice.{Choice}
use Rattle.settings.specs.declared.Choice.TheVariants.{Refused}
use Rattle.settings.specs.declared.ChoiceAnswer.{ChoiceAnswer}
use Rattle.settings.specs.Choice.{Report, reported, fitting}
use Rattle.settings.specs.Settings.{list_refusal, boxes_refusal, settings_refusal, fits, first_of, chosen}
use Rattle.settings_promises.specs.Promises.{record_at, EndsInside, FirstFitting, First, NoneExactly, SafeToHold, LaterUnread, PastUnread, NoSumInside}
use Rattle.settings.proofs.Answers.{answer, chosen-accepted, chosen-refused, chosen-refusal}
use Rattle.settings.proofs.Refused.{settings_settled, effort_accepted, walk_accepted}
use Rattle.settings_promises.proofs.Searching.{Found, found, none_found, nothing_found, same_found}
use Rattle.settings_promises.proofs.Searching as Searching

-- ---- a call that is not refused

module _ (c : Curve) (ss : List Setting) (depth budget : ℕ) where
  -- the choice is that of a refused call, or of the search over an accepted list
  by_choice : (P : Choice → Type 0) → P Refused → (settings_refusal c ss depth budget ≡ none → P (first_of (fits c depth budget) 0 ss)) → P (chosen c ss depth budget).choice
  by_choice P refused accepted =
      by_number (settings_refusal c ss depth budget).number
      (λ h. let e = settings_settled c ss depth budget h in subst (λ (a : ChoiceAnswer). P a.choice) (sym (chosen-accepted c ss depth budget e)) (accepted e))
      (λ e. subst (λ (a : ChoiceAnswer). P a.choice) (sym (chosen-refused c ss depth budget e)) refused)

  -- an answer that a record fits is of an accepted list
  fitting-accepted : (reported (chosen c ss depth budget).choice).number ≡ fitting → settings_refusal c ss depth budget ≡ none
  fitting-accepted = by_choice (λ x. (reported x).number ≡ fitting → settings_refusal c ss depth budget ≡ none) (λ h. let no : (reported Refused).number ≡ fitting = h in absurd (omega arith)) (λ e h. e)

  -- ---- a record that fits

  fits-inside : (s : Setting) → fits c depth budget s ≡ true → EndsInside c s depth budget
  unfolding fits ends_inside
  fits-inside s h = eqb-true _ inside h

  inside-fits : (s : Setting) → EndsInside c s depth budget → fits c depth budget s ≡ true
  unfolding fits ends_inside
  inside-fits s h = eq-eqb _ inside h

  outside_unfit : (s : Setting) → fits c depth budget s ≡ false → EndsInside c s depth budget → ⊥
  outside_unfit s h i = subst T (sym (inside-fits s i) ∙ h) tt

  unfit : (s : Setting) → (EndsInside c s depth budget → ⊥) → fits c depth budget s ≡ false
  unfolding fits ends_inside
  unfit s h = ne_eqb _ inside h

pub first : First
first c ss depth budget =
    by_choice c ss depth budget
    (λ x. (reported x).number ≡ fitting → FirstFitting c ss depth budget (reported x).index (reported x).setting)
    (λ h. let no : (reported Refused).number ≡ fitting = h in absurd (omega arith))
    (λ e h. found_first (found (fits c depth budget) 0 ss h))
  where
    found_first : {r : Report} → Found (fits c depth budget) 0 ss r → FirstFitting c ss depth budget r.index r.setting
    found_first {r} f =
        let index : r.index ≡ f.offset = f.placed ∙ zero-add f.offset in
        subst (λ (k : ℕ). FirstFitting c ss depth budget k r.setting) (sym index) (record {
          listed = f.listed;
          numbered = f.numbered;
          inside = fits-inside c ss depth budget (record_at ss f.offset) f.holds;
          first = λ k l. outside_unfit c ss depth budget (record_at ss k) (f.first k l);
        })

pub none-exactly : NoneExactly
none-exactly c ss depth budget h =
    let accepted = sym (chosen-refusal c ss depth budget) ∙ h in
    let search : (chosen c ss depth budget).choice ≡ first_of (fits c depth budget) 0 ss = ap (λ (a : ChoiceAnswer). a.choice) (chosen-accepted c ss depth budget accepted) in (
      (λ n k l. outside_unfit c ss depth budget (record_at ss k) (none_found (fits c depth budget) 0 ss (ap (λ (x : Choice). (reported x).number) (sym search) ∙ n) k l)),
      (λ none_inside. ap (λ (x : Choice). (reported x).number) (search ∙ nothing_found (fits c depth budget) 0 ss (λ k l. unfit c ss depth budget (record_at ss k) (none_inside k l)))),
    )

pub safe_to_hold : SafeToHold
safe_to_hold c ss depth budget h = Meaning.inside_means c _ depth budget (first c ss depth budget h).inside

pub later_unread : LaterUnread
later_unread c ss more depth budget h longer =
    let accepted = fitting-accepted c ss depth budget h in
    let number : (reported (first_of (fits c depth budget) 0 ss)).number ≡ fitting = ap (λ (a : ChoiceAnswer). (reported a.choice).number) (sym (chosen-accepted c ss depth budget accepted)) ∙ h in
    chosen-accepted c (ss ++ more) depth budget (sym (chosen-refusal c (ss ++ more) depth budget) ∙ longer)
    ∙ ap (λ (x : Choice). answer x none) (Searching.later_unread (fits c depth budget) 0 ss more number) ∙ sym (chosen-accepted c ss depth budget accepted)

pub past_unread : PastUnread
unfolding chosen settings_refusal fits ends_inside
past_unread c e ss depth budget same =
    ap₂ (λ (r : Refusal) (x : Choice). cond (eqb r.number 0) (answer x r) (answer Refused r))
    (ap₂ (λ (r x : Refusal). list_refusal (length ss) or_else r or_else boxes_refusal 0 ss or_else x) (Curves.refusals c e same.rest) (Walks.same_effort c e same depth budget))
    (same_found _ _ (λ s. ap (λ (a : SearchAnswer). eqb (Verdict.reported a.verdict).number inside) (Walks.past_unread c e s.limits depth budget same)) 0 ss)

pub no_sum-inside : NoSumInside
unfolding fits ends_inside settings_refusal
no_sum-inside c ss depth budget h =
    let accepted = sym (chosen-refusal c ss depth budget) ∙ h in
    let effort = effort_accepted c ss depth budget accepted in
    let refusals : settings_refusal c ss depth budget ≡ settings_refusal (with_sum 0 c) ss depth budget =
    ap₂ (λ (r x : Refusal). list_refusal (length ss) or_else r or_else boxes_refusal 0 ss or_else x) (same-curve_unsummed c) (same_effort_unsummed c depth budget effort) in
    record {
      walks = λ k l. Walk.no_sum-inside c (record_at ss k).limits depth budget (searched-refusal c (record_at ss k).limits depth budget ∙ walk_accepted c ss depth budget accepted _ k l);
      answer =
          chosen-accepted c ss depth budget accepted
          ∙ ap (λ (x : Choice). answer x none) (same_found _ _ (λ s. ap (λ (a : SearchAnswer). eqb (Verdict.reported a.verdict).number inside) (searched_unsummed c depth budget effort s.limits)) 0 ss)
          ∙ sym (chosen-accepted (with_sum 0 c) ss depth budget (sym refusals ∙ accepted));
    }
