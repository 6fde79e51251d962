-- What it means that a list's length, its boxes and the whole call are not refused.
-- Assumes nothing.
use mathlib.Core.Path.{◌≡◌, refl, sym, ap, ◌∙◌}
use mathlib.Core.Bool.{Bool, true, false, ◌&&◌, cond}
use mathlib.Core.List.{List, [], ◌∷◌}
use Prim.Native.Nat.{ℕ, zero, suc, ◌≤◌, ◌<◌}
use native.Mathlib.Nat.{not-suc-le-zero, le_of_suc-le-suc}
use native.Mathlib.Omega.{arith}
use lib.Dec.{T, leb, leb→le}
use lib.ListN.{length, get_or}
use Rattle.curve.specs.declared.Curve.{Curve}
use Rattle.curve.specs.declared.Refusal.{Refusal}
use Rattle.curve.specs.Refusals.{none, ◌or_else◌, refusal, unless_at, curve_refusal}
use Rattle.curve.proofs.Tests.{true_of, both, join, or_split, unless_holds}
use Rattle.curve.proofs.Accepted.{number-accepted}
use Rattle.search.specs.Box.{is_box}
use Rattle.search.specs.Search.{effort_refusal, search_refusal}
use Rattle.search.proofs.Accepted.{Effort, effort_holds, effort_settled, facts_none}
use Rattle.curve.proofs.Listed.{first_is, second_is}
use Rattle.curve.specs.Reason.{listed}
use Rattle.curve.specs.declared.reason.Reason.{Reason}
use Rattle.settings.specs.declared.Setting.{Setting}
use Rattle.settings.specs.Limits.{max_settings}
use Rattle.settings.specs.Settings.{list_refusal, boxes_refusal, settings_refusal}

-- a length that is not refused
pub list_holds : (count : ℕ) → (list_refusal count).number ≡ 0 → (list_refusal count ≡ none) × (1 ≤ count) × (count ≤ max_settings)
unfolding list_refusal
list_holds count h = let (low, high) = both (leb 1 count) (leb count max_settings) (unless_holds (leb 1 count && leb count max_settings) 15 count h) in
    (ap (λ (b : Bool). unless_at b 16 count) (true_of (leb 1 count && leb count max_settings) (join (leb 1 count) (leb count max_settings) low high)), leb→le 1 count low, leb→le count max_settings high)

-- where no box is refused each record has a good one
by_box : (b : Bool) (index : ℕ) (later : Refusal) → (cond b later (refusal 7 index)).number ≡ 0 → T b × (later.number ≡ 0)
by_box true index later h = (tt, h)
by_box false index later h = let no : (refusal 7 index).number ≡ 0 = h in absurd (omega arith)

pub boxes_good : (index : ℕ) (ss : List Setting) → (boxes_refusal index ss).number ≡ 0 → (d : Setting) (k : ℕ) → k < length ss → T (is_box (get_or ss k d).limits)
unfolding boxes_refusal
boxes_good index [] h d k l = absurd (not-suc-le-zero l)
boxes_good index (s ∷ rest) h d zero l = (by_box (is_box s.limits) index _ h).0
boxes_good index (s ∷ rest) h d (suc k) l = boxes_good (suc index) rest (by_box (is_box s.limits) index _ h).1 d k (le_of_suc-le-suc l)

pub boxes_settled : (index : ℕ) (ss : List Setting) → (boxes_refusal index ss).number ≡ 0 → boxes_refusal index ss ≡ none
unfolding boxes_refusal
boxes_settled index [] h = refl
boxes_settled index (s ∷ rest) h =
    let (good, later) = by_box (is_box s.limits) index (boxes_refusal (suc index) rest) h in
    ap (λ (b : Bool). cond b (boxes_refusal (suc index) rest) (refusal 7 index)) (true_of (is_box s.limits) good) ∙ boxes_settled (suc index) rest later

-- ---- the call

module _ (c : Curve) (ss : List Setting) (depth budget : ℕ) where
  -- a reason to refuse it, where all that is tested before holds
  pub length_is : (e : Reason) → listed e ≡ list_refusal (length ss) → listed e ≡ settings_refusal c ss depth budget
  unfolding settings_refusal
  length_is e h = first_is e (list_refusal (length ss)) _ h

  module _ (few : none ≡ list_refusal (length ss)) where
    pub curve_is : (e : Reason) → listed e ≡ curve_refusal c → listed e ≡ settings_refusal c ss depth budget
    unfolding settings_refusal
    curve_is e h = first_is e (curve_refusal c) (boxes_refusal 0 ss or_else effort_refusal c depth budget) h ∙ second_is (list_refusal (length ss)) _ few

    module _ (curve : none ≡ curve_refusal c) where
      pub boxes_is : (e : Reason) → listed e ≡ boxes_refusal 0 ss → listed e ≡ settings_refusal c ss depth budget
      unfolding settings_refusal
      boxes_is e h =
          first_is e (boxes_refusal 0 ss) (effort_refusal c depth budget) h ∙ second_is (curve_refusal c) (boxes_refusal 0 ss or_else effort_refusal c depth budget) curve
          ∙ second_is (list_refusal (length ss)) _ few

      pub effort_is : none ≡ boxes_refusal 0 ss → effort_refusal c depth budget ≡ settings_refusal c ss depth budget
      unfolding settings_refusal
      effort_is boxes =
          second_is (boxes_refusal 0 ss) (effort_refusal c depth budget) boxes ∙ second_is (curve_refusal c) (boxes_refusal 0 ss or_else effort_refusal c depth budget) curve
          ∙ second_is (list_refusal (length ss)) _ few

  -- a call whose refusal has the number 0
  parts :
      (settings_refusal c ss depth budget).number ≡ 0 →
      ((list_refusal (length ss)).number ≡ 0) × ((curve_refusal c).number ≡ 0) × ((boxes_refusal 0 ss).number ≡ 0) × ((effort_refusal c depth budget).number ≡ 0)
  unfolding settings_refusal
  parts h =
      let (list-zero, past-list) = or_split (list_refusal (length ss)) _ h in
      let (curve-zero, past-curve) = or_split (curve_refusal c) _ past-list in
      let (boxes-zero, effort-zero) = or_split (boxes_refusal 0 ss) _ past-curve in
      (list-zero, curve-zero, boxes-zero, effort-zero)

  pub settings_settled : (settings_refusal c ss depth budget).number ≡ 0 → settings_refusal c ss depth budget ≡ none
  settings_settled h =
      let (list-zero, curve-zero, boxes-zero, effort-zero) = parts h in
      sym (sym (effort_settled c depth budget effort-zero)
      ∙ effort_is (sym (list_holds (length ss) list-zero).0) (sym (number-accepted c curve-zero)) (sym (boxes_settled 0 ss boxes-zero)))

  -- so no walk over a record's box is refused
  module _ (accepted : settings_refusal c ss depth budget ≡ none) where
    zeros : ((list_refusal (length ss)).number ≡ 0) × ((curve_refusal c).number ≡ 0) × ((boxes_refusal 0 ss).number ≡ 0) × ((effort_refusal c depth budget).number ≡ 0)
    zeros = parts (ap (λ (r : Refusal). r.number) accepted)

    pub effort_accepted : Effort c depth budget
    effort_accepted = let (list-zero, curve-zero, boxes-zero, effort-zero) = zeros in effort_holds c depth budget effort-zero

    pub walk_accepted : (d : Setting) (k : ℕ) → k < length ss → search_refusal c (get_or ss k d).limits depth budget ≡ none
    walk_accepted d k l =
        let (list-zero, curve-zero, boxes-zero, effort-zero) = zeros in
        facts_none c (get_or ss k d).limits depth budget
        (record { accepted = number-accepted c curve-zero; sides = boxes_good 0 ss boxes-zero d k l; effort = effort_accepted })
