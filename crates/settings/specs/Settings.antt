-- The answer of `choose_setting` for every curve, list, depth and budget: a refusal with zeros, the first record that fits, or none fits (the paper's fitted list of relay settings).
-- Assumes nothing.
use Rattle.std.specs.Prelude.{Bool, ◌&&◌, cond, List, [], ◌∷◌, ℕ, suc, leb, eqb, length}
use Rattle.curve.specs.declared.Curve.{Curve}
use Rattle.curve.specs.declared.Refusal.{Refusal}
use Rattle.curve.specs.Refusals.{none, refusal, ◌or_else◌, unless_at, curve_refusal}
use Rattle.search.specs.Box.{is_box}
use Rattle.search.specs.Search.{effort_refusal, ends_inside}
use Rattle.settings.specs.declared.Setting.{Setting}
use Rattle.settings.specs.declared.Choice.{Choice}
use Rattle.settings.specs.declared.Choice.TheVariants.{Refused, Fits, NoneFits}
use Rattle.settings.specs.declared.ChoiceAnswer.{ChoiceAnswer}
use Rattle.settings.specs.Limits.{max_settings}

-- ---- refusals

-- 16: the length of the list, which is also the place
unfoldable pub list_refusal : ℕ → Refusal
list_refusal count = unless_at (leb 1 count && leb count max_settings) 16 count

-- 7: the first record whose box is refused, the records being numbered from `index` on
unfoldable pub boxes_refusal : ℕ → List Setting → Refusal
boxes_refusal index [] = none
boxes_refusal index (s ∷ rest) = cond (is_box s.limits) (boxes_refusal (suc index) rest) (refusal 7 index)

-- 16, then the curve's 1 to 3, then 7 over the whole list, then 8, 9 and 17
unfoldable pub settings_refusal : Curve → List Setting → ℕ → ℕ → Refusal
settings_refusal c settings depth budget =
    list_refusal (length settings) or_else curve_refusal c or_else boxes_refusal 0 settings or_else effort_refusal c depth budget

-- ---- the search

-- a record fits: its walk, which begins with the whole budget, ends Inside
unfoldable pub fits : Curve → ℕ → ℕ → Setting → Bool
fits c depth budget s = ends_inside c s.limits depth budget

-- the first record of which the test holds, the records being numbered from `index` on
unfoldable pub first_of : (Setting → Bool) → ℕ → List Setting → Choice
first_of test index [] = NoneFits
first_of test index (s ∷ rest) = cond (test s) (Fits index s.number) (first_of test (suc index) rest)

-- the call
unfoldable pub chosen : Curve → List Setting → ℕ → ℕ → ChoiceAnswer
chosen c settings depth budget =
    let r = settings_refusal c settings depth budget in
    cond (eqb r.number 0)
    (record { refusal = r; choice = first_of (fits c depth budget) 0 settings })
    (record { refusal = r; choice = Refused })
