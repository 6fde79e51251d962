-- The answer of `search` for every input: a refusal with zeros, or the verdict of the walk.
-- Assumes nothing.
use Rattle.std.specs.Prelude.{Bool, ◌&&◌, cond, ℕ, ◌+◌, ◌*◌, leb, eqb}
use Rattle.curve.specs.declared.Rect.{Rect}
use Rattle.curve.specs.declared.Curve.{Curve}
use Rattle.curve.specs.declared.Refusal.{Refusal}
use Rattle.curve.specs.Refusals.{◌or_else◌, unless, curve_refusal, sum_refusal}
use Rattle.search.specs.declared.SearchAnswer.{SearchAnswer}
use Rattle.search.specs.declared.Verdict.TheVariants.{Refused, Inside}
use Rattle.search.specs.Limits.{max_depth, max_budget}
use Rattle.search.specs.Verdict.{reported, inside}
use Rattle.search.specs.Box.{is_box}
use Rattle.search.specs.Walk.{walked}

-- the sum of steps of the deepest pieces: so many cuts, and each adds the degree
abbrev pub deepest_sum : Curve → ℕ → ℕ
deepest_sum c depth = c.sum + depth * c.degree

-- 8: the depth limit; 9: the budget; 17: the deepest pieces' sum of steps
unfoldable pub effort_refusal : Curve → ℕ → ℕ → Refusal
effort_refusal c depth budget =
    unless (leb depth max_depth) 8 or_else unless (leb 1 budget && leb budget max_budget) 9 or_else sum_refusal (deepest_sum c depth)

-- 7: the box; then 8, 9 and 17
unfoldable pub box_refusal : Curve → Rect → ℕ → ℕ → Refusal
box_refusal c box depth budget = unless (is_box box) 7 or_else effort_refusal c depth budget

-- refusals 1 to 3, then 7 to 9 and 17
unfoldable pub search_refusal : Curve → Rect → ℕ → ℕ → Refusal
search_refusal c box depth budget = curve_refusal c or_else box_refusal c box depth budget

-- the whole curve is the piece of depth 0 and index 0, and no piece is looked at yet
unfoldable pub searched : Curve → Rect → ℕ → ℕ → SearchAnswer
searched c box depth budget =
    let r = search_refusal c box depth budget in
    let verdict = walked box budget depth c 0 0 (Inside 0) in
    cond (eqb r.number 0) (record { refusal = r; verdict = verdict }) (record { refusal = r; verdict = Refused })

-- the walk ends Inside; a refused one does not
unfoldable pub ends_inside : Curve → Rect → ℕ → ℕ → Bool
ends_inside c box depth budget = eqb (reported (searched c box depth budget).verdict).number inside
