-- `walk` meets its contract: it walks a piece by the definition's visits, and the count of each verdict stays within the budget.
use Rattle.std.proofs.Common.{◌≡◌, ℕ, ◌+◌, ◌≤◌, sym, ap, ◌∙◌, subst, arith}
use Rattle.curve.specs.declared.Rect.{Rect}
use Rattle.curve.specs.declared.Curve.{Curve}
use Rattle.search.specs.declared.Verdict.{Verdict}
use Rattle.search.specs.declared.Verdict.TheVariants.{Spent, Outside}
use Rattle.search.specs.declared.visit.Visit.TheVariants.{Ended, Exhausted, Contained, Apart, Across}
use Rattle.search.specs.declared.piece.Piece.{Piece}
use Rattle.search.specs.Walk.{count_of, looked, noted, visit_at}
use Rattle.search.proofs.Visits.{visit_looks, further_limit}
use Rattle.search.proofs.PieceWalk.{walked_of, visited, crossed}
use Rattle.search.proofs.Counts.{looked_budget, walked_budget}
use Rattle.search.proofs.Due.{room}
use Rattle.search.proofs.visit.Task.+walk.Goals as goal

-- the count after a piece that was looked at is within the budget
seen_counted :
    (box : Rect) (budget : ℕ) (piece : Curve) (v seen : Verdict) → count_of v ≤ budget → Across ≡ visit_at box budget piece v → seen ≡ looked v →
    count_of seen ≤ budget
seen_counted box budget piece v seen counted e is =
    subst (λ (u : Verdict). count_of u ≤ budget) (sym is) (looked_budget box budget v (visit_looks box budget piece v Across (sym e) tt) counted)

-- and so it is after a piece's walk
counted : (box : Rect) (budget : ℕ) (p : Piece) (v u : Verdict) → u ≡ walked_of box budget p v → count_of v ≤ budget → count_of u ≤ budget
counted box budget p v u is h = subst (λ (w : Verdict). count_of w ≤ budget) (sym is) (walked_budget box budget p.below p.curve p.depth p.index v h)

pub looked-requires : goal.looked-requires
looked-requires t c =
    let a = c.args in
    room a.self.budgeted c.requires (visit_looks a.self.limits a.self.budget a.piece.now.curve a.before Contained (sym c.in-Contained.ensures) tt)

pub looked-seen-requires : goal.looked-seen-requires
looked-seen-requires t c =
    let a = c.args in
    room a.self.budgeted c.requires (visit_looks a.self.limits a.self.budget a.piece.now.curve a.before Across (sym c.in-Across.ensures) tt)

pub walk-half-requires : goal.walk-half-requires
walk-half-requires t c =
    let a = c.args in (
      omega (arith, c.in-Some.ensures.former.left),
      seen_counted a.self.limits a.self.budget a.piece.now.curve a.before c.looked-seen.result c.requires c.in-Across.ensures c.looked-seen.ensures,
    )

pub walk-requires : goal.walk-requires
walk-requires t c =
    let a = c.args in (
      omega (arith, c.in-Some.ensures.latter.left),
      counted a.self.limits a.self.budget c.in-Some.left c.looked-seen.result c.walk-half.result c.walk-half.ensures
          (seen_counted a.self.limits a.self.budget a.piece.now.curve a.before c.looked-seen.result c.requires c.in-Across.ensures c.looked-seen.ensures),
    )

pub returns-in-Ended : goal.returns-in-Ended
returns-in-Ended t c =
    let a = c.args in
    visited a.self.limits a.self.budget a.piece.now a.before Ended c.in-Ended.ensures

pub returns-in-Exhausted : goal.returns-in-Exhausted
returns-in-Exhausted t c =
    let a = c.args in
    ap Spent c.count.ensures ∙ visited a.self.limits a.self.budget a.piece.now a.before Exhausted c.in-Exhausted.ensures

pub returns-in-Contained : goal.returns-in-Contained
returns-in-Contained t c =
    let a = c.args in
    c.looked.ensures ∙ visited a.self.limits a.self.budget a.piece.now a.before Contained c.in-Contained.ensures

pub returns-in-Apart : goal.returns-in-Apart
returns-in-Apart t c =
    let a = c.args in
    ap (λ (n : ℕ). Outside a.piece.now.depth a.piece.now.index (n + 1)) c.count-in-Apart.ensures
    ∙ visited a.self.limits a.self.budget a.piece.now a.before Apart c.in-Apart.ensures

pub returns-in-None : goal.returns-in-None
returns-in-None t c =
    let a = c.args in
    c.noted.ensures ∙ ap (noted a.piece.now.depth a.piece.now.index) c.looked-seen.ensures
    ∙ further_limit a.self.limits a.self.budget a.piece.now.below a.piece.now.curve a.piece.now.depth a.piece.now.index (looked a.before) c.in-None.ensures
    ∙ visited a.self.limits a.self.budget a.piece.now a.before Across c.in-Across.ensures

pub returns-in-Some : goal.returns-in-Some
returns-in-Some t c =
    let a = c.args in
    let h = c.in-Some in
    crossed a.self.limits a.self.budget a.piece.now h.left h.right h.ensures a.before c.looked-seen.result c.walk-half.result c.walk.result
    c.in-Across.ensures c.looked-seen.ensures c.walk-half.ensures c.walk.ensures
