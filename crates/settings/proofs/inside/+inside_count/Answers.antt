-- `inside_count` meets its contract: it tells what the definition's walk tells.
use Rattle.std.proofs.Common.{◌∙◌, arith}
use Rattle.search.specs.declared.visit.Visit.TheVariants.{Across}
use Rattle.search.proofs.InsideWalk.{told_contained, told_room, told_limit, told_over, told_none, told_both, half_within}
use Rattle.settings.proofs.inside.+inside_count.Goals as goal

pub returns-in-Contained : goal.returns-in-Contained
returns-in-Contained t c = let a = c.args in told_contained a.task.limits a.task.budget a.piece.now a.before c.in-Contained.ensures

pub returns-in_err-left-in-Across : goal.returns-in_err-left-in-Across
returns-in_err-left-in-Across t c =
    let a = c.args in
    c.from_residual.ensures ∙ told_limit a.task.limits a.task.budget a.piece.now a.before c.in-Across.ensures c.in_err-left-in-Across.ensures

pub inside_count-requires : goal.inside_count-requires
inside_count-requires t c =
    let a = c.args in (
      omega (arith, c.in_ok-left-in-Across.ensures.former.left),
      told_room a.task.limits a.task.budget a.piece.now a.before Across tt c.in-Across.ensures c.requires,
    )

pub returns-in_err-half-in-Across : goal.returns-in_err-half-in-Across
returns-in_err-half-in-Across t c =
    let a = c.args in
    let h = c.in_ok-left-in-Across in
    c.from_residual-in_err-half-in-Across.ensures
    ∙ told_none a.task.limits a.task.budget a.piece.now a.before c.in-Across.ensures h.left h.right h.ensures c.in_err-half-in-Across.ensures

pub inside_count-requires-in-Across : goal.inside_count-requires-in-Across
inside_count-requires-in-Across t c =
    let a = c.args in
    let h = c.in_ok-left-in-Across in (
      omega (arith, h.ensures.latter.left),
      half_within a.task.limits a.task.budget a.piece.now a.before c.in-Across.ensures h.left h.right h.ensures c.in_ok-half-in-Across.half
          (told_room a.task.limits a.task.budget a.piece.now a.before Across tt c.in-Across.ensures c.requires) c.in_ok-half-in-Across.ensures,
    )

pub returns-in_ok-half-in-Across : goal.returns-in_ok-half-in-Across
returns-in_ok-half-in-Across t c =
    let a = c.args in
    let h = c.in_ok-left-in-Across in
    told_both a.task.limits a.task.budget a.piece.now a.before c.in-Across.ensures h.left h.right h.ensures c.in_ok-half-in-Across.half c.inside_count-in-Across.result
    c.in_ok-half-in-Across.ensures c.inside_count-in-Across.ensures

pub returns-in-Ended : goal.returns-in-Ended
returns-in-Ended t c = let a = c.args in told_over a.task.limits a.task.budget a.piece.now a.before c.visit.result c.visit.ensures c.in-Ended.is
