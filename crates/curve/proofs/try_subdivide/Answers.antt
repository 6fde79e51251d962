-- Both pieces and the flag are read off the table of an accepted call whose pieces' sum has room.
use mathlib.Core.Path.{sym, ap, ap₂, ◌∙◌, subst}
use mathlib.Core.Bool.{Bool}
use mathlib.Core.List.{List}
use Prim.Native.Nat.{ℕ}
use Rattle.curve.specs.declared.Rect.{Rect}
use Rattle.curve.specs.declared.Subdivision.{Subdivision}
use Rattle.curve.specs.Curve.{piece_sum, left_of, right_of}
use Rattle.curve.specs.Refusals.{none, AcceptedSum}
use Rattle.curve.proofs.Accepted.{accepted_facts, parameter_facts}
use Rattle.curve.proofs.Answers.{subdivision, subdivided-accepted}
use Rattle.curve.proofs.Stages.{taken_begun, table-left, table-right, table-flag}
use Rattle.curve.proofs.try_subdivide.Goals as goal

pub table_of-start-requires-clause-begun : goal.table_of-start-requires-clause-begun
table_of-start-requires-clause-begun c =
    taken_begun c.args.c c.take_sides.new.sides (sym c.in_ok-take_sides.ensures.refusal) c.in_ok-take_sides.ensures.taken

pub table_of-start-requires-clause-factors : goal.table_of-start-requires-clause-factors
table_of-start-requires-clause-factors c =
    (parameter_facts c.args.num c.args.den (sym c.in_ok-check_parameter.ensures)).factors

-- an answer with these control points of its pieces
abbrev pieces : ℕ → ℕ → List Rect → List Rect → Bool → Subdivision
pieces n s x y b = subdivision (record { degree = n; sum = s; points = x }) (record { degree = n; sum = s; points = y }) b none

pub returns : goal.returns
unfolding left_of right_of
returns c =
    let a = c.args in
    let n = a.c.degree in
    let l = c.take_sides.new.sides in
    let t = c.table_of-start in
    let left = t.result.value in
    let right = t.new.right in
    let b = t.result.exact in
    let sum = c.in_ok-sum.ensures.kept ∙ c.piece_sum.ensures in
    let ok = sym c.in_ok-take_sides.ensures.refusal in
    let at = sym c.in_ok-check_parameter.ensures in
    let room = subst AcceptedSum c.piece_sum.ensures (sym c.in_ok-sum.ensures.refusal) in
    let taken = c.in_ok-take_sides.ensures.taken in
    let few = (accepted_facts a.c ok).few in
    let start = (left_of a.c a.num a.den).points in
    let end = (right_of a.c a.num a.den).points in
    let first = c.points_of.ensures ∙ table-left a.c a.num a.den l left right b few taken t.ensures in
    let rest = c.points_of-2.ensures ∙ table-right a.c a.num a.den l left right b few taken t.ensures in
    ap₂ (λ (x y : List Rect). pieces n c.in_ok-sum.sum x y b) first rest
    ∙ ap (λ (s : ℕ). pieces n s start end b) sum
    ∙ ap (pieces n (piece_sum a.c) start end) (table-flag a.c a.num a.den l left right b few taken t.ensures)
    ∙ sym (subdivided-accepted a.c a.num a.den ok at room)
