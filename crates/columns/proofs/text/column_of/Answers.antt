-- `column_of` meets its contract: a space is left for each digit and for the minus, and at the end the bytes are the column.
use Rattle.std.proofs.Common.{◌≡◌, true, pos, ℕ, List, ℤ, nat_abs, w64, to_z, of_z, FitsSigned}
use lib.Signed.{lt_z}
use mir.ValLaws.{to_z-of_z}
use Rattle.columns.proofs.Filling.{Filled, start, space_left, turn, digits-short, space_for_minus, column-not-negative, column-negative}
use Rattle.columns.proofs.text.column_of.Goals as goal

-- the invariant, of the value itself
filled : (z : ℤ) (bytes : List ℕ) (first rest : ℕ) → FitsSigned w64 z → Filled (nat_abs (to_z w64 (of_z w64 z))) bytes first rest → Filled (nat_abs z) bytes first rest
filled z bytes first rest fits f = rw (to_z-of_z w64 z fits) at f

pub loop-rest-init : goal.loop-rest-init
loop-rest-init c = rw (c.last_digit.ensures, c.unsigned_abs-m.ensures.value) (start _)

pub overflow_sub-first : goal.overflow_sub-first
overflow_sub-first c =
    let l = c.loop-rest in
    space_left _ l.b l.first l.rest (filled c.args.value l.b l.first l.rest c.ranges.value l.invariant) (digits-short c.args.value c.requires) c.loop-rest-test.true

pub loop-rest-preserved : goal.loop-rest-preserved
loop-rest-preserved c =
    let l = c.loop-rest in
    let space = space_left _ l.b l.first l.rest (filled c.args.value l.b l.first l.rest c.ranges.value l.invariant) (digits-short c.args.value c.requires) c.loop-rest-test.true in
    rw c.last_digit-in-loop-rest.ensures (turn _ l.b l.first l.rest l.invariant c.loop-rest-test.true space)

pub returns-then-negative : goal.returns-then-negative
returns-then-negative c =
    let l = c.loop-rest in
    let f = filled c.args.value l.b l.first l.rest c.ranges.value l.invariant in
    let negative : lt_z c.args.value (pos 0) ≡ true = rw (to_z-of_z w64 c.args.value c.ranges.value) at c.if-negative.true in
    column-negative c.args.value l.b l.first l.rest f c.loop-rest-test.false negative (space_for_minus c.args.value l.b l.first l.rest f c.loop-rest-test.false c.requires negative)

pub overflow_sub-b : goal.overflow_sub-b
overflow_sub-b c =
    let l = c.loop-rest in
    let negative : lt_z c.args.value (pos 0) ≡ true = rw (to_z-of_z w64 c.args.value c.ranges.value) at c.if-negative.true in
    space_for_minus c.args.value l.b l.first l.rest (filled c.args.value l.b l.first l.rest c.ranges.value l.invariant) c.loop-rest-test.false c.requires negative

pub returns-else-negative : goal.returns-else-negative
returns-else-negative c =
    let l = c.loop-rest in
    let f = filled c.args.value l.b l.first l.rest c.ranges.value l.invariant in
    column-not-negative c.args.value l.b l.first l.rest f c.loop-rest-test.false (rw (to_z-of_z w64 c.args.value c.ranges.value) at c.if-negative.false)
