-- `write_columns` meets its contract: each turn puts one column behind those that stand there.
use Rattle.std.proofs.Common.{◌≡◌, rules, arith, ◌+◌, ◌-◌, ◌*◌, ◌<◌, ◌≤◌, ℕ, ℤ, pos, true, List, length, get_or, take, sym, ap, ◌∙◌, w64, to_z, of_z}
use Rattle.columns.specs.Column.{column}
use Rattle.columns.specs.Line.{placed, columns, all_fit}
use Rattle.columns.proofs.Decode.{column_ten}
use Rattle.columns.proofs.Lines.{fit_at, columns-to, columns-next}
use Rattle.columns.proofs.Placed.{placed-none, placed_then, placed_copy}
use Rattle.columns.proofs.write.write_columns.Goals as goal

-- one column more
column_more : (bytes : List ℕ) (at k : ℕ) (numbers : List ℤ) (out : List ℕ) → all_fit numbers ≡ true → at + 10 * length numbers ≤ length bytes →
    k < length numbers → out ≡ placed bytes at (columns (take k numbers)) →
    placed out (at + 10 * k) (column (get_or numbers k (pos 0))) ≡ placed bytes at (columns (take (k + 1) numbers))
column_more bytes at k numbers out fits room h e =
    placed_then bytes at (10 * k) (columns (take k numbers)) (column (get_or numbers k (pos 0))) out (columns-to numbers k fits (omega arith)) (omega arith) e
    ∙ ap (λ (t : List ℕ). placed bytes at t) (sym (columns-next numbers k h))

pub loop-k-init : goal.loop-k-init
unfolding columns
loop-k-init c = sym (placed-none c.args.out.now c.args.at)

pub column_of-requires : goal.column_of-requires
column_of-requires c =
    let z = get_or c.args.numbers.now c.loop-k.k (pos 0) in
    let same : to_z w64 (of_z w64 z) ≡ z = search rules in
    rw same (fit_at c.args.numbers.now c.loop-k.k c.requires.numbers_value c.loop-k-test.true)

pub loop-k-preserved : goal.loop-k-preserved
loop-k-preserved c =
    let numbers = c.args.numbers.now in
    let z = get_or numbers c.loop-k.k (pos 0) in
    let same : to_z w64 (of_z w64 z) ≡ z = search rules in
    let made : c.column_of.result ≡ column z = rw same at c.column_of.ensures in
    let start = c.args.at + 10 * c.loop-k.k in
    let size : start + 10 - start ≡ length (column z) = omega (arith, column_ten z (fit_at numbers c.loop-k.k c.requires.numbers_value c.loop-k-test.true)) in
    (rw (c.copy_from_slice.ensures.after, made) (placed_copy c.loop-k.out start (start + 10 - start) (column z) size))
    ∙ column_more c.args.out.now c.args.at c.loop-k.k numbers c.loop-k.out c.requires.numbers_value c.requires.numbers_in_bounds c.loop-k-test.true c.loop-k.invariant
