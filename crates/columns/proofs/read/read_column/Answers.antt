-- `read_column` meets its contract: the ten bytes are a column exactly if they are that of the number that they decode to.
use Rattle.std.proofs.Common.{arith, ◌≡◌, take, drop, sym, ap, ◌∙◌, w64, to_z, of_z}
use lib.ListN.{length-take}
use mir.ValLaws.{to_z-of_z}
use Rattle.std.specs.Cmp.Lexicographic.{same_text, other_text}
use Rattle.columns.specs.Column.{column, decode, read_at}
use Rattle.columns.proofs.Offset.{ten_bytes, too_short, too_long, malformed, well-formed}
use Rattle.columns.proofs.read.read_column.Goals as goal
use Rattle.columns.proofs.read.read_column.Goals.{else-fits_column-via-then-fits_column+else-eq, else-fits_column-via-else-fits_column}

pub returns-in_err-get : goal.returns-in_err-get
returns-in_err-get c =
    c.from_residual.ensures ∙ too_short c.args.s.now c.args.at (omega (arith, c.in_err-get.ensures.lookup.0))

pub returns-in_err-b : goal.returns-in_err-b
returns-in_err-b c =
    c.from_residual-in_err-b.ensures ∙ too_short c.args.s.now c.args.at (omega (arith, c.in_ok-get.ensures.lookup.0.3, c.in_err-b.ensures.lookup.0))

pub returns-then-eq : goal.returns-then-eq
unfolding read_at
returns-then-eq c =
    let ten = take 10 (drop c.args.at c.args.s.now) in
    let p = ten_bytes c.args.s.now c.in_ok-get.field-0.now c.in_ok-b.b.now c.args.at c.in_ok-get.ensures.lookup.0.2 c.in_ok-b.ensures.lookup.0.2 in
    let v : to_z w64 (of_z w64 c.decode-value.result) ≡ decode ten = to_z-of_z w64 _ (record { sfits = c.decode-value.type_inv }) ∙ c.decode-value.ensures ∙ ap decode p in
    let again : c.column_of.result ≡ column (decode ten) = rw v at c.column_of.ensures in
    rw v (well-formed ten (sym again ∙ sym c.as_slice.ensures ∙ sym (same_text c.in_ok-b.b.now c.as_slice.result.now (sym c.if-eq.true ∙ c.eq.ensures)) ∙ p))

pub returns-else-fits_column : goal.returns-else-fits_column
unfolding read_at
returns-else-fits_column c =
    let ten = take 10 (drop c.args.at c.args.s.now) in
    let p = ten_bytes c.args.s.now c.in_ok-get.field-0.now c.in_ok-b.b.now c.args.at c.in_ok-get.ensures.lookup.0.2 c.in_ok-b.ensures.lookup.0.2 in
    let v : to_z w64 (of_z w64 c.decode-value.result) ≡ decode ten = to_z-of_z w64 _ (record { sfits = c.decode-value.type_inv }) ∙ c.decode-value.ensures ∙ ap decode p in
    elim c.else-fits_column.branch [
      | else-fits_column-via-then-fits_column+else-eq w ↦
          let again : w.column_of.result ≡ column (decode ten) = rw v at w.column_of.ensures in
          malformed ten (λ e. other_text c.in_ok-b.b.now w.as_slice.result.now (sym w.if-eq.false ∙ w.eq.ensures) (p ∙ sym e ∙ sym again ∙ sym w.as_slice.ensures))
      | else-fits_column-via-else-fits_column w ↦ too_long ten (simp length-take (omega arith)) (rw v at (sym c.fits_column.ensures ∙ w.if-fits_column.false))
    ]
