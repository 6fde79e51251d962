-- `decode` meets its contract: a small size keeps its value as an i64, and its negation too.
use Rattle.std.proofs.Common.{◌≡◌, arith, true, false, sym, ◌∙◌}
use Rattle.std.proofs.lemmas.Int.{ints}
use Rattle.columns.specs.Column.{has_minus, signed, decode}
use Rattle.columns.proofs.Decode.{any_minus}
use Rattle.columns.proofs.read.decode.Goals as goal

pub returns-then-contains : goal.returns-then-contains
unfolding decode signed
returns-then-contains c =
    let minus : has_minus c.args.b.now ≡ true = sym (any_minus c.args.b.now) ∙ sym c.contains.ensures.value ∙ c.if-contains.true in
    rw (minus, ← c.value_of-m.ensures.0) (omega (arith, ints, c.value_of-m.ensures.1))

pub returns-else-contains : goal.returns-else-contains
unfolding decode signed
returns-else-contains c =
    let none : has_minus c.args.b.now ≡ false = sym (any_minus c.args.b.now) ∙ sym c.contains.ensures.value ∙ c.if-contains.false in
    rw (none, ← c.value_of-m.ensures.0) (omega (arith, ints, c.value_of-m.ensures.1))
