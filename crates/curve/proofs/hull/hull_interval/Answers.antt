-- `hull_interval` meets its contract: the library's `min` and `max` are the least and the greatest side.
use Rattle.std.proofs.Common.{◌≡◌, refl, ℤ, arith}
use Rattle.std.proofs.lemmas.Int.{ints}
use Rattle.std.specs.Int.{int_min, int_max}
use Rattle.rational.proofs.Machine.{told}
use Rattle.curve.specs.Rect.{least, greatest, hull_interval}
use Rattle.curve.proofs.hull.hull_interval.Goals as goal

least_is : (a b : ℤ) → int_min a b ≡ least a b
unfolding least
least_is a b = grind (arith, ints)

greatest_is : (a b : ℤ) → int_max a b ≡ greatest a b
unfolding greatest
greatest_is a b = grind (arith, ints)

pub returns : goal.returns
unfolding hull_interval
returns c =
    let i = c.args.i in
    let j = c.args.j in
    rw (told c.min.result (omega arith), told c.max.result (omega arith), c.min.ensures.value, c.max.ensures.value, told i.low (omega arith), told i.high (omega arith), told j.low (omega arith), told j.high (omega arith), least_is i.low j.low, greatest_is i.high j.high) refl
