-- `measurement_from` meets its contract: the slice's length tells the form.
use Rattle.std.proofs.Common.{◌≡◌, length, get_or, arith}
use lib.Ieee.{nan, of_bits}
use lib.ListN.{get_or-eq_default}
use borrow.Author.Tests.{eq-eqb, ne_eqb, le-leb, lt-leb}
use Rattle.interface.specs.Numbers.{spread_from, measurement_from}
use Rattle.foreign.proofs.given.measurement_from.Goals as goal

pub returns-in-empty : goal.returns-in-empty
unfolding measurement_from
returns-in-empty c = rw (eq-eqb (length c.args.ohms.now) 0 (omega arith))

pub returns-in-len1 : goal.returns-in-len1
unfolding measurement_from of_bits
returns-in-len1 c =
    let n = length c.args.ohms.now in
    let lacks : get_or c.args.ohms.now 1 nan ≡ nan = get_or-eq_default c.args.ohms.now nan {n = 1} (omega arith) in
    rw (ne_eqb n 0 (λ e. absurd (omega arith)), le-leb n 2 (omega arith), lacks)

pub returns-in-len2 : goal.returns-in-len2
unfolding measurement_from
returns-in-len2 c =
    let n = length c.args.ohms.now in
    rw (ne_eqb n 0 (λ e. absurd (omega arith)), le-leb n 2 (omega arith))

pub returns-in-len3 : goal.returns-in-len3
unfolding spread_from measurement_from
returns-in-len3 c =
    let n = length c.args.ohms.now in
    rw (ne_eqb n 0 (λ e. absurd (omega arith)), lt-leb n 2 (omega arith), eq-eqb n 3 (omega arith))

pub returns-in-len2-up : goal.returns-in-len2-up
unfolding spread_from measurement_from of_bits
returns-in-len2-up c =
    let n = length c.args.ohms.now in
    rw (ne_eqb n 0 (λ e. absurd (omega arith)), lt-leb n 2 (omega arith), ne_eqb n 3 (λ e. absurd (omega arith)))
