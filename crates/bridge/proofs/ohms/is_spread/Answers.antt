-- `is_spread` meets its contract: a number of no sign by its bits, and minus zero.
use Rattle.std.proofs.Common.{sym, ap, ◌∙◌, not}
use lib.Ieee.{binary32, to_bits}
use borrow.Author.Tests.{le-leb, lt-leb}
use Rattle.rational.proofs.Machine.{or_yes, or_no}
use Rattle.bridge.specs.Inner.{largest}
use Rattle.bridge.proofs.ByBits.{no_number, spread_is}
use Rattle.bridge.proofs.ohms.is_spread.Goals as goal

pub returns-else-not-is_nan : goal.returns-else-not-is_nan
returns-else-not-is_nan c = ap not c.if-not-is_nan.false ∙ sym (no_number _ _ c.args.x (sym c.is_nan.ensures.value ∙ c.if-not-is_nan.false))

pub returns-then-x-le-LARGEST : goal.returns-then-x-le-LARGEST
returns-then-x-le-LARGEST c =
    let x = c.args.x in
    or_yes _ _ (le-leb (to_bits binary32 x) largest c.if-x-le-LARGEST.true) ∙ spread_is x c.well_formed.0.1

pub returns-else-x-le-LARGEST : goal.returns-else-x-le-LARGEST
returns-else-x-le-LARGEST c =
    let x = c.args.x in
    or_no (lt-leb (to_bits binary32 x) largest c.if-x-le-LARGEST.false) ∙ spread_is x c.well_formed.0.1
