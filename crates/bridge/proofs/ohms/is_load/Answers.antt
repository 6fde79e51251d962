-- `is_load` meets its contract: the bits without the sign are in the order of the sizes.
use Rattle.std.proofs.Common.{sym, ap, ◌∙◌, not}
use Rattle.bridge.proofs.ByBits.{no_number, load_is}
use Rattle.bridge.proofs.ohms.is_load.Goals as goal

pub returns-then-not-is_nan : goal.returns-then-not-is_nan
returns-then-not-is_nan c = load_is c.args.x c.well_formed.0.1

pub returns-else-not-is_nan : goal.returns-else-not-is_nan
returns-else-not-is_nan c = ap not c.if-not-is_nan.false ∙ sym (no_number _ _ c.args.x (sym c.is_nan.ensures.value ∙ c.if-not-is_nan.false))
