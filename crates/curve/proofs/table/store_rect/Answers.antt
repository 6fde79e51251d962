-- `store_rect` meets its contract: four stores, one after the other.
use native.Mathlib.Omega.{arith}
use Rattle.rational.proofs.Machine.{told}
use Rattle.curve.proofs.Placed.{stored}
use Rattle.curve.proofs.table.store_rect.Goals as goal

pub returns : goal.returns
returns c =
    let p = c.args.p in
    rw (
      told p.resistance.low (omega arith),
      told p.resistance.high (omega arith),
      told p.reactance.low (omega arith),
      told p.reactance.high (omega arith),
    )
    (stored c.args.sides.now c.args.k p c.told-sides c.requires)
