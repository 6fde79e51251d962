-- A number's value is its exact one.
-- Assumes nothing.
use Rattle.bridge.proofs.Exact.{value_of}
use Rattle.bridge_promises.specs.Promises.{ExactValue}

pub exact_value : ExactValue
exact_value = value_of
