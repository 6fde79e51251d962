-- `give_bounds` meets its contract where the call within is refused.
use Rattle.foreign.proofs.Answer.{handed_up, refused}
use Rattle.foreign.proofs.giving.give_bounds.Goals as goal

pub returns-in_err-try_bounds : goal.returns-in_err-try_bounds
returns-in_err-try_bounds c = rw (handed_up c.from_residual.result _ c.from_residual.ensures.1, ← c.in_err-try_bounds.ensures) (refused _ _ _)
