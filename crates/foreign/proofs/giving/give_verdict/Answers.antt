-- `give_verdict` meets its contract where the call within is refused.
use Rattle.foreign.proofs.Answer.{handed_up, refused}
use Rattle.foreign.proofs.giving.give_verdict.Goals as goal

pub returns-in_err-try_search : goal.returns-in_err-try_search
returns-in_err-try_search c = rw (handed_up c.from_residual.result _ c.from_residual.ensures.1, ← c.in_err-try_search.ensures) (refused _ _ _)
