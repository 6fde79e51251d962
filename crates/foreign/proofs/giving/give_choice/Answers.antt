-- `give_choice` meets its contract where the call within is refused.
use Rattle.foreign.proofs.Answer.{handed_up, refused}
use Rattle.foreign.proofs.giving.give_choice.Goals as goal

pub returns-in_err-try_choose_setting-clause-given : goal.returns-in_err-try_choose_setting-clause-given
returns-in_err-try_choose_setting-clause-given c = rw (handed_up c.from_residual.result _ c.from_residual.ensures.1, ← c.in_err-try_choose_setting.ensures.answer) (refused _ _ _)
