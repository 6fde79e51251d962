-- `give` meets its contract: the numbers stand in front, unless there is no room for them.
use Rattle.std.proofs.Common.{◌∙◌}
use Rattle.foreign.proofs.Answer.{handed_up, listed_kept, value_given}
use Rattle.foreign.proofs.Lent.{front-first}
use Rattle.foreign.proofs.results.give.Goals as goal

pub returns-in_err-check_room-clause-stored : goal.returns-in_err-check_room-clause-stored
returns-in_err-check_room-clause-stored g c =
    rw (handed_up c.from_residual.result _ c.from_residual.ensures.1) (listed_kept c.in_err-check_room.field-0.0 _ _)

pub returns-clause-stored : goal.returns-clause-stored
returns-clause-stored g c = c.store.ensures ∙ front-first c.args.numbers.now c.args.out.now c.in_ok-check_room.ensures.enough ∙ value_given _ _
