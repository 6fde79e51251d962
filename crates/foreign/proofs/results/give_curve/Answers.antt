-- `give_curve` meets its contract: the curve's numbers stand in front, unless there is no room for them.
use Rattle.std.proofs.Common.{◌∙◌}
use Rattle.interface.proofs.Numbers.{length_by_degree}
use Rattle.foreign.proofs.Answer.{handed_up, listed_kept, value_given}
use Rattle.foreign.proofs.results.give_curve.Goals as goal

pub returns-in_err-check_room-clause-refusal : goal.returns-in_err-check_room-clause-refusal
returns-in_err-check_room-clause-refusal c =
    rw (handed_up c.from_residual.result _ c.from_residual.ensures.1)
    (rw (length_by_degree c.args.c c.curve_length.ensures) at c.in_err-check_room.ensures.refusal)

pub returns-in_err-check_room-clause-stored : goal.returns-in_err-check_room-clause-stored
returns-in_err-check_room-clause-stored c =
    rw (handed_up c.from_residual.result _ c.from_residual.ensures.1) (listed_kept c.in_err-check_room.field-0.0 _ _)

pub store_curve-requires-clause-c_in_bounds : goal.store_curve-requires-clause-c_in_bounds
store_curve-requires-clause-c_in_bounds c = rw (length_by_degree c.args.c c.curve_length.ensures) at c.in_ok-check_room.ensures.enough

pub returns-clause-refusal : goal.returns-clause-refusal
returns-clause-refusal c = rw (length_by_degree c.args.c c.curve_length.ensures) at c.in_ok-check_room.ensures.refusal

pub returns-clause-stored : goal.returns-clause-stored
returns-clause-stored c = c.store_curve.ensures ∙ value_given _ _
