-- `give_reading` meets its contract: the load, its ohms and the flag, unless the call within is refused or a list is too short.
use Rattle.foreign.proofs.Answer.{handed_up, refused_both, short_first, short_second, gives_both}
use Rattle.foreign.proofs.Lent.{front_stored}
use Rattle.foreign.proofs.Numbers.{flag_byte}
use Rattle.foreign.proofs.giving.give_reading.Goals as goal

pub returns-in_err-given : goal.returns-in_err-given
returns-in_err-given c = rw (handed_up c.from_residual.result _ c.from_residual.ensures.1, c.in_err-given.was) (refused_both _ _ _ _ _ _ _)

pub returns-in_err-check_room : goal.returns-in_err-check_room
returns-in_err-check_room c =
    let up = c.from_residual-in_err-check_room in
    rw (handed_up up.result _ up.ensures.1, c.in_ok-given.was) (short_first _ _ _ _ _ _ _ c.in_err-check_room.ensures.refusal)

pub returns-in_err-check_room-2 : goal.returns-in_err-check_room-2
returns-in_err-check_room-2 c =
    let up = c.from_residual-in_err-check_room-2 in
    rw (handed_up up.result _ up.ensures.1, c.in_ok-given.was)
    (short_second _ _ _ _ _ _ c.in_ok-check_room.ensures.refusal _ c.in_err-check_room-2.ensures.refusal)

pub store-requires : goal.store-requires
store-requires c = rw c.sides.ensures c.in_ok-check_room.ensures.enough

pub store-requires-2 : goal.store-requires-2
store-requires-2 c = rw c.ohm_numbers.ensures c.in_ok-check_room-2.ensures.enough

pub returns : goal.returns
returns c =
    let first = c.in_ok-check_room.ensures in
    let second = c.in_ok-check_room-2.ensures in
    rw (c.in_ok-given.was, c.from.ensures, flag_byte)
    (gives_both _ _ _ _ _ _ first.refusal second.refusal
    (front_stored _ _ _ c.store.ensures c.sides.ensures first.enough) (front_stored _ _ _ c.store-2.ensures c.ohm_numbers.ensures second.enough))
