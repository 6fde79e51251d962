-- `give_pieces` meets its contract: both pieces and their flag, unless the call within is refused or a list is too short.
use Rattle.std.proofs.Common.{◌≤◌, sym, subst}
use Rattle.curve.specs.declared.Subdivision.{Subdivision}
use Rattle.curve.specs.Limits.{max_degree}
use Rattle.curve.proofs.Ranges.{pieces_ranged}
use Rattle.interface.proofs.Numbers.{length_by_degree}
use Rattle.foreign.proofs.Answer.{handed_up, refused_both, short_first, short_second, gives_both}
use Rattle.foreign.proofs.Numbers.{flag_byte}
use Rattle.foreign.proofs.giving.give_pieces.Goals as goal

pub store_curve-requires-clause-degree_le_max_degree : goal.store_curve-requires-clause-degree_le_max_degree
store_curve-requires-clause-degree_le_max_degree c =
    let a = c.args in
    subst (λ (s : Subdivision). s.left.degree ≤ max_degree) (sym c.in_ok-given.ensures) (pieces_ranged a.curve a.num a.den).0.few

pub store_curve-requires-2-clause-degree_le_max_degree : goal.store_curve-requires-2-clause-degree_le_max_degree
store_curve-requires-2-clause-degree_le_max_degree c =
    let a = c.args in
    subst (λ (s : Subdivision). s.right.degree ≤ max_degree) (sym c.in_ok-given.ensures) (pieces_ranged a.curve a.num a.den).1.few

pub returns-in_err-given : goal.returns-in_err-given
returns-in_err-given c = rw (handed_up c.from_residual.result _ c.from_residual.ensures.1, ← c.in_err-given.ensures) (refused_both _ _ _ _ _ _ _)

pub returns-in_err-check_room : goal.returns-in_err-check_room
returns-in_err-check_room c =
    let up = c.from_residual-in_err-check_room in
    let long = length_by_degree c.in_ok-given.given.value.0 c.curve_length.ensures in
    rw (handed_up up.result _ up.ensures.1, ← c.in_ok-given.ensures) (short_first _ _ _ _ _ _ _ (rw long at c.in_err-check_room.ensures.refusal))

pub returns-in_err-check_room-2 : goal.returns-in_err-check_room-2
returns-in_err-check_room-2 c =
    let up = c.from_residual-in_err-check_room-2 in
    let pieces = c.in_ok-given.given.value in
    let long = length_by_degree pieces.0 c.curve_length.ensures in
    let long' = length_by_degree pieces.1 c.curve_length-2.ensures in
    rw (handed_up up.result _ up.ensures.1, ← c.in_ok-given.ensures)
    (short_second _ _ _ _ _ _ (rw long at c.in_ok-check_room.ensures.refusal) _ (rw long' at c.in_err-check_room-2.ensures.refusal))

pub store_curve-requires-clause-c_in_bounds : goal.store_curve-requires-clause-c_in_bounds
store_curve-requires-clause-c_in_bounds c =
    rw (length_by_degree c.in_ok-given.given.value.0 c.curve_length.ensures) at c.in_ok-check_room.ensures.enough

pub store_curve-requires-2-clause-c_in_bounds : goal.store_curve-requires-2-clause-c_in_bounds
store_curve-requires-2-clause-c_in_bounds c =
    rw (length_by_degree c.in_ok-given.given.value.1 c.curve_length-2.ensures) at c.in_ok-check_room-2.ensures.enough

pub returns : goal.returns
returns c =
    let pieces = c.in_ok-given.given.value in
    let long = length_by_degree pieces.0 c.curve_length.ensures in
    let long' = length_by_degree pieces.1 c.curve_length-2.ensures in
    rw (← c.in_ok-given.ensures, c.from.ensures, flag_byte)
    (gives_both _ _ _ _ _ _ (rw long at c.in_ok-check_room.ensures.refusal) (rw long' at c.in_ok-check_room-2.ensures.refusal)
    c.store_curve.ensures c.store_curve-2.ensures)
