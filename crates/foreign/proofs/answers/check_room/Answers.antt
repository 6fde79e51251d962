-- `check_room` meets its contract: the test of the length.
use Rattle.foreign.proofs.Answer.{room_refusal, room_enough}
use Rattle.foreign.proofs.answers.check_room.Goals as goal

pub returns : goal.returns
returns c =
    let a = c.args in
    record { refusal = rw c.ensure.ensures (room_refusal a.needed a.size); enough = rw c.ensure.ensures (room_enough a.needed a.size) }
