-- `answer_of` meets its contract: number and place of what is refused.
use Rattle.interface.specs.Answer.{place_of, answer_of}
use Rattle.foreign.proofs.answers.answer_of.Goals as goal

pub returns-in-Ok : goal.returns-in-Ok
unfolding place_of answer_of
returns-in-Ok c = rw c.in-Ok.is

pub returns-in-Err : goal.returns-in-Err
unfolding answer_of
returns-in-Err c = rw (c.in-Err.is, c.from-in-Err.ensures, c.place_of.ensures, c.from.ensures, c.from-refusal.ensures)
