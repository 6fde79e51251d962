-- The sum of steps of a curve that is reached from a card: an accepted card reads as an accepted curve with a sum of 0.
-- Assumes nothing.
use mathlib.Core.Path.{ap}
use Rattle.curve.specs.declared.Refusal.{Refusal}
use Rattle.card_text.specs.Reading.{read_card}
use Rattle.card_text_promises.proofs.Promises.{read_is_written, read-sum}
use Rattle.running_error.specs.Card.{CardSumIsTrue}
use Rattle.running_error.proofs.SumIsTrue.{sum_is_true}

pub card_sum_is_true : CardSumIsTrue
card_sum_is_true card h = sum_is_true (read_card card).curve (read_is_written card (ap (λ (r : Refusal). r.number) h)).accepted (read-sum card)
