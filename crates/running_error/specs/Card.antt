-- The record's sum of steps is true for every curve that is reached from an accepted card: a corollary, since reading a card sets the sum to 0.
-- Assumes nothing.
use Rattle.std.specs.Prelude.{◌≡◌, List, ℕ}
use Rattle.curve.specs.Refusals.{none}
use Rattle.card_text.specs.Reading.{read_card}
use Rattle.ledger.specs.Ledger.{Call}
use Rattle.running_error.specs.Claim.{TrueFrom}

abbrev pub CardSumIsTrue : Type 0
CardSumIsTrue = (card : List ℕ) → (read_card card).refusal ≡ none → (calls : List Call) → TrueFrom (read_card card).curve calls
