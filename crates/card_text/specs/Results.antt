-- What a result of reading or writing a card says as an answer of the papers.
use Rattle.std.specs.Prelude.{Result, Ok, Err, ℕ}
use Rattle.curve.specs.declared.Curve.{Curve}
use Rattle.curve.specs.declared.reason.Reason.{Reason}
use Rattle.curve.specs.Curve.{zero_curve}
use Rattle.curve.specs.Refusals.{none}
use Rattle.curve.specs.Reason.{listed}
use Rattle.card_text.specs.declared.CardRead.{CardRead}
use Rattle.card_text.specs.declared.CardWritten.{CardWritten}

abbrev pub as_card_read : Result Curve Reason → CardRead
as_card_read (Ok c) = record { refusal = none; curve = c }
as_card_read (Err e) = record { refusal = listed e; curve = zero_curve }

abbrev pub as_card_written : Result ℕ Reason → CardWritten
as_card_written (Ok length) = record { refusal = none; length = length }
as_card_written (Err e) = record { refusal = listed e; length = 0 }
