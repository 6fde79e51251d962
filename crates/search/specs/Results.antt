-- What a result of the walk says as an answer of the papers.
use Rattle.std.specs.Prelude.{Result, Ok, Err}
use Rattle.curve.specs.declared.reason.Reason.{Reason}
use Rattle.curve.specs.Refusals.{none}
use Rattle.curve.specs.Reason.{listed}
use Rattle.search.specs.declared.Verdict.{Verdict}
use Rattle.search.specs.declared.Verdict.TheVariants.{Refused}
use Rattle.search.specs.declared.SearchAnswer.{SearchAnswer}

abbrev pub as_search_answer : Result Verdict Reason → SearchAnswer
as_search_answer (Ok v) = record { refusal = none; verdict = v }
as_search_answer (Err e) = record { refusal = listed e; verdict = Refused }
