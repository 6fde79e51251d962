-- What a result of the bridge's measurement says as an answer of the papers.
use Rattle.std.specs.Prelude.{Result, Ok, Err, Option, Some, None}
use Rattle.curve.specs.declared.Rect.{Rect}
use Rattle.curve.specs.declared.reason.Reason.{Reason}
use Rattle.curve.specs.Refusals.{none}
use Rattle.curve.specs.Reason.{listed}
use Rattle.bridge.specs.declared.Found.{Found}
use Rattle.bridge.specs.declared.Found.TheVariants.{Refused, NoCarrier, Rectangle}
use Rattle.bridge.specs.declared.BridgeAnswer.{BridgeAnswer}

-- a rectangle, or no carrier
abbrev pub as_found : Option Rect → Found
as_found (Some p) = Rectangle p
as_found None = NoCarrier

abbrev pub as_bridge_answer : Result (Option Rect) Reason → BridgeAnswer
as_bridge_answer (Ok found) = record { refusal = none; found = as_found found }
as_bridge_answer (Err e) = record { refusal = listed e; found = Refused }
