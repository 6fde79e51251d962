-- The papers' number and place for each reason to refuse, and the refusal that a result tells.
use Rattle.std.specs.Prelude.{Result, Ok, Err}
use Rattle.curve.specs.declared.Refusal.{Refusal}
use Rattle.curve.specs.declared.reason.Reason.{Reason}
use Rattle.curve.specs.declared.reason.Reason.TheVariants as kind
use Rattle.curve.specs.Refusals.{refusal, none}

-- each kind's number and place
abbrev pub listed : Reason → Refusal
listed kind.Degree = refusal 1 0
listed (kind.SideOutOfRange place) = refusal 2 place
listed (kind.LowAboveHigh place) = refusal 3 place
listed kind.Denominator = refusal 4 0
listed kind.Numerator = refusal 5 0
listed kind.HighestDegree = refusal 6 0
listed (kind.Limits place) = refusal 7 place
listed kind.Depth = refusal 8 0
listed kind.Budget = refusal 9 0
listed (kind.CardLength length) = refusal 10 length
listed (kind.Malformed offset) = refusal 11 offset
listed (kind.BufferTooShort needed) = refusal 12 needed
listed (kind.Measurement place) = refusal 13 place
listed (kind.SideBeyondRange place) = refusal 14 place
listed kind.Sixteenth = refusal 15 0
listed (kind.ListLength length) = refusal 16 length
listed kind.SumOfSteps = refusal 17 0

-- the refusal of a result: none where there is a value
abbrev pub refusal_of : {A : Type 0} → Result A Reason → Refusal
refusal_of (Ok _) = none
refusal_of (Err e) = listed e
