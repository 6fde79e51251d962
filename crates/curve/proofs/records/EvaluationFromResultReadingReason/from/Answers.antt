-- A refused reading's ohms are those of the zero rectangle.
use Rattle.std.proofs.Common.{refl}
use Rattle.curve.proofs.Loads.{zero-ohms}
use Rattle.curve.proofs.records.EvaluationFromResultReadingReason.from.Goals as goal

pub returns-in-Err : goal.returns-in-Err
returns-in-Err c = rw (c.in-Err.is, c.ohms_of.ensures, c.zero_rect-in-Err.ensures, c.zero_rect.ensures, c.from.ensures, zero-ohms) refl
