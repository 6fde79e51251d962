-- A reason that is passed on says the same of the call.
use Rattle.std.proofs.Common.{◌≡◌, ap, Result, Ok, Err, IsErrAnd}
use Rattle.curve.specs.declared.reason.Reason.{Reason}
use Rattle.curve.specs.Reason.{listed, refusal_of}

pub passed_on : {A : Type 0} (r : Result A Reason) (e : Reason) → IsErrAnd r (λ x. x ≡ e) → refusal_of r ≡ listed e
passed_on (Err x) e h = ap listed h
passed_on (Ok a) e h = absurd h
