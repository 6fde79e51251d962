-- `halves` meets its contract: a piece above the depth limit is cut without a refusal, and what is known of it holds of its halves.
use Rattle.std.proofs.Common.{arith, ap, ◌≡◌}
use Rattle.std.specs.Prelude.{Result, Ok, Err}
use Rattle.std.specs.Result.{IsOk}
use Rattle.curve.specs.declared.Curve.{Curve}
use Rattle.curve.specs.declared.Rounded.{Rounded}
use Rattle.curve.specs.declared.Subdivision.{Subdivision}
use Rattle.curve.specs.declared.reason.Reason.{Reason}
use Rattle.search.proofs.Cuts.{cut_ok, left_half, right_half}
use Rattle.search.proofs.Due.{half_numbered}
use Rattle.search.proofs.piece.Piece.halves.Goals as goal

-- an error is no value
none_ok : (r : Result (Rounded (Curve × Curve)) Reason) (e : Reason) → r ≡ Err e → IsOk r → ⊥
none_ok (Ok p) e h ok = cc
none_ok (Err f) e h ok = cc

pub returns-in_default : goal.returns-in_default
returns-in_default c =
    let s = c.args.self.now in
    let ok = cut_ok s.curve s.below c.in_ok-below.below s.accepted s.room c.in_ok-below.ensures c.try_subdivide.result c.try_subdivide.ensures in
    absurd (none_ok c.try_subdivide.result c.in_default.field-0 c.in_default.is ok)

pub invariant_of-first : goal.invariant_of-first
invariant_of-first c =
    let s = c.args.self.now in
    let halves = c.in-Ok.ensures in
    let half = left_half s.curve s.below c.in_ok-below.below s.accepted s.room c.in_ok-below.ensures c.in-Ok.pieces.value.0 (ap (λ (x : Subdivision). x.left) halves) in
    record {
      accepted = half.good;
      room = half.spare;
      limited = omega (arith, s.limited, c.in_ok-below.ensures);
      numbered = half_numbered s.depth s.numbered (omega arith);
    }

pub invariant_of-second : goal.invariant_of-second
invariant_of-second c =
    let s = c.args.self.now in
    let halves = c.in-Ok.ensures in
    let half = right_half s.curve s.below c.in_ok-below.below s.accepted s.room c.in_ok-below.ensures c.in-Ok.pieces.value.1 (ap (λ (x : Subdivision). x.right) halves) in
    record {
      accepted = half.good;
      room = half.spare;
      limited = omega (arith, s.limited, c.in_ok-below.ensures);
      numbered = half_numbered s.depth s.numbered (omega arith);
    }
