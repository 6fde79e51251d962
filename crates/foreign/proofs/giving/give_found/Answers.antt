-- `give_found` meets its contract: a rectangle is given where there is one, and which of the two was found.
use Rattle.std.proofs.Common.{[], length}
use Rattle.foreign.proofs.Answer.{handed_up, listed_kept, none_needed, value_given, refused_number, gives_number}
use Rattle.foreign.proofs.giving.give_found.Goals as goal

pub returns-in_err-try_enclose : goal.returns-in_err-try_enclose
returns-in_err-try_enclose c = rw (handed_up c.from_residual.result _ c.from_residual.ensures.1, ← c.in_err-try_enclose.ensures) (refused_number _ _ _ _ _)

pub returns-in_err-give-in-Some : goal.returns-in_err-give-in-Some
returns-in_err-give-in-Some c =
    let up = c.from_residual-in_err-give-in-Some in
    let x = c.in_err-give-in-Some in
    rw (handed_up up.result _ up.ensures.1, ← c.in_ok-try_enclose.ensures, c.in-Some.is)
    (gives_number _ _ (rw c.sides.ensures at x.ensures.refusal) (rw c.sides.ensures at x.ensures.stored) _ _ _ (listed_kept x.field-0.0 _ _))

pub returns-in-None : goal.returns-in-None
returns-in-None c =
    let out = c.args.rect.now in
    rw (← c.in_ok-try_enclose.ensures, c.in-None.is) (gives_number [] out (none_needed (length out)) (value_given out out) _ _ _ (value_given _ _))

pub returns-in_ok-give-in-Some : goal.returns-in_ok-give-in-Some
returns-in_ok-give-in-Some c =
    let x = c.in_ok-give-in-Some in
    rw (← c.in_ok-try_enclose.ensures, c.in-Some.is)
    (gives_number _ _ (rw c.sides.ensures at x.ensures.refusal) (rw c.sides.ensures at x.ensures.stored) _ _ _ (value_given _ _))
