-- `give_elevation` meets its contract: the curve and its flag, unless the call within is refused or there is no room.
use Rattle.std.proofs.Common.{◌≤◌, sym, ◌∙◌, subst}
use Rattle.curve.specs.declared.Elevation.{Elevation}
use Rattle.curve.specs.Limits.{max_degree}
use Rattle.curve.proofs.Ranges.{elevated_ranged}
use Rattle.foreign.proofs.Answer.{handed_up, listed_kept, value_given, refused_number, gives_number}
use Rattle.foreign.proofs.Numbers.{flag_byte}
use Rattle.foreign.proofs.giving.give_elevation.Goals as goal

pub give_curve-requires : goal.give_curve-requires
give_curve-requires c = subst (λ (e : Elevation). e.curve.degree ≤ max_degree) (sym c.in_ok-given.ensures) (elevated_ranged c.args.curve).few

pub returns-in_err-given : goal.returns-in_err-given
returns-in_err-given c = rw (handed_up c.from_residual.result _ c.from_residual.ensures.1, ← c.in_err-given.ensures) (refused_number _ _ _ _ _)

pub returns-in_err-give_curve : goal.returns-in_err-give_curve
returns-in_err-give_curve c =
    let up = c.from_residual-in_err-give_curve in
    let x = c.in_err-give_curve in
    rw (handed_up up.result _ up.ensures.1, ← c.in_ok-given.ensures) (gives_number _ _ x.ensures.refusal x.ensures.stored _ _ _ (listed_kept x.field-0.0 _ _))

pub returns : goal.returns
returns c =
    let x = c.in_ok-give_curve in
    rw (← c.in_ok-given.ensures) (gives_number _ _ x.ensures.refusal x.ensures.stored _ _ _ (c.from.ensures ∙ flag_byte _ ∙ value_given _ _))
