-- `try_enclose` meets its contract: a load by its spread, which a plain one has at zero, and no carrier by itself.
use Rattle.std.proofs.Common.{◌≡◌, refl, sym, ap, ◌∙◌, Ok, None}
use Rattle.std.specs.Float.{Float}
use Rattle.bridge.specs.declared.Measurement.{Measurement}
use Rattle.bridge.specs.declared.Measurement.TheVariants.{NoCarrier, Load, LoadWithSpread}
use Rattle.bridge.specs.Bridge.{enclosed}
use Rattle.bridge.specs.Results.{as_bridge_answer}
use Rattle.bridge.specs.Inner.{with_spread}
use Rattle.bridge.proofs.Answers.{refused_answer, accepted_answer}
use Rattle.bridge.proofs.ZeroSpread as ZeroSpread
use Rattle.bridge.proofs.try_enclose.Goals.{In-LoadWithSpread}
use Rattle.bridge.proofs.try_enclose.Goals as goal

-- a spread of zero changes no answer
same_answer : (m : Measurement) → enclosed (with_spread m) ≡ enclosed m
same_answer NoCarrier = refl
same_answer (Load r x) = ZeroSpread.same_answer r x
same_answer (LoadWithSpread r x spread) = refl

of-load : (c : In-LoadWithSpread) → enclosed (LoadWithSpread c.in-LoadWithSpread.resistance c.in-LoadWithSpread.reactance c.in-LoadWithSpread.spread) ≡ enclosed c.args.measurement
of-load c = ap enclosed (sym c.in-LoadWithSpread.is ∙ c.with_spread.ensures) ∙ same_answer c.args.measurement

pub returns-in_err-enclose_load-in-LoadWithSpread : goal.returns-in_err-enclose_load-in-LoadWithSpread
returns-in_err-enclose_load-in-LoadWithSpread c =
    refused_answer _ _ _ _ _ c.from_residual.ensures.1 c.in_err-enclose_load-in-LoadWithSpread.ensures.refusal
    ∙ of-load (goal.at.returns-in_err-enclose_load-in-LoadWithSpread c).In-LoadWithSpread

pub returns-in_ok-enclose_load-in-LoadWithSpread : goal.returns-in_ok-enclose_load-in-LoadWithSpread
returns-in_ok-enclose_load-in-LoadWithSpread c =
    let given = c.in_ok-enclose_load-in-LoadWithSpread.ensures in
    accepted_answer _ _ _ _ given.refusal given.rect ∙ of-load (goal.at.returns-in_ok-enclose_load-in-LoadWithSpread c).In-LoadWithSpread

-- what is no load with a spread is no carrier
no_load : (m : Measurement) → ((r x spread : Float) → with_spread m ≡ LoadWithSpread r x spread → ⊥) → as_bridge_answer (Ok None) ≡ enclosed m
unfolding enclosed
no_load NoCarrier k = refl
no_load (Load r x) k = absurd (k _ _ _ refl)
no_load (LoadWithSpread r x spread) k = absurd (k r x spread refl)

pub returns-in_default : goal.returns-in_default
returns-in_default c = no_load c.args.measurement (λ r x s e. c.in_default.not-LoadWithSpread r x s (c.with_spread.ensures ∙ e))
