-- `give_card` meets its contract: the curve on the card, unless it is refused or there is no room.
use Rattle.std.proofs.Common.{◌≤◌, sym, subst}
use Rattle.curve.specs.Limits.{max_degree}
use Rattle.card_text.specs.declared.CardRead.{CardRead}
use Rattle.foreign.proofs.Answer.{handed_up, refused}
use Rattle.foreign.proofs.Numbers.{card_few}
use Rattle.foreign.proofs.giving.give_card.Goals as goal

pub give_curve-requires : goal.give_curve-requires
give_curve-requires c = subst (λ (r : CardRead). r.curve.degree ≤ max_degree) (sym c.in_ok-try_read_card.ensures) (card_few c.args.card.now)

pub returns-in_err-try_read_card : goal.returns-in_err-try_read_card
returns-in_err-try_read_card c = rw (handed_up c.from_residual.result _ c.from_residual.ensures.1, ← c.in_err-try_read_card.ensures) (refused _ _ _)
