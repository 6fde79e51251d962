-- `checked_ohms` meets its contract: the test tells whether the ohms are those of the rectangle, or zeros.
use Rattle.std.proofs.Common.{◌≡◌, true, false, cond, Bool, T, sym, ap, ◌∙◌, subst, rules}
use Rattle.curve.specs.Rect.{sides_in_range}
use Rattle.curve.specs.Ohms.{ohms_of, zero_ohms, checked_ohms}
use Rattle.curve.proofs.Accepted.{range_held}
use Rattle.curve.proofs.Loads.{zero-ohms}
use Rattle.curve.proofs.display.checked_ohms.Goals as goal

pub returns-then-not-sides_in_range : goal.returns-then-not-sides_in_range
unfolding checked_ohms
returns-then-not-sides_in_range c =
    let past : sides_in_range c.args.p ≡ false = search rules in
    c.ohms_of.ensures ∙ ap ohms_of c.zero_rect.ensures ∙ zero-ohms ∙ ap (λ (b : Bool). cond b (ohms_of c.args.p) zero_ohms) (sym past)

pub ohms_of-requires-2 : goal.ohms_of-requires-2
ohms_of-requires-2 c =
    let held : sides_in_range c.args.p ≡ true = search rules in
    range_held c.args.p (subst T (sym held) tt)
