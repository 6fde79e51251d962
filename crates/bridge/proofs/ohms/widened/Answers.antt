-- `widened` meets its contract: sides moved by a side fit an i32.
use Rattle.std.proofs.Common.{sym, subst₂, arith, ℤ, ◌+ℤ◌, ◌-ℤ◌, w32, FitsSigned}
use Rattle.rational.specs.Rounding.{down, up}
use Rattle.rational.proofs.Order.{+ℤ-mono}
use Rattle.rational.proofs.Machine.{back, within-fits}
use Rattle.curve.specs.Inner.{Side}
use Rattle.curve.proofs.Sides.{side_back}
use Rattle.bridge.proofs.Steps.{negated}
use Rattle.bridge.proofs.ohms.widened.Goals as goal

-- the sum of two sides fits
sum_fits : {a b : ℤ} → Side a → Side b → FitsSigned w32 (a +ℤ b)
sum_fits {a} {b} h k = within-fits 33554431 (a +ℤ b) (omega arith) (+ℤ-mono h.from k.from) (+ℤ-mono h.to k.to)

pub overflow_sub-result : goal.overflow_sub-result
overflow_sub-result c =
    let i = c.requires.sides in
    let by = c.requires.side in
    subst₂ (λ (a b : ℤ). FitsSigned w32 (a -ℤ b)) (sym (side_back (i.at down))) (sym (side_back by)) (sum_fits (i.at down) (negated by))

pub overflow_add-result : goal.overflow_add-result
overflow_add-result c =
    let i = c.requires.sides in
    let by = c.requires.side in
    subst₂ (λ (a b : ℤ). FitsSigned w32 (a +ℤ b)) (sym (side_back (i.at up))) (sym (side_back by)) (sum_fits (i.at up) by)

pub returns : goal.returns
returns c =
    let i = c.requires.sides in
    let by = c.requires.side in
    rw (side_back (i.at down), side_back (i.at up), side_back by, back (sum_fits (i.at down) (negated by)), back (sum_fits (i.at up) by))
