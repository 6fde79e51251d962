-- The load and the flag are read off the table of an accepted call.
use mathlib.Core.Path.{sym, ap₂, ◌∙◌, subst}
use mathlib.Core.Bool.{Bool}
use Rattle.curve.specs.declared.Evaluation.{Evaluation}
use Rattle.curve.specs.declared.Rect.{Rect}
use Rattle.curve.specs.Refusals.{none}
use Rattle.curve.specs.Inner.{Held}
use Rattle.curve.proofs.Accepted.{accepted_facts, parameter_facts}
use Rattle.curve.proofs.Answers.{evaluation, evaluated-accepted}
use Rattle.curve.proofs.Loads.{load-held}
use Rattle.curve.proofs.Stages.{taken_begun, table-load, table-flag}
use Rattle.curve.proofs.try_evaluate.Goals as goal

pub table_of-start-requires-clause-begun : goal.table_of-start-requires-clause-begun
table_of-start-requires-clause-begun c =
    taken_begun c.args.c c.take_sides.new.sides (sym c.in_ok-take_sides.ensures.refusal) c.in_ok-take_sides.ensures.taken

pub table_of-start-requires-clause-factors : goal.table_of-start-requires-clause-factors
table_of-start-requires-clause-factors c =
    (parameter_facts c.args.num c.args.den (sym c.in_ok-check_parameter.ensures)).factors

pub ohms_of-requires : goal.ohms_of-requires
ohms_of-requires c =
    let a = c.args in
    let t = c.table_of-start in
    let ok = sym c.in_ok-take_sides.ensures.refusal in
    let at = sym c.in_ok-check_parameter.ensures in
    let load = table-load a.c a.num a.den c.take_sides.new.sides t.result.value t.new.right t.result.exact (accepted_facts a.c ok).few c.in_ok-take_sides.ensures.taken t.ensures in
    subst Held (sym (c.rect_at-load.ensures ∙ load)) (subst (λ (x : Evaluation). Held x.load) (evaluated-accepted a.c a.num a.den ok at) (load-held a.c a.num a.den))

pub returns : goal.returns
returns c =
    let a = c.args in
    let l = c.take_sides.new.sides in
    let t = c.table_of-start in
    let ok = sym c.in_ok-take_sides.ensures.refusal in
    let at = sym c.in_ok-check_parameter.ensures in
    let taken = c.in_ok-take_sides.ensures.taken in
    let few = (accepted_facts a.c ok).few in
    let load = table-load a.c a.num a.den l t.result.value t.new.right t.result.exact few taken t.ensures in
    let flag = table-flag a.c a.num a.den l t.result.value t.new.right t.result.exact few taken t.ensures in
    rw c.ohms_of.ensures
    (ap₂ (λ (p : Rect) (b : Bool). evaluation p b none) (c.rect_at-load.ensures ∙ load) flag ∙ sym (evaluated-accepted a.c a.num a.den ok at))
