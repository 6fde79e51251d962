-- `fits` meets its contract: the first look tells, or the walk does.
use Rattle.std.proofs.Common.{sym, ap, ◌∙◌}
use Rattle.curve.specs.declared.Rect.{Rect}
use Rattle.search.specs.Box.{in_box, apart_from}
use Rattle.search.proofs.InsideWalk.{look_within, look_apart}
use Rattle.settings.specs.Settings.{fits}
use Rattle.settings.proofs.QueryFacts.{query_facts}
use Rattle.settings.proofs.query.Query.fits.Goals as goal

pub returns-then-in_box : goal.returns-then-in_box
unfolding fits
returns-then-in_box c =
    let q = c.args.self in
    let box = c.args.s.limits in
    let f = query_facts q.curve box q.depth q.budget q.accepted q.limited c.requires in
    sym (look_within q.curve box q.depth q.budget f (ap (λ (p : Rect). in_box p box) (sym q.spanned) ∙ sym c.if-in_box.ensures))

pub returns-then-apart_from : goal.returns-then-apart_from
unfolding fits
returns-then-apart_from c =
    let q = c.args.self in
    let box = c.args.s.limits in
    let f = query_facts q.curve box q.depth q.budget q.accepted q.limited c.requires in
    sym (look_apart q.curve box q.depth q.budget f (ap (λ (p : Rect). in_box p box) (sym q.spanned) ∙ sym c.if-in_box.ensures)
    (ap (λ (p : Rect). apart_from p box) (sym q.spanned) ∙ sym c.if-apart_from.ensures))
