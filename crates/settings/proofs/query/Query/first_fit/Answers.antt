-- `first_fit` meets its contract: it ends at the first record that fits.
use Rattle.std.proofs.Common.{sym, ap, ◌∙◌}
use Rattle.curve.specs.declared.Refusal.{Refusal}
use Rattle.settings.specs.Settings.{fits, first_of}
use Rattle.settings.proofs.Refused.{boxes_good}
use Rattle.std.proofs.lemmas.List.{drop_all}
use Rattle.settings.proofs.Lists.{first_fits, first_next}
use Rattle.curve.proofs.Tests.{true_of}
use Rattle.settings.proofs.query.Query.first_fit.Goals as goal

pub fits-requires : goal.fits-requires
fits-requires c = true_of _ (boxes_good 0 c.args.settings.now (ap (λ (r : Refusal). r.number) c.requires.boxed) _ c.loop-at.at c.loop-at-test.true)

pub returns-then-fits : goal.returns-then-fits
returns-then-fits c =
    let q = c.args.self in
    sym (c.loop-at.invariant ∙ first_fits c.args.settings.now _ c.loop-at.at c.loop-at-test.true (fits q.curve q.depth q.budget) (sym c.if-fits.ensures))

pub loop-at-preserved : goal.loop-at-preserved
loop-at-preserved c =
    let q = c.args.self in
    c.loop-at.invariant ∙ first_next c.args.settings.now _ c.loop-at.at c.loop-at-test.true (fits q.curve q.depth q.budget) (sym c.if-fits.ensures)

pub returns : goal.returns
unfolding first_of
returns c =
    let q = c.args.self in
    sym (c.loop-at.invariant ∙ ap (first_of (fits q.curve q.depth q.budget) c.loop-at.at) (drop_all c.loop-at.at c.args.settings.now c.loop-at-test.false))
