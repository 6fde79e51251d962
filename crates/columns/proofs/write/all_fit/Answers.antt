-- `all_fit` meets its contract: the chain tests each of the numbers.
use Rattle.std.proofs.Common.{rules, ◌∙◌}
use Rattle.std.proofs.lemmas.Iterator.{YieldsList-from_slice}
use Rattle.std.proofs.lemmas.Iterator.Search.{all_from_yields_List}
use mir.ValLaws.{to_z-of_z}
use borrow.Author.Tests.{tests}
use Rattle.columns.specs.Column.{fits_column}
use Rattle.columns.proofs.Lines.{each_fits}
use Rattle.columns.proofs.write.all_fit.Goals as goal

pub returns : goal.returns
returns c =
    all_from_yields_List fits_column _ _ _ c.all.ensures.ran (YieldsList-from_slice c.args.numbers.now cc) (λ x b q k. search (rules, tests, to_z-of_z))
    ∙ each_fits c.args.numbers.now
