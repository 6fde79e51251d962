-- `weights` meets its contract: the rule of the table is computed over all of its 748 entries.
use mathlib.Core.Path.{refl}
use Rattle.bernstein.specs.DeCasteljau.{all_below}
use Rattle.bernstein.specs.Bernstein.{choose}
use Rattle.bernstein.specs.WholeSum.{weight}
use Rattle.sixteenths.specs.Weights.{start, index}
use Rattle.sixteenths.proofs.Table.{every, right, rule_of}
use Rattle.sixteenths.proofs.weights.weights.Goals as goal

pub returns : goal.returns
unfolding every right all_below index start weight choose
returns c = rule_of _ refl refl
