-- `rounded_load` meets its contract, by its four sides.
use Rattle.rational.specs.Rounding.{down, up}
use Rattle.curve.specs.Rect.{resistance, reactance}
use Rattle.sixteenths.proofs.rounding.rounded_load.Goals as goal

pub divided-rlow-requires-clause-sum_bound : goal.divided-rlow-requires-clause-sum_bound
divided-rlow-requires-clause-sum_bound c = c.requires.small_quotients.most resistance down

pub divided-rhigh-requires-clause-sum_bound : goal.divided-rhigh-requires-clause-sum_bound
divided-rhigh-requires-clause-sum_bound c = c.requires.small_quotients.most resistance up

pub divided-xlow-requires-clause-sum_bound : goal.divided-xlow-requires-clause-sum_bound
divided-xlow-requires-clause-sum_bound c = c.requires.small_quotients.most reactance down

pub divided-xhigh-requires-clause-sum_bound : goal.divided-xhigh-requires-clause-sum_bound
divided-xhigh-requires-clause-sum_bound c = c.requires.small_quotients.most reactance up
