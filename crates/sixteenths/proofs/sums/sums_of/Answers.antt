-- `sums_of` meets its contract: the arm of each degree names where its weights begin.
use Rattle.std.proofs.Common.{arith, rules}
use Rattle.sixteenths.specs.Weights.{start}
use Rattle.sixteenths.proofs.Passes.{gives, light}
use Rattle.sixteenths.proofs.sums.sums_of.Goals as goal

pub sums_from-requires-clause-light : goal.sums_from-requires-clause-light
unfolding start
sums_from-requires-clause-light c =
    light 1 c.args.j (omega arith) (omega arith) (omega arith) c.weights_at.result c.weights_at.ensures

pub returns-in-1-clause-sums : goal.returns-in-1-clause-sums
unfolding start
returns-in-1-clause-sums c =
    gives 1 c.args.j (omega arith) (omega arith) (omega arith) c.weights_at.result c.weights_at.ensures c.args.c c.in-1.is (search rules) c.sums_from.result c.sums_from.ensures.sums

pub sums_from-requires-in-2-clause-light : goal.sums_from-requires-in-2-clause-light
unfolding start
sums_from-requires-in-2-clause-light c =
    light 2 c.args.j (omega arith) (omega arith) (omega arith) c.weights_at-in-2.result c.weights_at-in-2.ensures

pub returns-in-2-clause-sums : goal.returns-in-2-clause-sums
unfolding start
returns-in-2-clause-sums c =
    gives 2 c.args.j (omega arith) (omega arith) (omega arith) c.weights_at-in-2.result c.weights_at-in-2.ensures c.args.c c.in-2.is (search rules) c.sums_from-in-2.result c.sums_from-in-2.ensures.sums

pub sums_from-requires-in-3-clause-light : goal.sums_from-requires-in-3-clause-light
unfolding start
sums_from-requires-in-3-clause-light c =
    light 3 c.args.j (omega arith) (omega arith) (omega arith) c.weights_at-in-3.result c.weights_at-in-3.ensures

pub returns-in-3-clause-sums : goal.returns-in-3-clause-sums
unfolding start
returns-in-3-clause-sums c =
    gives 3 c.args.j (omega arith) (omega arith) (omega arith) c.weights_at-in-3.result c.weights_at-in-3.ensures c.args.c c.in-3.is (search rules) c.sums_from-in-3.result c.sums_from-in-3.ensures.sums

pub sums_from-requires-in-4-clause-light : goal.sums_from-requires-in-4-clause-light
unfolding start
sums_from-requires-in-4-clause-light c =
    light 4 c.args.j (omega arith) (omega arith) (omega arith) c.weights_at-in-4.result c.weights_at-in-4.ensures

pub returns-in-4-clause-sums : goal.returns-in-4-clause-sums
unfolding start
returns-in-4-clause-sums c =
    gives 4 c.args.j (omega arith) (omega arith) (omega arith) c.weights_at-in-4.result c.weights_at-in-4.ensures c.args.c c.in-4.is (search rules) c.sums_from-in-4.result c.sums_from-in-4.ensures.sums

pub sums_from-requires-in-5-clause-light : goal.sums_from-requires-in-5-clause-light
unfolding start
sums_from-requires-in-5-clause-light c =
    light 5 c.args.j (omega arith) (omega arith) (omega arith) c.weights_at-in-5.result c.weights_at-in-5.ensures

pub returns-in-5-clause-sums : goal.returns-in-5-clause-sums
unfolding start
returns-in-5-clause-sums c =
    gives 5 c.args.j (omega arith) (omega arith) (omega arith) c.weights_at-in-5.result c.weights_at-in-5.ensures c.args.c c.in-5.is (search rules) c.sums_from-in-5.result c.sums_from-in-5.ensures.sums

pub sums_from-requires-in-6-clause-light : goal.sums_from-requires-in-6-clause-light
unfolding start
sums_from-requires-in-6-clause-light c =
    light 6 c.args.j (omega arith) (omega arith) (omega arith) c.weights_at-in-6.result c.weights_at-in-6.ensures

pub returns-in-6-clause-sums : goal.returns-in-6-clause-sums
unfolding start
returns-in-6-clause-sums c =
    gives 6 c.args.j (omega arith) (omega arith) (omega arith) c.weights_at-in-6.result c.weights_at-in-6.ensures c.args.c c.in-6.is (search rules) c.sums_from-in-6.result c.sums_from-in-6.ensures.sums

pub sums_from-requires-in-7-clause-light : goal.sums_from-requires-in-7-clause-light
unfolding start
sums_from-requires-in-7-clause-light c =
    light 7 c.args.j (omega arith) (omega arith) (omega arith) c.weights_at-in-7.result c.weights_at-in-7.ensures

pub returns-in-7-clause-sums : goal.returns-in-7-clause-sums
unfolding start
returns-in-7-clause-sums c =
    gives 7 c.args.j (omega arith) (omega arith) (omega arith) c.weights_at-in-7.result c.weights_at-in-7.ensures c.args.c c.in-7.is (search rules) c.sums_from-in-7.result c.sums_from-in-7.ensures.sums

pub sums_from-requires-in-8-clause-light : goal.sums_from-requires-in-8-clause-light
unfolding start
sums_from-requires-in-8-clause-light c =
    light 8 c.args.j (omega arith) (omega arith) (omega arith) c.weights_at-in-8.result c.weights_at-in-8.ensures

pub returns-in-8-clause-sums : goal.returns-in-8-clause-sums
unfolding start
returns-in-8-clause-sums c =
    gives 8 c.args.j (omega arith) (omega arith) (omega arith) c.weights_at-in-8.result c.weights_at-in-8.ensures c.args.c c.in-8.is (search rules) c.sums_from-in-8.result c.sums_from-in-8.ensures.sums
