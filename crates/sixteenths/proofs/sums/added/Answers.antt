-- `added` meets its contract: each sum has room for one more product.
use Rattle.rational.specs.Rounding.{down, up}
use Rattle.curve.specs.Rect.{resistance, reactance}
use Rattle.curve.proofs.Sides.{side_passed}
use Rattle.sixteenths.proofs.Lifted.{has_room}
use Rattle.sixteenths.proofs.sums.added.Goals as goal

pub weighed-requires-clause-side : goal.weighed-requires-clause-side
weighed-requires-clause-side c = side_passed ((c.requires.held.at resistance).at down)

pub overflow_add-result : goal.overflow_add-result
overflow_add-result c =
    let r = c.requires in
    has_room c.args.s.rlow c.args.w c.weighed.result (r.roomy.most resistance down) r.w_le_largest_weight (side_passed ((r.held.at resistance).at down)) c.weighed.ensures

pub weighed-requires-2-clause-side : goal.weighed-requires-2-clause-side
weighed-requires-2-clause-side c = side_passed ((c.requires.held.at resistance).at up)

pub overflow_add-result-2 : goal.overflow_add-result-2
overflow_add-result-2 c =
    let r = c.requires in
    has_room c.args.s.rhigh c.args.w c.weighed-2.result (r.roomy.most resistance up) r.w_le_largest_weight (side_passed ((r.held.at resistance).at up)) c.weighed-2.ensures

pub weighed-requires-3-clause-side : goal.weighed-requires-3-clause-side
weighed-requires-3-clause-side c = side_passed ((c.requires.held.at reactance).at down)

pub overflow_add-result-3 : goal.overflow_add-result-3
overflow_add-result-3 c =
    let r = c.requires in
    has_room c.args.s.xlow c.args.w c.weighed-3.result (r.roomy.most reactance down) r.w_le_largest_weight (side_passed ((r.held.at reactance).at down)) c.weighed-3.ensures

pub weighed-requires-4-clause-side : goal.weighed-requires-4-clause-side
weighed-requires-4-clause-side c = side_passed ((c.requires.held.at reactance).at up)

pub overflow_add-result-4 : goal.overflow_add-result-4
overflow_add-result-4 c =
    let r = c.requires in
    has_room c.args.s.xhigh c.args.w c.weighed-4.result (r.roomy.most reactance up) r.w_le_largest_weight (side_passed ((r.held.at reactance).at up)) c.weighed-4.ensures
