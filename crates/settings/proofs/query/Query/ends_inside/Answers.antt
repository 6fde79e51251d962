-- `ends_inside` meets its contract: a walk that is not refused ends Inside exactly if it has a count as one Inside.
use Rattle.std.proofs.Common.{◌∙◌, arith}
use Rattle.curve.proofs.Accepted.{accepted-most}
use Rattle.search.specs.Search.{deepest_sum}
use Rattle.search.proofs.Accepted.{effort_holds}
use Rattle.search.proofs.InsideWalk.{ends-told}
use Rattle.settings.proofs.QueryFacts.{query_facts}
use Rattle.settings.proofs.query.Query.ends_inside.Goals as goal

pub invariant_of-task : goal.invariant_of-task
invariant_of-task c = let q = c.args.self in record { budgeted = (effort_holds q.curve q.depth q.budget q.limited).few }

pub invariant_of-whole : goal.invariant_of-whole
invariant_of-whole c =
    let q = c.args.self in
    let effort = effort_holds q.curve q.depth q.budget q.limited in
    record {
      accepted = q.accepted;
      room = accepted-most (deepest_sum q.curve q.depth) effort.room;
      limited = let shallow = effort.shallow in omega arith;
      numbered = omega arith;
    }

pub returns : goal.returns
returns c =
    let q = c.args.self in
    let box = c.args.limits in
    let f = query_facts q.curve box q.depth q.budget q.accepted q.limited c.requires in
    c.is_some.ensures ∙ ends-told q.curve box q.depth q.budget f c.inside_count.result c.inside_count.ensures
