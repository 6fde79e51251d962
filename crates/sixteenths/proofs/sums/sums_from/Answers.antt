-- `sums_from` meets its contract: the loop adds good points only, and a point that is not good ends it.
use Rattle.std.proofs.Common.{sym, ◌∙◌, ℕ, arith, length, get_or}
use Rattle.curve.specs.Curve.{point}
use Rattle.sixteenths.proofs.Summing.{summed_start, summed_next, good_start, good_next, good_fails, good_held}
use Rattle.sixteenths.proofs.sums.sums_from.Goals as goal

pub loop-k-init : goal.loop-k-init
loop-k-init c = record { good = good_start _; summed = summed_start _ _ _ c.default-sums.ensures }

pub returns-then-not-is_good-clause-accepted : goal.returns-then-not-is_good-clause-accepted
returns-then-not-is_good-clause-accepted c =
    sym (good_fails (point c.args.c) (length c.args.weights.now) c.loop-k.k (omega arith) (sym c.is_good.ensures ∙ c.if-not-is_good.true))

pub added-sums-requires-clause-held : goal.added-sums-requires-clause-held
added-sums-requires-clause-held c = good_held (point c.args.c) c.loop-k.k (sym c.is_good.ensures ∙ c.if-not-is_good.false)

pub loop-k-preserved : goal.loop-k-preserved
loop-k-preserved c =
    let l = c.loop-k in
    let W = λ (i : ℕ). get_or c.args.weights.now i 0 in
    let holds = sym c.is_good.ensures ∙ c.if-not-is_good.false in
    record {
      good = good_next (point c.args.c) l.k l.invariant.good holds;
      summed =
          rw c.added-sums.ensures
          (summed_next W (point c.args.c) l.k l.sums l.invariant.summed (c.requires.light l.k (omega arith)) (good_held (point c.args.c) l.k holds));
    }
