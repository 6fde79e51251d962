-- A turn stores one number more, and after the last all stand in their places.
use Rattle.std.proofs.Common.{◌≡◌, ◌+◌, length, sym, ap, ◌∙◌, slice_set, arith}
use lib.Seq.{paste}
use Rattle.std.proofs.Math.Seq.{take-length}
use Rattle.std.proofs.lemmas.List.Edits.{paste_more, sets-eq}
use Rattle.foreign.proofs.results.store.Goals as goal

pub loop-k-preserved : goal.loop-k-preserved
loop-k-preserved g c =
    let d = c.args.out.now in
    let at = c.args.at in
    let s = c.args.numbers.now in
    let k = c.loop-k.k in
    let r = c.index-numbers-k.result in
    record {
      room = c.requires;
      front =
          ap (λ o. slice_set o (at + k) r) c.loop-k.invariant.front
          ∙ ap (λ z. slice_set (paste d at s k) (at + k) z) c.index-numbers-k.is
          ∙ paste_more d at s k r (omega (arith, c.requires, c.loop-k-test.true)) c.loop-k-test.true;
    }

pub returns : goal.returns
returns g c =
    let d = c.args.out.now in
    let at = c.args.at in
    let s = c.args.numbers.now in
    let k = c.loop-k.k in
    let all : k ≡ length s = omega (arith, c.loop-k.auto.k-end, c.loop-k-test.false) in
    c.loop-k.invariant.front
    ∙ ap (λ n. paste d at s n) all
    ∙ rw take-length
    (sym (sets-eq s d at c.requires))
