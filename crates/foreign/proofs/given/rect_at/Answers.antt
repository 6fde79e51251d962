-- `rect_at` meets its contract: four sides in their order, or none of them.
use Rattle.std.proofs.Common.{◌+◌, pos, sym, get_or, inl, inr, arith}
use Rattle.rational.proofs.Machine.{told}
use Rattle.interface.proofs.Numbers.{rect_had, rect_lacking}
use Rattle.foreign.proofs.Numbers.{part_had}
use Rattle.foreign.proofs.given.rect_at.Goals as goal

pub returns-in_default-3 : goal.returns-in_default-3
returns-in_default-3 c =
    let a = c.args in
    elim (rw c.in_default.is at c.get.ensures.lookup).0 [
      | inl none ↦ absurd (omega arith)
      | inr short ↦ sym (rect_lacking a.numbers.now a.at short)
    ]

pub returns : goal.returns
returns c =
    let a = c.args in
    let zs = a.numbers.now in
    let part = c.in-Some-len4.field-0.now in
    let cut = c.in-Some-len4.ensures.lookup.0 in
    rw (
      rect_had zs a.at cut.1,
      told (get_or part 0 (pos 0)) (omega arith),
      told (get_or part 1 (pos 0)) (omega arith),
      told (get_or part 2 (pos 0)) (omega arith),
      told (get_or part 3 (pos 0)) (omega arith),
      part_had zs part a.at 0 a.at cut.1 cut.2 (omega arith) (omega arith),
      part_had zs part a.at 1 (a.at + 1) cut.1 cut.2 (omega arith) (omega arith),
      part_had zs part a.at 2 (a.at + 2) cut.1 cut.2 (omega arith) (omega arith),
      part_had zs part a.at 3 (a.at + 3) cut.1 cut.2 (omega arith) (omega arith),
    )
