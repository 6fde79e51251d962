-- `stage` meets its contract: what a turn reads is in range, and a pass over the sides is a stage of the places.
use mathlib.Core.Path.{◌≡◌, sym, ◌∙◌, subst}
use Prim.Native.Nat.{ℕ, ◌+◌, ◌*◌, ◌-◌, ◌≤◌, ◌<◌}
use mathlib.Core.List.{List}
use mathlib.Core.Bool.{Bool}
use native.Mathlib.Omega.{arith}
use lib.IntN.{ℤ, pos}
use lib.ListN.{length, get_or, length-set}
use Rattle.curve.specs.declared.affine.Weights.{Weights}
use Rattle.curve.specs.Inner.{Side, Held, placed}
use Rattle.rational.proofs.Machine.{told}
use Rattle.curve.proofs.Sides.{side_back, side_passed}
use Rattle.curve.proofs.Placed.{Passed, passed_start, passed_next, passed_staged, side-held}
use Rattle.curve.proofs.table.stage.Goals as goal

-- a side that is still to be mapped is in range
still : (before now : List ℤ) (m i : ℕ) (w : Weights) (exact : Bool) → ((k : ℕ) → k ≤ m → Held (placed before k))
    → Passed (w.den - w.t) w.t w.den i before now exact →
    (x : ℕ) → i ≤ x → x < 4 * (m + 1) → Side (get_or now x (pos 0))
still before now m i w exact held passed x from to =
    subst Side (sym (passed.old x from)) (side-held before m held x to)

pub loop-i-init : goal.loop-i-init
loop-i-init c = record { whole = c.told-sides; passed = passed_start _ _ _ c.args.sides.now }

pub map_side-mapped-requires-clause-side : goal.map_side-mapped-requires-clause-side
map_side-mapped-requires-clause-side c =
    let a = c.args in
    let l = c.loop-i in
    side_passed (still a.sides.now l.sides a.m l.i a.w l.exact c.requires.by_index l.invariant.passed l.i (omega arith) (omega arith))

pub map_side-mapped-requires-clause-side_2 : goal.map_side-mapped-requires-clause-side_2
map_side-mapped-requires-clause-side_2 c =
    let a = c.args in
    let l = c.loop-i in
    side_passed (still a.sides.now l.sides a.m l.i a.w l.exact c.requires.by_index l.invariant.passed (l.i + 4) (omega arith) (omega arith))

pub loop-i-preserved : goal.loop-i-preserved
loop-i-preserved c =
    let a = c.args in
    let l = c.loop-i in
    let f = c.map_side-mapped in
    let i = l.i in
    let few = c.requires.m_le_max_degree in
    let here = side_back (still a.sides.now l.sides a.m i a.w l.exact c.requires.by_index l.invariant.passed i (omega arith) (omega arith)) in
    let there = side_back (still a.sides.now l.sides a.m i a.w l.exact c.requires.by_index l.invariant.passed (i + 4) (omega arith) (omega arith)) in
    let room : i < length l.sides = let long = l.invariant.whole in omega arith in
    rw (told f.result.value (omega arith)) (record {
      whole = length-set l.sides i f.result.value ∙ l.invariant.whole;
      passed = passed_next _ _ _ a.sides.now i l.sides l.exact f.result.exact f.result.value _ _ l.invariant.passed room here there f.ensures.0 f.ensures.1;
    })

pub returns : goal.returns
returns c =
    let a = c.args in
    let l = c.loop-i in
    let done : l.i ≡ 4 * a.m = omega arith in
    passed_staged _ _ _ a.sides.now a.m l.sides l.exact
    (subst (λ (i : ℕ). Passed (a.w.den - a.w.t) a.w.t a.w.den i a.sides.now l.sides l.exact) done l.invariant.passed)
