-- `map_side` meets its contract: from the lifted start, the quotient of the distance reaches the map.
use mathlib.Core.Path.{◌≡◌, ap, ◌∙◌}
use Prim.Native.Nat.{◌+◌, ◌*◌, ◌-◌, ◌≤◌}
use native.Mathlib.Omega.{arith}
use mathlib.Core.Bool.{Bool}
use lib.IntN.{ℤ, pos, ◌+ℤ◌, ◌-ℤ◌}
use mir.Syntax.{w32}
use mir.Val.{to_z, of_z}
use Rattle.rational.specs.Rounding.{rounding_of, quotient}
use Rattle.bernstein.specs.Affine.{affine}
use Rattle.curve.specs.declared.affine.Weights.{Weights}
use Rattle.curve.specs.Inner.{Side}
use Rattle.rational.proofs.Machine.{back, signed}
use Rattle.curve.proofs.Sides.{side_back, side-fits}
use Rattle.curve.proofs.Stages.{affine-side-held}
use Rattle.curve.proofs.Weighing.{Distance, distance, difference_fits, back_most, start_fits, reached, left-none}
use Rattle.curve.proofs.affine.Weights.map_side.Goals as goal

module _ (a b : ℤ) (w : Weights) (up : Bool) (ha : Side a) (hb : Side b) where
  -- the distance from a to b, as the machine has it
  known : Distance a b w.lift
  known = distance ha hb w.lift w.lift_least

  small : (w.lift ≤ 33619967) × (w.back ≤ 33619967) × (known.by ≤ 67174399)
  small =
      let low = w.lift_most in
      let most = back_most w in
      let far = known.far in
      (omega arith, omega arith, omega arith)

  lifted : to_z w32 (of_z w32 (to_z w32 (of_z w32 b) -ℤ to_z w32 (of_z w32 a))) +ℤ to_z w32 w.lift ≡ pos known.by
  lifted =
      let l = small.0 in
      rw (side_back ha, side_back hb, back (difference_fits ha hb), signed w.lift (omega arith)) known.is

  -- the same, cast
  cast : to_z w32 known.by ≡ pos known.by
  cast = let s = small.2 in signed known.by (omega arith)

  total : w.den - w.t + w.t ≡ w.den
  total = let most = w.most in omega arith

  -- the sum is the map, which is a side
  summed : (steps : ℤ) → to_z w32 (of_z w32 steps) ≡ steps → steps ≡ quotient (rounding_of up) (pos (known.by * w.t)) w.den →
      to_z w32 (of_z w32 (to_z w32 (of_z w32 a) -ℤ to_z w32 w.back)) +ℤ to_z w32 (of_z w32 steps) ≡ affine (rounding_of up) (w.den - w.t) w.t w.den a b
  summed steps told found =
      let k = small.1 in
      rw (side_back ha, signed w.back (omega arith), back (start_fits ha w), told)
      (ap (λ (z : ℤ). a -ℤ pos w.back +ℤ z) found ∙ reached w known (w.den - w.t) total (rounding_of up))

  landed : Side (affine (rounding_of up) (w.den - w.t) w.t w.den a b)
  landed = affine-side-held (rounding_of up) (w.den - w.t) w.t w.den a b (record { total = total; positive = w.positive; small = w.small }) ha hb

pub overflow_cast-start : goal.overflow_cast-start
overflow_cast-start c =
    let a = c.args in
    let p = c.requires in
    let k = (small a.a a.b a.self a.up p.side p.side_2).1 in
    record { sfits = omega arith }

pub overflow_sub-start : goal.overflow_sub-start
overflow_sub-start c =
    let a = c.args in
    let p = c.requires in
    let k = (small a.a a.b a.self a.up p.side p.side_2).1 in
    rw (side_back p.side, signed a.self.back (omega arith)) (start_fits p.side a.self)

pub overflow_add-result : goal.overflow_add-result
overflow_add-result c =
    let a = c.args in
    let p = c.requires in
    let q = c.quotient_of-quotient in
    let found = rw (lifted a.a a.b a.self a.up p.side p.side_2, cast a.a a.b a.self a.up p.side p.side_2) at q.ensures.0 in
    rw (summed a.a a.b a.self a.up p.side p.side_2 q.result.value (back (record { sfits = omega arith })) found)
    (side-fits (landed a.a a.b a.self a.up p.side p.side_2))

pub returns : goal.returns
returns c =
    let a = c.args in
    let p = c.requires in
    let q = c.quotient_of-quotient in
    let same = lifted a.a a.b a.self a.up p.side p.side_2 in
    let known = known a.a a.b a.self a.up p.side p.side_2 in
    let passed = cast a.a a.b a.self a.up p.side p.side_2 in
    let found = rw (same, passed) at q.ensures.0 in (
      rw (summed a.a a.b a.self a.up p.side p.side_2 q.result.value (back (record { sfits = omega arith })) found)
          (side_back (landed a.a a.b a.self a.up p.side p.side_2)),
      (rw (same, passed) at q.ensures.1) ∙ left-none a.self known (a.self.den - a.self.t) (total a.a a.b a.self a.up p.side p.side_2),
    )
