-- The test of a rectangle: of ends in order, one test each tells that both are in range.
-- Assumes nothing.
use mathlib.Core.Path.{◌≡◌, refl, sym}
use mathlib.Core.Bool.{Bool, true, false, ◌&&◌}
use lib.IntN.{pos, neg_ℤ}
use lib.Signed.{le_z}
use Rattle.rational.proofs.Order.{≤ℤ-trans, test_yes}
use Rattle.curve.specs.declared.Interval.{Interval}
use Rattle.curve.specs.Limits.{max_side}
use Rattle.curve.specs.Rect.{in_range, ends_in_range, ends_ordered}
use Rattle.curve.proofs.Tests.{true_of}

-- three tests tell what five do, if the two others follow from them
three_tell :
    (low order high low' high' : Bool) → (low ≡ true → order ≡ true → high ≡ true → (high' ≡ true) × (low' ≡ true)) →
    (low && (order && high)) ≡ (((low && high') && (low' && high)) && order)
three_tell false order high low' high' follow = refl
three_tell true false high low' false follow = refl
three_tell true false high false true follow = refl
three_tell true false false true true follow = refl
three_tell true false true true true follow = refl
three_tell true true false low' false follow = refl
three_tell true true false false true follow = refl
three_tell true true false true true follow = refl
three_tell true true true low' false follow = sym (follow refl refl refl).0
three_tell true true true false true follow = sym (follow refl refl refl).1
three_tell true true true true true follow = refl

pub good_interval :
    (i : Interval) → (le_z (neg_ℤ (pos max_side)) i.low && (le_z i.low i.high && le_z i.high (pos max_side))) ≡ (ends_in_range i && ends_ordered i)
unfolding ends_in_range in_range ends_ordered
good_interval i =
    let least = neg_ℤ (pos max_side) in
    let most = pos max_side in
    let a = i.low in
    let b = i.high in
    three_tell (le_z least a) (le_z a b) (le_z b most) (le_z least b) (le_z a most) (λ low order high.
    let up = ≤ℤ-trans {a = a} {b = b} {c = most} (test_yes order) (test_yes high) in
    let down = ≤ℤ-trans {a = least} {b = a} {c = b} (test_yes low) (test_yes order) in
    (true_of (le_z a most) up.le, true_of (le_z least b) down.le))

-- the tests of two coordinates, by coordinate and by test
pub by_coordinate : (a b o q : Bool) → ((a && o) && (b && q)) ≡ ((a && b) && (o && q))
by_coordinate false b o q = refl
by_coordinate true b true q = refl
by_coordinate true true false q = refl
by_coordinate true false false q = refl
