-- Sides that are moved up by the largest one are natural numbers, at most twice as large.
-- Assumes nothing.
use mathlib.Core.Path.{◌≡◌, sym, ap, ◌∙◌}
use Prim.Native.Nat.{ℕ, ◌+◌, ◌*◌, ◌≤◌}
use native.Mathlib.Nat.{mul-le-mul}
use native.Mathlib.Omega.{arith}
use lib.IntN.{ℤ, pos, ◌+ℤ◌, nat_abs}
use lib.Signed.{◌≤ℤ◌}
use Rattle.rational.proofs.Order.{natural, ≤ℤ-reflexive, ≤ℤ-trans, pos_reflects, +ℤ-mono_right}
use mir.Syntax.{w64}
use mir.Val.{Fits}
use Rattle.curve.specs.Limits.{max_side}
use Rattle.curve.specs.Inner.{Side}
use Rattle.sixteenths.specs.Weights.{highest}
use Rattle.sixteenths.specs.Inner.{largest_weight, largest_product, lifted}

module _ {z : ℤ} (h : Side z) where
  from_zero : pos 0 ≤ℤ (z +ℤ pos max_side)
  from_zero = +ℤ-mono_right (pos max_side) h.from

  pub lifted_is : z +ℤ pos max_side ≡ pos (lifted z)
  unfolding lifted
  lifted_is = let (n, is) = natural from_zero in is ∙ ap (λ (y : ℤ). pos (nat_abs y)) (sym is)

  pub lifted-most : lifted z ≤ 33554432
  lifted-most = pos_reflects (≤ℤ-trans (≤ℤ-reflexive (sym lifted_is)) (+ℤ-mono_right (pos max_side) h.to))

-- a lifted side times a weight is at most 2 to the power 57
pub weighed_most : (w : ℕ) {z : ℤ} → w ≤ largest_weight → Side z → w * lifted z ≤ largest_product
weighed_most w light h = mul-le-mul light (lifted-most h)

-- so a sum of eight such products has room for one more
pub has_room : (s w r : ℕ) {z : ℤ} → s ≤ highest * largest_product → w ≤ largest_weight → Side z → r ≡ w * lifted z → Fits w64 (s + r)
has_room s w r room light h is = let most = weighed_most w light h in record { fits = omega (arith, is) }
