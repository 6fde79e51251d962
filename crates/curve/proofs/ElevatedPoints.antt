-- The elevated curve's control points: the first and the last stay and leave no remainder, and each other one is one map.
-- Assumes nothing.
use mathlib.Core.Path.{◌≡◌, sym, ap, ap₂, ◌∙◌}
use mathlib.Core.Bool.{true}
use Prim.Native.Nat.{ℕ, ◌+◌, ◌-◌}
use native.Mathlib.Nat.{sub_self}
use native.Mathlib.Omega.{arith}
use Rattle.curve.specs.declared.Rect.{Rect}
use Rattle.curve.specs.Rect.{affine_rect, exact_rect}
use Rattle.curve.specs.Curve.{elevated_point, elevated_exact}
use Rattle.curve.proofs.WholeWeight.{affine-rect-first, affine-rect_second, exact_rect-first, exact_rect_second}

module _ (n : ℕ) (P : ℕ → Rect) where
  pub elevated-first : P 0 ≡ elevated_point n P 0
  unfolding elevated_point
  elevated-first =
      let all : n + 1 - 0 ≡ n + 1 = omega arith in
      sym (affine-rect_second (n + 1) (omega arith) (P 0) (P 0)) ∙ ap (λ (m : ℕ). affine_rect 0 m (n + 1) (P 0) (P 0)) (sym all)

  pub elevated_last : P n ≡ elevated_point n P (n + 1)
  unfolding elevated_point
  elevated_last =
      let nothing : n + 1 - (n + 1) ≡ 0 = omega arith in
      let last : n + 1 - 1 ≡ n = omega arith in
      sym (affine-rect-first (n + 1) (omega arith) (P n) (P (n + 1)))
      ∙ ap₂ (λ (m i : ℕ). affine_rect (n + 1) m (n + 1) (P i) (P (n + 1))) (sym nothing) (sym last)

  pub exact_first : elevated_exact n P 0 ≡ true
  unfolding elevated_exact
  exact_first =
      let all : n + 1 - 0 ≡ n + 1 = omega arith in
      ap (λ (m : ℕ). exact_rect 0 m (n + 1) (P 0) (P 0)) all ∙ exact_rect_second (n + 1) (P 0) (P 0)

  pub exact_last : elevated_exact n P (n + 1) ≡ true
  unfolding elevated_exact
  exact_last =
      ap (λ (m : ℕ). exact_rect (n + 1) m (n + 1) (P (n + 1 - 1)) (P (n + 1))) (sub_self (n + 1))
      ∙ exact_rect-first (n + 1) (P (n + 1 - 1)) (P (n + 1))
