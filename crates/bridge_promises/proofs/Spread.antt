-- A side moved outward by a spread rounded up to steps bounds every value within the spread.
-- Assumes nothing.
use mathlib.Core.Path.{◌≡◌, sym, ap, ap₂, ◌∙◌, subst}
use lib.IntN.{ℤ, ◌+ℤ◌, ◌-ℤ◌, -ℤ-+ℤ_cancel}
use Rattle.rational.specs.Rounding.{Rounding, down, up}
use Rattle.rational.specs.Fraction.{Frac, whole, ◌≤ᶠ◌, ◌+ᶠ◌}
use Rattle.rational.proofs.Rational.{rat, embed, ◌+ℚ◌, rat_add, rat_whole, embed_add}
use Rattle.rational.proofs.RationalOrder.{◌≤ℚ◌, ≤ℚ-of, ≤ᶠ-of, ≤ℚ-trans, +ℚ-mono, +ℚ-mono_left, +ℚ-order_cancel}
use Rattle.curve.specs.Rect.{Bounded}
use Rattle.bridge.specs.Bridge.{moved}

module _ (a k : ℤ) (value spread v : Frac) (most : spread ≤ᶠ whole k) where
  lower : whole a ≤ᶠ value → value ≤ᶠ v +ᶠ spread → whole (a -ℤ k) ≤ᶠ v
  lower h near =
      ≤ᶠ-of (whole (a -ℤ k)) v
      (+ℚ-order_cancel (rat (whole k))
      (subst (λ x. x ≤ℚ rat v +ℚ rat (whole k)) (sym together)
      (≤ℚ-trans (≤ℚ-of h) (≤ℚ-trans (subst (λ x. rat value ≤ℚ x) (rat_add v spread) (≤ℚ-of near)) (+ℚ-mono_left (rat v) (≤ℚ-of most))))))
    where
      together : rat (whole (a -ℤ k)) +ℚ rat (whole k) ≡ rat (whole a)
      together = ap₂ ◌+ℚ◌ (rat_whole (a -ℤ k)) (rat_whole k) ∙ sym (embed_add (a -ℤ k) k) ∙ ap embed (-ℤ-+ℤ_cancel a k) ∙ sym (rat_whole a)

  upper : value ≤ᶠ whole a → v ≤ᶠ value +ᶠ spread → v ≤ᶠ whole (a +ℤ k)
  upper h near =
      ≤ᶠ-of v (whole (a +ℤ k))
      (≤ℚ-trans (subst (λ x. rat v ≤ℚ x) (rat_add value spread) (≤ℚ-of near))
      (subst (λ x. rat value +ℚ rat spread ≤ℚ x) (sym together) (+ℚ-mono (≤ℚ-of h) (≤ℚ-of most))))
    where
      together : rat (whole (a +ℤ k)) ≡ rat (whole a) +ℚ rat (whole k)
      together = rat_whole (a +ℤ k) ∙ embed_add a k ∙ sym (ap₂ ◌+ℚ◌ (rat_whole a) (rat_whole k))

  pub moved_bounds : (o : Rounding) → Bounded o value a → value ≤ᶠ v +ᶠ spread → v ≤ᶠ value +ᶠ spread → Bounded o v (moved o a k)
  moved_bounds down h above below = lower h above
  moved_bounds up h above below = upper h below
