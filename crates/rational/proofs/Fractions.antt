-- The promises about fractions of specs/Promises.antt, proved.
-- Assumes nothing.
use mathlib.Core.Path.{◌≡◌, sym, ◌∙◌, ap}
use lib.IntN.{ℤ, pos, ◌+ℤ◌, ◌*ℤ◌}
use Rattle.rational.specs.Fraction.{◌+ᶠ◌, ◌*ᶠ◌, whole}
use Rattle.rational.specs.Promises.{ByValue, CommonLower}
use Rattle.rational.proofs.Whole.{integer-ring, mul-one}
use Rattle.rational.proofs.Order.{*ℤ-mono, *ℤ-cancel}
use Rattle.rational.proofs.Rational.{add_equal, mul_equal}
use Rattle.rational.proofs.RationalOrder.{keeps}

pub by_value : ByValue
by_value = record { sums = add_equal; products = mul_equal; order = keeps }

pub common_lower : CommonLower
unfolding ◌+ᶠ◌ ◌*ᶠ◌ whole
common_lower d h u v = record {
  sum = record { crosswise = summed u v (pos d) };
  ordered = λ l. record { crosswise = *ℤ-mono d l };
  order = λ l. *ℤ-cancel d h l.crosswise;
  product = λ e k. record { crosswise = multiplied u v (pos d) (pos e) };
}
  where
    summed : (u v d : ℤ) → (u *ℤ d +ℤ v *ℤ d) *ℤ d ≡ (u +ℤ v) *ℤ (d *ℤ d)
    summed u v d = simp integer-ring

    multiplied : (u v d e : ℤ) → u *ℤ v *ℤ (d *ℤ e) *ℤ pos 1 ≡ u *ℤ v *ℤ (d *ℤ e *ℤ pos 1)
    multiplied u v d e = mul-one (u *ℤ v *ℤ (d *ℤ e)) ∙ ap (λ x. u *ℤ v *ℤ x) (sym (mul-one (d *ℤ e)))
