-- Fractions, as pairs of whole numbers that are added, multiplied and compared by multiplying out. Equal fractions may be different pairs.
-- Assumes nothing.
use Rattle.std.specs.Prelude.{◌≡◌, ℕ, zero, suc, pred, ◌*◌, ◌<◌, ℤ, pos, ◌+ℤ◌, ◌-ℤ◌, ◌*ℤ◌, ◌≤ℤ◌}
use Rattle.std.proofs.Common.{suc-le-suc, zero-le, mul-pos, lit<}

-- a fraction upper / lower
pub record Frac : Type 0 where
  pub upper : ℤ
  pub lower : ℕ
  pub positive : 0 < lower

infixl 6 ◌+ᶠ◌
infixl 7 ◌*ᶠ◌
infixr 8 ◌^ᶠ◌
infix 5 ◌≤ᶠ◌
infix 5 ◌<ᶠ◌
unfoldable pub ◌+ᶠ◌ : Frac → Frac → Frac
a +ᶠ b =
    record {
      upper = a.upper *ℤ pos b.lower +ℤ b.upper *ℤ pos a.lower;
      lower = a.lower * b.lower;
      positive = mul-pos a.positive b.positive;
    }

unfoldable pub ◌*ᶠ◌ : Frac → Frac → Frac
a *ᶠ b = record { upper = a.upper *ℤ b.upper; lower = a.lower * b.lower; positive = mul-pos a.positive b.positive }

pub record ◌≤ᶠ◌ (a b : Frac) : Type 0 where
  pub crosswise : (a.upper *ℤ pos b.lower) ≤ℤ (b.upper *ℤ pos a.lower)

-- strictly below: not at or above
abbrev pub ◌<ᶠ◌ : Frac → Frac → Type 0
a <ᶠ b = b ≤ᶠ a → ⊥

pub record Equal (a b : Frac) : Type 0 where
  pub crosswise : a.upper *ℤ pos b.lower ≡ b.upper *ℤ pos a.lower

-- a whole number
unfoldable pub whole : ℤ → Frac
whole z = record { upper = z; lower = 1; positive = lit< tt }

-- num/den, the parameter of a call; a den of 0 counts as 1 here, and every call refuses it
unfoldable pub parameter : ℕ → ℕ → Frac
parameter num den = record { upper = pos num; lower = suc (pred den); positive = suc-le-suc zero-le }

-- 1 − x
unfoldable pub complement : Frac → Frac
complement x = record { upper = pos x.lower -ℤ x.upper; lower = x.lower; positive = x.positive }

-- x to the power k; x to the power 0 is 1, also for x = 0
unfoldable pub ◌^ᶠ◌ : Frac → ℕ → Frac
x ^ᶠ zero = whole (pos 1)
x ^ᶠ suc k = x *ᶠ (x ^ᶠ k)
