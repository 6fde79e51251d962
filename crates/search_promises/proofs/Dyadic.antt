-- Halves of halves: the fraction i / 2^d as a rational number, and the parameter of a point on a piece's stretch.
-- Assumes nothing.
use mathlib.Core.Path.{◌≡◌, refl, sym, ap, ap₂, ◌∙◌, subst}
use Prim.Native.Nat.{ℕ, zero, suc, pred, ◌+◌, ◌-◌, ◌*◌, ◌<◌, ◌^◌}
use native.Mathlib.Nat.{two-pow-succ}
use native.Mathlib.Omega.{arith}
use lib.Dec.{lit≤}
use lib.Pow.{pow_pos}
use lib.IntN.{pos, ◌*ℤ◌}
use Rattle.rational.specs.Fraction.{complement, parameter}
use Rattle.rational.proofs.Rational.{ℚ, rat, embed, embed_add, ◌+ℚ◌, ◌-ℚ◌, ◌*ℚ◌, rational-ring, *ℚ-assoc, *ℚ-distrib_right, *ℚ-one, one-*ℚ, -ℚ-cancel, +ℚ-cancel, +ℚ-comm, +ℚ-invr, negℚ}
use Rattle.rational.proofs.RationalOrder.{◌≤ℚ◌, +ℚ-mono_right, *ℚ-mono_right, *ℚ-nonneg, embed_mono}
use Rattle.rational.proofs.Order.{pos_mono}
use Rattle.rational.proofs.Division.{ratio, ratio_mul, ratio_equal, rat_ratio, equal_cancel, ratio_weights}
use Rattle.curve.specs.Inner.{Factors}
use Rattle.ledger.proofs.Steps.{parameter_ratio, complement_ratio}

-- 1/2
unfoldable pub half : ℚ
half = rat (parameter 1 2)

-- what the table asks of the factors at 1/2
pub halving : Factors (2 - 1) 1 2
halving = record { total = refl; positive = omega arith; small = lit≤ tt }

half_ratio : half ≡ ratio 2 halving.positive (pos 1)
unfolding half
half_ratio = parameter_ratio 1 2 halving

pub half_rest : rat (complement (parameter 1 2)) ≡ half
half_rest = complement_ratio 1 2 halving ∙ sym half_ratio

half_half : half +ℚ half ≡ embed (pos 1)
half_half = ap₂ ◌+ℚ◌ half_ratio half_ratio ∙ ratio_weights 2 halving.positive 1 1 refl

-- 1 / 2^d
unfoldable pub width : ℕ → ℚ
width zero = embed (pos 1)
width (suc d) = width d *ℚ half

-- i / 2^d
unfoldable pub dyadic : ℕ → ℕ → ℚ
dyadic d i = embed (pos i) *ℚ width d

pub dyadic_whole : (i : ℕ) → embed (pos i) ≡ dyadic 0 i
unfolding dyadic width
dyadic_whole i = sym (*ℚ-one (embed (pos i)))

-- 2^d of them are 1
width_unit : (d : ℕ) → width d *ℚ embed (pos (2 ^ d)) ≡ embed (pos 1)
unfolding width
width_unit zero = *ℚ-one (embed (pos 1))
width_unit (suc d) =
    ap (λ (n : ℕ). width d *ℚ half *ℚ embed (pos n)) (two-pow-succ d) ∙ ap (λ x. width d *ℚ half *ℚ x) (embed_add (pos (2 ^ d)) (pos (2 ^ d)))
    ∙ twice (width d) half (embed (pos (2 ^ d))) ∙ ap₂ ◌*ℚ◌ (width_unit d) half_half ∙ *ℚ-one (embed (pos 1))
  where
    twice : (w h n : ℚ) → w *ℚ h *ℚ (n +ℚ n) ≡ w *ℚ n *ℚ (h +ℚ h)
    twice w h n = simp rational-ring

pub parameter_dyadic : (d i : ℕ) → rat (parameter i (2 ^ d)) ≡ dyadic d i
unfolding parameter dyadic
parameter_dyadic d i =
    let positive : 0 < 2 ^ d = pow_pos d in
    let same : 2 ^ d ≡ suc (pred (2 ^ d)) = omega arith in
    rat_ratio (parameter i (2 ^ d)) ∙ ratio_equal (suc (pred (2 ^ d))) (2 ^ d) (parameter i (2 ^ d)).positive positive (pos i) (pos i) (ap (λ (n : ℕ). pos i *ℤ pos n) same)
    ∙ equal_cancel (2 ^ d) positive (ratio_mul (2 ^ d) positive (pos i) ∙ sym (*ℚ-assoc (embed (pos i)) (width d) (embed (pos (2 ^ d))) ∙ ap (λ x. embed (pos i) *ℚ x) (width_unit d) ∙ *ℚ-one (embed (pos i))))

-- ---- the two halves of a stretch

doubled : (i : ℕ) → embed (pos (i * 2)) ≡ embed (pos i) +ℚ embed (pos i)
doubled i = let twice : i * 2 ≡ i + i = omega arith in ap (λ (n : ℕ). embed (pos n)) twice ∙ embed_add (pos i) (pos i)

-- the left half begins where the whole begins
pub dyadic_left : (d i : ℕ) → dyadic d i ≡ dyadic (suc d) (i * 2)
unfolding dyadic width
dyadic_left d i = sym (ap (λ x. x *ℚ (width d *ℚ half)) (doubled i) ∙ move (embed (pos i)) (width d) half ∙ ap (λ x. embed (pos i) *ℚ width d *ℚ x) half_half ∙ *ℚ-one _)
  where
    move : (x w h : ℚ) → (x +ℚ x) *ℚ (w *ℚ h) ≡ x *ℚ w *ℚ (h +ℚ h)
    move x w h = simp rational-ring

-- one more is one width more
pub dyadic_next : (d i : ℕ) → dyadic d (i + 1) ≡ dyadic d i +ℚ width d
unfolding dyadic
dyadic_next d i = ap (λ x. x *ℚ width d) (embed_add (pos i) (pos 1)) ∙ *ℚ-distrib_right (embed (pos i)) (embed (pos 1)) (width d) ∙ ap (λ x. embed (pos i) *ℚ width d +ℚ x) (one-*ℚ (width d))

-- the right half begins half a width later
pub dyadic_right : (d i : ℕ) → dyadic d i +ℚ width (suc d) ≡ dyadic (suc d) (i * 2 + 1)
dyadic_right d i = ap (λ x. x +ℚ width (suc d)) (dyadic_left d i) ∙ sym (dyadic_next (suc d) (i * 2))

pub dyadic_end : (d i : ℕ) → dyadic d (i + 1) ≡ dyadic (suc d) (i * 2 + 1 + 1)
dyadic_end d i = let same : (i + 1) * 2 ≡ i * 2 + 1 + 1 = omega arith in dyadic_left d (i + 1) ∙ ap (dyadic (suc d)) same

-- ---- a point of a stretch

-- a point from i / 2^d to (i + 1) / 2^d, by its parameter from 0 to 1 on the stretch
pub record Along (d i : ℕ) (x : ℚ) : Type 0 where
  pub parameter : ℚ
  pub least : embed (pos 0) ≤ℚ parameter
  pub most : parameter ≤ℚ embed (pos 1)
  pub place : dyadic d i +ℚ width d *ℚ parameter ≡ x

module _ (d i : ℕ) (x : ℚ) (low : dyadic d i ≤ℚ x) (high : x ≤ℚ dyadic d (i + 1)) where
  past : ℚ
  past = x -ℚ dyadic d i

  count : ℚ
  count = embed (pos (2 ^ d))

  count_nonneg : embed (pos 0) ≤ℚ count
  unfolding count
  count_nonneg = embed_mono (pos_mono (omega arith))

  past_nonneg : embed (pos 0) ≤ℚ past
  unfolding past
  past_nonneg = subst (λ y. y ≤ℚ (x -ℚ dyadic d i)) (+ℚ-invr (dyadic d i)) (+ℚ-mono_right (negℚ (dyadic d i)) low)

  past-most : past ≤ℚ width d
  unfolding past
  past-most =
      subst (λ y. (x -ℚ dyadic d i) ≤ℚ y) (ap (λ y. y -ℚ dyadic d i) (dyadic_next d i ∙ +ℚ-comm (dyadic d i) (width d)) ∙ +ℚ-cancel (width d) (dyadic d i))
      (+ℚ-mono_right (negℚ (dyadic d i)) high)

  pub along : Along d i x
  unfolding past count
  along = record {
    parameter = past *ℚ count;
    least = *ℚ-nonneg past_nonneg count_nonneg;
    most = subst (λ y. (past *ℚ count) ≤ℚ y) (width_unit d) (*ℚ-mono_right count_nonneg past-most);
    place =
        ap (λ y. dyadic d i +ℚ y) (exchange (width d) past count ∙ ap (λ y. past *ℚ y) (width_unit d) ∙ *ℚ-one past)
        ∙ +ℚ-comm (dyadic d i) past ∙ -ℚ-cancel x (dyadic d i);
  }
    where
      exchange : (w y n : ℚ) → w *ℚ (y *ℚ n) ≡ y *ℚ (w *ℚ n)
      exchange w y n = simp rational-ring
