-- What a map's weights give: the estimate of its quotient is off by less than 1, its numbers fit their types, and counted from the lifted start the quotient reaches the map.
-- Assumes nothing.
use mathlib.Core.Path.{◌≡◌, refl, sym, ap, ap₂, ◌∙◌, subst}
use Prim.Native.Nat.{ℕ, ◌+◌, ◌*◌, ◌-◌, ◌/◌, ◌≤◌, ◌<◌}
use native.Mathlib.Nat.{mul-le-mul, mul-le-mul_left, mul-le-mul_right, le_of_mul-le-mul_right, lt_of_mul-lt-mul_right}
use native.Mathlib.Omega.{arith}
use lib.IntN.{ℤ, pos, negsuc, neg_ℤ, ◌+ℤ◌, ◌-ℤ◌, ◌*ℤ◌, +ℤ_comm, +ℤ_assoc, +ℤ_idr, +ℤ-neg_ℤ_cancel, pos-+ℤ-pos, pos-*ℤ-pos}
use lib.Signed.{◌≤ℤ◌}
use mir.Syntax.{w32}
use mir.Val.{SFits}
use Rattle.std.specs.Int.{div_ceil}
use Rattle.std.proofs.lemmas.Grind.{div_ceil_times}
use Rattle.rational.specs.Rounding.{Rounding, quotient, divisible}
use Rattle.rational.proofs.Whole.{integer-ring, add_left_comm, add_right_cancel}
use Rattle.rational.proofs.Order.{≤ℤ-trans, ≤ℤ-reflexive, negℤ-anti, +ℤ-mono, pos_mono, pos_reflects, natural}
use Rattle.rational.proofs.Quotient.{quotient_shift}
use Rattle.rational.proofs.Divisible.{divisible_shift}
use Rattle.bernstein.specs.Affine.{affine, affine_exact}
use Rattle.curve.specs.declared.Rect.{Rect}
use Rattle.curve.specs.declared.Rounded.{Rounded}
use Rattle.curve.specs.declared.affine.Weights.{Weights}
use Rattle.curve.specs.Limits.{max_degree, max_den}
use Rattle.curve.specs.Rect.{affine_rect, exact_rect}
use Rattle.curve.specs.Inner.{Side, Part, scale}
use Rattle.rational.proofs.Machine.{within-fits}
use Rattle.rational.proofs.Estimate.{Step, division_free}

-- ---- the estimate

module _ (by : ℕ) (w : Weights) (far : by ≤ 33554432 + w.lift) where
  abbrev pub near : ℕ
  near = by * w.part / scale

  by_small : by ≤ 67174399
  by_small = let low = w.lift_most in omega arith

  -- the product with the factor is small
  pub factor-product : by * w.t ≤ 67174399 * max_den
  factor-product =
      let small = w.small in
      let most = w.most in
      mul-le-mul {n₁ = by} {m₁ = w.t} {n₂ = 67174399} {m₂ = max_den} by_small (omega arith)

  -- the estimate is off by less than 1
  pub nearby : Step (by * w.t) w.den near
  nearby = division_free scale w.den w.t w.part max_degree by (omega arith) w.positive w.part_least w.part_most (let s = by_small in omega arith)

  -- the estimate is at most the distance
  pub near-small : near ≤ 67174399
  near-small =
      let most : by * w.t ≤ by * w.den = mul-le-mul_left by w.most in
      let high = nearby.high in
      let less : near * w.den < (by + 1) * w.den = omega arith in
      let s = by_small in
      let l : near < by + 1 = lt_of_mul-lt-mul_right w.den less in
      omega arith

-- ---- the distance

-- from a to b, with the lift
pub record Distance (a b : ℤ) (lift : ℕ) : Type 0 where
  pub by : ℕ
  pub is : b -ℤ a +ℤ pos lift ≡ pos by
  pub far : by ≤ 33554432 + lift

module _ {a b : ℤ} (ha : Side a) (hb : Side b) where
  below : negsuc 33554431 ≤ℤ (b -ℤ a)
  below = +ℤ-mono hb.from (negℤ-anti ha.to)

  above : (b -ℤ a) ≤ℤ pos 33554432
  above = +ℤ-mono hb.to (negℤ-anti ha.from)

  pub difference_fits : SFits w32 (b -ℤ a)
  difference_fits = within-fits 33554431 (b -ℤ a) (omega arith) below above

  pub distance : (lift : ℕ) → 33554432 ≤ lift → Distance a b lift
  distance lift high =
      let (by, is) = natural (+ℤ-mono below (pos_mono high)) in
      record { by = by; is = is; far = pos_reflects (≤ℤ-trans (≤ℤ-reflexive (sym is)) (+ℤ-mono above (≤ℤ-reflexive refl))) }

-- ---- the map

-- the map as a distance and a start
whole_sum :
    (s t a b by lift start back : ℤ) → by +ℤ a ≡ b +ℤ lift → start +ℤ back ≡ a → lift *ℤ t ≡ back *ℤ (s +ℤ t) →
    s *ℤ a +ℤ t *ℤ b ≡ by *ℤ t +ℤ start *ℤ (s +ℤ t)
whole_sum s t a b by lift start back rise from level =
    add_right_cancel (s *ℤ a +ℤ t *ℤ b) (by *ℤ t +ℤ start *ℤ (s +ℤ t)) (lift *ℤ t)
    (first s t a b lift
    ∙ ap (λ (x : ℤ). s *ℤ a +ℤ t *ℤ x) (sym rise)
    ∙ second s t a by
    ∙ ap (λ (x : ℤ). by *ℤ t +ℤ x *ℤ (s +ℤ t)) (sym from)
    ∙ third by t start back (s +ℤ t)
    ∙ ap (λ (x : ℤ). by *ℤ t +ℤ start *ℤ (s +ℤ t) +ℤ x) (sym level))
  where
    first : (s t a b l : ℤ) → s *ℤ a +ℤ t *ℤ b +ℤ l *ℤ t ≡ s *ℤ a +ℤ t *ℤ (b +ℤ l)
    first s t a b l = simp integer-ring

    second : (s t a f : ℤ) → s *ℤ a +ℤ t *ℤ (f +ℤ a) ≡ f *ℤ t +ℤ a *ℤ (s +ℤ t)
    second s t a f = simp integer-ring

    third : (f t u v d : ℤ) → f *ℤ t +ℤ (u +ℤ v) *ℤ d ≡ f *ℤ t +ℤ u *ℤ d +ℤ v *ℤ d
    third f t u v d = simp integer-ring

-- a difference added back
added_back : (a k l : ℤ) → a -ℤ k +ℤ l +ℤ k ≡ a +ℤ l
added_back a k l = regroup a (neg_ℤ k) l k ∙ +ℤ-neg_ℤ_cancel (a +ℤ l) k
  where
    regroup : (a n l k : ℤ) → a +ℤ n +ℤ l +ℤ k ≡ a +ℤ l +ℤ k +ℤ n
    regroup a n l k = simp (+ℤ_assoc, +ℤ_comm, add_left_comm)

module _ {a b : ℤ} (w : Weights) (d : Distance a b w.lift) (s : ℕ) (total : s + w.t ≡ w.den) where
  counted : pos s *ℤ a +ℤ pos w.t *ℤ b ≡ pos (d.by * w.t) +ℤ (a -ℤ pos w.back) *ℤ pos w.den
  counted =
      whole_sum (pos s) (pos w.t) a b (pos d.by) (pos w.lift) (a -ℤ pos w.back) (pos w.back)
      (ap (λ (x : ℤ). x +ℤ a) (sym d.is) ∙ added_back b a (pos w.lift))
      (ap (λ (x : ℤ). x +ℤ pos w.back) (sym (+ℤ_idr (a -ℤ pos w.back))) ∙ added_back a (pos w.back) (pos 0) ∙ +ℤ_idr a)
      (pos-*ℤ-pos w.lift w.t
      ∙ ap pos w.level
      ∙ sym (pos-*ℤ-pos w.back w.den)
      ∙ ap (λ (x : ℤ). pos w.back *ℤ x) (ap pos (sym total) ∙ sym (pos-+ℤ-pos s w.t)))
      ∙ ap₂ (λ (x y : ℤ). x +ℤ (a -ℤ pos w.back) *ℤ y) (pos-*ℤ-pos d.by w.t) (pos-+ℤ-pos s w.t ∙ ap pos total)

  -- the quotient of the distance, from the start on, is the map's
  pub reached : (r : Rounding) → (a -ℤ pos w.back) +ℤ quotient r (pos (d.by * w.t)) w.den ≡ affine r s w.t w.den a b
  unfolding affine
  reached r =
      +ℤ_comm (a -ℤ pos w.back) (quotient r (pos (d.by * w.t)) w.den)
      ∙ sym (ap (λ (x : ℤ). quotient r x w.den) counted ∙ quotient_shift w.den w.positive r (pos (d.by * w.t)) (a -ℤ pos w.back))

  -- and leaves a remainder where the map's does
  pub left-none : divisible (pos (d.by * w.t)) w.den ≡ affine_exact s w.t w.den a b
  unfolding affine_exact
  left-none = sym (ap (λ (x : ℤ). divisible x w.den) counted ∙ divisible_shift w.den (pos (d.by * w.t)) (a -ℤ pos w.back))

-- ---- the start

pub back_most : (w : Weights) → w.back ≤ w.lift
back_most w =
    let level = w.level in
    let most : w.lift * w.t ≤ w.lift * w.den = mul-le-mul_left w.lift w.most in
    let both : w.back * w.den ≤ w.lift * w.den = omega arith in
    le_of_mul-le-mul_right both w.positive

pub start_fits : {a : ℤ} → Side a → (w : Weights) → SFits w32 (a -ℤ pos w.back)
start_fits {a} ha w =
    let most = back_most w in
    let low = w.lift_most in
    let small : w.back ≤ 33619967 = omega arith in
    within-fits 50397182 (a -ℤ pos w.back) (omega arith) (+ℤ-mono ha.from (negℤ-anti (pos_mono small)))
    (≤ℤ-trans (+ℤ-mono ha.to (negℤ-anti (pos_mono {m = 0} {n = w.back} (omega arith)))) (pos_mono {m = 16777216} {n = 50397183} (omega arith)))

-- ---- two rectangles

-- a map for the weights of t and den, as its caller names its factors
pub mapped_by :
    (m : Rounded Rect) (w : Weights) (p q : Rect) → (m.value ≡ affine_rect (w.den - w.t) w.t w.den p q) × (m.exact ≡ exact_rect (w.den - w.t) w.t w.den p q) →
    (s t d : ℕ) → w.t ≡ t → w.den ≡ d → s + t ≡ d → (m.value ≡ affine_rect s t d p q) × (m.exact ≡ exact_rect s t d p q)
mapped_by m w p q is s t d factor divisor total =
    let first : s ≡ w.den - w.t = omega arith in
    rw (first, sym factor, sym divisor) is

-- ---- the weights

-- one division makes the part of 1, from which small factors' parts are multiplied
pub part_times : (t d : ℕ) → 0 < d → t ≤ max_degree → Part t d (t * div_ceil scale d)
part_times t d positive few =
    let u : ℕ = div_ceil scale d in
    let near = div_ceil_times scale d positive in
    let least : t * scale ≤ t * (u * d) = mul-le-mul_left t near.0 in
    let most : t * (u * d) ≤ t * (scale + d) = mul-le-mul_left t (omega arith) in
    let excess : t * d ≤ max_degree * d = mul-le-mul_right d few in
    record { least = omega arith; most = omega arith }

-- what is known of a divisor is known of the sum of its factors
pub part-total : (s t d part : ℕ) → d ≡ s + t → Part t d part → Part t (s + t) part
part-total s t d part total p = subst (λ (x : ℕ). Part t x part) total p
