-- Equal fractions have the same map of neighbours, so they give equal readings and equal cuts.
-- Assumes nothing.
use mathlib.Core.Path.{◌≡◌, sym, ap, ap₂, ◌∙◌, fun_ext}
use mathlib.Core.Bool.{Bool}
use Prim.Native.Nat.{ℕ, ◌*◌, ◌-◌, ◌<◌}
use native.Mathlib.Nat.{mul-sub, mul_comm}
use lib.IntN.{ℤ, pos, ◌+ℤ◌, ◌*ℤ◌, pos-*ℤ-pos}
use Rattle.rational.specs.Rounding.{Rounding}
use Rattle.rational.proofs.Whole.{integer-ring}
use Rattle.rational.proofs.Quotient.{quotient_equal}
use Rattle.rational.proofs.Divisible.{divisible_equal}
use Rattle.bernstein.specs.Affine.{affine, affine_exact}
use Rattle.bernstein.specs.DeCasteljau as DeCasteljau
use Rattle.curve.specs.declared.Rect.{Rect}
use Rattle.curve.specs.declared.Refusal.{Refusal}
use Rattle.curve.specs.Rect.{side, affine_rect, exact_rect}
use Rattle.curve.specs.Curve.{point, curve_of, map_at, exact_at, piece_sum, load_of, left_of, right_of, table_exact}
use Rattle.curve.specs.Refusals.{◌or_else◌, curve_refusal, sum_refusal}
use Rattle.curve.specs.Calls.{call_refusal, subdivision_refusal}
use Rattle.curve_promises.specs.Promises.{EqualFractions}
use Rattle.curve.proofs.Points.{side-affine}
use Rattle.curve.proofs.RectSides.{affine-rect_is, exact_rect_equal}
use Rattle.curve.proofs.Accepted.{parameter_facts}
use Rattle.curve_promises.proofs.EqualAnswers.{evaluated_equal, subdivided_equal}

-- two pairs of weights in proportion to their divisors
module _ (s t d s' t' d' : ℕ) (positive : 0 < d) (positive' : 0 < d') (first : s * d' ≡ s' * d) (second : t * d' ≡ t' * d) where
  regroup : (s t a b d : ℤ) → (s *ℤ a +ℤ t *ℤ b) *ℤ d ≡ (s *ℤ d) *ℤ a +ℤ (t *ℤ d) *ℤ b
  regroup s t a b d = simp integer-ring

  proportion : (m n : ℕ) → m * d' ≡ n * d → pos m *ℤ pos d' ≡ pos n *ℤ pos d
  proportion m n h = pos-*ℤ-pos m d' ∙ ap pos h ∙ sym (pos-*ℤ-pos n d)

  -- the sums that are divided
  crosswise : (a b : ℤ) → (pos s *ℤ a +ℤ pos t *ℤ b) *ℤ pos d' ≡ (pos s' *ℤ a +ℤ pos t' *ℤ b) *ℤ pos d
  crosswise a b =
      regroup (pos s) (pos t) a b (pos d')
      ∙ ap₂ (λ (x y : ℤ). x *ℤ a +ℤ y *ℤ b) (proportion s s' first) (proportion t t' second)
      ∙ sym (regroup (pos s') (pos t') a b (pos d))

  affine_equal : (r : Rounding) (a b : ℤ) → affine r s t d a b ≡ affine r s' t' d' a b
  unfolding affine
  affine_equal r a b = quotient_equal r d d' positive positive' (pos s *ℤ a +ℤ pos t *ℤ b) (pos s' *ℤ a +ℤ pos t' *ℤ b) (crosswise a b)

  exact_equal : (a b : ℤ) → affine_exact s t d a b ≡ affine_exact s' t' d' a b
  unfolding affine_exact
  exact_equal a b = divisible_equal d d' positive positive' (pos s *ℤ a +ℤ pos t *ℤ b) (pos s' *ℤ a +ℤ pos t' *ℤ b) (crosswise a b)

  affine-rect_equal : (p q : Rect) → affine_rect s t d p q ≡ affine_rect s' t' d' p q
  affine-rect_equal p q =
      affine-rect_is s t d p q (affine_rect s' t' d' p q)
      (λ x r. affine_equal r (side x r p) (side x r q) ∙ sym (side-affine x r s' t' d' p q))

  tests_equal : (p q : Rect) → exact_rect s t d p q ≡ exact_rect s' t' d' p q
  tests_equal p q = exact_rect_equal s t d s' t' d' p q p q (λ x r. exact_equal (side x r p) (side x r q))

-- equal fractions
module _ (num den num' den' : ℕ) (positive : 0 < den) (positive' : 0 < den') (same : num * den' ≡ num' * den) where
  from_above : (d n e : ℕ) → (d - n) * e ≡ d * e - n * e
  from_above d n e = mul_comm (d - n) e ∙ mul-sub e d n ∙ ap₂ ◌-◌ (mul_comm e d) (mul_comm e n)

  rest : (den - num) * den' ≡ (den' - num') * den
  rest = from_above den num den' ∙ ap₂ ◌-◌ (mul_comm den den') same ∙ sym (from_above den' num' den)

  map_equal : map_at num den ≡ map_at num' den'
  map_equal = fun_ext (λ p. fun_ext (λ q. affine-rect_equal (den - num) num den (den' - num') num' den' positive positive' rest same p q))

  test_equal : exact_at num den ≡ exact_at num' den'
  test_equal = fun_ext (λ p. fun_ext (λ q. tests_equal (den - num) num den (den' - num') num' den' positive positive' rest same p q))

pub equal_fractions : EqualFractions
unfolding load_of left_of right_of table_exact call_refusal subdivision_refusal
equal_fractions c num den num' den' h h' same =
    let positive = (parameter_facts num den h).factors.positive in
    let positive' = (parameter_facts num' den' h').factors.positive in
    let maps = map_equal num den num' den' positive positive' same in
    let flags : table_exact c num den ≡ table_exact c num' den' =
    ap₂ (λ (m : Rect → Rect → Rect) (t : Rect → Rect → Bool). DeCasteljau.every_map m (point c) t c.degree) maps (test_equal num den num' den' positive positive' same) in
    let refusals : call_refusal c num den ≡ call_refusal c num' den' = ap (λ (r : Refusal). curve_refusal c or_else r) (h ∙ sym h') in (
      evaluated_equal c c num den num' den' refusals (ap (λ (m : Rect → Rect → Rect). DeCasteljau.value m (point c) c.degree) maps) flags,
      subdivided_equal c c num den num' den' (ap (λ (r : Refusal). r or_else sum_refusal (piece_sum c)) refusals)
          (ap (λ (m : Rect → Rect → Rect). curve_of c.degree (piece_sum c) (DeCasteljau.left m (point c))) maps)
          (ap (λ (m : Rect → Rect → Rect). curve_of c.degree (piece_sum c) (DeCasteljau.right m (point c) c.degree)) maps)
          flags,
    )
