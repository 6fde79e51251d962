-- The division_free step. A part p of a scale m stands for the factor t of the divisor d, at least t × m / d and at most e parts too large, so that f × p / m is at least f × t / d, and less than 1 above it where f × e < m.
-- Cut to a whole number, the estimate q is therefore off by less than 1 to either side, and right where d divides f × t.
-- So what the product back leaves, f × t − q × d, tells the rest: rounded down the quotient is q, less 1 if this is below 0; rounded up it is q, and 1 more if this is above 0; and nothing is left where this is 0.
-- Assumes nothing.
use mathlib.Core.Path.{◌≡◌, sym, ap, ◌∙◌}
use mathlib.Core.Bool.{Bool, true, false}
use Prim.Native.Nat.{ℕ, zero, suc, ◌+◌, ◌*◌, ◌-◌, ◌/◌, ◌%◌, ◌≤◌, ◌<◌}
use native.Mathlib.Nat.{mul-le-mul_left, mul-le-mul_right, mul-lt-mul_of_pos_right, lt_of_mul-lt-mul_right, div-mul-le_self, lt-div-mul-add, div-eq_of_lt-le, div-add-mod', mul-mod_left, add-zero, sub-zero}
use native.Mathlib.Decide.{dec_lt}
use native.Mathlib.Omega.{arith}
use borrow.Author.Tests.{lt-ltb, le-ltb, eqb-true, eq-eqb, ne_eqb}
use lib.Dec.{ltb, eqb, eqb-suc-zero}
use lib.IntN.{ℤ, pos, negsuc, nat_abs, ◌+ℤ◌, ◌-ℤ◌}
use lib.Signed.{mag, lt_z}
use mir.Val.{bool_byte}
use Rattle.rational.specs.Rounding.{up, rounding_of, quotient, divisible}
use Rattle.rational.proofs.Truth.{same_truth}
use Rattle.rational.proofs.Quotient.{natural_down, natural_up}

-- ---- the estimate

-- p is t / d in parts of the scale m, at most e parts too large, and f is so small that the excess does not matter
module _ (m d t p e f : ℕ) (wide : 0 < m) (positive : 0 < d) (least : t * m ≤ p * d) (most : p * d ≤ t * m + e * d) (near : f * e < m) where
  abbrev q : ℕ
  q = f * p / m

  estimate_low : f * t < q * d + d
  estimate_low =
      let above : f * p < q * m + m = lt-div-mul-add wide in
      let scaled : f * p * d < (q * m + m) * d = mul-lt-mul_of_pos_right above positive in
      let part : f * (t * m) ≤ f * (p * d) = mul-le-mul_left f least in
      let both : f * t * m < (q * d + d) * m = omega arith in
      lt_of_mul-lt-mul_right m both

  estimate_high : q * d < f * t + d
  estimate_high =
      let below : q * m * d ≤ f * p * d = mul-le-mul_right d (div-mul-le_self (f * p) m) in
      let part : f * (p * d) ≤ f * (t * m + e * d) = mul-le-mul_left f most in
      let excess : f * e * d < m * d = mul-lt-mul_of_pos_right near positive in
      let both : q * d * m < (f * t + d) * m = omega arith in
      lt_of_mul-lt-mul_right m both

-- ---- what is left

-- the difference of two natural numbers, by which is larger
difference_short : (n v : ℕ) → n < v → pos n -ℤ pos v ≡ negsuc (v - suc n)
difference_short n zero h = absurd (omega arith)
difference_short n (suc v) h = rw (lt-ltb n (suc v) h)

pub difference_past : (n v : ℕ) → v ≤ n → pos n -ℤ pos v ≡ pos (n - v)
difference_past n zero h = ap pos (add-zero n ∙ sym (sub-zero n))
difference_past n (suc v) h = rw (le-ltb n (suc v) h)

-- a quotient by the multiples of the divisor on both sides
quotient_is : (n d q : ℕ) → q * d ≤ n → n < q * d + d → q ≡ n / d
quotient_is n d q low high = sym (div-eq_of_lt-le d (omega arith) (omega arith))

-- what is left of n by an estimate q of n / d
abbrev pub rest : ℕ → ℕ → ℕ → ℤ
rest n d q = pos n -ℤ pos (q * d)

-- the rounded estimate
abbrev pub rounded : Bool → ℕ → ℤ → ℤ
rounded u q z = pos q +ℤ pos (bool_byte u) -ℤ pos (bool_byte (lt_z z (pos (bool_byte u))))

-- an estimate that is off by less than 1, and what is left by it
pub record Step (n d q : ℕ) : Type 0 where
  pub low : n < q * d + d
  pub high : q * d < n + d
  pub quotients : (u : Bool) → rounded u q (rest n d q) ≡ quotient (rounding_of u) (pos n) d
  pub exact : eqb (nat_abs (rest n d q)) 0 ≡ divisible (pos n) d
  pub small : mag (rest n d q) < d

-- an estimate that is off by less than 1
module _ (n d q : ℕ) (positive : 0 < d) (low : n < q * d + d) (high : q * d < n + d) where
  -- it is right exactly where nothing is left
  pub reaches : eqb n (q * d) ≡ divisible (pos n) d
  unfolding divisible
  reaches =
      same_truth (eqb n (q * d)) (eqb (n % d) 0)
      (λ h. ap (λ (x : ℕ). eqb (x % d) 0) (eqb-true n (q * d) h) ∙ eq-eqb (q * d % d) 0 (mul-mod_left q d))
      (λ h. eq-eqb n (q * d) (only (n / d) (sym (div-add-mod' n d) ∙ ap (λ (x : ℕ). n / d * d + x) (eqb-true (n % d) 0 h) ∙ add-zero (n / d * d))))
    where
      only : (k : ℕ) → n ≡ k * d → n ≡ q * d
      only k e =
          let few : k < q + 1 = lt_of_mul-lt-mul_right d (omega arith) in
          let many : q < k + 1 = lt_of_mul-lt-mul_right d (omega arith) in
          let same : k ≡ q = omega arith in
          e ∙ ap (λ (x : ℕ). x * d) same

  -- q less 1 is the quotient rounded down where q is too large, q rounded up where it is not too small, and one more where it is
  one_less : (q : ℕ) → n < q * d → q * d < n + d → (1 ≤ q + 0) × (q + 0 - 1 ≡ n / d)
  one_less zero less h = absurd (omega arith)
  one_less (suc p) less h =
      let before : suc p + 0 - 1 ≡ p = omega arith in
      (omega arith, before ∙ quotient_is n d p (omega arith) (omega arith))

  up-here : n ≤ q * d → q ≡ (n + (d - 1)) / d
  up-here most = quotient_is (n + (d - 1)) d q (omega arith) (omega arith)

  up_next : q * d < n → q + 1 ≡ (n + (d - 1)) / d
  up_next less = quotient_is (n + (d - 1)) d (q + 1) (omega arith) (omega arith)

  -- by a test of the product back
  pub rounded_up : pos (q + bool_byte (ltb (q * d) n)) ≡ quotient up (pos n) d
  rounded_up = go (dec_lt (q * d) n) ∙ sym (natural_up d positive n)
    where
      go : Dec (q * d < n) → pos (q + bool_byte (ltb (q * d) n)) ≡ pos ((n + (d - 1)) / d)
      go (yes less) = rw (lt-ltb (q * d) n less) (ap pos (up_next less))
      go (no more) = rw (le-ltb (q * d) n (omega arith), add-zero) (ap pos (up-here (omega arith)))

  step_short : n < q * d → Step n d q
  step_short less =
      let left = difference_short n (q * d) less in
      record {
        low = low;
        high = high;
        quotients = λ u. ap (rounded u q) left ∙ way u;
        exact = ap (λ (z : ℤ). eqb (nat_abs z) 0) left ∙ eqb-suc-zero (q * d - suc n) ∙ sym (ne_eqb n (q * d) (λ e. omega arith)) ∙ reaches;
        small = rw left (omega arith);
      }
    where
      way : (u : Bool) → rounded u q (negsuc (q * d - suc n)) ≡ quotient (rounding_of u) (pos n) d
      way false = let (some, is) = one_less q less high in difference_past (q + 0) 1 some ∙ ap pos is ∙ sym (natural_down d positive n)
      way true =
          let same : q + 1 - 1 ≡ q = omega arith in
          difference_past (q + 1) 1 (omega arith) ∙ ap pos (same ∙ up-here (omega arith)) ∙ sym (natural_up d positive n)

  step_past : q * d ≤ n → Step n d q
  step_past more =
      let left = difference_past n (q * d) more in
      record {
        low = low;
        high = high;
        quotients = λ u. ap (rounded u q) left ∙ way u (dec_lt (q * d) n);
        exact = ap (λ (z : ℤ). eqb (nat_abs z) 0) left ∙ nothing ∙ reaches;
        small = rw left (omega arith);
      }
    where
      nothing : eqb (n - q * d) 0 ≡ eqb n (q * d)
      nothing =
          same_truth (eqb (n - q * d) 0) (eqb n (q * d))
          (λ h. let e = eqb-true (n - q * d) 0 h in eq-eqb n (q * d) (omega arith))
          (λ h. let e = eqb-true n (q * d) h in eq-eqb (n - q * d) 0 (omega arith))

      way : (u : Bool) → Dec (q * d < n) → rounded u q (pos (n - q * d)) ≡ quotient (rounding_of u) (pos n) d
      way false _ =
          let same : q + 0 - 0 ≡ q = omega arith in
          rw (le-ltb (n - q * d) 0 (omega arith)) (difference_past (q + 0) 0 (omega arith) ∙ ap pos (same ∙ quotient_is n d q more low) ∙ sym (natural_down d positive n))
      way true (yes less) =
          let same : q + 1 - 0 ≡ q + 1 = omega arith in
          rw (le-ltb (n - q * d) 1 (omega arith)) (difference_past (q + 1) 0 (omega arith) ∙ ap pos (same ∙ up_next less) ∙ sym (natural_up d positive n))
      way true (no most) =
          let same : q + 1 - 1 ≡ q = omega arith in
          rw (lt-ltb (n - q * d) 1 (omega arith)) (difference_past (q + 1) 1 (omega arith) ∙ ap pos (same ∙ up-here (omega arith)) ∙ sym (natural_up d positive n))

  step : Step n d q
  step = go (dec_lt n (q * d))
    where
      go : Dec (n < q * d) → Step n d q
      go (yes less) = step_short less
      go (no more) = step_past (omega arith)

-- ---- the law

-- over any scale, divisor, factor, part and distance in range
pub division_free : (m d t p e f : ℕ) → 0 < m → 0 < d → t * m ≤ p * d → p * d ≤ t * m + e * d → f * e < m → Step (f * t) d (f * p / m)
division_free m d t p e f wide positive least most near =
    step (f * t) d (f * p / m) positive
    (estimate_low m d t p e f wide positive least most near)
    (estimate_high m d t p e f wide positive least most near)
