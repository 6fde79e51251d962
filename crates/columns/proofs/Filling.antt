-- Laws of ten bytes that are filled from the right: spaces, and behind them the digits found so far.
-- Assumes nothing.
use Prim.Native.Nat.{ℕ, zero, suc, ◌+◌, ◌-◌, ◌/◌, ◌%◌, ◌≤◌, ◌<◌}
use native.Mathlib.Nat.{le_refl, not-suc-le-zero}
use native.Mathlib.Numerals.{sub-one}
use native.Mathlib.Omega.{arith}
use mathlib.Core.Bool.{true, false, true≢false}
use mathlib.Core.List.{List, [], ◌∷◌, ◌++◌}
use mathlib.Core.Path.{◌≡◌, refl, sym, ap, ◌∙◌}
use lib.IntN.{ℤ, pos, negsuc, nat_abs}
use lib.Signed.{lt_z}
use lib.ListN.{length, set, replicate}
use borrow.Author.Tests.{ltb-true}
use Rattle.columns.specs.Column.{digits_before, digits, text, column, fits_column}
use Rattle.columns.proofs.Digits.{limit_free, next_digit, grows_more, text-short}

-- `first` spaces, then bytes before which the digits of `rest` complete those of m
pub record Filled (m : ℕ) (bytes : List ℕ) (first rest : ℕ) : Type 0 where
  pub done : List ℕ
  pub spaced : bytes ≡ replicate first 32 ++ done
  pub width : first + length done ≡ 10
  pub completed : digits_before rest rest done ≡ digits m

-- before the first turn, with the last digit stored
pub start : (m : ℕ) → Filled m (set (replicate 10 32) 9 (48 + m % 10)) 9 (m / 10)
start m =
    record {
      done = (48 + m % 10) ∷ [];
      spaced = refl;
      width = refl;
      completed = whole;
    }
  where
    whole : digits_before (m / 10) (m / 10) ((48 + m % 10) ∷ []) ≡ digits m
    whole = unfold digits in limit_free (m / 10) m (m / 10) ((48 + m % 10) ∷ []) (le_refl _) (omega arith)

-- a byte stored over the last space
store : (n : ℕ) (done : List ℕ) (b : ℕ) → 0 < n → set (replicate n 32 ++ done) (n - 1) b ≡ replicate (n - 1) 32 ++ (b ∷ done)
store zero done b h = absurd (not-suc-le-zero h)
store (suc n) done b h = rw sub-one (over n)
  where
    over : (k : ℕ) → set (replicate (suc k) 32 ++ done) k b ≡ replicate k 32 ++ (b ∷ done)
    over zero = refl
    over (suc k) = ap (λ (l : List ℕ). 32 ∷ l) (over k)

module _ (m : ℕ) (bytes : List ℕ) (first rest : ℕ) (F : Filled m bytes first rest) where
  -- while digits are left there is a space
  pub space_left : length (digits m) ≤ 10 → 0 < rest → 0 < first
  space_left short more = omega (arith, grows_more rest F.done more, ap length F.completed, F.width)

  -- one turn stores one digit
  pub turn : 0 < rest → 0 < first → Filled m (set bytes (first - 1) (48 + rest % 10)) (first - 1) (rest / 10)
  turn more space =
      record {
        done = (48 + rest % 10) ∷ F.done;
        spaced = rw F.spaced (store first F.done (48 + rest % 10) space);
        width = omega (arith, F.width);
        completed = sym (next_digit rest F.done more) ∙ F.completed;
      }

-- no digit is left
ended : (m : ℕ) (bytes : List ℕ) (first rest : ℕ) (F : Filled m bytes first rest) → rest ≤ 0 → F.done ≡ digits m
unfolding digits_before
ended m bytes first zero F h = F.completed
ended m bytes first (suc rest) F h = absurd (not-suc-le-zero h)

-- the text by the test of the sign
text-not-negative : (z : ℤ) → lt_z z (pos 0) ≡ false → text z ≡ digits (nat_abs z)
unfolding text
text-not-negative (pos n) h = refl
text-not-negative (negsuc n) h = absurd (true≢false h)

text-negative : (z : ℤ) → lt_z z (pos 0) ≡ true → text z ≡ 45 ∷ digits (nat_abs z)
unfolding text
text-negative (pos n) h = absurd (not-suc-le-zero (ltb-true n 0 h))
text-negative (negsuc n) h = refl

pub digits-short : (z : ℤ) → fits_column z ≡ true → length (digits (nat_abs z)) ≤ 10
unfolding text
digits-short (pos n) h = text-short (pos n) h
digits-short (negsuc n) h = omega (arith, text-short (negsuc n) h)

-- what the bytes are once no digit is left
module _ (z : ℤ) (bytes : List ℕ) (first rest : ℕ) (F : Filled (nat_abs z) bytes first rest) (h : rest ≤ 0) where
  pub space_for_minus : fits_column z ≡ true → lt_z z (pos 0) ≡ true → 0 < first
  space_for_minus fit neg =
      omega (arith, F.width, ap length (ended (nat_abs z) bytes first rest F h), text-short z fit, ap length (text-negative z neg))

  pub column-not-negative : lt_z z (pos 0) ≡ false → bytes ≡ column z
  unfolding column
  column-not-negative not_neg =
      let e = ended (nat_abs z) bytes first rest F h in
      let n : 10 - length F.done ≡ first = omega (arith, F.width) in
      rw (text-not-negative z not_neg, ← e, n) F.spaced

  pub column-negative : lt_z z (pos 0) ≡ true → 0 < first → set bytes (first - 1) 45 ≡ column z
  unfolding column
  column-negative neg space =
      let e = ended (nat_abs z) bytes first rest F h in
      let n : 10 - suc (length F.done) ≡ first - 1 = omega (arith, F.width) in
      rw (text-negative z neg, ← e, n, F.spaced) (store first F.done 45 space)
