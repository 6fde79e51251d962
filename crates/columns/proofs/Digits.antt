-- Laws of a number's digits: how they are found one by one, how many they are, and that they fit a column exactly if the number does.
-- Assumes nothing.
use Prim.Native.Nat.{ℕ, zero, suc, ◌+◌, ◌/◌, ◌%◌, ◌^◌, ◌≤◌, ◌<◌}
use native.Mathlib.Nat.{not-suc-le-zero, le_refl, pow-suc, one-le-pow}
use native.Mathlib.Omega.{arith}
use mathlib.Core.Bool.{Bool, true, false}
use mathlib.Core.List.{List, [], ◌∷◌}
use mathlib.Core.Path.{◌≡◌, refl, sym, ◌∙◌}
use lib.IntN.{ℤ, pos, negsuc}
use lib.ListN.{length}
use lib.Dec.{leb, lit<}
use borrow.Author.Tests.{leb-true, leb-false}
use Rattle.columns.specs.Column.{digits_before, digits, text, fits_column}

-- a limit that is high enough plays no part
pub limit_free : (f g n : ℕ) (bytes : List ℕ) → n ≤ f → n ≤ g → digits_before f n bytes ≡ digits_before g n bytes
unfolding digits_before
limit_free zero zero n bytes hf hg = refl
limit_free zero (suc g) zero bytes hf hg = refl
limit_free zero (suc g) (suc n) bytes hf hg = absurd (not-suc-le-zero hf)
limit_free (suc f) zero zero bytes hf hg = refl
limit_free (suc f) zero (suc n) bytes hf hg = absurd (not-suc-le-zero hg)
limit_free (suc f) (suc g) zero bytes hf hg = refl
limit_free (suc f) (suc g) (suc n) bytes hf hg = limit_free f g (suc n / 10) ((48 + suc n % 10) ∷ bytes) (omega arith) (omega arith)

-- one digit more
pub next_digit : (n : ℕ) (bytes : List ℕ) → 0 < n → digits_before n n bytes ≡ digits_before (n / 10) (n / 10) ((48 + n % 10) ∷ bytes)
unfolding digits_before
next_digit zero bytes h = absurd (not-suc-le-zero h)
next_digit (suc n) bytes h = limit_free n (suc n / 10) (suc n / 10) ((48 + suc n % 10) ∷ bytes) (omega arith) (le_refl _)

-- no byte is lost, and while the number is not 0 one is added
grows : (f n : ℕ) (bytes : List ℕ) → length bytes ≤ length (digits_before f n bytes)
unfolding digits_before
grows zero n bytes = le_refl _
grows (suc f) zero bytes = le_refl _
grows (suc f) (suc n) bytes = let h = grows f (suc n / 10) ((48 + suc n % 10) ∷ bytes) in omega arith

pub grows_more : (n : ℕ) (bytes : List ℕ) → 0 < n → length bytes < length (digits_before n n bytes)
unfolding digits_before
grows_more zero bytes h = absurd (not-suc-le-zero h)
grows_more (suc n) bytes h = grows n (suc n / 10) ((48 + suc n % 10) ∷ bytes)

-- a number below 10 to the power k has at most k digits
few : (k f n : ℕ) (bytes : List ℕ) → n < 10 ^ k → length (digits_before f n bytes) ≤ k + length bytes
unfolding digits_before
few k zero n bytes h = omega arith
few k (suc f) zero bytes h = omega arith
few zero (suc f) (suc n) bytes h = absurd (omega arith)
few (suc k) (suc f) (suc n) bytes h =
    let p = pow-suc 10 k in
    let r = few k f (suc n / 10) ((48 + suc n % 10) ∷ bytes) (omega arith) in
    omega arith

-- a number of at most k digits is below 10 to the power k
small : (k f n : ℕ) (bytes : List ℕ) → n ≤ f → length (digits_before f n bytes) ≤ k + length bytes → n < 10 ^ k
unfolding digits_before
small k zero n bytes hf h = let p = one-le-pow k 10 (lit< tt) in omega arith
small k (suc f) zero bytes hf h = one-le-pow k 10 (lit< tt)
small zero (suc f) (suc n) bytes hf h = let g = grows f (suc n / 10) ((48 + suc n % 10) ∷ bytes) in absurd (omega arith)
small (suc k) (suc f) (suc n) bytes hf h =
    let p = pow-suc 10 k in
    let r = small k f (suc n / 10) ((48 + suc n % 10) ∷ bytes) (omega arith) (omega arith) in
    omega arith

-- the same of all the digits of n
digits-few : (k n : ℕ) → n < 10 ^ suc k → length (digits n) ≤ suc k
unfolding digits
digits-few k n h =
    let p = pow-suc 10 k in
    let r = few k n (n / 10) ((48 + n % 10) ∷ []) (omega arith) in
    omega arith

digits-small : (k n : ℕ) → length (digits n) ≤ suc k → n < 10 ^ suc k
unfolding digits
digits-small k n h =
    let p = pow-suc 10 k in
    let r = small k n (n / 10) ((48 + n % 10) ∷ []) (omega arith) (omega arith) in
    omega arith

-- two tests agree if each follows from the other
pub tests_agree : (a b c d : ℕ) → (a ≤ b → c ≤ d) → (c ≤ d → a ≤ b) → leb a b ≡ leb c d
tests_agree a b c d to from = by (leb a b) (leb c d) refl refl
  where
    by : (t u : Bool) → leb a b ≡ t → leb c d ≡ u → t ≡ u
    by true true e₁ e₂ = refl
    by true false e₁ e₂ = let h = to (leb-true a b e₁) in absurd (omega (arith, leb-false c d e₂))
    by false true e₁ e₂ = let h = from (leb-true c d e₂) in absurd (omega (arith, leb-false a b e₁))
    by false false e₁ e₂ = refl

-- a number fits exactly if its text has at most ten bytes
pub fits_width : (z : ℤ) → fits_column z ≡ leb (length (text z)) 10
unfolding fits_column text
fits_width (pos n) = tests_agree n 9999999999 (length (digits n)) 10 (λ h. digits-few 9 n (omega arith)) (λ h. let r = digits-small 9 n h in omega arith)
fits_width (negsuc n) =
    tests_agree (suc n) 999999999 (suc (length (digits (suc n)))) 10
    (λ h. let r = digits-few 8 (suc n) (omega arith) in omega arith)
    (λ h. let r = digits-small 8 (suc n) (omega arith) in omega arith)

pub text-short : (z : ℤ) → fits_column z ≡ true → length (text z) ≤ 10
text-short z h = leb-true (length (text z)) 10 (sym (fits_width z) ∙ h)
