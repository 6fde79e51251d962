-- Laws of reading: a column decodes to its number, and bytes that are read as a number are its column.
-- Assumes nothing.
use Prim.Native.Nat.{ℕ, zero, suc, ◌+◌, ◌-◌, ◌*◌, ◌/◌, ◌%◌, ◌≤◌, ◌<◌}
use native.Mathlib.Nat.{not-suc-le-zero}
use native.Mathlib.Numerals.{add-one}
use native.Mathlib.Omega.{arith}
use mathlib.Core.Bool.{Bool, true, false, cond, ◌&&◌, ◌||◌, false≢true}
use mathlib.Core.List.{List, [], ◌∷◌, ◌++◌}
use mathlib.Core.Path.{◌≡◌, refl, sym, ap, ◌∙◌}
use lib.IntN.{ℤ, pos, negsuc}
use lib.ListN.{length, get_or, drop, replicate, length-append, length-replicate}
use lib.Seq.{drop-cons}
use lib.Dec.{eqb}
use borrow.Author.Tests.{le-leb, eqb-true, eq-eqb, ne_eqb}
use Rattle.std.specs.List.{list_any}
use Rattle.columns.specs.Column.{digits_before, digits, text, column, fits_column, value_after, has_minus, signed, decode, same_bytes, read_bytes}
use Rattle.std.specs.Prelude.{Some, None}
use Rattle.columns.proofs.Digits.{fits_width, text-short}

-- digits are read back as their number
value-digits_before : (f n : ℕ) (bytes : List ℕ) → n ≤ f → value_after 0 (digits_before f n bytes) ≡ value_after n bytes
unfolding digits_before value_after
value-digits_before zero zero bytes h = refl
value-digits_before zero (suc n) bytes h = absurd (not-suc-le-zero h)
value-digits_before (suc f) zero bytes h = refl
value-digits_before (suc f) (suc n) bytes h =
    let e : suc n / 10 * 10 + (48 + suc n % 10 - 48) ≡ suc n = omega arith in
    value-digits_before f (suc n / 10) ((48 + suc n % 10) ∷ bytes) (omega arith) ∙ ap (λ (k : ℕ). value_after k bytes) e

value-digits : (n : ℕ) → value_after 0 (digits n) ≡ n
unfolding digits value_after
value-digits n =
    let e : n / 10 * 10 + (48 + n % 10 - 48) ≡ n = omega arith in
    value-digits_before n (n / 10) ((48 + n % 10) ∷ []) (omega arith) ∙ e

-- no digit is a minus
digit_no_minus : (n : ℕ) (bytes : List ℕ) → has_minus ((48 + n % 10) ∷ bytes) ≡ has_minus bytes
unfolding has_minus
digit_no_minus n bytes = rw (ne_eqb (48 + n % 10) 45 (λ e. omega arith))

minus_digits_before : (f n : ℕ) (bytes : List ℕ) → has_minus (digits_before f n bytes) ≡ has_minus bytes
unfolding digits_before
minus_digits_before zero n bytes = refl
minus_digits_before (suc f) zero bytes = refl
minus_digits_before (suc f) (suc n) bytes = minus_digits_before f (suc n / 10) ((48 + suc n % 10) ∷ bytes) ∙ digit_no_minus (suc n) bytes

minus_digits : (n : ℕ) → has_minus (digits n) ≡ false
unfolding digits has_minus
minus_digits n = minus_digits_before n (n / 10) ((48 + n % 10) ∷ []) ∙ digit_no_minus n []

-- spaces count for nothing
value-spaces : (k : ℕ) (bytes : List ℕ) → value_after 0 (replicate k 32 ++ bytes) ≡ value_after 0 bytes
unfolding value_after
value-spaces zero bytes = refl
value-spaces (suc k) bytes = value-spaces k bytes

minus_spaces : (k : ℕ) (bytes : List ℕ) → has_minus (replicate k 32 ++ bytes) ≡ has_minus bytes
unfolding has_minus
minus_spaces zero bytes = refl
minus_spaces (suc k) bytes = minus_spaces k bytes

-- one byte read
pub next-value : (m : ℕ) (bytes : List ℕ) (i : ℕ) → i < length bytes → value_after m (drop i bytes) ≡ value_after (m * 10 + (get_or bytes i 0 - 48)) (drop (i + 1) bytes)
unfolding value_after
next-value m bytes i h = rw (add-one, drop-cons bytes i 0)

-- the test of each byte
pub any_minus : (bytes : List ℕ) → list_any (λ b. eqb b 45) bytes ≡ has_minus bytes
unfolding has_minus
any_minus [] = refl
any_minus (b ∷ bytes) = ap (λ (t : Bool). eqb b 45 || t) (any_minus bytes)

decode-text : (z : ℤ) → decode (text z) ≡ z
unfolding decode text signed has_minus value_after
decode-text (pos n) = rw (minus_digits n, value-digits n)
decode-text (negsuc n) = rw (value-digits (suc n))

pub decode-column : (z : ℤ) → decode (column z) ≡ z
decode-column z = spaces ∙ decode-text z
  where
    spaces : decode (column z) ≡ decode (text z)
    spaces = unfold decode column in rw (minus_spaces, value-spaces)

pub both : (p q : Bool) → (p && q) ≡ true → (p ≡ true) × (q ≡ true)
both true q e = (refl, e)
both false q e = absurd (false≢true e)

-- the test of equality
pub same_refl : (bytes : List ℕ) → same_bytes bytes bytes ≡ true
unfolding same_bytes
same_refl [] = refl
same_refl (b ∷ bytes) = rw (eq-eqb b b refl, same_refl bytes)

pub same_eq : (a b : List ℕ) → same_bytes a b ≡ true → a ≡ b
unfolding same_bytes
same_eq [] [] e = refl
same_eq [] (y ∷ b) e = absurd (false≢true e)
same_eq (x ∷ a) [] e = absurd (false≢true e)
same_eq (x ∷ a) (y ∷ b) e =
    let h = both (eqb x y) (same_bytes a b) e in
    let p = eqb-true x y h.0 in
    let q = same_eq a b h.1 in
    cc

-- a column is never shorter than ten bytes, and exactly ten if its number fits
pub column_long : (z : ℤ) → 10 ≤ length (column z)
unfolding column
column_long z = simp (length-append, length-replicate) (omega arith)

pub column_ten : (z : ℤ) → fits_column z ≡ true → length (column z) ≡ 10
unfolding column
column_ten z h =
    let w = text-short z h in
    simp (length-append, length-replicate) (omega arith)

pub fits_of_ten : (z : ℤ) → length (column z) ≤ 10 → fits_column z ≡ true
unfolding column
fits_of_ten z h =
    let w : 10 - length (text z) + length (text z) ≤ 10 = simp (length-append, length-replicate) at h in
    fits_width z ∙ le-leb (length (text z)) 10 (omega arith)

pub read-column_bytes : (z : ℤ) → read_bytes (column z) ≡ Some z
unfolding read_bytes
read-column_bytes z = rw (decode-column z, same_refl (column z))

-- the bytes of an accepted column are the number's
pub read_number : (bytes : List ℕ) (z : ℤ) → read_bytes bytes ≡ Some z → bytes ≡ column z
unfolding read_bytes
read_number bytes z = by (same_bytes (column (decode bytes)) bytes) refl
  where
    by : (t : Bool) → same_bytes (column (decode bytes)) bytes ≡ t → cond t (Some (decode bytes)) None ≡ Some z → bytes ≡ column z
    by true e h = let d : decode bytes ≡ z = cc in sym (same_eq (column (decode bytes)) bytes e) ∙ ap column d
    by false e h = let o : ◌≡◌ {A = ℕ} 0 1 = cc in absurd (omega arith)
