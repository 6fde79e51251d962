-- A column: the decimal text of a whole number, set to the right in ten bytes, and what stands at an offset of some bytes.
-- Assumes nothing.
use Rattle.std.specs.Prelude.{ℕ, zero, suc, ◌+◌, ◌-◌, ◌*◌, ◌/◌, ◌%◌, Bool, true, false, cond, ◌&&◌, ◌||◌, Option, None, Some, List, [], ◌∷◌, ◌++◌, ℤ, pos, negsuc, neg_ℤ, length, take, drop, replicate, leb, eqb}

-- the digits of n in front of some bytes, none for 0, and at most `limit` of them
unfoldable pub digits_before : ℕ → ℕ → List ℕ → List ℕ
digits_before zero n bytes = bytes
digits_before (suc limit) zero bytes = bytes
digits_before (suc limit) (suc n) bytes = digits_before limit (suc n / 10) ((48 + suc n % 10) ∷ bytes)

-- the decimal digits of n, with no leading zero; n has at most n digits besides the last
unfoldable pub digits : ℕ → List ℕ
digits n = digits_before n (n / 10) ((48 + n % 10) ∷ [])

-- the digits of a number, with a minus before them if it is negative; `negsuc n` is −(n + 1)
unfoldable pub text : ℤ → List ℕ
text (pos n) = digits n
text (negsuc n) = 45 ∷ digits (suc n)

-- spaces, then the text: ten bytes if the text is no longer
unfoldable pub column : ℤ → List ℕ
column z = replicate (10 - length (text z)) 32 ++ text z

-- whether a number is from −999,999,999 to 9,999,999,999
unfoldable pub fits_column : ℤ → Bool
fits_column (pos n) = leb n 9999999999
fits_column (negsuc n) = leb (suc n) 999999999

-- the number whose digits are those of m and then the bytes; a byte below 48 is read as the digit 0
unfoldable pub value_after : ℕ → List ℕ → ℕ
value_after m [] = m
value_after m (b ∷ bytes) = value_after (m * 10 + (b - 48)) bytes

-- whether one of the bytes is a minus
unfoldable pub has_minus : List ℕ → Bool
has_minus [] = false
has_minus (b ∷ bytes) = eqb b 45 || has_minus bytes

-- m, or −m
unfoldable pub signed : Bool → ℕ → ℤ
signed true m = neg_ℤ (pos m)
signed false m = pos m

-- the number that some bytes show, read leniently
unfoldable pub decode : List ℕ → ℤ
decode bytes = signed (has_minus bytes) (value_after 0 bytes)

-- whether two lists are equal
unfoldable pub same_bytes : List ℕ → List ℕ → Bool
same_bytes [] [] = true
same_bytes [] (y ∷ ys) = false
same_bytes (x ∷ xs) [] = false
same_bytes (x ∷ xs) (y ∷ ys) = eqb x y && same_bytes xs ys

-- the number that some bytes show if they are exactly its column; none where they are malformed
unfoldable pub read_bytes : List ℕ → Option ℤ
read_bytes bytes = cond (same_bytes (column (decode bytes)) bytes) (Some (decode bytes)) None

-- what the ten bytes at an offset are; fewer than ten are malformed, since no column is shorter
unfoldable pub read_at : List ℕ → ℕ → Option ℤ
read_at bytes at = read_bytes (take 10 (drop at bytes))
