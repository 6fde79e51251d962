-- Laws of lines of numbers: numbers that fit, columns one behind the other, how long they are, and how they follow each other in a buffer.
-- Assumes nothing.
use mathlib.Core.Path.{◌≡◌, refl, sym, ap, ap₂, ◌∙◌}
use mathlib.Core.Bool.{Bool, true, ◌&&◌}
use mathlib.Core.List.{List, [], ◌∷◌, ◌++◌, append_assoc, append-nil}
use Prim.Native.Nat.{ℕ, zero, suc, ◌+◌, ◌*◌, ◌≤◌, ◌<◌}
use native.Mathlib.Numerals.{add-one}
use native.Mathlib.Omega.{arith}
use lib.IntN.{ℤ, pos}
use lib.ListN.{length, get_or, take, drop, length-append, length-take}
use lib.Seq.{take-suc, take_at, drop_at, drop-drop}
use borrow.Author.Tests.{le-leb}
use Rattle.std.specs.List.{list_all}
use Rattle.columns.specs.Column.{column, fits_column}
use Rattle.columns.specs.Line.{placed, newline, columns, line, line_length, all_fit}
use Rattle.columns.proofs.Decode.{both, column_ten}
use Rattle.columns.proofs.Placed.{placed_then}

-- ---- numbers that fit

pub number_fits : (n : ℕ) → n ≤ 9999999999 → fits_column (pos n) ≡ true
unfolding fits_column
number_fits n h = le-leb n 9999999999 h

pub fit_none : all_fit [] ≡ true
unfolding all_fit
fit_none = refl

pub fit_more : (z : ℤ) (zs : List ℤ) → fits_column z ≡ true → all_fit zs ≡ true → all_fit (z ∷ zs) ≡ true
unfolding all_fit
fit_more z zs f g = ap₂ ◌&&◌ f g

fit_split : (z : ℤ) (zs : List ℤ) → all_fit (z ∷ zs) ≡ true → (fits_column z ≡ true) × (all_fit zs ≡ true)
unfolding all_fit
fit_split z zs e = both (fits_column z) (all_fit zs) e

pub fit_take : (k : ℕ) (zs : List ℤ) → all_fit zs ≡ true → all_fit (take k zs) ≡ true
fit_take zero zs f = fit_none
fit_take (suc k) [] f = fit_none
fit_take (suc k) (z ∷ zs) f = let (h, t) = fit_split z zs f in fit_more z (take k zs) h (fit_take k zs t)

pub fit_at : (zs : List ℤ) (k : ℕ) → all_fit zs ≡ true → k < length zs → fits_column (get_or zs k (pos 0)) ≡ true
fit_at [] k f h = absurd (omega arith)
fit_at (z ∷ zs) zero f h = (fit_split z zs f).0
fit_at (z ∷ zs) (suc k) f h = fit_at zs k (fit_split z zs f).1 (omega arith)

-- the test of each number
pub each_fits : (zs : List ℤ) → list_all fits_column zs ≡ all_fit zs
unfolding all_fit
each_fits [] = refl
each_fits (z ∷ zs) = ap (λ (t : Bool). fits_column z && t) (each_fits zs)

-- ---- columns

pub columns_append : (a b : List ℤ) → columns (a ++ b) ≡ columns a ++ columns b
unfolding columns
columns_append [] b = refl
columns_append (z ∷ a) b = ap (λ (l : List ℕ). column z ++ l) (columns_append a b) ∙ sym (append_assoc (column z) (columns a) (columns b))

pub columns_one : (z : ℤ) → columns (z ∷ []) ≡ column z
unfolding columns
columns_one z = append-nil (column z)

pub columns_long : (zs : List ℤ) → all_fit zs ≡ true → length (columns zs) ≡ 10 * length zs
unfolding columns
columns_long [] f = refl
columns_long (z ∷ zs) f =
    let (h, t) = fit_split z zs f in
    length-append (column z) (columns zs) ∙ rw (column_ten z h, columns_long zs t) (omega arith)

-- those of the first k numbers, and of one number more
pub columns-to : (zs : List ℤ) (k : ℕ) → all_fit zs ≡ true → k ≤ length zs → length (columns (take k zs)) ≡ 10 * k
columns-to zs k f h = columns_long (take k zs) (fit_take k zs f) ∙ rw (length-take k zs) (omega arith)

pub columns-next : (zs : List ℤ) (k : ℕ) → k < length zs → columns (take (k + 1) zs) ≡ columns (take k zs) ++ column (get_or zs k (pos 0))
columns-next zs k h =
    ap (λ (n : ℕ). columns (take n zs)) (add-one k) ∙ ap columns (take-suc zs k (pos 0) h)
    ∙ columns_append (take k zs) (get_or zs k (pos 0) ∷ []) ∙ ap (λ (l : List ℕ). columns (take k zs) ++ l) (columns_one (get_or zs k (pos 0)))

-- the ten bytes of the number at k
pub columns-at : (zs : List ℤ) (more : List ℕ) (k : ℕ) → all_fit zs ≡ true → k < length zs →
    take 10 (drop (10 * k) (columns zs ++ more)) ≡ column (get_or zs k (pos 0))
unfolding columns
columns-at [] more k f h = absurd (omega arith)
columns-at (z ∷ zs) more zero f h =
    rw append_assoc (take_at (column z) (columns zs ++ more) 10 (column_ten z (fit_split z zs f).0))
columns-at (z ∷ zs) more (suc k) f h =
    let (first, rest) = fit_split z zs f in
    let e : 10 * suc k ≡ 10 + 10 * k = omega arith in
    rw (e, append_assoc, ← drop-drop (10 * k) 10 (column z ++ (columns zs ++ more)), drop_at (column z) (columns zs ++ more) 10 (column_ten z first))
    (columns-at zs more k rest (omega arith))

-- ---- lines

pub line_long : (zs : List ℤ) → all_fit zs ≡ true → length (line zs) ≡ line_length (length zs)
unfolding line
line_long zs f = length-append (columns zs) (newline ∷ []) ∙ rw (columns_long zs f)

-- ---- in a buffer

-- columns or a line, put behind columns that stand there already
module _ (bytes : List ℕ) (at : ℕ) (a b : List ℤ) (out : List ℕ) (fits : all_fit a ≡ true) (room : at + 10 * length a ≤ length bytes) (e : out ≡ placed bytes at (columns a)) where
  behind : (next : List ℕ) → placed out (at + 10 * length a) next ≡ placed bytes at (columns a ++ next)
  behind next = placed_then bytes at (10 * length a) (columns a) next out (columns_long a fits) room e
