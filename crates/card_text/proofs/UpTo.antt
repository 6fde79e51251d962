-- A number from 0 to a greatest one, by the two tests that code makes of it or by its conversion, and back.
-- Assumes nothing.
use mathlib.Core.Path.{◌≡◌, refl, sym, ap, ◌∙◌}
use mathlib.Core.Bool.{Bool, true, false, cond, ◌&&◌, and-false, false≢true, true≢false}
use native.Mathlib.Omega.{arith}
use Prim.Native.Nat.{ℕ, ◌≤◌, ◌<◌}
use lib.Dec.{leb, leb-zero}
use lib.IntN.{ℤ, pos, negsuc, nat_abs}
use lib.Signed.{le_z}
use mathlib.Core.Logic.{◌⊎◌, inl, inr}
use borrow.Author.Tests.{leb-true, leb-false, le-leb, lt-leb}
use Rattle.curve.specs.declared.Refusal.{Refusal}
use Rattle.curve.specs.Limits.{max_degree}
use Rattle.std.specs.Prelude.{Result, Ok, Err}
use Rattle.std.specs.Result.{OkIff, result_unwrap_or}
use Rattle.std.specs.Int.{FitsUnsignedBits}
use Rattle.curve.specs.Refusals.{none, unless, degree_refusal}
use Rattle.card_text.specs.Reading.{up_to, degree_of}

-- ---- any greatest number, and any other one outside

module _ (most other : ℕ) where
  pub number_in : (z : ℤ) → le_z (pos 0) z ≡ true → le_z z (pos most) ≡ true → nat_abs z ≡ up_to most other z
  unfolding up_to
  number_in (pos n) low high = rw high
  number_in (negsuc n) low high = absurd (false≢true low)

  pub number_above : (z : ℤ) → le_z (pos 0) z ≡ true → le_z z (pos most) ≡ false → other ≡ up_to most other z
  unfolding up_to
  number_above (pos n) low high = rw high
  number_above (negsuc n) low high = refl

  pub number_below : (z : ℤ) → le_z (pos 0) z ≡ false → other ≡ up_to most other z
  unfolding up_to
  number_below (pos n) low = absurd (true≢false (sym (leb-zero n) ∙ low))
  number_below (negsuc n) low = refl

  pub number_back : (n : ℕ) → n ≤ most → up_to most other (pos n) ≡ n
  unfolding up_to
  number_back n h = ap (λ (b : Bool). cond b n other) (le-leb n most h)

  -- whatever the number
  pub number-most : other ≤ most → (z : ℤ) → up_to most other z ≤ most
  unfolding up_to
  number-most fits (pos n) = go (leb n most) refl
    where
      go : (t : Bool) → leb n most ≡ t → cond t n other ≤ most
      go true e = leb-true n most e
      go false e = fits
  number-most fits (negsuc n) = fits

-- ---- degrees

pub degree_of_pos : (n : ℕ) → n ≤ max_degree → degree_of (pos n) ≡ n
degree_of_pos = number_back max_degree 0

pub degree-at-most : (z : ℤ) → degree_of z ≤ max_degree
degree-at-most = number-most max_degree 0 (omega arith)

-- a number above every degree is refused as 0 is
too_high : {n : ℕ} → max_degree < n → degree_refusal n ≡ degree_refusal 0
too_high {n} h = ap (λ (b : Bool). unless (leb 1 n && b) 1) (lt-leb n max_degree h) ∙ ap (λ (b : Bool). unless b 1) (and-false (leb 1 n))

-- what a number gives that is converted to 32 bits, with 0 in the place of one that does not fit
degree_or_more : {E : Type 0} (z : ℤ) (n : ℕ) (r : Result ℕ E) → OkIff r (FitsUnsignedBits 32 z) (nat_abs z) → n ≡ result_unwrap_or r 0 →
    (n ≡ degree_of z) ⊎ ((max_degree < n) × (degree_of z ≡ 0))
unfolding up_to
degree_or_more (pos m) n (Ok x) h e = by (leb m max_degree) refl
  where
    by : (b : Bool) → leb m max_degree ≡ b → (n ≡ cond b m 0) ⊎ ((max_degree < n) × (cond b m 0 ≡ 0))
    by true f = inl (e ∙ h.1)
    by false f = inr (omega (arith, e ∙ h.1, leb-false m max_degree f), refl)
degree_or_more (pos m) n (Err x) h e = by (leb m max_degree) refl
  where
    by : (b : Bool) → leb m max_degree ≡ b → (n ≡ cond b m 0) ⊎ ((max_degree < n) × (cond b m 0 ≡ 0))
    by true f = absurd (h (omega (arith, leb-true m max_degree f)))
    by false f = inl e
degree_or_more (negsuc m) n (Ok x) h e = absurd h.0
degree_or_more (negsuc m) n (Err x) h e = inl e

-- it is refused as the number's degree is, and is that degree where it is accepted
module _ {E : Type 0} (z : ℤ) (n : ℕ) (r : Result ℕ E) (h : OkIff r (FitsUnsignedBits 32 z) (nat_abs z)) (e : n ≡ result_unwrap_or r 0) where
  pub degree_read : degree_refusal n ≡ degree_refusal (degree_of z)
  degree_read = by (degree_or_more z n r h e)
    where
      by : (n ≡ degree_of z) ⊎ ((max_degree < n) × (degree_of z ≡ 0)) → degree_refusal n ≡ degree_refusal (degree_of z)
      by (inl f) = ap degree_refusal f
      by (inr (more, f)) = too_high more ∙ ap degree_refusal (sym f)

  pub degree_kept : none ≡ degree_refusal n → n ≡ degree_of z
  degree_kept k = by (degree_or_more z n r h e)
    where
      by : (n ≡ degree_of z) ⊎ ((max_degree < n) × (degree_of z ≡ 0)) → n ≡ degree_of z
      by (inl f) = f
      by (inr (more, f)) = let o : ◌≡◌ {A = ℕ} 0 1 = ap (λ (x : Refusal). x.number) (k ∙ too_high more) in absurd (omega arith)

-- a degree that is not 0 is the number itself
pub degree_back : (z : ℤ) → 1 ≤ degree_of z → z ≡ pos (degree_of z)
unfolding up_to
degree_back (pos n) h = by (leb n max_degree) h
  where
    by : (b : Bool) → 1 ≤ cond b n 0 → pos n ≡ pos (cond b n 0)
    by true h = refl
    by false h = absurd (omega arith)
degree_back (negsuc n) h = absurd (omega arith)
