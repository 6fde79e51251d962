-- Numbers as the reader holds them: a number in range is kept, and any other stays out of range, so the refusals of a curve are the same.
-- Assumes nothing.
use mathlib.Core.Path.{◌≡◌, refl, sym, ap, ap₂, ◌∙◌}
use mathlib.Core.Bool.{Bool, true, false, ◌&&◌, cond, false≢true}
use Prim.Native.Nat.{suc, ◌^◌}
use native.Mathlib.Omega.{arith}
use lib.Dec.{T, leb}
use lib.IntN.{ℤ, pos, negsuc}
use mir.Syntax.{w32}
use mir.Val.{SFits}
use borrow.Author.Tests.{leb-true, ltb-true}
use Rattle.std.proofs.lemmas.Bool.{lt-ltb}
use Rattle.std.specs.Prelude.{Result, Ok, Err}
use Rattle.std.specs.Result.{OkIff, result_unwrap_or}
use Rattle.columns.proofs.Decode.{both}
use Rattle.curve.specs.declared.Interval.{Interval}
use Rattle.curve.specs.declared.Rect.{Rect}
use Rattle.curve.specs.Limits.{max_side}
use Rattle.curve.specs.Rect.{in_range, ends_in_range, sides_in_range}
use Rattle.card_text.specs.Inner.{fits_side, limited, limited_ends, limited_rect}

pub holds-true : (b : Bool) → T b → b ≡ true
holds-true true t = refl
holds-true false t = absurd t

-- ---- a number

beyond : in_range (pos (suc max_side)) ≡ false
unfolding in_range
beyond = refl

-- a side in range fits
fits : (z : ℤ) → in_range z ≡ true → fits_side z ≡ true
unfolding in_range fits_side
fits (pos n) e =
    let h = leb-true n max_side (both true (leb n max_side) e).1 in
    lt-ltb n (2 ^ 31) (omega arith)
fits (negsuc n) e =
    let h = leb-true n 16777215 (both (leb n 16777215) true e).0 in
    lt-ltb n (2 ^ 31) (omega arith)

module _ (z : ℤ) where
  outside : fits_side z ≡ false → in_range z ≡ false
  outside e = by (in_range z) refl
    where
      by : (b : Bool) → in_range z ≡ b → in_range z ≡ false
      by true f = absurd (false≢true (sym e ∙ fits z f))
      by false f = f

  limited_in : in_range z ≡ true → limited z ≡ z
  unfolding limited
  limited_in e = ap (λ (b : Bool). cond b z (pos (suc max_side))) (fits z e)

  limited_range : in_range (limited z) ≡ in_range z
  unfolding limited
  limited_range = by (fits_side z) refl
    where
      by : (b : Bool) → fits_side z ≡ b → in_range (cond (fits_side z) z (pos (suc max_side))) ≡ in_range z
      by true e = rw e
      by false e = rw e (beyond ∙ sym (outside e))

-- the test of 32 bits
fits_bits : (z : ℤ) → SFits w32 z → fits_side z ≡ true
unfolding fits_side
fits_bits (pos n) h = lt-ltb n (2 ^ 31) h.sfits
fits_bits (negsuc n) h = lt-ltb n (2 ^ 31) h.sfits

bits_fit : (z : ℤ) → fits_side z ≡ true → SFits w32 z
unfolding fits_side
bits_fit (pos n) e = record { sfits = ltb-true n (2 ^ 31) e }
bits_fit (negsuc n) e = record { sfits = ltb-true n (2 ^ 31) e }

-- a number converted to 32 bits, or the first number above every side
pub side_read : {E : Type 0} (z u : ℤ) (r : Result ℤ E) → OkIff r (SFits w32 z) z → u ≡ result_unwrap_or r (pos (suc max_side)) → u ≡ limited z
unfolding limited
side_read z u (Ok x) h e = e ∙ h.1 ∙ ap (λ (b : Bool). cond b z (pos (suc max_side))) (sym (fits_bits z h.0))
side_read z u (Err x) h e = by (fits_side z) refl
  where
    by : (b : Bool) → fits_side z ≡ b → u ≡ cond b z (pos (suc max_side))
    by true f = absurd (h (bits_fit z f))
    by false f = e

-- ---- a rectangle

ends_range : (i : Interval) → ends_in_range (limited_ends i) ≡ ends_in_range i
unfolding ends_in_range limited_ends
ends_range i = ap₂ ◌&&◌ (limited_range i.low) (limited_range i.high)

ends_in : (i : Interval) → ends_in_range i ≡ true → limited_ends i ≡ i
unfolding ends_in_range limited_ends
ends_in i e =
    let (low, high) = both (in_range i.low) (in_range i.high) e in
    ap₂ (λ (a b : ℤ). record { low = a; high = b }) (limited_in i.low low) (limited_in i.high high)

pub rect_range : (p : Rect) → sides_in_range (limited_rect p) ≡ sides_in_range p
unfolding sides_in_range limited_rect
rect_range p = ap₂ ◌&&◌ (ends_range p.resistance) (ends_range p.reactance)

pub rect_in : (p : Rect) → sides_in_range p ≡ true → limited_rect p ≡ p
unfolding sides_in_range limited_rect
rect_in p e =
    let (first, second) = both (ends_in_range p.resistance) (ends_in_range p.reactance) e in
    ap₂ (λ (i j : Interval). record { resistance = i; reactance = j }) (ends_in p.resistance first) (ends_in p.reactance second)
