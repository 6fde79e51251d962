-- Every side in range, divided by the steps in an ohm in single precision, loses nothing.
-- Assumes nothing.
use mathlib.Core.Path.{◌≡◌, refl, sym, ap, ◌∙◌, subst}
use mathlib.Core.Bool.{Bool, true, false}
use mathlib.Core.Logic.{◌⊎◌, inl, inr}
use Prim.Native.Nat.{ℕ, suc, ◌+◌, ◌*◌, ◌^◌, ◌≤◌, ◌<◌}
use native.Mathlib.Nat.{mul_assoc, mul_comm, mul-pos, lt_trans, eq-or-lt_of_le}
use native.Mathlib.Omega.{arith}
use lib.Dec.{T, leb→le, lit<}
use lib.Pow.{shl_lt, pow-lt}
use lib.IntN.{ℤ, pos, negsuc, neg_ℤ, nat_abs}
use lib.Signed.{le_z}
use lib.Ieee.{Float, nan, inf, fin, binary32, prec, low, emax, up, down, round, of_int, div, unlike}
use lib.Ieee.Fits.{and_l, and_r, down_pos}
use lib.Ieee.Exact.{HasValue, round_exact}
use lib.Ieee.Scale.{round_same}
use lib.Ieee.Back.{round_whole}
use Rattle.curve.specs.Limits.{max_side, steps_per_ohm}
use Rattle.curve.specs.Rect.{in_range}
use Rattle.curve.specs.Ohms.{ohm}
use Rattle.curve_promises.specs.Promises.{ExactOhms}

-- a side's size
in_range_size : (z : ℤ) → T (in_range z) → nat_abs z ≤ max_side
unfolding in_range
in_range_size (pos n) t = leb→le n max_side (and_r (le_z (neg_ℤ (pos max_side)) (pos n)) (le_z (pos n) (pos max_side)) t)
in_range_size (negsuc n) t = omega (arith, leb→le n 16777215 (and_l (le_z (neg_ℤ (pos max_side)) (negsuc n)) (le_z (negsuc n) (pos max_side)) t))

-- n / 1,024, rounded, is exact for every n up to 2^24: in units of the smallest float, 2^-149, it is n × 2^139, which for n = 2^24 is 2^163
rounded_exact : (s : Bool) (n : ℕ) → n ≤ 2 ^ prec binary32 → HasValue (round binary32 s n steps_per_ohm) s n steps_per_ohm
rounded_exact s n h = go (eq-or-lt_of_le h)
  where
    go : (n ≡ 2 ^ prec binary32) ⊎ (n < 2 ^ prec binary32) → HasValue (round binary32 s n steps_per_ohm) s n steps_per_ohm
    go (inl e) =
        subst (λ (x : ℕ). HasValue (round binary32 s x steps_per_ohm) s x steps_per_ohm) (sym e)
        (round_exact binary32 s (2 ^ prec binary32) steps_per_ohm 1 163 (lit< tt) (lit< tt) (lit< tt) refl)
    go (inr l) =
        round_exact binary32 s n steps_per_ohm n 139 (lit< tt) l (lt_trans (shl_lt 24 139 l) (pow-lt {i = 163} {j = low binary32 + suc (emax binary32)} (lit< tt)))
        (sym (mul_assoc n (2 ^ 139) steps_per_ohm))

-- dividing a float with a whole number's value rounds that number's quotient
divided : (x : Float) (s : Bool) (n : ℕ) → HasValue x s n 1 → div binary32 x (of_int binary32 (pos steps_per_ohm)) ≡ round binary32 s n steps_per_ohm
unfolding div of_int
divided nan s n v = absurd v
divided (inf t) s n v = absurd v
divided (fin t m e) s n v =
    round_same binary32 (unlike t false) (m * up e * 1) (steps_per_ohm * down e) n steps_per_ohm (mul-pos (lit< tt) (down_pos e)) (lit< tt)
    (ap (λ (x : ℕ). x * steps_per_ohm) v.1 ∙ mul_assoc n (down e) steps_per_ohm ∙ ap (λ (x : ℕ). n * x) (mul_comm (down e) steps_per_ohm))
    ∙ ap (λ (b : Bool). round binary32 b n steps_per_ohm) (unlike_false t ∙ v.0)
  where
    unlike_false : (b : Bool) → unlike b false ≡ b
    unlike_false true = refl
    unlike_false false = refl

-- so each ohm value is exact
ohm-value : (s : Bool) (n : ℕ) → n ≤ max_side → HasValue (div binary32 (round binary32 s n 1) (of_int binary32 (pos steps_per_ohm))) s n steps_per_ohm
ohm-value s n h =
    subst (λ (x : Float). HasValue x s n steps_per_ohm) (sym (divided (round binary32 s n 1) s n (round_whole binary32 s n h)))
    (rounded_exact s n h)

pub exact_ohms : ExactOhms
unfolding ohm of_int
exact_ohms (pos n) t = ohm-value false n (in_range_size (pos n) t)
exact_ohms (negsuc n) t = ohm-value true (suc n) (in_range_size (negsuc n) t)
