-- 16 to the power n as a shift: it is 2 to the power 4 n, and fits.
-- Assumes nothing.
use mathlib.Core.Path.{◌≡◌, refl, sym, ap, subst}
use Prim.Native.Nat.{ℕ, zero, suc, ◌*◌, ◌%◌, ◌^◌, ◌≤◌}
use native.Mathlib.Nat.{mul-suc, pow-suc, one-mul, mod-eq_of_lt}
use native.Mathlib.Omega.{arith}
use lib.Dec.{T, leb, leb→le}
use lib.Pow.{pow-add}
use Rattle.bernstein.specs.DeCasteljau.{all_below}
use Rattle.bernstein.proofs.EveryMap.{all_at}

pub shift_power : (n : ℕ) → 2 ^ (4 * n) ≡ 16 ^ n
shift_power zero = refl
shift_power (suc n) = rw (mul-suc, pow-add, pow-suc 16 n) (ap (λ (m : ℕ). m * 16) (shift_power n))

pub power_most : (n : ℕ) → n ≤ 8 → 16 ^ n ≤ 4294967296
unfolding all_below
power_most n few = leb→le (16 ^ n) 4294967296 (subst T (sym (all_at 9 (λ m. leb (16 ^ m) 4294967296) refl n (omega arith))) tt)

pub shifted_one : (n : ℕ) → n ≤ 8 → (1 * 2 ^ (4 * n)) % 18446744073709551616 ≡ 16 ^ n
shifted_one n few =
    let most = power_most n few in
    rw (one-mul, shift_power) (mod-eq_of_lt (omega arith))
