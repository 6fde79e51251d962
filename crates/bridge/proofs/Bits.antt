-- A finite number by its bits: its value is its size in units of the smallest one, and sizes are in the order of their bits.
-- Assumes nothing.
use mathlib.Core.Path.{◌≡◌, refl, sym, ap, subst}
use mathlib.Core.Bool.{Bool, true, false, cond}
use mathlib.Core.Logic.{inl, inr}
use Prim.Native.Nat.{ℕ, zero, suc, ◌+◌, ◌*◌, ◌/◌, ◌%◌, ◌^◌, ◌≤◌, ◌<◌}
use native.Mathlib.Nat.{mul-one, mul-pos, lt_irrefl, mod-lt, div-lt_iff_lt-mul, le-div_iff_mul-le, mul-le-mul_right, mul-lt-mul_of_pos_right, le_trans, lt_of_lt_of_le, lt_of_le_of_lt, le_of_lt, le_of_eq, eq-or-lt_of_le}
use native.Mathlib.Omega.{arith}
use borrow.Author.Tests.{eqb-true, leb-true, leb-false, le-leb, lt-leb}
use lib.Dec.{leb, eqb, lit<}
use lib.Pow.{pow-add, pow_pos, pow-lt, pow_mono, shl_lt, split, mod-mod-pow}
use lib.Ieee.{nan, inf, binary32, of_fields, of_bits, odd, prec, low, hid, ones}
use lib.Ieee.Exact.{HasValue, odd_sign}
use Rattle.bridge.specs.Inner.{field, largest, units_by, units_of}

-- ---- the value of a number's bits

-- the weight of the sign
abbrev pub sign : ℕ
sign = 0x80000000

-- of its fields, unless they are those of an infinity or of not a number
fields_value : (s : Bool) (e t : ℕ) → e < ones binary32 → HasValue (of_fields binary32 s e t) s (units_by e t) (2 ^ low binary32)
unfolding of_fields units_by
fields_value s zero t h = subst (λ (n : ℕ). HasValue (odd (prec binary32) s t 0 (low binary32)) s n (2 ^ low binary32)) (mul-one t) (odd_sign (prec binary32) s t 0 (low binary32))
fields_value s (suc x) t h = go (eqb (suc x) (ones binary32)) refl
  where
    go : (b : Bool) → eqb (suc x) (ones binary32) ≡ b → HasValue (cond b (cond (eqb t 0) (inf s) nan) (odd (prec binary32) s (hid binary32 + t) x (low binary32))) s ((field + t) * 2 ^ x) (2 ^ low binary32)
    go true e = let z : suc x ≡ ones binary32 = eqb-true (suc x) (ones binary32) e in absurd (omega arith)
    go false e = odd_sign (prec binary32) s (hid binary32 + t) x (low binary32)

pub bits_value : (b : ℕ) → b % sign / field < ones binary32 → HasValue (of_bits binary32 b) (leb sign b) (units_of (b % sign)) (2 ^ low binary32)
unfolding of_bits units_of
bits_value b h =
    subst (λ (t : ℕ). HasValue (of_bits binary32 b) (leb sign b) (units_by (b % sign / field) t) (2 ^ low binary32)) (sym (mod-mod-pow b 8 23))
    (fields_value (leb sign b) (b % sign / field) (b % field) h)

-- ---- sizes are in the order of their bits

module _ (e bits : ℕ) where
  pub units_below : bits < e * field → units_of bits < 2 ^ (22 + e)
  unfolding units_of units_by
  units_below h = go (bits / field) ((div-lt_iff_lt-mul (lit< tt)).1 h)
    where
      go : (x : ℕ) → x < e → units_by x (bits % field) < 2 ^ (22 + e)
      go zero l =
          let least : 23 ≤ 22 + e = omega arith in
          lt_of_lt_of_le (mod-lt bits (lit< tt)) (pow_mono least)
      go (suc x) l =
          let few : field + bits % field < 2 ^ 24 = omega (arith, mod-lt bits {m = field} (lit< tt)) in
          let most : 24 + x ≤ 22 + e = omega arith in
          lt_of_lt_of_le (shl_lt 24 x few) (pow_mono most)

  units_above : 0 < e → e * field ≤ bits → 2 ^ (22 + e) ≤ units_of bits
  unfolding units_of units_by
  units_above positive h = go (bits / field) ((le-div_iff_mul-le (lit< tt)).1 h)
    where
      go : (x : ℕ) → e ≤ x → 2 ^ (22 + e) ≤ units_by x (bits % field)
      go zero l = absurd (omega arith)
      go (suc x) l =
          let most : 22 + e ≤ 23 + x = omega arith in
          let many : field ≤ field + bits % field = omega arith in
          le_trans (pow_mono most) (le_trans (le_of_eq (pow-add 2 23 x)) (mul-le-mul_right (2 ^ x) many))

-- strictly above, too: the next field, or more digits of the same
units_more : (x bits : ℕ) → suc x * field < bits → 2 ^ (23 + x) < units_of bits
unfolding units_of units_by
units_more x bits h = elim (eq-or-lt_of_le ((le-div_iff_mul-le {k = field} (lit< tt)).1 (le_of_lt h))) [
  | inl same ↦
      let some : 0 < bits % field = omega (arith, split bits 23) in
      let more : field < field + bits % field = omega arith in
      subst (λ (e : ℕ). 2 ^ (23 + x) < units_by e (bits % field)) same
      (lt_of_le_of_lt (le_of_eq (pow-add 2 23 x)) (mul-lt-mul_of_pos_right more (pow_pos x)))
  | inr next ↦ lt_of_lt_of_le (pow-lt one_more) (units_above (suc (suc x)) bits (omega arith) ((le-div_iff_mul-le {k = field} (lit< tt)).0 next))
]
  where
    one_more : 23 + x < 22 + suc (suc x)
    one_more = omega arith

-- so a size is at most 16,384 ohms exactly if its bits are at most those of 16,384 ohms
pub units_limit : (bits : ℕ) → leb (units_of bits) (2 ^ 163) ≡ leb bits largest
unfolding units_of units_by
units_limit bits = go (leb bits largest) refl
  where
    go : (b : Bool) → leb bits largest ≡ b → leb (units_of bits) (2 ^ 163) ≡ b
    go false e = lt-leb (units_of bits) (2 ^ 163) (units_more 140 bits (leb-false bits largest e))
    go true e = elim (eq-or-lt_of_le (leb-true bits largest e)) [
      | inl same ↦ ap (λ (n : ℕ). leb (units_of n) (2 ^ 163)) same
      | inr less ↦ le-leb (units_of bits) (2 ^ 163) (le_of_lt (units_below 141 bits less))
    ]

-- no units are no bits, and no bits no units
pub no_units : units_of 0 ≡ 0
unfolding units_of units_by
no_units = refl

pub units_zero : (bits : ℕ) → units_of bits ≡ 0 → bits ≡ 0
unfolding units_of units_by
units_zero bits h = go (bits / field) refl
  where
    go : (e : ℕ) → bits / field ≡ e → bits ≡ 0
    go zero e =
        let rest : bits % field ≡ 0 = rw e at h in
        omega (arith, split bits 23)
    go (suc x) e =
        let none : (field + bits % field) * 2 ^ x ≡ 0 = rw e at h in
        let some : field ≤ field + bits % field = omega arith in
        absurd (lt_irrefl 0 (subst (λ (n : ℕ). 0 < n) none (mul-pos (lt_of_lt_of_le (lit< tt) some) (pow_pos x))))
