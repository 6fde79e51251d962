-- The tests of a number and the steps about it, by its bits.
-- Assumes nothing.
use mathlib.Core.Path.{◌≡◌, refl, sym, ap, ap₂, ◌∙◌, subst}
use mathlib.Core.Bool.{Bool, true, false, not, ◌&&◌, ◌||◌, cond, true≢false}
use Prim.Native.Nat.{ℕ, zero, suc, ◌*◌, ◌-◌, ◌/◌, ◌%◌, ◌^◌, ◌≤◌, ◌<◌}
use native.Mathlib.Nat.{mul_assoc, mod-lt, div-lt_iff_lt-mul, le-div_iff_mul-le, mod-le, mod-eq_of_lt, mod-eq-sub-mod}
use native.Mathlib.Omega.{arith}
use borrow.Author.Tests.{leb-true, leb-false, le-leb, lt-leb, eqb-true, eq-eqb, ne_eqb}
use lib.Dec.{T, leb, eqb, lit<, leb-zero, eqb-suc-zero}
use lib.Pow.{pow_pos}
use lib.IntN.{ℤ, pos, neg_ℤ, neg_ℤ-neg_ℤ}
use lib.Signed.{le_z}
use lib.Ieee.{Float, nan, inf, fin, binary32, is_nan, fits, of_fields, of_bits, to_bits, low, ones}
use lib.Ieee.Bits.{of_bits-to_bits, to_bits-lt}
use Rattle.rational.specs.Rounding.{Rounding, down, up, quotient, ceiling}
use Rattle.rational.proofs.Truth.{same_truth, and_both, both_and}
use Rattle.rational.proofs.Order.{test_yes}
use Rattle.rational.proofs.Quotient.{quotient_equal}
use Rattle.curve.specs.Limits.{steps_per_ohm}
use Rattle.curve.specs.Rect.{end}
use Rattle.curve.proofs.Tests.{true_of}
use Rattle.bridge.specs.Value.{signed, max_ohms, finite, step_at, steps_about, is_from, is_load, is_spread}
use Rattle.bridge.specs.Inner.{field, largest, units_of, size_about}
use Rattle.bridge.proofs.Exact.{signed_times, from-value, step_value}
use Rattle.bridge.proofs.Bits.{sign, bits_value, units_limit, no_units, units_zero}
use Rattle.bridge.proofs.Steps.{size-within, signed-within}

-- ---- what is not finite

-- fields of ones are an infinity or not a number
ones_special : (s : Bool) (t : ℕ) → finite (of_fields binary32 s (ones binary32) t) ≡ false
unfolding of_fields finite
ones_special s t = go (eqb t 0)
  where
    go : (b : Bool) → finite (cond b (inf s) nan) ≡ false
    go true = refl
    go false = refl

special : (least most : ℤ) (b : ℕ) → ones binary32 ≤ b % sign / field → is_from least most (of_bits binary32 b) ≡ false
unfolding of_bits is_from
special least most b h =
    let few : b % sign / field < 256 = (div-lt_iff_lt-mul {k = field} (lit< tt)).1 (mod-lt b {m = sign} (lit< tt)) in
    let all : b % sign / field ≡ ones binary32 = omega arith in
    rw (ap (λ (e : ℕ). finite (of_fields binary32 (leb sign b) e (b % field))) all ∙ ones_special (leb sign b) (b % field))

-- a finite number or not, by its exponent's field
by_field : {P : Type 0} (b : ℕ) → (b % sign / field < ones binary32 → P) → (ones binary32 ≤ b % sign / field → P) → P
by_field {P} b small large = go (leb (ones binary32) (b % sign / field)) refl
  where
    go : (t : Bool) → leb (ones binary32) (b % sign / field) ≡ t → P
    go true e = large (leb-true (ones binary32) (b % sign / field) e)
    go false e = small (leb-false (ones binary32) (b % sign / field) e)

-- ---- the tests

-- between two whole numbers of opposite signs is a test of the size
two_sided : (s : Bool) (u most : ℕ) → (le_z (neg_ℤ (pos most)) (signed s u) && le_z (signed s u) (pos most)) ≡ leb u most
two_sided s u most =
    same_truth (le_z (neg_ℤ (pos most)) (signed s u) && le_z (signed s u) (pos most)) (leb u most)
    (λ h. let (from, to) = and_both (le_z (neg_ℤ (pos most)) (signed s u)) (le_z (signed s u) (pos most)) h in
    le-leb u most (size-within s u most (test_yes from) (test_yes to)))
    (λ h. let (from, to) = signed-within s u most (leb-true u most h) in
    both_and (true_of (le_z (neg_ℤ (pos most)) (signed s u)) from.le) (true_of (le_z (signed s u) (pos most)) to.le))

load_bits : (b : ℕ) → is_load (of_bits binary32 b) ≡ leb (b % sign) largest
load_bits b = by_field b small large
  where
    small : b % sign / field < ones binary32 → is_load (of_bits binary32 b) ≡ leb (b % sign) largest
    small h =
        from-value (of_bits binary32 b) (leb sign b) (units_of (b % sign)) (2 ^ low binary32) (pow_pos (low binary32)) (bits_value b h) (neg_ℤ (pos max_ohms)) (pos max_ohms)
        ∙ two_sided (leb sign b) (units_of (b % sign)) (2 ^ 163)
        ∙ units_limit (b % sign)

    large : ones binary32 ≤ b % sign / field → is_load (of_bits binary32 b) ≡ leb (b % sign) largest
    large h =
        let most : ones binary32 * field ≤ b % sign = (le-div_iff_mul-le (lit< tt)).0 h in
        special (neg_ℤ (pos max_ohms)) (pos max_ohms) b h ∙ sym (lt-leb (b % sign) largest (omega arith))

-- a number that is not above zero is at least zero exactly if its size is 0
below_zero : (u : ℕ) → (le_z (pos 0) (signed true u) && le_z (signed true u) (pos (2 ^ 163))) ≡ eqb u 0
below_zero zero = refl
below_zero (suc u) = sym (eqb-suc-zero u)

or_false : (b : Bool) → b ≡ (b || false)
or_false true = refl
or_false false = refl

-- with the sign's bit, no bits of a size are the bits of minus zero
minus_zero_bits : (b : ℕ) → sign ≤ b → b < 2 * sign → eqb (units_of (b % sign)) 0 ≡ eqb b sign
minus_zero_bits b from few =
    same_truth (eqb (units_of (b % sign)) 0) (eqb b sign)
    (λ h.
    let rest : b - sign < sign = omega arith in
    let none = sym (mod-eq-sub-mod from ∙ mod-eq_of_lt rest) ∙ units_zero (b % sign) (eqb-true (units_of (b % sign)) 0 h) in
    eq-eqb b sign (omega arith))
    (λ h. ap (λ (n : ℕ). eqb (units_of (n % sign)) 0) (eqb-true b sign h) ∙ ap (λ (u : ℕ). eqb u 0) no_units)

spread_bits : (b : ℕ) → b < 2 * sign → is_spread (of_bits binary32 b) ≡ (leb b largest || eqb b sign)
spread_bits b few = by_field b small large
  where
    by_sign : (s : Bool) → leb sign b ≡ s → (le_z (pos 0) (signed s (units_of (b % sign))) && le_z (signed s (units_of (b % sign))) (pos (2 ^ 163))) ≡ (leb b largest || eqb b sign)
    by_sign true e =
        let from = leb-true sign b e in
        below_zero (units_of (b % sign)) ∙ minus_zero_bits b from few ∙ sym (rw (lt-leb b largest (omega arith)))
    by_sign false e =
        let less = leb-false sign b e in
        rw (leb-zero (units_of (b % sign)), ne_eqb b sign (λ e. omega arith))
        (units_limit (b % sign) ∙ ap (λ (n : ℕ). leb n largest) (mod-eq_of_lt less) ∙ or_false (leb b largest))

    small : b % sign / field < ones binary32 → is_spread (of_bits binary32 b) ≡ (leb b largest || eqb b sign)
    small h =
        from-value (of_bits binary32 b) (leb sign b) (units_of (b % sign)) (2 ^ low binary32) (pow_pos (low binary32)) (bits_value b h) (pos 0) (pos max_ohms)
        ∙ by_sign (leb sign b) refl

    large : ones binary32 ≤ b % sign / field → is_spread (of_bits binary32 b) ≡ (leb b largest || eqb b sign)
    large h =
        let most : ones binary32 * field ≤ b % sign = (le-div_iff_mul-le (lit< tt)).0 h in
        let less : b % sign ≤ b = mod-le b sign in
        special (pos 0) (pos max_ohms) b h ∙ sym (rw (lt-leb b largest (omega arith)) (ne_eqb b sign apart))
      where
        apart : b ≡ sign → ⊥
        apart e =
            let most : ones binary32 * field ≤ b % sign = (le-div_iff_mul-le (lit< tt)).0 h in
            let none : b % sign ≡ 0 = ap (λ (n : ℕ). n % sign) e in
            omega arith

-- ---- the steps

step_bits : (b : ℕ) → b % sign / field < ones binary32 → (r : Rounding) →
    step_at r (of_bits binary32 b) ≡ quotient r (signed (leb sign b) (units_of (b % sign))) (2 ^ 139)
step_bits b h r =
    let s = leb sign b in
    let u = units_of (b % sign) in
    step_value (of_bits binary32 b) s u (2 ^ low binary32) (pow_pos (low binary32)) (bits_value b h) r
    ∙ quotient_equal r (2 ^ low binary32) (2 ^ 139) (pow_pos (low binary32)) (pow_pos 139) (signed s (u * steps_per_ohm)) (signed s u)
    (signed_times s (u * steps_per_ohm) (2 ^ 139) ∙ ap (signed s) (mul_assoc u steps_per_ohm (2 ^ 139)) ∙ sym (signed_times s u (2 ^ low binary32)))

-- the other way to round
abbrev pub opposite : Rounding → Rounding
opposite down = up
opposite up = down

-- below zero, the size rounded the other way
mirrored : (o : Rounding) (n d : ℕ) → quotient o (neg_ℤ (pos n)) d ≡ neg_ℤ (quotient (opposite o) (pos n) d)
unfolding quotient ceiling
mirrored down n d = sym (neg_ℤ-neg_ℤ _)
mirrored up n d = ap (λ (z : ℤ). neg_ℤ (quotient down z d)) (neg_ℤ-neg_ℤ (pos n))

-- ---- a number that its format holds

module _ (x : Float) (fit : fits binary32 x ≡ true) where
  back : of_bits binary32 (to_bits binary32 x) ≡ x
  back = of_bits-to_bits binary32 x (subst T (sym fit) tt)

  pub load_is : leb (to_bits binary32 x % sign) largest ≡ is_load x
  load_is = sym (load_bits (to_bits binary32 x)) ∙ ap is_load back

  pub spread_is : (leb (to_bits binary32 x) largest || eqb (to_bits binary32 x) sign) ≡ is_spread x
  spread_is = sym (spread_bits (to_bits binary32 x) (to_bits-lt binary32 x (subst T (sym fit) tt))) ∙ ap is_spread back

  -- of a load
  module _ (t : T (is_load x)) where
    pub load-few : to_bits binary32 x % sign ≤ largest
    load-few = leb-true (to_bits binary32 x % sign) largest (load_is ∙ true_of (is_load x) t)

    step_of_load : (r : Rounding) → step_at r x ≡ quotient r (signed (leb sign (to_bits binary32 x)) (units_of (to_bits binary32 x % sign))) (2 ^ 139)
    step_of_load r = ap (step_at r) (sym back) ∙ step_bits (to_bits binary32 x) ((div-lt_iff_lt-mul {k = field} (lit< tt)).1 below) r
      where
        below : to_bits binary32 x % sign < ones binary32 * field
        below = omega (arith, load-few)

    turned : sign ≤ to_bits binary32 x → (o : Rounding) → step_at o x ≡ neg_ℤ (quotient (opposite o) (pos (units_of (to_bits binary32 x % sign))) (2 ^ 139))
    turned h o =
        step_of_load o
        ∙ ap (λ (s : Bool). quotient o (signed s (units_of (to_bits binary32 x % sign))) (2 ^ 139)) (le-leb sign (to_bits binary32 x) h)
        ∙ mirrored o (units_of (to_bits binary32 x % sign)) (2 ^ 139)

    -- its steps are those of its size, and below zero the same turned about
    pub about_above : to_bits binary32 x < sign → size_about (to_bits binary32 x % sign) ≡ steps_about x
    unfolding size_about steps_about
    about_above h = ap₂ (λ (l h : ℤ). record { low = l; high = h }) (sym (same down)) (sym (same up))
      where
        same : (r : Rounding) → step_at r x ≡ quotient r (pos (units_of (to_bits binary32 x % sign))) (2 ^ 139)
        same r = step_of_load r ∙ ap (λ (s : Bool). quotient r (signed s (units_of (to_bits binary32 x % sign))) (2 ^ 139)) (lt-leb sign (to_bits binary32 x) h)

    pub about_below : sign ≤ to_bits binary32 x → (o : Rounding) → step_at o x ≡ neg_ℤ (end (opposite o) (size_about (to_bits binary32 x % sign)))
    unfolding size_about
    about_below h down = turned h down
    about_below h up = turned h up

-- no test takes what is not a number
pub no_number : (least most : ℤ) (x : Float) → is_nan x ≡ true → is_from least most x ≡ false
unfolding is_from finite is_nan
no_number least most nan e = refl
no_number least most (inf s) e = refl
no_number least most (fin s m d) e = absurd (true≢false (sym e))

-- a load is a number
pub load-number : (x : Float) → T (is_load x) → T (not (is_nan x))
unfolding is_from finite is_nan
load-number nan t = absurd t
load-number (inf s) t = tt
load-number (fin s m e) t = tt
