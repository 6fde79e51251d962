-- The order of the whole numbers: a ≤ b means that b is a plus a natural number, so its laws are equations of the ring.
-- Assumes nothing.
use mathlib.Core.Path.{◌≡◌, refl, sym, ◌∙◌, ap, subst, subst₂}
use mathlib.Core.Bool.{Bool, true, false, not, cond}
use mathlib.Core.Logic.{◌⊎◌, inl, inr}
use Prim.Native.Nat.{ℕ, zero, suc, ◌+◌, ◌*◌, ◌-◌, ◌≤◌, ◌<◌}
use native.Mathlib.Omega.{arith}
use lib.Dec.{T, ltb, leb→le, le→leb, ltb→lt, lt→ltb, nleb→lt, nltb→le}
use lib.IntN.{ℤ, pos, negsuc, neg_ℤ, sub_ℕ, ◌+ℤ◌, ◌*ℤ◌, *ℤ_comm, +ℤ_assoc, +ℤ_comm, +ℤ_idr, +ℤ_invl}
use lib.Signed.{le_z, lt_z, ◌≤ℤ◌, ◌<ℤ◌, le_z_yes, lt_z_yes, ≤ℤ_refl, clash_ℤ}
use Rattle.rational.proofs.Whole.{add_mul, add_left_comm, add_right_cancel}

-- a − b over the naturals, by which of the two is greater
pick : (c : Bool) (x y : ℤ) (P : ℤ → Type 0) → (T c → P x) → (T (not c) → P y) → P (cond c x y)
pick true x y P f g = f tt
pick false x y P f g = g tt

sub_pos : (a b c : ℕ) → a ≡ c + b → sub_ℕ a b ≡ pos c
sub_pos a b c h = pick (ltb a b) (negsuc (b - suc a)) (pos (a - b)) (λ z. z ≡ pos c)
    (λ t. absurd (clash (ltb→lt a b t)))
    (λ t. ap pos equal)
  where
    clash : a < b → ⊥
    clash l = omega arith

    equal : a - b ≡ c
    equal = omega arith

sub_neg : (a b c : ℕ) → b ≡ suc (c + a) → sub_ℕ a b ≡ negsuc c
sub_neg a b c h = pick (ltb a b) (negsuc (b - suc a)) (pos (a - b)) (λ z. z ≡ negsuc c)
    (λ t. ap negsuc equal)
    (λ t. absurd (clash (nltb→le a b t)))
  where
    clash : b ≤ a → ⊥
    clash l = omega arith

    equal : b - suc a ≡ c
    equal = omega arith

-- the difference of two numbers in order is a natural number
difference : (a b : ℤ) → T (le_z a b) → (n : ℕ) × (a +ℤ pos n ≡ b)
difference (pos a) (pos b) t = (b - a, ap pos (exact (leb→le a b t)))
  where
    exact : a ≤ b → a + (b - a) ≡ b
    exact h = omega arith
difference (pos a) (negsuc b) t = absurd t
difference (negsuc a) (pos b) t = (b + suc a, sub_pos (b + suc a) (suc a) b refl)
difference (negsuc a) (negsuc b) t = (a - b, sub_neg (a - b) (suc a) b (exact (leb→le b a t)))
  where
    exact : b ≤ a → suc a ≡ suc (b + (a - b))
    exact h = omega arith

pub ≤ℤ-difference : {a b : ℤ} → a ≤ℤ b → (n : ℕ) × (a +ℤ pos n ≡ b)
≤ℤ-difference {a} {b} h = difference a b h.le

-- and the other way round
increase : (a : ℤ) (n : ℕ) → T (le_z a (a +ℤ pos n))
increase (pos a) n = le→leb a (a + n) (omega arith)
increase (negsuc a) n = pick (ltb n (suc a)) (negsuc (suc a - suc n)) (pos (n - suc a)) (λ z. T (le_z (negsuc a) z))
    (λ t. le→leb (suc a - suc n) a (omega arith))
    (λ t. tt)

pub ≤ℤ-increase : (a : ℤ) (n : ℕ) → a ≤ℤ (a +ℤ pos n)
≤ℤ-increase a n = le_z_yes (increase a n)

pub ≤ℤ-from : {a b : ℤ} (n : ℕ) → a +ℤ pos n ≡ b → a ≤ℤ b
≤ℤ-from {a} n h = subst (λ x. a ≤ℤ x) h (≤ℤ-increase a n)

pub ≤ℤ-reflexive : {a b : ℤ} → a ≡ b → a ≤ℤ b
≤ℤ-reflexive {a} h = subst (λ x. a ≤ℤ x) h (≤ℤ_refl a)

pub ≤ℤ-trans : {a b c : ℤ} → a ≤ℤ b → b ≤ℤ c → a ≤ℤ c
≤ℤ-trans {a} h k =
    let (m, p) = ≤ℤ-difference h in
    let (n, q) = ≤ℤ-difference k in
    ≤ℤ-from (m + n) (sym (+ℤ_assoc a (pos m) (pos n)) ∙ ap (λ x. x +ℤ pos n) p ∙ q)

pub pos_injective : {m n : ℕ} → pos m ≡ pos n → m ≡ n
pos_injective h = cc

pub pos_mono : {m n : ℕ} → m ≤ n → pos m ≤ℤ pos n
pos_mono {m} {n} h = le_z_yes (le→leb m n h)

pub pos_reflects : {m n : ℕ} → pos m ≤ℤ pos n → m ≤ n
pos_reflects {m} {n} h = leb→le m n h.le

pub add_left_cancel : (a b c : ℤ) → c +ℤ a ≡ c +ℤ b → a ≡ b
add_left_cancel a b c h = add_right_cancel a b c (+ℤ_comm a c ∙ h ∙ +ℤ_comm c b)

pub ≤ℤ-antisymm : {a b : ℤ} → a ≤ℤ b → b ≤ℤ a → a ≡ b
≤ℤ-antisymm {a} {b} h k =
    let (m, p) = ≤ℤ-difference h in
    let (n, q) = ≤ℤ-difference k in
    let none : m + n ≡ 0 = pos_injective (add_left_cancel (pos (m + n)) (pos 0) a (sym (+ℤ_assoc a (pos m) (pos n)) ∙ ap (λ x. x +ℤ pos n) p ∙ q ∙ sym (+ℤ_idr a))) in
    let zero-m : m ≡ 0 = omega arith in
    sym (+ℤ_idr a) ∙ ap (λ (x : ℕ). a +ℤ pos x) (sym zero-m) ∙ p

-- ---- tests

pub test_yes : {a b : ℤ} → le_z a b ≡ true → a ≤ℤ b
test_yes h = le_z_yes (subst T (sym h) tt)

fails : (a b : ℤ) → T (not (le_z a b)) → T (lt_z b a)
fails (pos a) (pos b) t = lt→ltb b a (nleb→lt a b t)
fails (pos a) (negsuc b) t = tt
fails (negsuc a) (pos b) t = t
fails (negsuc a) (negsuc b) t = lt→ltb a b (nleb→lt b a t)

pub test_no : {a b : ℤ} → le_z a b ≡ false → b <ℤ a
test_no {a} {b} h = lt_z_yes (fails a b (subst (λ c. T (not c)) (sym h) tt))

pub ≤ℤ-or-<ℤ : (a b : ℤ) → (a ≤ℤ b) ⊎ (b <ℤ a)
≤ℤ-or-<ℤ a b = by_test (le_z a b) refl
  where
    by_test : (c : Bool) → le_z a b ≡ c → (a ≤ℤ b) ⊎ (b <ℤ a)
    by_test true h = inl (test_yes h)
    by_test false h = inr (test_no h)

-- a choice by the test, such as a minimum or a maximum
pub chosen : (a b x y : ℤ) (P : ℤ → Type 0) → (a ≤ℤ b → P x) → (b <ℤ a → P y) → P (cond (le_z a b) x y)
chosen a b x y P f g = pick (le_z a b) x y P (λ t. f (le_z_yes t)) (λ t. g (lt_z_yes (fails a b t)))

weaken : (a b : ℤ) → T (lt_z a b) → T (le_z a b)
weaken (pos a) (pos b) t = le→leb a b (omega (arith, ltb→lt a b t))
weaken (pos a) (negsuc b) t = t
weaken (negsuc a) (pos b) t = tt
weaken (negsuc a) (negsuc b) t = le→leb b a (omega (arith, ltb→lt b a t))

pub <ℤ-≤ℤ : {a b : ℤ} → a <ℤ b → a ≤ℤ b
<ℤ-≤ℤ {a} {b} h = le_z_yes (weaken a b h.lt)

pub ≤ℤ-total : (a b : ℤ) → (a ≤ℤ b) ⊎ (b ≤ℤ a)
≤ℤ-total a b = elim (≤ℤ-or-<ℤ a b) [ inl h ↦ inl h | inr h ↦ inr (<ℤ-≤ℤ h) ]

-- ---- sums

-- the certificate of an inequality: the difference of y and x is that of r and l
pub ≤ℤ-certificate : {l r x y : ℤ} → l ≤ℤ r → x +ℤ r ≡ y +ℤ l → x ≤ℤ y
≤ℤ-certificate {l} {r} {x} {y} h e =
    let (n, p) = ≤ℤ-difference h in
    ≤ℤ-from n (add_right_cancel (x +ℤ pos n) y l (regroup x (pos n) l ∙ ap (λ z. x +ℤ z) p ∙ e))
  where
    regroup : (a b c : ℤ) → a +ℤ b +ℤ c ≡ a +ℤ (c +ℤ b)
    regroup a b c = simp (+ℤ_assoc, +ℤ_comm)

pub +ℤ-mono_left : {a b : ℤ} (c : ℤ) → a ≤ℤ b → (c +ℤ a) ≤ℤ (c +ℤ b)
+ℤ-mono_left {a} {b} c h = ≤ℤ-certificate h (simp (+ℤ_assoc, +ℤ_comm, add_left_comm))

pub +ℤ-mono_right : {a b : ℤ} (c : ℤ) → a ≤ℤ b → (a +ℤ c) ≤ℤ (b +ℤ c)
+ℤ-mono_right {a} {b} c h = ≤ℤ-certificate h (simp (+ℤ_assoc, +ℤ_comm, add_left_comm))

pub +ℤ-mono : {a b c d : ℤ} → a ≤ℤ b → c ≤ℤ d → (a +ℤ c) ≤ℤ (b +ℤ d)
+ℤ-mono {b} {c} h k = ≤ℤ-trans (+ℤ-mono_right c h) (+ℤ-mono_left b k)

pub +ℤ-cancel_left : {a b : ℤ} (c : ℤ) → (c +ℤ a) ≤ℤ (c +ℤ b) → a ≤ℤ b
+ℤ-cancel_left {a} {b} c h = ≤ℤ-certificate h (simp (+ℤ_comm, add_left_comm))

pub negℤ-anti : {a b : ℤ} → a ≤ℤ b → neg_ℤ b ≤ℤ neg_ℤ a
negℤ-anti {a} {b} h = ≤ℤ-certificate h (+ℤ_invl b ∙ sym (+ℤ_invl a))

-- ---- the strict order: a < b is a + 1 ≤ b

pub <ℤ-suc : {a b : ℤ} → a <ℤ b → (a +ℤ pos 1) ≤ℤ b
<ℤ-suc {a} {b} h = go (≤ℤ-difference (<ℤ-≤ℤ h))
  where
    go : (n : ℕ) × (a +ℤ pos n ≡ b) → (a +ℤ pos 1) ≤ℤ b
    go (zero, e) = clash_ℤ h (≤ℤ-reflexive (sym e ∙ +ℤ_idr a))
    go (suc n, e) = ≤ℤ-from n (+ℤ_assoc a (pos 1) (pos n) ∙ ap (λ (x : ℕ). a +ℤ pos x) one_more ∙ e)
      where
        one_more : 1 + n ≡ suc n
        one_more = omega arith

pub suc-<ℤ : {a b : ℤ} → (a +ℤ pos 1) ≤ℤ b → a <ℤ b
suc-<ℤ {a} {b} h = elim (≤ℤ-or-<ℤ b a) [ inl k ↦ absurd (clash k) | inr k ↦ k ]
  where
    clash : b ≤ℤ a → ⊥
    clash k =
        let wrong : 1 ≤ 0 = pos_reflects (+ℤ-cancel_left a (≤ℤ-trans h (≤ℤ-trans k (≤ℤ-reflexive (sym (+ℤ_idr a)))))) in
        omega arith

-- ---- products

pub *ℤ-mono : {a b : ℤ} (d : ℕ) → a ≤ℤ b → (a *ℤ pos d) ≤ℤ (b *ℤ pos d)
*ℤ-mono {a} {b} d h =
    let (n, p) = ≤ℤ-difference h in
    ≤ℤ-from (n * d) (sym (add_mul a (pos n) (pos d)) ∙ ap (λ x. x *ℤ pos d) p)

pub *ℤ-mono_left : {a b : ℤ} (d : ℕ) → a ≤ℤ b → (pos d *ℤ a) ≤ℤ (pos d *ℤ b)
*ℤ-mono_left {a} {b} d h = subst₂ (λ x y. x ≤ℤ y) (*ℤ_comm a (pos d)) (*ℤ_comm b (pos d)) (*ℤ-mono d h)

pub *ℤ-cancel : {a b : ℤ} (d : ℕ) → 0 < d → (a *ℤ pos d) ≤ℤ (b *ℤ pos d) → a ≤ℤ b
*ℤ-cancel {a} {b} d positive h = elim (≤ℤ-or-<ℤ a b) [ inl k ↦ k | inr k ↦ absurd (clash k) ]
  where
    clash : b <ℤ a → ⊥
    clash k =
        let wrong : 1 * d ≤ 0 = pos_reflects (+ℤ-cancel_left (b *ℤ pos d) (≤ℤ-trans (≤ℤ-reflexive (sym (add_mul b (pos 1) (pos d)))) (≤ℤ-trans (*ℤ-mono d (<ℤ-suc k)) (≤ℤ-trans h (≤ℤ-reflexive (sym (+ℤ_idr (b *ℤ pos d)))))))) in
        omega arith

pub *ℤ-equal_cancel : {a b : ℤ} (d : ℕ) → 0 < d → a *ℤ pos d ≡ b *ℤ pos d → a ≡ b
*ℤ-equal_cancel d positive h = ≤ℤ-antisymm (*ℤ-cancel d positive (≤ℤ-reflexive h)) (*ℤ-cancel d positive (≤ℤ-reflexive (sym h)))

-- every whole number from 0 is a natural number
pub natural : {z : ℤ} → pos 0 ≤ℤ z → (n : ℕ) × (z ≡ pos n)
natural {z = pos n} h = (n, refl)
natural {z = negsuc n} h = absurd h.le

pub *ℤ-mono_nonneg : {a b c : ℤ} → pos 0 ≤ℤ c → a ≤ℤ b → (a *ℤ c) ≤ℤ (b *ℤ c)
*ℤ-mono_nonneg {a} {b} {c} k h = let (n, e) = natural k in subst (λ x. (a *ℤ x) ≤ℤ (b *ℤ x)) (sym e) (*ℤ-mono n h)
