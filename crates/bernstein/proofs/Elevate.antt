-- Degree elevation by one of a sequence of control points, over any kind of point and any map with two weights.
-- Assumes nothing.
use Prim.Native.Nat.{ℕ, zero, suc, ◌+◌, ◌-◌, ◌≤◌}
use native.Mathlib.Omega.{arith}
use mathlib.Core.Path.{◌≡◌, refl, sym, subst, subst₂}

-- control point k of the curve elevated from degree n: the points k - 1 and k, mapped with the weights k and n + 1 - k
unfoldable pub elevate : {A : Type 0} → (ℕ → ℕ → A → A → A) → ℕ → (ℕ → A) → ℕ → A
elevate map n P k = map k (suc n - k) (P (k - 1)) (P k)

-- two maps that carry one relation into another, and do not look at a point of weight 0, carry it from two sequences to their elevated ones
pub elevate_relation :
    {A B : Type 0} {f : ℕ → ℕ → A → A → A} {g : ℕ → ℕ → B → B → B} {P : ℕ → A} {Q : ℕ → B} (R S : A → B → Type 0) (n : ℕ) →
    ((k m : ℕ) → k + m ≡ suc n → (a b : A) (x y : B) → R a x → R b y → S (f k m a b) (g k m x y)) →
    ((a b : A) → f (suc n) 0 a b ≡ f (suc n) 0 a a) → ((x y : B) → g (suc n) 0 x y ≡ g (suc n) 0 x x) →
    ((k : ℕ) → k ≤ n → R (P k) (Q k)) → (k : ℕ) → k ≤ suc n → S (elevate f n P k) (elevate g n Q k)
unfolding elevate
elevate_relation {f = f} {g} {P} {Q} R S n step f-edge g-edge start k h = by_case (suc n - k) refl
  where
    by_case : (m : ℕ) → suc n - k ≡ m → S (f k m (P (k - 1)) (P k)) (g k m (Q (k - 1)) (Q k))
    by_case zero e =
        let q : suc n ≡ k = omega arith in
        let l : suc n - 1 ≤ n = omega arith in
        subst (λ i. S (f i 0 (P (i - 1)) (P i)) (g i 0 (Q (i - 1)) (Q i))) q
        (subst₂ S (sym (f-edge _ _)) (sym (g-edge _ _)) (step (suc n) 0 (omega arith) _ _ _ _ (start _ l) (start _ l)))
    by_case (suc m) e = step k (suc m) (omega arith) _ _ _ _ (start (k - 1) (omega arith)) (start k (omega arith))

pub elevate_property :
    {A : Type 0} {f : ℕ → ℕ → A → A → A} {P : ℕ → A} (R S : A → Type 0) (n : ℕ) →
    ((k m : ℕ) → k + m ≡ suc n → (a b : A) → R a → R b → S (f k m a b)) →
    ((a b : A) → f (suc n) 0 a b ≡ f (suc n) 0 a a) →
    ((k : ℕ) → k ≤ n → R (P k)) → (k : ℕ) → k ≤ suc n → S (elevate f n P k)
elevate_property {f = f} {P} R S n step edge =
    elevate_relation {g = f} {Q = P} (λ a x. R a) (λ a x. S a) n (λ k m h a b x y. step k m h a b) edge edge
