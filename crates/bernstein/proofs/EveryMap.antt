-- Laws of a test that holds of all numbers below one, and of every two neighbours that de Casteljau's table maps.
-- Assumes nothing.
use Prim.Native.Nat.{ℕ, zero, suc, ◌+◌, ◌-◌, ◌≤◌, ◌<◌}
use native.Mathlib.Numerals.{add-one}
use native.Mathlib.Decide.{dec_lt}
use native.Mathlib.Omega.{arith}
use mathlib.Core.Bool.{Bool, true, ◌&&◌}
use mathlib.Core.Path.{◌≡◌, refl, ap, ap₂, subst}
use Rattle.rational.proofs.Truth.{and_both, both_and}
use Rattle.bernstein.specs.DeCasteljau.{all_below, table, every_map}
use Rattle.bernstein.proofs.Table.{table_agree}

pub all_zero : (f : ℕ → Bool) → all_below 0 f ≡ true
unfolding all_below
all_zero f = refl

pub all_next : (m : ℕ) (f : ℕ → Bool) → all_below (m + 1) f ≡ (all_below m f && f m)
unfolding all_below
all_next m f = ap (λ (i : ℕ). all_below i f) (add-one m)

-- the test holds of each
pub all_at : (m : ℕ) (f : ℕ → Bool) → all_below m f ≡ true → (k : ℕ) → k < m → f k ≡ true
unfolding all_below
all_at zero f h k l = absurd (omega arith)
all_at (suc m) f h k l = let (before, last) = and_both (all_below m f) (f m) h in go last (dec_lt k m) (all_at m f before k)
  where
    go : f m ≡ true → Dec (k < m) → (k < m → f k ≡ true) → f k ≡ true
    go last (yes low) before = before low
    go last (no high) before = let e : m ≡ k = omega arith in subst (λ (i : ℕ). f i ≡ true) e last

-- and if it does, of all
pub all_of : (m : ℕ) (f : ℕ → Bool) → ((k : ℕ) → k < m → f k ≡ true) → all_below m f ≡ true
unfolding all_below
all_of zero f h = refl
all_of (suc m) f h = both_and (all_of m f (λ k l. h k (omega arith))) (h m (omega arith))

pub all_agree : (m : ℕ) (f g : ℕ → Bool) → ((k : ℕ) → k < m → f k ≡ g k) → all_below m f ≡ all_below m g
unfolding all_below
all_agree zero f g h = refl
all_agree (suc m) f g h = ap₂ ◌&&◌ (all_agree m f g (λ k l. h k (omega arith))) (h m (omega arith))

module _ {A : Type 0} (map : A → A → A) (test : A → A → Bool) where
  -- the maps of stage j + 1
  abbrev pub map_test : (ℕ → A) → ℕ → ℕ → Bool
  map_test P j k = test (table map P j k) (table map P j (suc k))

  pub every_at : (P : ℕ → A) (n : ℕ) → every_map map P test n ≡ true → (j k : ℕ) → j + suc k ≤ n → map_test P j k ≡ true
  unfolding every_map
  every_at P n h j k l =
      all_at (n - j) (map_test P j) (all_at n (λ i. all_below (n - i) (map_test P i)) h j (omega arith)) k (omega arith)

  pub every_of : (P : ℕ → A) (n : ℕ) → ((j k : ℕ) → j + suc k ≤ n → map_test P j k ≡ true) → every_map map P test n ≡ true
  unfolding every_map
  every_of P n h =
      all_of n (λ i. all_below (n - i) (map_test P i)) (λ j l. all_of (n - j) (map_test P j) (λ k g. h j k (omega arith)))

  -- only the points as far as n are looked at
  pub every_agree : {P Q : ℕ → A} (n : ℕ) → ((k : ℕ) → k ≤ n → P k ≡ Q k) → every_map map P test n ≡ every_map map Q test n
  unfolding every_map
  every_agree {P} {Q} n same =
      all_agree n (λ i. all_below (n - i) (map_test P i)) (λ i. all_below (n - i) (map_test Q i))
      (λ j l. all_agree (n - j) (map_test P j) (map_test Q j)
      (λ k g. ap₂ test (table_agree map n same j k (omega arith)) (table_agree map n same j (suc k) (omega arith))))
