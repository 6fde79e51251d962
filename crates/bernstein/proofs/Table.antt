-- Laws of de Casteljau's table over any kind of point and any map of two points.
-- Assumes nothing.
use Prim.Native.Nat.{ℕ, zero, suc, ◌+◌, ◌≤◌}
use native.Mathlib.Nat.{le_refl, zero-add, suc-add, sub-zero}
use native.Mathlib.Numerals.{add-one}
use native.Mathlib.Omega.{arith}
use mathlib.Core.Path.{◌≡◌, refl, sym, ap, ap₂, ◌∙◌}
use Rattle.bernstein.specs.DeCasteljau.{table, value, left, right}

-- a relation that grows with the stages and holds of two sequences as far as n holds of their two tables within the triangle
module _ {A B : Type 0} {f : A → A → A} {g : B → B → B} {P : ℕ → A} {Q : ℕ → B} (R : ℕ → A → B → Type 0) where
  pub table_relation :
      ((j : ℕ) (a b : A) (x y : B) → R j a x → R j b y → R (suc j) (f a b) (g x y)) →
      (n : ℕ) → ((k : ℕ) → k ≤ n → R 0 (P k) (Q k)) →
      (j k : ℕ) → j + k ≤ n → R j (table f P j k) (table g Q j k)
  unfolding table
  table_relation step n start zero k h = start k (omega arith)
  table_relation step n start (suc j) k h =
      step j _ _ _ _ (table_relation step n start j k (omega arith)) (table_relation step n start j (suc k) (omega arith))

-- a property that the map keeps and that the points have as far as n is had by the entries within the triangle
pub table_property :
    {A : Type 0} {f : A → A → A} {P : ℕ → A} (Q : A → Type 0) →
    ((a b : A) → Q a → Q b → Q (f a b)) →
    (n : ℕ) → ((k : ℕ) → k ≤ n → Q (P k)) →
    (j k : ℕ) → j + k ≤ n → Q (table f P j k)
table_property {f = f} {P} Q step = table_relation {g = f} {Q = P} (λ j a x. Q a) (λ j a b x y. step a b)

-- only the points as far as j + k are looked at
pub table_agree :
    {A : Type 0} (f : A → A → A) {P Q : ℕ → A} (n : ℕ) →
    ((k : ℕ) → k ≤ n → P k ≡ Q k) → (j k : ℕ) → j + k ≤ n → table f P j k ≡ table f Q j k
table_agree f = table_relation (λ j a x. a ≡ x) (λ j a b x y. ap₂ f)

-- a function that carries one map to another carries the one table to the other
pub table_image :
    {A B : Type 0} (f : A → A → A) (g : B → B → B) (h : A → B) → ((a b : A) → h (f a b) ≡ g (h a) (h b)) →
    (P : ℕ → A) (j k : ℕ) → h (table f P j k) ≡ table g (λ k. h (P k)) j k
table_image f g h carry P j k =
    table_relation (λ j a x. h a ≡ x) (λ j a b x y p q. carry a b ∙ ap₂ g p q) (j + k) (λ k l. refl) j k (le_refl _)

module _ {A : Type 0} (f : A → A → A) where
  -- the table's two clauses
  pub table-zero : (P : ℕ → A) (k : ℕ) → table f P 0 k ≡ P k
  unfolding table
  table-zero P k = refl

  pub table-suc : (P : ℕ → A) (j k : ℕ) → table f P (suc j) k ≡ f (table f P j k) (table f P j (suc k))
  unfolding table
  table-suc P j k = refl

  -- the table of a stage
  pub table-table : (P : ℕ → A) (m j k : ℕ) → table f (table f P j) m k ≡ table f P (m + j) k
  unfolding table
  table-table P zero j k = ap (λ m. table f P m k) (sym (zero-add j))
  table-table P (suc m) j k =
      ap₂ f (table-table P m j k) (table-table P m j (suc k)) ∙ ap (λ i. table f P i k) (sym (suc-add m j))

  -- the first stage taken first
  pub table-first : (P : ℕ → A) (j k : ℕ) → table f P (suc j) k ≡ table f (λ i. f (P i) (P (suc i))) j k
  unfolding table
  table-first P j k = sym (table-table P j 1 k ∙ ap (λ i. table f P i k) (add-one j))

  -- the table of the points from the second on
  pub table_shift : (P : ℕ → A) (j k : ℕ) → table f (λ i. P (suc i)) j k ≡ table f P j (suc k)
  unfolding table
  table_shift P zero k = refl
  table_shift P (suc j) k = ap₂ f (table_shift P j k) (table_shift P j (suc k))

  module _ (P : ℕ → A) where
    pub left-first : left f P 0 ≡ P 0
    unfolding left
    left-first = table-zero P 0

    pub left-last : (n : ℕ) → left f P n ≡ value f P n
    unfolding left value
    left-last n = refl

    pub right-first : (n : ℕ) → right f P n 0 ≡ value f P n
    unfolding right value
    right-first n = rw sub-zero
