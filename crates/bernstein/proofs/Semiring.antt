-- Commutative semirings: their laws as a set that normalises an equation under `simp polynomial`, and the natural numbers, powers and sums of one.
-- Assumes nothing.
use Prim.Native.Nat.{ℕ, zero, suc, ◌+◌}
use native.Mathlib.Nat.{add-zero, add-suc}
use mathlib.Core.Path.{◌≡◌, refl, sym, ap, ap₂, ◌∙◌}

pub record Semiring : Type 1 where
  infixl 6 ◌⊕◌
  infixl 7 ◌⊗◌
  pub carrier : Type 0
  pub ◌⊕◌ : carrier → carrier → carrier
  pub ◌⊗◌ : carrier → carrier → carrier
  pub nought : carrier
  pub one : carrier
  pub sum_associative : (a b c : carrier) → a ⊕ b ⊕ c ≡ a ⊕ (b ⊕ c)
  pub sum_commutative : (a b : carrier) → a ⊕ b ≡ b ⊕ a
  pub sum_nought : (a : carrier) → a ⊕ nought ≡ a
  pub product_associative : (a b c : carrier) → a ⊗ b ⊗ c ≡ a ⊗ (b ⊗ c)
  pub product_commutative : (a b : carrier) → a ⊗ b ≡ b ⊗ a
  pub product_one : (a : carrier) → a ⊗ one ≡ a
  pub product_nought : (a : carrier) → a ⊗ nought ≡ nought
  pub distributive : (a b c : carrier) → a ⊗ (b ⊕ c) ≡ a ⊗ b ⊕ a ⊗ c

module _ (𝓢 : Semiring) where
  open 𝓢 use {carrier, ◌⊕◌, ◌⊗◌, nought, one}

  infixl 6 ◌⊕◌
  infixl 7 ◌⊗◌
  pub plus_assoc : (a b c : carrier) → a ⊕ b ⊕ c ≡ a ⊕ (b ⊕ c)
  plus_assoc = 𝓢.sum_associative

  pub plus_comm : (a b : carrier) → a ⊕ b ≡ b ⊕ a
  plus_comm = 𝓢.sum_commutative

  pub plus_left_comm : (a b c : carrier) → a ⊕ (b ⊕ c) ≡ b ⊕ (a ⊕ c)
  plus_left_comm a b c = sym (plus_assoc a b c) ∙ ap (λ x. x ⊕ c) (plus_comm a b) ∙ plus_assoc b a c

  pub plus_nought : (a : carrier) → a ⊕ nought ≡ a
  plus_nought = 𝓢.sum_nought

  pub nought_plus : (a : carrier) → nought ⊕ a ≡ a
  nought_plus a = plus_comm nought a ∙ plus_nought a

  pub times_assoc : (a b c : carrier) → a ⊗ b ⊗ c ≡ a ⊗ (b ⊗ c)
  times_assoc = 𝓢.product_associative

  pub times_comm : (a b : carrier) → a ⊗ b ≡ b ⊗ a
  times_comm = 𝓢.product_commutative

  pub times_left_comm : (a b c : carrier) → a ⊗ (b ⊗ c) ≡ b ⊗ (a ⊗ c)
  times_left_comm a b c = sym (times_assoc a b c) ∙ ap (λ x. x ⊗ c) (times_comm a b) ∙ times_assoc b a c

  pub times_one : (a : carrier) → a ⊗ one ≡ a
  times_one = 𝓢.product_one

  pub one_times : (a : carrier) → one ⊗ a ≡ a
  one_times a = times_comm one a ∙ times_one a

  pub times_nought : (a : carrier) → a ⊗ nought ≡ nought
  times_nought = 𝓢.product_nought

  pub nought_times : (a : carrier) → nought ⊗ a ≡ nought
  nought_times a = times_comm nought a ∙ times_nought a

  pub times_plus : (a b c : carrier) → a ⊗ (b ⊕ c) ≡ a ⊗ b ⊕ a ⊗ c
  times_plus = 𝓢.distributive

  pub plus_times : (a b c : carrier) → (a ⊕ b) ⊗ c ≡ a ⊗ c ⊕ b ⊗ c
  plus_times a b c = times_comm (a ⊕ b) c ∙ times_plus c a b ∙ ap₂ ◌⊕◌ (times_comm c a) (times_comm c b)

  pub ruleset polynomial = (
    plus_assoc,
    plus_comm,
    plus_left_comm,
    plus_nought,
    nought_plus,
    times_assoc,
    times_comm,
    times_left_comm,
    times_one,
    one_times,
    times_nought,
    nought_times,
    times_plus,
    plus_times,
  )

  -- a natural number
  unfoldable pub natural : ℕ → carrier
  natural zero = nought
  natural (suc n) = natural n ⊕ one

  pub natural_plus : (m n : ℕ) → natural (m + n) ≡ natural m ⊕ natural n
  unfolding natural
  natural_plus m zero = rw add-zero (sym (plus_nought (natural m)))
  natural_plus m (suc n) = rw add-suc (ap (λ x. x ⊕ one) (natural_plus m n) ∙ plus_assoc (natural m) (natural n) one)

  -- x to the power k
  unfoldable pub power : carrier → ℕ → carrier
  power x zero = one
  power x (suc k) = x ⊗ power x k

  -- f 0 ⊕ f 1 ⊕ .. ⊕ f n
  unfoldable pub total : (ℕ → carrier) → ℕ → carrier
  total f zero = f 0
  total f (suc n) = total f n ⊕ f (suc n)

  -- a sum taken from its first term
  pub total_first : (f : ℕ → carrier) (n : ℕ) → total f (suc n) ≡ f 0 ⊕ total (λ k. f (suc k)) n
  unfolding total
  total_first f zero = refl
  total_first f (suc n) = ap (λ x. x ⊕ f (suc (suc n))) (total_first f n) ∙ plus_assoc (f 0) (total (λ k. f (suc k)) n) (f (suc (suc n)))

  -- a sum of two sums, each with a factor
  pub total_linear :
      (a b : carrier) (f g : ℕ → carrier) (n : ℕ) → total (λ k. a ⊗ f k ⊕ b ⊗ g k) n ≡ a ⊗ total f n ⊕ b ⊗ total g n
  unfolding total
  total_linear a b f g zero = refl
  total_linear a b f g (suc n) = ap (λ x. x ⊕ (a ⊗ f (suc n) ⊕ b ⊗ g (suc n))) (total_linear a b f g n) ∙ simp polynomial
