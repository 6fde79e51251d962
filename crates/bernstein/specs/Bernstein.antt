-- The Bernstein sum of a sequence of fractions, exactly.
-- Assumes nothing.
use Rattle.std.specs.Prelude.{ℕ, zero, suc, ◌+◌, ◌-◌, pos}
use Rattle.rational.specs.Fraction.{Frac, ◌+ᶠ◌, ◌*ᶠ◌, ◌^ᶠ◌, whole, complement}

-- the number of ways to choose k from n
unfoldable pub choose : ℕ → ℕ → ℕ
choose n zero = 1
choose zero (suc k) = 0
choose (suc n) (suc k) = choose n k + choose n (suc k)

-- f 0 + f 1 + .. + f n
unfoldable pub sum_to : (ℕ → Frac) → ℕ → Frac
sum_to f zero = f 0
sum_to f (suc n) = sum_to f n +ᶠ f (suc n)

-- point k's part of the sum at x
unfoldable pub term : ℕ → (ℕ → Frac) → Frac → ℕ → Frac
term n p x k = p k *ᶠ whole (pos (choose n k)) *ᶠ (complement x ^ᶠ (n - k)) *ᶠ (x ^ᶠ k)

-- the Bernstein sum at x of the points p 0 to p n
unfoldable pub bernstein : ℕ → (ℕ → Frac) → Frac → Frac
bernstein n p x = sum_to (term n p x) n
