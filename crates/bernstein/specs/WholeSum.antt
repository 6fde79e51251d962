-- The Bernstein sum of whole numbers at t / (s + t), multiplied by (s + t) to the power of the degree, which makes it a whole number.
-- Assumes nothing.
use Rattle.std.specs.Prelude.{ℕ, zero, suc, ◌+◌, ◌*◌, ◌-◌, ◌^◌, ℤ, pos, ◌+ℤ◌, ◌*ℤ◌}
use Rattle.bernstein.specs.Bernstein.{choose}

-- the weight of point k: the number of ways to choose k from n, times s to the power n − k, times t to the power k; 0 to the power 0 is 1
unfoldable pub weight : ℕ → ℕ → ℕ → ℕ → ℕ
weight n s t k = choose n k * s ^ (n - k) * t ^ k

-- f 0 + f 1 + .. + f (m − 1)
unfoldable pub total_below : ℕ → (ℕ → ℤ) → ℤ
total_below zero f = pos 0
total_below (suc m) f = total_below m f +ℤ f m

-- the sum over the points P 0 to P n, each times its weight
unfoldable pub whole_sum : ℕ → ℕ → ℕ → (ℕ → ℤ) → ℤ
whole_sum n s t P = total_below (n + 1) (λ k. pos (weight n s t k) *ℤ P k)
