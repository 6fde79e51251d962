-- De Casteljau's table over any kind of point and any map of two points, and what is read off it (000, equations 18 and 19).
-- A sequence P of control points is numbered from 0; what lies past the degree is never looked at within the table.
-- Assumes nothing.
use Rattle.std.specs.Prelude.{Bool, true, ◌&&◌, ℕ, zero, suc, ◌-◌}

-- whether a test holds of 0, 1, .. m − 1
unfoldable pub all_below : ℕ → (ℕ → Bool) → Bool
all_below zero test = true
all_below (suc m) test = all_below m test && test m

module _ {A : Type 0} (map : A → A → A) (P : ℕ → A) where
  -- entry k of stage j: stage 0 is the control points, and each further stage maps neighbours of the one before
  unfoldable pub table : ℕ → ℕ → A
  table zero k = P k
  table (suc j) k = map (table j k) (table j (suc k))

  -- the value of the curve of degree n
  unfoldable pub value : ℕ → A
  value n = table n 0

  -- control point k of the left piece: the first entry of stage k
  unfoldable pub left : ℕ → A
  left k = table k 0

  -- control point k of the right piece of degree n: the last entry of stage n − k
  unfoldable pub right : ℕ → ℕ → A
  right n k = table (n - k) k

  -- whether a test holds of every two neighbours that the table of degree n maps: entries k and k + 1 of stage j, for j below n and k below n − j
  unfoldable pub every_map : (A → A → Bool) → ℕ → Bool
  every_map test n = all_below n (λ j. all_below (n - j) (λ k. test (table j k) (table j (suc k))))
