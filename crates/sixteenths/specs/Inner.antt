-- What the functions inside the crate ask of each other. No public contract cites it.
-- Assumes nothing.
use Rattle.std.specs.Prelude.{◌≡◌, Bool, ◌&&◌, List, ℕ, ◌+◌, ◌*◌, ◌-◌, ◌^◌, ◌≤◌, leb, get_or, ℤ, pos, ◌+ℤ◌, ◌*ℤ◌, nat_abs}
use Rattle.rational.specs.Rounding.{Rounding, down, up}
use Rattle.bernstein.specs.DeCasteljau.{all_below}
use Rattle.bernstein.specs.WholeSum.{weight, total_below}
use Rattle.curve.specs.declared.Rect.{Rect}
use Rattle.curve.specs.declared.Curve.{Curve}
use Rattle.curve.specs.Limits.{max_side}
use Rattle.curve.specs.Rect.{Coordinate, resistance, reactance, side, sides_in_range, sides_ordered}
use Rattle.curve.specs.Curve.{point}
use Rattle.sixteenths.specs.declared.sums.Sums.{Sums}
use Rattle.sixteenths.specs.Weights.{sixteenths, highest, start}

-- a list holds the weights at j/16, of each degree where the table's entries of one j have them
pub record BlockOf (j : ℕ) (list : List ℕ) : Type 0 where
  pub entry : (n k : ℕ) → 1 ≤ n → n ≤ highest → k ≤ n → get_or list (start n + k) 0 ≡ weight n (sixteenths - j) j k

-- the largest weight, 16 to the power 8, and how large a weight times a lifted side can be, 2 to the power 57
abbrev pub largest_weight : ℕ
largest_weight = 4294967296

abbrev pub largest_product : ℕ
largest_product = 144115188075855872

-- a side moved up by the largest one, so that natural numbers are added
unfoldable pub lifted : ℤ → ℕ
lifted z = nat_abs (z +ℤ pos max_side)

-- the sum of one side
abbrev pub sum_at : Coordinate → Rounding → Sums → ℕ
sum_at resistance down s = s.rlow
sum_at resistance up s = s.rhigh
sum_at reactance down s = s.xlow
sum_at reactance up s = s.xhigh

-- the sums with one more point, of this weight
abbrev pub added_to : Sums → ℕ → Rect → Sums
added_to s w p =
    record {
      rlow = s.rlow + w * lifted p.resistance.low;
      rhigh = s.rhigh + w * lifted p.resistance.high;
      xlow = s.xlow + w * lifted p.reactance.low;
      xhigh = s.xhigh + w * lifted p.reactance.high;
    }

-- four sums with room for one more point
pub record Roomy (s : Sums) : Type 0 where
  pub most : (x : Coordinate) (r : Rounding) → sum_at x r s ≤ highest * largest_product

-- the sums over the first m points with these weights, of lifted sides
pub record Summed (W : ℕ → ℕ) (P : ℕ → Rect) (m : ℕ) (s : Sums) : Type 0 where
  pub total : (x : Coordinate) (r : Rounding) → pos (sum_at x r s) ≡ total_below m (λ k. pos (W k) *ℤ (side x r (P k) +ℤ pos max_side))
  pub most : (x : Coordinate) (r : Rounding) → sum_at x r s ≤ m * largest_product

-- four sums whose quotients are at most twice the largest side
pub record SmallQuotients (n : ℕ) (s : Sums) : Type 0 where
  pub most : (x : Coordinate) (r : Rounding) → sum_at x r s ≤ 2 * max_side * sixteenths ^ n

-- whether the first m points have their sides in range and in order
abbrev pub good_below : ℕ → (ℕ → Rect) → Bool
good_below m P = all_below m (λ k. sides_in_range (P k) && sides_ordered (P k))

-- whether the table has the weights of a degree and a j
abbrev pub has_weights : ℕ → ℕ → Bool
has_weights degree j = (leb 1 degree && leb degree highest) && leb j sixteenths

-- whether a reading is accepted
abbrev pub accepts : Curve → ℕ → Bool
accepts c j = has_weights c.degree j && good_below (c.degree + 1) (point c)
