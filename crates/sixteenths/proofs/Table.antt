-- The rule of the table of weights, from one test that antt computes over all entries; and that no weight is above 16 to the power 8.
-- Assumes nothing.
use mathlib.Core.Path.{◌≡◌, refl, sym, subst}
use mathlib.Core.Bool.{Bool, true}
use mathlib.Core.List.{List}
use Prim.Native.Nat.{ℕ, ◌+◌, ◌-◌, ◌≤◌}
use native.Mathlib.Omega.{arith}
use lib.Dec.{T, leb, leb→le, eqb, eqb→eq}
use lib.ListN.{length, get_or}
use Rattle.bernstein.specs.DeCasteljau.{all_below}
use Rattle.bernstein.specs.Bernstein.{choose}
use Rattle.bernstein.specs.WholeSum.{weight}
use Rattle.bernstein.proofs.EveryMap.{all_at}
use Rattle.sixteenths.specs.Weights.{sixteenths, highest, entries, index, Rule}
use Rattle.sixteenths.specs.Inner.{largest_weight}

-- whether a test holds of every n, j and k that the table has
unfoldable pub every : (ℕ → ℕ → ℕ → Bool) → Bool
every test = all_below 8 (λ m. all_below 17 (λ j. all_below (m + 2) (test (m + 1) j)))

pub every_at :
    (test : ℕ → ℕ → ℕ → Bool) → every test ≡ true →
    (n j k : ℕ) → 1 ≤ n → n ≤ highest → j ≤ sixteenths → k ≤ n → test n j k ≡ true
unfolding every
every_at test h n j k some few most within =
    let back : n - 1 + 1 ≡ n = omega arith in
    let degree = all_at 8 (λ m. all_below 17 (λ i. all_below (m + 2) (test (m + 1) i))) h (n - 1) (omega arith) in
    let place = all_at 17 (λ i. all_below (n - 1 + 2) (test (n - 1 + 1) i)) degree j (omega arith) in
    subst (λ (m : ℕ). test m j k ≡ true) back (all_at (n - 1 + 2) (test (n - 1 + 1) j) place k (omega arith))

-- whether an entry is its weight
unfoldable pub right : List ℕ → ℕ → ℕ → ℕ → Bool
right table n j k = eqb (get_or table (index n j k) 0) (weight n (sixteenths - j) j k)

pub rule_of : (table : List ℕ) → length table ≡ entries → every (right table) ≡ true → Rule table
unfolding right
rule_of table full h = record {
  full = full;
  entry = λ n j k some few most within.
      eqb→eq (get_or table (index n j k) 0) (weight n (sixteenths - j) j k) (subst T (sym (every_at (right table) h n j k some few most within)) tt);
}

pub weight-most : (n j k : ℕ) → 1 ≤ n → n ≤ highest → j ≤ sixteenths → k ≤ n → weight n (sixteenths - j) j k ≤ largest_weight
unfolding every all_below weight choose
weight-most n j k some few most within =
    leb→le (weight n (sixteenths - j) j k) largest_weight (subst T (sym (every_at (λ m i l. leb (weight m (sixteenths - i) i l) largest_weight) refl n j k some few most within)) tt)
