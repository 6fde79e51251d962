-- Every index of the table of weights is one of a degree, a numerator and a point, by tests that antt computes over all of them.
-- Assumes nothing.
use mathlib.Core.Path.{◌≡◌, refl, sym, subst}
use mathlib.Core.Bool.{Bool, true, cond}
use Prim.Native.Nat.{ℕ, zero, suc, ◌-◌, ◌/◌, ◌%◌}
use lib.Dec.{T, leb, leb→le, eqb, eqb→eq}
use Rattle.bernstein.specs.DeCasteljau.{all_below}
use Rattle.bernstein.proofs.EveryMap.{all_at}
use Rattle.sixteenths.specs.Weights.{sixteenths, highest, entries, block, start, index}
use Rattle.sixteenths_promises.specs.Promises.{EveryEntry}

-- the largest degree up to n whose entries begin at or before `at`
unfoldable degree_up_to : ℕ → ℕ → ℕ
degree_up_to zero at = 0
degree_up_to (suc n) at = cond (leb (start (suc n)) at) (suc n) (degree_up_to n at)

abbrev degree_at : ℕ → ℕ
degree_at i = degree_up_to highest (i % block)

abbrev numerator_at : ℕ → ℕ
numerator_at i = i / block

abbrev point_at : ℕ → ℕ
point_at i = i % block - start (degree_at i)

pub every_entry : EveryEntry
unfolding all_below degree_up_to start index
every_entry i h = record {
  degree = degree_at i;
  numerator = numerator_at i;
  point = point_at i;
  some = leb→le 1 (degree_at i) (holds (λ m. leb 1 (degree_at m)) refl);
  few = leb→le (degree_at i) highest (holds (λ m. leb (degree_at m) highest) refl);
  most = leb→le (numerator_at i) sixteenths (holds (λ m. leb (numerator_at m) sixteenths) refl);
  within = leb→le (point_at i) (degree_at i) (holds (λ m. leb (point_at m) (degree_at m)) refl);
  here = eqb→eq (index (degree_at i) (numerator_at i) (point_at i)) i (holds (λ m. eqb (index (degree_at m) (numerator_at m) (point_at m)) m) refl);
}
  where
    holds : (test : ℕ → Bool) → all_below entries test ≡ true → T (test i)
    holds test all = subst T (sym (all_at entries test all i h)) tt
