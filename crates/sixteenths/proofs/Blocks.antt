-- Blocks of the table: how entries are copied out one by one, and that what stands from 44 × j on are the weights at j/16.
-- Assumes nothing.
use mathlib.Core.Path.{◌≡◌, refl, sym, ap, ◌∙◌, subst}
use mathlib.Core.Bool.{true}
use mathlib.Core.List.{List}
use Prim.Native.Nat.{ℕ, ◌+◌, ◌*◌, ◌-◌, ◌≤◌, ◌<◌}
use native.Mathlib.Decide.{ℕ_discrete}
use native.Mathlib.Omega.{arith}
use lib.Dec.{T, ltb, ltb→lt}
use lib.ListN.{get_or, set, length}
use lib.Seq.{get_or-set_same, get_or-set_other}
use Rattle.bernstein.specs.DeCasteljau.{all_below}
use Rattle.bernstein.proofs.EveryMap.{all_at}
use Rattle.sixteenths.specs.Weights.{sixteenths, highest, block, start, index, Rule}
use Rattle.sixteenths.specs.Inner.{BlockOf}

-- one more entry stored
pub stored_next :
    (l : List ℕ) (f : ℕ → ℕ) (i : ℕ) → i < length l → ((k : ℕ) → k < i → get_or l k 0 ≡ f k) →
    (k : ℕ) → k < i + 1 → get_or (set l i (f i)) k 0 ≡ f k
stored_next l f i room before k h = go (ℕ_discrete k i)
  where
    go : Dec (k ≡ i) → get_or (set l i (f i)) k 0 ≡ f k
    go (yes e) = subst (λ (m : ℕ). get_or (set l i (f i)) m 0 ≡ f m) (sym e) (get_or-set_same l i (f i) 0 room)
    go (no ne) = get_or-set_other l i k (f i) 0 ne ∙ before k (omega arith)

-- the entries of a degree lie among those of one j
pub start-within : (n : ℕ) → 1 ≤ n → n ≤ highest → start n + n < block
unfolding start all_below
start-within n some few =
    let back : n - 1 + 1 ≡ n = omega arith in
    let fits = all_at 8 (λ m. ltb (start (m + 1) + (m + 1)) block) refl (n - 1) (omega arith) in
    ltb→lt (start n + n) block (subst T (sym (subst (λ (m : ℕ). ltb (start m + m) block ≡ true) back fits)) tt)

pub block_of :
    (table : List ℕ) → Rule table → (j : ℕ) → j ≤ sixteenths → (l : List ℕ) (from : ℕ) →
    ((k : ℕ) → k < block → get_or l k 0 ≡ get_or table (from + k) 0) → from ≡ block * j → BlockOf j l
unfolding index
block_of table rule j most l from copied place = record {
  entry = λ n k some few within.
      let h = start-within n some few in
      copied (start n + k) (omega arith) ∙ ap (λ (m : ℕ). get_or table (m + (start n + k)) 0) place ∙ rule.entry n j k some few most within;
}
