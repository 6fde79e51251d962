-- The weights of a degree among those at j/16: none is too large, and a pass with them gives the sums with the weights of its degree.
use Rattle.std.proofs.Common.{◌≡◌, sym, ◌∙◌, subst, List, ℕ, ◌+◌, ◌-◌, ◌<◌, ◌≤◌, length, get_or, take, drop, arith, Option, Some, None, IfSome}
use Rattle.std.proofs.lemmas.List.{get_or-take, get_or-drop, length-take, length-drop}
use Rattle.bernstein.specs.WholeSum.{weight}
use Rattle.curve.specs.declared.Curve.{Curve}
use Rattle.curve.specs.Curve.{point}
use Rattle.sixteenths.specs.declared.sums.Sums.{Sums}
use Rattle.sixteenths.specs.Weights.{sixteenths, highest, block, start}
use Rattle.sixteenths.specs.Inner.{largest_weight, BlockOf, Summed}
use Rattle.sixteenths.proofs.Blocks.{start-within}
use Rattle.sixteenths.proofs.Table.{weight-most}
use Rattle.sixteenths.proofs.Summing.{summed_agree}

-- the weights of degree n
abbrev pub of_degree : ℕ → List ℕ → List ℕ
of_degree n w = take (n + 1) (drop (start n) w)

module _ (n j : ℕ) (some : 1 ≤ n) (few : n ≤ highest) (most : j ≤ sixteenths) (w : List ℕ) (weights : BlockOf j w) where
  entry : (k : ℕ) → k < n + 1 → get_or (of_degree n w) k 0 ≡ weight n (sixteenths - j) j k
  entry k h = get_or-take (n + 1) (drop (start n) w) k 0 h ∙ get_or-drop (start n) w k 0 ∙ weights.entry n k some few (omega arith)

  many : length w ≡ block → length (of_degree n w) ≡ n + 1
  many full = let within = start-within n some few in omega (arith, length-take (n + 1) (drop (start n) w), length-drop (start n) w)

  pub light : (k : ℕ) → k < length (of_degree n w) → get_or (of_degree n w) k 0 ≤ largest_weight
  light k h =
      let within : k < n + 1 = omega (arith, length-take (n + 1) (drop (start n) w)) in
      subst (λ (m : ℕ). m ≤ largest_weight) (sym (entry k within)) (weight-most n j k some few most (omega arith))

  pub gives :
      (c : Curve) → c.degree ≡ n → length w ≡ block → (r : Option Sums) →
      IfSome r (Summed (λ k. get_or (of_degree n w) k 0) (point c) (length (of_degree n w))) →
      IfSome r (Summed (weight c.degree (sixteenths - j) j) (point c) (c.degree + 1))
  gives c is full None given = given
  gives c is full (Some s) given =
      subst (λ (m : ℕ). Summed (weight m (sixteenths - j) j) (point c) (m + 1) s) (sym is)
      (summed_agree _ _ (point c) (n + 1) s entry (subst (λ (m : ℕ). Summed (λ k. get_or (of_degree n w) k 0) (point c) m s) (many full) given))
