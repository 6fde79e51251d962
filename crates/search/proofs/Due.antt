-- What is asked of a piece's index holds of its halves, and a walk that looks has room for one more in the count.
use mathlib.Core.Path.{◌≡◌, ap, ◌∙◌}
use Prim.Native.Nat.{ℕ, ◌+◌, ◌*◌, ◌≤◌, ◌<◌, ◌^◌}
use native.Mathlib.Nat.{two-pow-succ}
use native.Mathlib.Numerals.{add-one}
use native.Mathlib.Omega.{arith}
use Rattle.search.specs.declared.Verdict.{Verdict}
use Rattle.search.specs.Limits.{max_budget}
use Rattle.search.specs.Walk.{count_of}
use Rattle.search.proofs.Visits.{Looks}

-- the index of a half begins with the piece's
pub half_numbered : {index k : ℕ} (depth : ℕ) → index < 2 ^ depth → k < index * 2 + 2 → k < 2 ^ (depth + 1)
half_numbered depth numbered half =
    let double : 2 ^ (depth + 1) ≡ 2 ^ depth + 2 ^ depth = ap (λ (m : ℕ). 2 ^ m) (add-one depth) ∙ two-pow-succ depth in omega (arith, numbered, half, double)

-- a walk that looks has room for one more in the count
pub room : {budget : ℕ} {v : Verdict} → budget ≤ max_budget → count_of v ≤ budget → Looks budget v → count_of v < max_budget
room few counted l = let b = l.below in omega (arith, b, few, counted)
