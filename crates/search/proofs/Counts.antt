-- The count of a walk: it grows by one with each piece looked at, and stays within the budget and within the number of pieces that there are.
-- Assumes nothing.
use mathlib.Core.Path.{◌≡◌, refl, sym, subst}
use Prim.Native.Nat.{ℕ, suc, ◌+◌, ◌≤◌, ◌<◌, ◌^◌}
use native.Mathlib.Nat.{two-pow-succ}
use native.Mathlib.Omega.{arith}
use lib.Pow.{pow_pos}
use Rattle.curve.specs.declared.Rect.{Rect}
use Rattle.curve.specs.declared.Curve.{Curve}
use Rattle.search.specs.declared.Verdict.{Verdict}
use Rattle.search.specs.declared.Verdict.TheVariants.{Refused, Inside, Outside, Spent, Undecided}
use Rattle.search.specs.Walk.{count_of, looked, noted, walked}
use Rattle.search.proofs.Visits.{Going, clear, marked, Looks, Rules, walk_keeps}

-- the pieces that were due: those looked at, and one more where the budget was spent
abbrev pub due_of : Verdict → ℕ
due_of Refused = 0
due_of (Inside n) = n
due_of (Outside d i n) = n
due_of (Spent n) = n + 1
due_of (Undecided d i n) = n

pub count_due : (v : Verdict) → count_of v ≤ due_of v
count_due Refused = omega arith
count_due (Inside n) = omega arith
count_due (Outside d i n) = omega arith
count_due (Spent n) = omega arith
count_due (Undecided d i n) = omega arith

going_due : {v : Verdict} → Going v → due_of v ≡ count_of v
going_due clear = refl
going_due marked = refl

-- looking adds one, and noting nothing
pub looked-count : {v : Verdict} → Going v → count_of (looked v) ≡ count_of v + 1
looked-count clear = refl
looked-count marked = refl

pub looked_going : {v : Verdict} → Going v → Going (looked v)
looked_going clear = clear
looked_going marked = marked

pub noted-count : (d i : ℕ) {v : Verdict} → Going v → count_of (noted d i v) ≡ count_of v
noted-count d i clear = refl
noted-count d i marked = refl

pub noted_going : (d i : ℕ) {v : Verdict} → Going v → Going (noted d i v)
noted_going d i clear = marked
noted_going d i marked = marked

module _ (box : Rect) (budget : ℕ) where
  pub looked_budget : (v : Verdict) → Looks budget v → count_of v ≤ budget → count_of (looked v) ≤ budget
  looked_budget v l h = let b = l.below in omega (arith, b, looked-count l.going)

  -- the count stays within the budget
  budget_rules : Rules box budget (λ m piece d i v u. count_of v ≤ budget → count_of u ≤ budget)
  budget_rules = record {
    ended = λ m piece d i v e h. h;
    exhausted = λ m piece d i v g f h. h;
    contained = λ m piece d i v l w h. looked_budget v l h;
    apart = λ m piece d i v l o h. let b = l.below in omega (arith, b);
    limit = λ piece d i v l o h. subst (λ (n : ℕ). n ≤ budget) (sym (noted-count d i (looked_going l.going))) (looked_budget v l h);
    halves = λ m piece d i v l o w u e f left right h. right (left (looked_budget v l h));
  }

  pub walked_budget : (m : ℕ) (piece : Curve) (d i : ℕ) (v : Verdict) → count_of v ≤ budget → count_of (walked box budget m piece d i v) ≤ budget
  walked_budget = walk_keeps box budget (λ m piece d i v u. count_of v ≤ budget → count_of u ≤ budget) budget_rules

  -- no more pieces are due than there are from this one down
  due_rules : Rules box budget (λ m piece d i v u. due_of u < due_of v + 2 ^ suc m)
  due_rules = record {
    ended = λ m piece d i v e. omega (arith, pow_pos (suc m));
    exhausted = λ m piece d i v g f. omega (arith, going_due g, two-pow-succ m, pow_pos m);
    contained = λ m piece d i v l w. omega (arith, going_due l.going, going_due (looked_going l.going), looked-count l.going, two-pow-succ m, pow_pos m);
    apart = λ m piece d i v l o. omega (arith, going_due l.going, two-pow-succ m, pow_pos m);
    limit = λ piece d i v l o.
        let g = looked_going l.going in
        omega (arith, going_due l.going, going_due (noted_going d i g), noted-count d i g, looked-count l.going);
    halves = λ m piece d i v l o w u e f left right.
        omega (arith, left, right, going_due l.going, going_due (looked_going l.going), looked-count l.going, two-pow-succ (suc m));
  }

  pub walked_due : (m : ℕ) (piece : Curve) (d i : ℕ) (v : Verdict) → due_of (walked box budget m piece d i v) < due_of v + 2 ^ suc m
  walked_due = walk_keeps box budget (λ m piece d i v u. due_of u < due_of v + 2 ^ suc m) due_rules
