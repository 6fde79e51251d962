-- Laws of refusals: the first of several, and the first place of which a test fails, met one place after the other.
-- Assumes nothing.
use mathlib.Core.Path.{◌≡◌, refl, sym, ap, ◌∙◌, subst}
use mathlib.Core.Bool.{Bool, true, false, cond}
use Prim.Native.Nat.{ℕ, suc, ◌+◌, ◌-◌, ◌≤◌}
use native.Mathlib.Numerals.{add-one}
use native.Mathlib.Omega.{arith}
use borrow.Author.Tests.{eq-eqb, ne_eqb, eqb-true}
use lib.Dec.{eqb}
use Rattle.curve.specs.declared.Refusal.{Refusal}
use Rattle.curve.specs.Refusals.{refusal, none, ◌or_else◌, unless_at, first_failing}

-- ---- the first of several

pub or_assoc : (a b c : Refusal) → ((a or_else b) or_else c) ≡ (a or_else (b or_else c))
or_assoc a b c = go (eqb a.number 0) refl
  where
    go : (t : Bool) → eqb a.number 0 ≡ t → ((a or_else b) or_else c) ≡ (a or_else (b or_else c))
    go true e = rw e
    go false e = rw (e, e)

-- the first where it refuses, the second where it does not
pub or_first : (a b : Refusal) → (a.number ≡ 0 → ⊥) → a ≡ (a or_else b)
or_first a b h = rw (ne_eqb a.number 0 h)

pub or_second : (a b : Refusal) → a.number ≡ 0 → b ≡ (a or_else b)
or_second a b h = rw (eq-eqb a.number 0 h)

-- what a computed refusal's number says of the refusal itself
pub number_passed : {r q : Refusal} → r ≡ q → r.number ≡ 0 → q.number ≡ 0
number_passed e h = subst (λ (x : Refusal). x.number ≡ 0) e h

-- by whether a refusal's number is 0
pub by_number : {P : Type 0} (n : ℕ) → (n ≡ 0 → P) → (eqb n 0 ≡ false → P) → P
by_number {P} n zero more = go (eqb n 0) refl
  where
    go : (b : Bool) → eqb n 0 ≡ b → P
    go true e = zero (eqb-true n 0 e)
    go false e = more e

-- an answer that is `none` itself where its number is 0
abbrev pub Settled : Refusal → Type 0
Settled a = (a or_else none) ≡ a

pub settled_or : (a b : Refusal) → Settled a → Settled b → Settled (a or_else b)
settled_or a b ha hb = or_assoc a b none ∙ ap (λ (x : Refusal). a or_else x) hb

pub settled_unless : (ok : Bool) (number place : ℕ) → Settled (unless_at ok (suc number) place)
settled_unless true number place = refl
settled_unless false number place = sym (or_first (refusal (suc number) place) none (λ (e : suc number ≡ 0). omega arith))

-- ---- the first place of which a test fails

module _ (ok : ℕ → Bool) (number n : ℕ) where
  pub first_step : (k : ℕ) → k ≤ n → first_failing ok number (n + 1 - k) k ≡ cond (ok k) (first_failing ok number (n + 1 - (k + 1)) (k + 1)) (refusal number k)
  unfolding first_failing
  first_step k h =
      let count : n + 1 - k ≡ suc (n + 1 - (k + 1)) = omega arith in
      ap (λ (m : ℕ). first_failing ok number m k) count
      ∙ ap (λ (j : ℕ). cond (ok k) (first_failing ok number (n + 1 - (k + 1)) j) (refusal number k)) (sym (add-one k))
