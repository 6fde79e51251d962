-- Laws of tests, and of the refusals that they give: number 0 says that every test held.
-- Assumes nothing.
use mathlib.Core.Path.{◌≡◌, refl, sym, ap, ◌∙◌, subst}
use mathlib.Core.Bool.{Bool, true, false, ◌&&◌, cond}
use mathlib.Core.Logic.{inl, inr}
use Prim.Native.Nat.{ℕ, zero, suc, ◌+◌, ◌≤◌, ◌<◌}
use native.Mathlib.Nat.{eq-or-lt_of_le}
use native.Mathlib.Omega.{arith}
use lib.Dec.{T, leb, eqb, eqb→eq, leb→le, le→leb}
use Rattle.curve.specs.declared.Refusal.{Refusal}
use Rattle.curve.specs.Refusals.{none, refusal, ◌or_else◌, unless_at, unless, first_failing}

-- ---- tests

pub true_of : (b : Bool) → T b → b ≡ true
true_of true t = refl
true_of false t = absurd t

pub both : (a b : Bool) → T (a && b) → T a × T b
both true b t = (tt, t)
both false b t = absurd t

pub join : (a b : Bool) → T a → T b → T (a && b)
join true b s t = t
join false b s t = absurd s

-- ---- number 0

pub or_split : (a b : Refusal) → (a or_else b).number ≡ 0 → (a.number ≡ 0) × (b.number ≡ 0)
or_split a b h = go (eqb a.number 0) refl
  where
    go : (t : Bool) → eqb a.number 0 ≡ t → (a.number ≡ 0) × (b.number ≡ 0)
    go true e = (eqb→eq a.number 0 (subst T (sym e) tt), rw e at h)
    go false e =
        let z : a.number ≡ 0 = rw e at h in
        absurd (subst T e (subst (λ (n : ℕ). T (eqb n 0)) (sym z) tt))

pub or_none : (a b : Refusal) → a ≡ none → (a or_else b) ≡ b
or_none a b h = ap (λ (x : Refusal). x or_else b) h

pub unless_holds : (ok : Bool) (number place : ℕ) → (unless_at ok (suc number) place).number ≡ 0 → T ok
unless_holds true number place h = tt
unless_holds false number place h = let z : suc number ≡ 0 = h in absurd (omega arith)

pub unless-none : (ok : Bool) (number : ℕ) → T ok → unless ok number ≡ none
unless-none true number t = refl
unless-none false number t = absurd t

cond_split : (b : Bool) (rest : Refusal) (number place : ℕ) → (cond b rest (refusal (suc number) place)).number ≡ 0 → T b × (rest.number ≡ 0)
cond_split true rest number place h = (tt, h)
cond_split false rest number place h = let z : suc number ≡ 0 = h in absurd (omega arith)

pub first_holds : (ok : ℕ → Bool) (number m from : ℕ) → (first_failing ok (suc number) m from).number ≡ 0 → (k : ℕ) → from ≤ k → k < from + m → T (ok k)
unfolding first_failing
first_holds ok number zero from h k low high = absurd (omega arith)
first_holds ok number (suc m) from h k low high =
    let (here, rest) = cond_split (ok from) _ number from h in
    elim (eq-or-lt_of_le low) [ inl e ↦ subst (λ (i : ℕ). T (ok i)) e here | inr l ↦ first_holds ok number m (suc from) rest k l (omega arith) ]

pub first-none : (ok : ℕ → Bool) (number m from : ℕ) → ((k : ℕ) → from ≤ k → k < from + m → T (ok k)) → first_failing ok number m from ≡ none
unfolding first_failing
first-none ok number zero from h = refl
first-none ok number (suc m) from h =
    ap (λ (b : Bool). cond b (first_failing ok number m (suc from)) (refusal number from)) (true_of (ok from) (h from (omega arith) (omega arith)))
    ∙ first-none ok number m (suc from) (λ k low high. h k (omega arith) (omega arith))

-- a number from 1 to k
pub between_holds : (x k number : ℕ) → (unless (leb 1 x && leb x k) (suc number)).number ≡ 0 → (1 ≤ x) × (x ≤ k)
between_holds x k number h =
    let (low, high) = both (leb 1 x) (leb x k) (unless_holds (leb 1 x && leb x k) number 0 h) in
    (leb→le 1 x low, leb→le x k high)

pub between_none : (x k number : ℕ) → 1 ≤ x → x ≤ k → unless (leb 1 x && leb x k) number ≡ none
between_none x k number low high = unless-none (leb 1 x && leb x k) number (join (leb 1 x) (leb x k) (le→leb 1 x low) (le→leb x k high))
