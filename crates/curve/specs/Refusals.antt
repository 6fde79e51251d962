-- The refusals 1 to 6 and 17 in their order. Number 0 says that nothing was refused.
-- Assumes nothing.
use Rattle.std.specs.Prelude.{◌≡◌, Bool, ◌&&◌, cond, ℕ, zero, suc, ◌+◌, leb, ltb, eqb}
use Rattle.curve.specs.declared.Refusal.{Refusal}
use Rattle.curve.specs.declared.Curve.{Curve}
use Rattle.curve.specs.Limits.{max_degree, max_den, max_sum}
use Rattle.curve.specs.Rect.{sides_in_range, sides_ordered}
use Rattle.curve.specs.Curve.{point}

abbrev pub refusal : ℕ → ℕ → Refusal
refusal number place = record { number = number; place = place }

abbrev pub none : Refusal
none = refusal 0 0

-- the first refusal, and the second where the first is none
infixr 4 ◌or_else◌
abbrev pub ◌or_else◌ : Refusal → Refusal → Refusal
a or_else b = cond (eqb a.number 0) b a

-- refused with this number at this place unless the test holds, and the same at place 0
abbrev pub unless_at : Bool → ℕ → ℕ → Refusal
unless_at ok number place = cond ok none (refusal number place)

abbrev pub unless : Bool → ℕ → Refusal
unless ok number = unless_at ok number 0

-- what is lent for a result, afterwards: the given value where nothing is refused, or kept
unfoldable pub unless_refused : {A : Type 0} → Refusal → A → A → A
unless_refused r given kept = cond (eqb r.number 0) given kept

-- refused with this number at the first of the m places from `from` on of which the test fails
unfoldable pub first_failing : (ℕ → Bool) → ℕ → ℕ → ℕ → Refusal
first_failing ok number zero from = none
first_failing ok number (suc m) from = cond (ok from) (first_failing ok number m (suc from)) (refusal number from)

-- 1: the degree
abbrev pub degree_refusal : ℕ → Refusal
degree_refusal degree = unless (leb 1 degree && leb degree max_degree) 1

-- 2: a side out of range; 3: a low above its high; each at the first such rectangle
unfoldable pub range_refusal : Curve → Refusal
range_refusal c = first_failing (λ k. sides_in_range (point c k)) 2 (c.degree + 1) 0

unfoldable pub order_refusal : Curve → Refusal
order_refusal c = first_failing (λ k. sides_ordered (point c k)) 3 (c.degree + 1) 0

unfoldable pub curve_refusal : Curve → Refusal
curve_refusal c = degree_refusal c.degree or_else range_refusal c or_else order_refusal c

-- 4: the denominator; 5: the numerator
unfoldable pub parameter_refusal : ℕ → ℕ → Refusal
parameter_refusal num den = unless (leb 1 den && leb den max_den) 4 or_else unless (leb num den) 5

-- 6: elevation at the highest degree
unfoldable pub highest_refusal : ℕ → Refusal
highest_refusal degree = unless (ltb degree max_degree) 6

-- 17: a sum of steps, which a call would reach, above the largest
unfoldable pub sum_refusal : ℕ → Refusal
sum_refusal sum = unless (leb sum max_sum) 17

-- a curve, a parameter and a sum that are not refused
abbrev pub Accepted : Curve → Type 0
Accepted c = curve_refusal c ≡ none

abbrev pub AcceptedAt : ℕ → ℕ → Type 0
AcceptedAt num den = parameter_refusal num den ≡ none

abbrev pub AcceptedSum : ℕ → Type 0
AcceptedSum sum = sum_refusal sum ≡ none
