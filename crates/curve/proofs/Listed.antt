-- A reason is a refusal: its number is not 0, so nothing behind it is asked.
use mathlib.Core.Path.{◌≡◌, refl, sym, ap, ◌∙◌}
use mathlib.Core.Bool.{Bool, true, false, cond}
use lib.Dec.{eqb}
use borrow.Author.Tests.{eqb-false}
use Rattle.curve.specs.declared.Refusal.{Refusal}
use Rattle.curve.specs.declared.reason.Reason.{Reason}
use Rattle.curve.specs.declared.reason.Reason.TheVariants as kind
use Rattle.curve.specs.Refusals.{none, ◌or_else◌}
use Rattle.curve.specs.Reason.{listed, refusal_of}
use Rattle.std.specs.Prelude.{Result, Ok, Err, ⊤}

pub listed_refuses : (e : Reason) → eqb (listed e).number 0 ≡ false
listed_refuses kind.Degree = refl
listed_refuses (kind.SideOutOfRange place) = refl
listed_refuses (kind.LowAboveHigh place) = refl
listed_refuses kind.Denominator = refl
listed_refuses kind.Numerator = refl
listed_refuses kind.HighestDegree = refl
listed_refuses (kind.Limits place) = refl
listed_refuses kind.Depth = refl
listed_refuses kind.Budget = refl
listed_refuses (kind.CardLength length) = refl
listed_refuses (kind.Malformed offset) = refl
listed_refuses (kind.BufferTooShort needed) = refl
listed_refuses (kind.Measurement place) = refl
listed_refuses (kind.SideBeyondRange place) = refl
listed_refuses kind.Sixteenth = refl
listed_refuses (kind.ListLength length) = refl
listed_refuses kind.SumOfSteps = refl

pub listed_first : (e : Reason) (r : Refusal) → (listed e or_else r) ≡ listed e
listed_first e r = ap (λ b. cond b r (listed e)) (listed_refuses e)

pub listed_some : (e : Reason) → (listed e).number ≡ 0 → ⊥
listed_some e h = eqb-false (listed e).number 0 (listed_refuses e) h

-- the first refusal is the answer, and the second where the first is none
pub first_is : (e : Reason) (a b : Refusal) → listed e ≡ a → listed e ≡ (a or_else b)
first_is e a b h = sym (listed_first e b) ∙ ap (λ (r : Refusal). r or_else b) h

pub second_is : (a b : Refusal) → none ≡ a → b ≡ (a or_else b)
second_is a b h = ap (λ (r : Refusal). r or_else b) h

pub goes_on : (a b r : Refusal) → none ≡ a → r ≡ b → r ≡ (a or_else b)
goes_on a b r h k = k ∙ second_is a b h

-- the refusal that a test gives, and what it tells of the test
pub ensured : (ok : Bool) (e : Reason) (r : Result ⊤ Reason) → r ≡ cond ok (Ok tt) (Err e) → refusal_of r ≡ cond ok none (listed e)
ensured true e r h = ap refusal_of h
ensured false e r h = ap refusal_of h

pub passed : (ok : Bool) (otherwise : Reason) (u : Unit {0}) → ◌≡◌ {A = Result (Unit {0}) Reason} (Ok u) (cond ok (Ok tt) (Err otherwise)) → ok ≡ true
passed true otherwise u h = refl
passed false otherwise u h = cc

pub failed : (ok : Bool) (e otherwise : Reason) → ◌≡◌ {A = Result (Unit {0}) Reason} (Err e) (cond ok (Ok tt) (Err otherwise)) → (ok ≡ false) × (e ≡ otherwise)
failed true e otherwise h = (cc, cc)
failed false e otherwise h = (refl, cc)
