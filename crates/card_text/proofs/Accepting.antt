-- What follows from number 0: each refusal in a row has it, and each test holds.
-- Assumes nothing.
use mathlib.Core.Path.{◌≡◌, refl, ap, ◌∙◌}
use mathlib.Core.Bool.{Bool, true, false, ◌&&◌}
use Prim.Native.Nat.{ℕ, suc, ◌≤◌}
use native.Mathlib.Omega.{arith}
use lib.Dec.{leb}
use borrow.Author.Tests.{leb-true}
use Rattle.curve.specs.declared.Refusal.{Refusal}
use Rattle.curve.specs.Refusals.{none, ◌or_else◌, unless, unless_at}
use Rattle.columns.proofs.Decode.{both}

pub or_none : (a b : Refusal) → a ≡ none → b ≡ none → (a or_else b) ≡ none
or_none a b e f = ap (λ (x : Refusal). x or_else b) e ∙ f

pub unless-zero : (ok : Bool) (number place : ℕ) → (unless_at ok (suc number) place).number ≡ 0 → ok ≡ true
unless-zero true number place h = refl
unless-zero false number place h = let z : suc number ≡ 0 = h in absurd (omega arith)

pub unless-none : (ok : Bool) (number place : ℕ) → ok ≡ true → unless_at ok number place ≡ none
unless-none ok number place e = ap (λ (b : Bool). unless_at b number place) e

-- a number from 1 to m
pub from_one : (m n : ℕ) → (unless (leb 1 n && leb n m) 1).number ≡ 0 → (1 ≤ n) × (n ≤ m)
from_one m n h =
    let (low, high) = both (leb 1 n) (leb n m) (unless-zero (leb 1 n && leb n m) 0 0 h) in
    (leb-true 1 n low, leb-true n m high)
