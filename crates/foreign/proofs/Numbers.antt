-- Numbers as they come out of memory and as they are converted, and small facts about the numbers of a curve.
use mathlib.Core.Path.{◌≡◌, refl, sym, ap, ◌∙◌}
use mathlib.Core.Bool.{Bool, true, false, cond}
use mathlib.Core.List.{List, [], ◌∷◌}
use Prim.Native.Nat.{ℕ, zero, suc, ◌+◌, ◌-◌, ◌≤◌, ◌<◌, ◌^◌}
use native.Mathlib.Omega.{arith}
use borrow.Author.Tests.{leb-true, le-leb, lt-leb}
use lib.Dec.{eqb, leb}
use lib.IntN.{ℤ, pos, negsuc, nat_abs}
use lib.ListN.{length, get_or, drop}
use mir.Syntax.{w32}
use mir.Val.{to_z, bool_byte}
use mir.ValLaws.{to_z-of_z}
use Rattle.std.specs.Prelude.{Result, Ok, Err}
use Rattle.std.specs.Int.{FitsUnsignedBits}
use Rattle.std.specs.List.{slice_range}
use Rattle.std.specs.Result.{OkIff, result_unwrap_or}
use Rattle.std.proofs.lemmas.List.{get_or-take, get_or-drop}
use Rattle.curve.specs.declared.Curve.{Curve}
use Rattle.curve.specs.Limits.{max_degree, max_sum}
use Rattle.curve.specs.Curve.{zero_curve}
use Rattle.card_text.specs.declared.CardRead.{CardRead}
use Rattle.card_text.specs.Reading.{up_to, number_at, decoded, degree_of, card_refusal, read_card}
use Rattle.card_text.proofs.UpTo.{degree-at-most}
use Rattle.interface.specs.Numbers.{given_at, sum_from, flag_number}
use Rattle.interface.specs.Answer.{max_place, place_of}

-- a number that the list has, as it comes out of memory
had : (zs : List ℤ) (k : ℕ) → k < length zs → get_or zs k (pos 0) ≡ given_at zs k
had [] k h = absurd (omega arith)
had (z ∷ zs) zero h = refl
had (z ∷ zs) (suc k) h = had zs k (omega arith)

-- the same of one of the four from an index on
pub part_had : (zs part : List ℤ) (at k n : ℕ) → at + 4 ≤ length zs → part ≡ slice_range zs at (at + 4) → k < 4 → n ≡ at + k → get_or part k (pos 0) ≡ given_at zs n
part_had zs part at k n room e h same =
    ap (λ (l : List ℤ). get_or l k (pos 0)) e
    ∙ get_or-take (at + 4 - at) (drop at zs) k (pos 0) (omega arith)
    ∙ get_or-drop at zs k (pos 0)
    ∙ ap (λ (i : ℕ). get_or zs i (pos 0)) (sym same)
    ∙ had zs n (omega arith)

-- a place that is tried as 32 bits, and a sum that is tried as 16
pub place_tried : {E : Type 0} (place : ℕ) (r : Result ℕ E) → OkIff r (place < 4294967296) place → result_unwrap_or r max_place ≡ place_of place
unfolding place_of
place_tried place (Ok x) (fits, e) = rw (le-leb place max_place (omega arith)) e
place_tried place (Err e) outside = go (leb place max_place) refl
  where
    go : (b : Bool) → leb place max_place ≡ b → max_place ≡ cond b place max_place
    go true low = let h = leb-true place max_place low in absurd (outside (omega arith))
    go false high = refl

pub sum_tried : {E : Type 0} (z : ℤ) (r : Result ℕ E) → OkIff r (FitsUnsignedBits 16 z) (nat_abs z) → result_unwrap_or r max_sum ≡ sum_from z
unfolding up_to
sum_tried (pos n) (Ok x) (fits, e) = rw (le-leb n max_sum (omega arith)) e
sum_tried (pos n) (Err e) outside = go (leb n max_sum) refl
  where
    go : (b : Bool) → leb n max_sum ≡ b → max_sum ≡ cond b n max_sum
    go true low = let h = leb-true n max_sum low in absurd (outside (omega arith))
    go false high = refl
sum_tried (negsuc n) (Ok x) (fits, e) = absurd fits
sum_tried (negsuc n) (Err e) outside = refl

-- a degree that is tried as 32 bits, and then tested
pub degree_fits : (z : ℤ) (d : ℕ) → FitsUnsignedBits 32 z × d ≡ nat_abs z → d ≤ max_degree → d ≡ degree_of z
unfolding up_to
degree_fits (pos n) d (fits, e) low = e ∙ sym (ap (λ (b : Bool). cond b n 0) (le-leb n max_degree (omega arith)))
degree_fits (negsuc n) d (fits, e) low = absurd fits

pub degree_above : (z : ℤ) (d : ℕ) → FitsUnsignedBits 32 z × d ≡ nat_abs z → max_degree < d → 0 ≡ degree_of z
unfolding up_to
degree_above (pos n) d (fits, e) high = sym (ap (λ (b : Bool). cond b n 0) (lt-leb n max_degree (omega arith)))
degree_above (negsuc n) d (fits, e) high = absurd fits

pub degree_none : (z : ℤ) → (FitsUnsignedBits 32 z → ⊥) → 0 ≡ degree_of z
unfolding up_to
degree_none (pos n) outside = go (leb n max_degree) refl
  where
    go : (b : Bool) → leb n max_degree ≡ b → 0 ≡ cond b n 0
    go true low = let h = leb-true n max_degree low in absurd (outside (omega arith))
    go false high = refl
degree_none (negsuc n) outside = refl

-- the curve that a card gives, the zero curve where it is refused, has a degree of at most the highest
pub card_few : (bytes : List ℕ) → (read_card bytes).curve.degree ≤ max_degree
unfolding read_card decoded
card_few bytes = go (eqb (card_refusal bytes).number 0)
  where
    read : Curve → CardRead
    read x = record { refusal = card_refusal bytes; curve = x }

    go : (b : Bool) → (cond b (read (decoded bytes)) (read zero_curve)).curve.degree ≤ max_degree
    go true = degree-at-most (number_at bytes 0)
    go false = omega arith

-- a small number as an i32
pub as_signed : (n : ℕ) → n < 2 ^ 31 → to_z w32 n ≡ pos n
as_signed n h = to_z-of_z w32 (pos n) (record { sfits = omega arith })

-- a flag as a number
pub flag_byte : (exact : Bool) → bool_byte exact ≡ flag_number exact
flag_byte true = refl
flag_byte false = refl
