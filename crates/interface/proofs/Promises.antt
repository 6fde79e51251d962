-- The promises of specs/Promises.antt.
-- Assumes nothing.
use mathlib.Core.Path.{◌≡◌, refl, sym, ap, ap₂, ◌∙◌, subst}
use mathlib.Core.Bool.{Bool, true, false, cond, ◌&&◌}
use mathlib.Core.List.{List, [], ◌∷◌, ◌++◌}
use mathlib.Core.Logic.{inl, inr}
use Prim.Native.Nat.{ℕ, zero, suc, ◌+◌, ◌*◌, ◌/◌, ◌%◌, ◌-◌, ◌<◌, ◌≤◌}
use native.Mathlib.Nat.{eq-or-lt_of_le}
use native.Mathlib.Omega.{arith}
use lib.IntN.{ℤ, pos, negsuc}
use lib.Ieee.{Float, nan}
use lib.Dec.{eqb}
use lib.Signed.{le_z}
use lib.ListN.{length, take, drop}
use lib.Seq.{take_at, drop_at}
use borrow.Author.Tests.{ne_eqb, le-leb, lt-leb}
use Rattle.rational.proofs.Machine.{and_yes}
use Rattle.curve.specs.declared.Rect.{Rect}
use Rattle.curve.specs.declared.Curve.{Curve}
use Rattle.curve.specs.declared.Refusal.{Refusal}
use Rattle.curve.specs.Limits.{max_degree, max_sum}
use Rattle.curve.specs.Rect.{in_range, sides_in_range, ends_in_range}
use Rattle.curve.specs.Curve.{point, curve_of, zero_curve, SameCurve}
use Rattle.curve.specs.Refusals.{refusal, none, ◌or_else◌, unless_at, first_failing, degree_refusal, range_refusal, order_refusal, curve_refusal}
use Rattle.curve.specs.Ohms.{ohms_of}
use Rattle.curve.proofs.Accepted.{accepted_facts}
use Rattle.curve.proofs.Places.{points_at}
use Rattle.curve.proofs.Refused.{or_first}
use Rattle.curve.proofs.Tests.{or_none}
use Rattle.card_text.specs.Reading.{up_to, degree_of}
use Rattle.card_text.proofs.UpTo.{number_above, number_below, number_back, degree_of_pos, degree-at-most}
use Rattle.search.specs.Box.{are_limits, is_box}
use Rattle.bridge.specs.Value.{finite, is_from, is_load}
use Rattle.bridge.specs.Bridge.{spread_rect, load_refusal, number_refusal, side_refusal, spread_refusal, answered, enclosed}
use Rattle.interface.specs.Answer.{word, max_place, place_of, answer_of}
use Rattle.interface.specs.Numbers.{missing, given_at, rect_at, sum_from, curve_from, ohms_at, spread_from, measurement_from, curve_numbers}
use Rattle.interface.specs.Promises.{Unpacked, ZeroAnswer, CurveLength, HandedOn, LargestSum, NoDegree, WrongLength, ResultNumbers, Kept}
use Rattle.interface.proofs.Lent.{all_kept, value_stored}
use Rattle.interface.proofs.Numbers as Numbers

-- two numbers in one
low_half : (n p : ℕ) → n < word → (n + word * p) % word ≡ n
low_half n p small = omega arith

high_half : (n p : ℕ) → n < word → (n + word * p) / word ≡ p
high_half n p small = omega arith

place_kept : (place : ℕ) → place ≤ max_place → place_of place ≡ place
unfolding place_of
place_kept place h = rw (le-leb place max_place h)

pub unpacked : Unpacked
unfolding answer_of
unpacked r small =
    let n = r.number in
    let p = place_of r.place in
    (low_half n p small, high_half n p small, λ fits. place_kept r.place (omega arith))

pub zero-answer : ZeroAnswer
unfolding answer_of place_of
zero-answer r listed = (λ e. rw e, λ e. listed.zero (omega arith))

pub curve-length : CurveLength
curve-length = Numbers.curve-length

-- ---- a curve handed on

-- a curve with a degree is read by its parts
read_whole : (zs : List ℤ) → 1 ≤ degree_of (given_at zs 0) → curve_from zs ≡ curve_of (degree_of (given_at zs 0)) (sum_from (given_at zs 1)) (λ k. rect_at zs (2 + 4 * k))
unfolding curve_from
read_whole zs some = rw (ne_eqb (degree_of (given_at zs 0)) 0 (λ e. absurd (omega arith)))

pub handed_on : HandedOn
unfolding curve_numbers
handed_on c more ok fits =
    let facts = accepted_facts c ok in
    let numbers = curve_numbers c ++ more in
    let f : ℕ → Rect = λ k. rect_at numbers (2 + 4 * k) in
    let degree : degree_of (pos c.degree) ≡ c.degree = degree_of_pos c.degree facts.few in
    let read : curve_from numbers ≡ curve_of c.degree c.sum f =
    read_whole numbers (rw degree facts.some) ∙ ap₂ (λ (n s : ℕ). curve_of n s f) degree (number_back max_sum _ c.sum fits) in
    subst (SameCurve c) (sym read) (
    record {
      sums = refl;
      rest = record {
        degrees = refl;
        controls = λ k h.
            sym (Numbers.rect_back (pos c.degree ∷ pos c.sum ∷ []) (point c) (c.degree + 1) more k (omega arith))
            ∙ sym (points_at c.degree f k (omega (arith, facts.few)) h);
      };
    }
    )

-- where there is a degree
with_degree : (zs : List ℤ) → degree_refusal (curve_from zs).degree ≡ none → curve_from zs ≡ curve_of (degree_of (given_at zs 0)) (sum_from (given_at zs 1)) (λ k. rect_at zs (2 + 4 * k))
unfolding curve_from
with_degree zs good = go (eqb (degree_of (given_at zs 0)) 0) good
  where
    read : Curve
    read = curve_of (degree_of (given_at zs 0)) (sum_from (given_at zs 1)) (λ k. rect_at zs (2 + 4 * k))

    go : (b : Bool) → degree_refusal (cond b zero_curve read).degree ≡ none → cond b zero_curve read ≡ read
    go true bad = let one = ap (λ (r : Refusal). r.number) bad in absurd (omega arith)
    go false _ = refl

pub largest-sum : LargestSum
largest-sum zs good outside = ap (λ (c : Curve). c.sum) (with_degree zs good) ∙ go (le_z (pos 0) (given_at zs 1)) refl
  where
    go : (b : Bool) → le_z (pos 0) (given_at zs 1) ≡ b → sum_from (given_at zs 1) ≡ max_sum
    go true low = sym (number_above max_sum max_sum (given_at zs 1) low (and_yes low ∙ outside))
    go false low = sym (number_below max_sum max_sum (given_at zs 1) low)

-- ---- a wrong length

missing_out : in_range missing ≡ false
unfolding in_range
missing_out = refl

and-false : (a : Bool) {b : Bool} → b ≡ false → (a && b) ≡ false
and-false true e = e
and-false false e = refl

false_and : {a : Bool} (b : Bool) → a ≡ false → (a && b) ≡ false
false_and b e = ap (λ (a : Bool). a && b) e

-- all four sides are missing wherever one is
last_out : (zs : List ℤ) (at : ℕ) → length zs < at + 4 → ends_in_range (rect_at zs at).reactance ≡ false
unfolding ends_in_range
last_out zs at short = ap (λ (p : Rect). ends_in_range p.reactance) (Numbers.rect_lacking zs at short) ∙ and-false (in_range missing) missing_out

-- a refusal with this number, at this place or before it
abbrev Before : ℕ → ℕ → Refusal → Type 0
Before number k r = (r.number ≡ number) × (r.place ≤ k)

either : (b : Bool) {number k : ℕ} {a a' : Refusal} → Before number k a → Before number k a' → Before number k (cond b a a')
either true first second = first
either false first second = second

-- the first failing place is none behind one that fails
first-failing : (ok : ℕ → Bool) (number m from k : ℕ) → from ≤ k → k < from + m → ok k ≡ false → Before number k (first_failing ok number m from)
unfolding first_failing
first-failing ok number zero from k low high bad = absurd (omega arith)
first-failing ok number (suc m) from k low high bad =
    elim (eq-or-lt_of_le low) [
      | inl e ↦ rw (ap ok e ∙ bad) (refl, low)
      | inr l ↦ either (ok from) (first-failing ok number m (suc from) k l (omega arith) bad) (refl, low)
    ]

no_box : (zs : List ℤ) → length zs < 4 → is_box (rect_at zs 0) ≡ false
unfolding is_box are_limits
no_box zs short = and-false (are_limits (rect_at zs 0).resistance) (false_and _ (last_out zs 0 (omega arith)))

-- no degree counts as 0
degree-zero : (z : ℤ) → (le_z (pos 1) z && le_z z (pos max_degree)) ≡ false → degree_of z ≡ 0
unfolding up_to
degree-zero (negsuc n) outside = refl
degree-zero (pos zero) outside = refl
degree-zero (pos (suc n)) outside = rw (and_yes (le-leb 1 (suc n) (omega arith)) ∙ outside)

pub no_degree : NoDegree
unfolding curve_refusal curve_from
no_degree zs outside = rw (degree-zero (given_at zs 0) outside)

no_number : (zs : List ℤ) → length zs ≡ 0 → curve_refusal (curve_from zs) ≡ refusal 1 0
no_number [] e = no_degree [] refl
no_number (z ∷ zs) e = absurd (omega arith)

module _ (zs : List ℤ) where
  abbrev c : Curve
  c = curve_from zs

  module _ (good : degree_refusal c.degree ≡ none) (short : length zs < 2 + 4 * (c.degree + 1)) where
    -- the first rectangle that lacks a side
    abbrev lacking : ℕ
    lacking = (length zs - 2) / 4

    out_of_range : sides_in_range (point c lacking) ≡ false
    unfolding sides_in_range
    out_of_range =
        let n = degree_of (given_at zs 0) in
        let few = degree-at-most (given_at zs 0) in
        let same : c.degree ≡ n = ap (λ (x : Curve). x.degree) (with_degree zs good) in
        ap (λ (x : Curve). sides_in_range (point x lacking)) (with_degree zs good)
        ∙ ap sides_in_range (points_at n (λ k. rect_at zs (2 + 4 * k)) lacking (omega arith) (omega arith))
        ∙ and-false (ends_in_range (rect_at zs (2 + 4 * lacking)).resistance) (last_out zs (2 + 4 * lacking) (omega arith))

    refused : Before 2 lacking (range_refusal c)
    unfolding range_refusal
    refused = first-failing (λ k. sides_in_range (point c k)) 2 (c.degree + 1) 0 lacking (omega arith) (omega arith) out_of_range

    whole : curve_refusal c ≡ range_refusal c
    unfolding curve_refusal
    whole = or_none (degree_refusal c.degree) (range_refusal c or_else order_refusal c) good ∙ sym (or_first (range_refusal c) (order_refusal c) (λ e. let two = refused.0 in absurd (omega arith)))

    no_side : Before 2 lacking (curve_refusal c)
    no_side = rw whole refused

-- a number that is not one is refused, after whatever was refused before it
no_load : (r : Bool) (p : Rect) → (answered (unless_at r 13 0 or_else unless_at false 13 1) p).refusal.number ≡ 13
no_load true p = refl
no_load false p = refl

lone-number : (xs : List Float) → length xs ≡ 1 → (enclosed (measurement_from xs)).refusal.number ≡ 13
unfolding measurement_from enclosed load_refusal is_from finite
lone-number (x ∷ []) e = no_load (is_load x) _
lone-number [] e = absurd (omega arith)
lone-number (x ∷ y ∷ xs) e = absurd (omega arith)

no_spread : (r x : Bool) (s : Refusal) (p : Rect) →
    (answered (((unless_at r 13 0 or_else unless_at x 13 1) or_else unless_at false 13 2) or_else s) p).refusal.number ≡ 13
no_spread true true s p = refl
no_spread true false s p = refl
no_spread false x s p = refl

many_numbers : (xs : List Float) → 3 < length xs → (enclosed (measurement_from xs)).refusal.number ≡ 13
unfolding measurement_from spread_from enclosed load_refusal number_refusal spread_refusal is_from finite
many_numbers xs many =
    rw (ne_eqb (length xs) 0 (λ e. absurd (omega arith)), lt-leb (length xs) 2 (omega arith), ne_eqb (length xs) 3 (λ e. absurd (omega arith)))
    (no_spread (is_load (ohms_at xs 0)) (is_load (ohms_at xs 1)) (side_refusal (spread_rect (ohms_at xs 0) (ohms_at xs 1) nan)) _)

pub wrong_length : WrongLength
wrong_length = record { degree = no_number; side = no_side; box = no_box; lone = lone-number; many = many_numbers }

-- ---- results

pub result_numbers : ResultNumbers
unfolding ohms_of
result_numbers =
    record {
      ohms = λ p. refl;
      lit = refl;
      dark = refl;
      inside = λ count. refl;
      outside = λ depth index count. refl;
      spent = λ count. refl;
      undecided = λ depth index count. refl;
      fits = λ index setting. refl;
      none_fits = refl;
    }

pub kept : Kept
kept =
    record {
      refused = λ r result out some. sym (all_kept r _ out some);
      front = λ {A} r result out none.
          ap (λ (l : List A). take (length result) l) (sym (value_stored r (result ++ drop (length result) out) out none))
          ∙ take_at result (drop (length result) out) (length result) refl;
      past = λ {A} r result out none.
          ap (λ (l : List A). drop (length result) l) (sym (value_stored r (result ++ drop (length result) out) out none))
          ∙ drop_at result (drop (length result) out) (length result) refl;
    }
