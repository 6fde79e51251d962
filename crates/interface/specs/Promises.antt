-- What is promised of the calls from outside beside their equations, over the definitions that their contracts cite.
-- Assumes nothing.
use Rattle.std.specs.Prelude.{◌≡◌, true, false, ◌&&◌, List, [], ◌∷◌, ◌++◌, map, ℕ, ◌+◌, ◌*◌, ◌/◌, ◌%◌, ◌^◌, ◌-◌, ◌<◌, ◌≤◌, ℤ, pos, Float, length, take, drop}
use Rattle.std.specs.Int.Signed.{le_z}
use Rattle.curve.specs.declared.Rect.{Rect}
use Rattle.curve.specs.declared.Curve.{Curve}
use Rattle.curve.specs.declared.Refusal.{Refusal}
use Rattle.curve.specs.Limits.{max_degree, max_sum}
use Rattle.curve.specs.Rect.{sides}
use Rattle.curve.specs.Curve.{SameCurve}
use Rattle.curve.specs.Ohms.{ohm, ohms_of}
use Rattle.curve.specs.Refusals.{refusal, none, ◌or_else◌, degree_refusal, curve_refusal, Accepted}
use Rattle.curve.specs.Calls.{evaluated, subdivided, elevated, bounded}
use Rattle.sixteenths.specs.Sixteenths.{evaluated_sixteenths}
use Rattle.card_text.specs.Reading.{read_card}
use Rattle.card_text.specs.Writing.{write_card}
use Rattle.search.specs.declared.Verdict.TheVariants.{Inside, Outside, Spent, Undecided}
use Rattle.search.specs.Box.{is_box}
use Rattle.search.specs.Search.{searched}
use Rattle.settings.specs.declared.Setting.{Setting}
use Rattle.settings.specs.declared.Choice.TheVariants.{Fits, NoneFits}
use Rattle.settings.specs.Settings.{chosen}
use Rattle.bridge.specs.declared.Measurement.{Measurement}
use Rattle.bridge.specs.Bridge.{enclosed}
use Rattle.interface.specs.Numbers.{given_at, rect_at, curve_from, measurement_from, curve_numbers, ohm_numbers, flag_number, verdict_numbers, choice_numbers}
use Rattle.interface.specs.Answer.{place_of, answer_of, shorter, after}

-- the number and the place are read off the low and the high 32 bits of an answer
abbrev pub Unpacked : Type 0
Unpacked =
    (r : Refusal) → r.number < 2 ^ 32 →
    (answer_of r % 2 ^ 32 ≡ r.number) × (answer_of r / 2 ^ 32 ≡ place_of r.place) × (r.place < 2 ^ 32 → place_of r.place ≡ r.place)

-- a curve of degree n is 2 + 4 × (n + 1) numbers
abbrev pub CurveLength : Type 0
CurveLength = (c : Curve) → length (curve_numbers c) ≡ 2 + 4 * (c.degree + 1)

-- a curve that is handed on is the curve that was given: its numbers, with anything behind them, are read as an equal curve
abbrev pub HandedOn : Type 0
HandedOn = (c : Curve) (more : List ℤ) → Accepted c → c.sum ≤ max_sum → SameCurve c (curve_from (curve_numbers c ++ more))

-- a sum of steps outside 0 to 65,535 counts as the largest, wherever there is a degree
abbrev pub LargestSum : Type 0
LargestSum =
    (zs : List ℤ) → degree_refusal (curve_from zs).degree ≡ none → (le_z (pos 0) (given_at zs 1) && le_z (given_at zs 1) (pos max_sum)) ≡ false →
    (curve_from zs).sum ≡ max_sum

-- a number that is no degree, below 1 or above the highest, is refused with 1
abbrev pub NoDegree : Type 0
NoDegree = (zs : List ℤ) → (le_z (pos 1) (given_at zs 0) && le_z (given_at zs 0) (pos max_degree)) ≡ false → curve_refusal (curve_from zs) ≡ refusal 1 0

-- a wrong length is refused: a curve without a number with 1; one that lacks a side with 2, at the first rectangle that lacks one or before it; a box that lacks one, which is then none, with 7; and a measurement of one number or of more than three with 13
pub record WrongLength : Type 0 where
  pub degree : (zs : List ℤ) → length zs ≡ 0 → curve_refusal (curve_from zs) ≡ refusal 1 0
  pub side : (zs : List ℤ) → let n = (curve_from zs).degree in degree_refusal n ≡ none → length zs < 2 + 4 * (n + 1) →
      ((curve_refusal (curve_from zs)).number ≡ 2) × ((curve_refusal (curve_from zs)).place ≤ (length zs - 2) / 4)
  pub box : (zs : List ℤ) → length zs < 4 → is_box (rect_at zs 0) ≡ false
  pub lone : (xs : List Float) → length xs ≡ 1 → (enclosed (measurement_from xs)).refusal.number ≡ 13
  pub many : (xs : List Float) → 3 < length xs → (enclosed (measurement_from xs)).refusal.number ≡ 13

-- what the numbers of a result are: the ohms stand in the order of the sides, and the values of each verdict and choice in the order of the header
pub record ResultNumbers : Type 0 where
  pub ohms : (p : Rect) → ohm_numbers (ohms_of p) ≡ map ohm (sides p)
  pub lit : flag_number true ≡ 1
  pub dark : flag_number false ≡ 0
  pub inside : (count : ℕ) → verdict_numbers (Inside count) ≡ 1 ∷ 0 ∷ 0 ∷ count ∷ []
  pub outside : (depth index count : ℕ) → verdict_numbers (Outside depth index count) ≡ 2 ∷ depth ∷ index ∷ count ∷ []
  pub spent : (count : ℕ) → verdict_numbers (Spent count) ≡ 3 ∷ 0 ∷ 0 ∷ count ∷ []
  pub undecided : (depth index count : ℕ) → verdict_numbers (Undecided depth index count) ≡ 4 ∷ depth ∷ index ∷ count ∷ []
  pub fits : (index setting : ℕ) → choice_numbers (Fits index setting) ≡ 1 ∷ index ∷ setting ∷ []
  pub none_fits : choice_numbers NoneFits ≡ 2 ∷ 0 ∷ 0 ∷ []

-- a refused call changes nothing that is lent to it, and any other has its result in front and keeps what lies past it
pub record Kept : Type 1 where
  pub refused : {A : Type 0} (r : Refusal) (result out : List A) → (r.number ≡ 0 → ⊥) → after r result out ≡ out
  pub front : {A : Type 0} (r : Refusal) (result out : List A) → r.number ≡ 0 → take (length result) (after r result out) ≡ result
  pub past : {A : Type 0} (r : Refusal) (result out : List A) → r.number ≡ 0 → drop (length result) (after r result out) ≡ drop (length result) out

-- a refusal with one of the listed numbers 1 to 17, or none
pub record Listed (r : Refusal) : Type 0 where
  pub known : r.number ≤ 17
  pub zero : r.number ≡ 0 → r ≡ none

-- so is the refusal of every call within, and with that of a list that is too short behind it
pub record ListedAnswers : Type 0 where
  pub evaluating : (c : Curve) (num den : ℕ) → Listed (evaluated c num den).refusal
  pub summing : (c : Curve) (j : ℕ) → Listed (evaluated_sixteenths c j).refusal
  pub subdividing : (c : Curve) (num den : ℕ) → Listed (subdivided c num den).refusal
  pub elevating : (c : Curve) → Listed (elevated c).refusal
  pub bounding : (c : Curve) → Listed (bounded c).refusal
  pub searching : (c : Curve) (box : Rect) (depth budget : ℕ) → Listed (searched c box depth budget).refusal
  pub choosing : (c : Curve) (settings : List Setting) (depth budget : ℕ) → Listed (chosen c settings depth budget).refusal
  pub enclosing : (m : Measurement) → Listed (enclosed m).refusal
  pub reading : (card : List ℕ) → Listed (read_card card).refusal
  pub writing : (c : Curve) (out : List ℕ) → Listed (write_card c out).refusal
  pub short : (r : Refusal) (needed size : ℕ) → Listed r → Listed (r or_else shorter needed size)

-- an answer is 0 exactly where nothing is refused
abbrev pub ZeroAnswer : Type 0
ZeroAnswer = (r : Refusal) → Listed r → (r ≡ none → answer_of r ≡ 0) × (answer_of r ≡ 0 → r ≡ none)
