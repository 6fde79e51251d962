-- What is promised of a choice beside its equation, over the definitions that the contract cites.
-- Assumes nothing.
use Rattle.std.specs.Prelude.{◌≡◌, List, ◌++◌, ℕ, ◌<◌, pos, length, get_or}
use Rattle.rational.specs.Fraction.{Frac, whole}
use Rattle.curve.specs.declared.Curve.{Curve}
use Rattle.curve.specs.Rect.{zero_rect}
use Rattle.curve.specs.Curve.{with_sum, SameCurve}
use Rattle.curve.specs.Refusals.{none}
use Rattle.ledger.specs.Ordinary.{Ordinary, InsideOf}
use Rattle.search.specs.Verdict.{inside}
use Rattle.search_promises.specs.Promises as Search
use Rattle.search_promises.specs.Promises.{LoadIn, Between, SumUnmet}
use Rattle.settings.specs.declared.Setting.{Setting}
use Rattle.settings.specs.Choice.{Report, reported, fitting, none_fitting}
use Rattle.settings.specs.Settings.{chosen}

-- the answer's number and values
abbrev pub answered : Curve → List Setting → ℕ → ℕ → Report
answered c settings depth budget = reported (chosen c settings depth budget).choice

-- the record at an index; an index that the list does not have gives zeros
abbrev pub record_at : List Setting → ℕ → Setting
record_at settings index = get_or settings index (record { limits = zero_rect; number = 0 })

-- the walk over a record's box, by itself, ends Inside
abbrev pub EndsInside : Curve → Setting → ℕ → ℕ → Type 0
EndsInside c s depth budget = (Search.answered c s.limits depth budget).number ≡ inside

-- an answered index is in the list, its record has that number, its walk ends Inside, and no earlier record's does
pub record FirstFitting (c : Curve) (settings : List Setting) (depth budget index setting : ℕ) : Type 0 where
  pub listed : index < length settings
  pub numbered : (record_at settings index).number ≡ setting
  pub inside : EndsInside c (record_at settings index) depth budget
  pub first : (earlier : ℕ) → earlier < index → EndsInside c (record_at settings earlier) depth budget → ⊥

abbrev pub First : Type 0
First =
    (c : Curve) (settings : List Setting) (depth budget : ℕ) → (answered c settings depth budget).number ≡ fitting →
    FirstFitting c settings depth budget (answered c settings depth budget).index (answered c settings depth budget).setting

-- no record's walk ends Inside
abbrev pub NoneInside : Curve → List Setting → ℕ → ℕ → Type 0
NoneInside c settings depth budget = (k : ℕ) → k < length settings → EndsInside c (record_at settings k) depth budget → ⊥

-- none fits is answered exactly if no record's walk ends Inside, of a call that is not refused
abbrev pub NoneExactly : Type 0
NoneExactly =
    (c : Curve) (settings : List Setting) (depth budget : ℕ) → (chosen c settings depth budget).refusal ≡ none →
    ((answered c settings depth budget).number ≡ none_fitting → NoneInside c settings depth budget)
    × (NoneInside c settings depth budget → (answered c settings depth budget).number ≡ none_fitting)

-- safe to hold: at an answered setting no ordinary curve in the rectangles has a load outside that record's box, at any parameter from 0 to 1
abbrev pub SafeToHold : Type 0
SafeToHold =
    (c : Curve) (settings : List Setting) (depth budget : ℕ) → (answered c settings depth budget).number ≡ fitting →
    (o : Ordinary) → InsideOf o c → (t : Frac) → Between (whole (pos 0)) (whole (pos 1)) t →
    LoadIn o (record_at settings (answered c settings depth budget).index).limits t

-- more records behind a list with a record that fits change nothing, unless the longer list is refused
abbrev pub LaterUnread : Type 0
LaterUnread =
    (c : Curve) (settings more : List Setting) (depth budget : ℕ) → (answered c settings depth budget).number ≡ fitting →
    (chosen c (settings ++ more) depth budget).refusal ≡ none → chosen c (settings ++ more) depth budget ≡ chosen c settings depth budget

-- equal curves get equal answers: nothing past the degree is read
abbrev pub PastUnread : Type 0
PastUnread = (c e : Curve) (settings : List Setting) (depth budget : ℕ) → SameCurve c e → chosen c settings depth budget ≡ chosen e settings depth budget

-- every record's walk meets no 17, and the answer is that of the same curve with the sum 0
pub record SumUnmetByAll (c : Curve) (settings : List Setting) (depth budget : ℕ) : Type 0 where
  pub walks : (k : ℕ) → k < length settings → SumUnmet c (record_at settings k).limits depth budget
  pub answer : chosen c settings depth budget ≡ chosen (with_sum 0 c) settings depth budget

-- so a list that is not refused meets no 17 inside
abbrev pub NoSumInside : Type 0
NoSumInside = (c : Curve) (settings : List Setting) (depth budget : ℕ) → (chosen c settings depth budget).refusal ≡ none → SumUnmetByAll c settings depth budget
