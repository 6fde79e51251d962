-- What a call from outside answers, and what it leaves in the lists and numbers that are lent for its results: the refusal of the call within, then 12.
-- Assumes nothing.
use Rattle.std.specs.Prelude.{◌≡◌, cond, List, ◌++◌, ℕ, ◌+◌, ◌*◌, leb, length, drop}
use Rattle.curve.specs.declared.Refusal.{Refusal}
use Rattle.curve.specs.Refusals.{◌or_else◌, unless_at, unless_refused}

-- 2 to the power 32, and the largest place that an answer can carry
abbrev pub word : ℕ
word = 4294967296

abbrev pub max_place : ℕ
max_place = 4294967295

-- a place in 32 bits: a larger one counts as the largest
unfoldable pub place_of : ℕ → ℕ
place_of place = cond (leb place max_place) place max_place

-- the answer in 64 bits: the refusal's number in the low 32, its place in the high 32; 0 where nothing is refused
unfoldable pub answer_of : Refusal → ℕ
answer_of r = r.number + word * place_of r.place

-- 12: a size below the length that is needed
unfoldable pub shorter : ℕ → ℕ → Refusal
shorter needed size = unless_at (leb needed size) 12 needed

-- a lent list afterwards: the result in front and what lies past it kept, or all kept when refused
abbrev pub after : {A : Type 0} → Refusal → List A → List A → List A
after r result out = unless_refused r (result ++ drop (length result) out) out

-- a call with one result: its answer, and how the lent list ended
pub record Gives {A : Type 0} (refused : Refusal) (result out : List A) (answer : ℕ) (ended : List A) : Type 0 where
  pub answered : answer ≡ answer_of (refused or_else shorter (length result) (length out))
  pub given : ended ≡ after (refused or_else shorter (length result) (length out)) result out

-- a call with two results, either stored only if both can be
abbrev pub refused_of : {A B : Type 0} → Refusal → List A → List A → List B → List B → Refusal
refused_of refused result out result' out' =
    (refused or_else shorter (length result) (length out)) or_else shorter (length result') (length out')

pub record GivesBoth {A B : Type 0} (refused : Refusal) (result out : List A) (result' out' : List B) (answer : ℕ) (ended : List A) (ended' : List B) : Type 0 where
  pub answered : answer ≡ answer_of (refused_of refused result out result' out')
  pub given : ended ≡ after (refused_of refused result out result' out') result out
  pub given' : ended' ≡ after (refused_of refused result out result' out') result' out'

-- the same with a number lent besides, in which the call gives a value with the same refusal
pub record GivesNumber {A : Type 0} (refused : Refusal) (result out : List A) (value lent answer : ℕ) (ended : List A) (last : ℕ) : Type 0 where
  pub results : Gives refused result out answer ended
  pub number : last ≡ unless_refused (refused or_else shorter (length result) (length out)) value lent

pub record GivesBothNumber {A B : Type 0} (refused : Refusal) (result out : List A) (result' out' : List B) (value lent answer : ℕ) (ended : List A) (ended' : List B) (last : ℕ) : Type 0 where
  pub results : GivesBoth refused result out result' out' answer ended ended'
  pub number : last ≡ unless_refused (refused_of refused result out result' out') value lent
