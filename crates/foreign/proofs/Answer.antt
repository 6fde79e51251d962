-- Laws of an answer in 64 bits, of the refusal of a list that is too short, and of what a call gives.
use mathlib.Core.Path.{◌≡◌, refl, sym, ap, ◌∙◌}
use mathlib.Core.Bool.{Bool, true, false, cond}
use mathlib.Core.List.{List}
use Prim.Native.Nat.{ℕ, ◌≤◌}
use lib.Dec.{leb, leb-zero}
use lib.ListN.{length}
use borrow.Author.Tests.{leb-true}
use Rattle.curve.specs.declared.Refusal.{Refusal}
use Rattle.curve.specs.declared.reason.Reason.{Reason}
use Rattle.curve.specs.declared.reason.Reason.TheVariants as kind
use Rattle.std.specs.Prelude.{Result, Ok, Err, OnOk}
use Rattle.std.specs.Result.{IsErrAnd}
use Rattle.std.proofs.lemmas.Result.{err_from_is_err_and}
use Rattle.curve.specs.Reason.{listed, refusal_of}
use Rattle.curve.specs.Refusals.{refusal, none, ◌or_else◌, unless_refused}
use Rattle.interface.specs.Answer.{answer_of, shorter, after, Gives, refused_of, GivesNumber, GivesBothNumber}
use Rattle.foreign.proofs.Lent.{front}
use Rattle.curve.proofs.Listed.{listed_refuses, listed_first}

-- ---- a listed refusal is one

-- what is lent is kept
pub listed_kept : {A : Type 0} (e : Reason) (value lent : A) → lent ≡ unless_refused (listed e) value lent
unfolding unless_refused
listed_kept e value lent = ap (λ (b : Bool). cond b value lent) (sym (listed_refuses e))

-- what a `?` hands up
pub handed_up : (r : Result Unit Reason) (e : Reason) → IsErrAnd r (λ (x : Reason). x ≡ e) → r ≡ Err e
handed_up r e h = let p = err_from_is_err_and r h in p.1 ∙ ap (λ (x : Reason). Err x) p.2

-- ---- the test of a list's length

abbrev pub room_if : ℕ → Bool → Result Unit Reason
room_if needed b = cond b (Ok tt) (Err (kind.BufferTooShort needed))

pub room_refusal : (needed size : ℕ) → refusal_of (room_if needed (leb needed size)) ≡ shorter needed size
unfolding shorter
room_refusal needed size = go (leb needed size)
  where
    go : (b : Bool) → refusal_of (room_if needed b) ≡ cond b none (refusal 12 needed)
    go true = refl
    go false = refl

pub room_enough : (needed size : ℕ) → OnOk (room_if needed (leb needed size)) (needed ≤ size)
room_enough needed size = go (leb needed size) refl
  where
    go : (b : Bool) → leb needed size ≡ b → OnOk (room_if needed b) (needed ≤ size)
    go true e = leb-true needed size e
    go false e = tt

pub none_needed : (size : ℕ) → none ≡ shorter 0 size
unfolding shorter
none_needed size = ap (λ (b : Bool). cond b none (refusal 12 0)) (sym (leb-zero size))

-- a value is given where nothing is refused
pub value_given : {A : Type 0} (value lent : A) → value ≡ unless_refused none value lent
unfolding unless_refused
value_given value lent = refl

-- ---- one result

module _ {A : Type 0} (result out : List A) where
  pub refused : (e : Reason) → Gives (listed e) result out (answer_of (listed e)) out
  refused e =
      let same = sym (listed_first e (shorter (length result) (length out))) in
      record { answered = ap answer_of same; given = listed_kept e _ out ∙ ap (λ (r : Refusal). after r result out) same }

  pub refused_number : (e : Reason) (value lent : ℕ) → GivesNumber (listed e) result out value lent (answer_of (listed e)) out lent
  refused_number e value lent =
      record { results = refused e; number = listed_kept e value lent ∙ ap (λ (r : Refusal). unless_refused r value lent) (sym (listed_first e (shorter (length result) (length out)))) }

  -- the room for it is tested last
  module _ {r : Refusal} (tested : r ≡ shorter (length result) (length out)) {ended : List A} (given : ended ≡ after r result out) where
    pub gives : Gives none result out (answer_of r) ended
    gives = record { answered = ap answer_of tested; given = given ∙ ap (λ (x : Refusal). after x result out) tested }

    pub gives_number : (value lent last : ℕ) → last ≡ unless_refused r value lent → GivesNumber none result out value lent (answer_of r) ended last
    gives_number value lent last stored =
        record { results = gives; number = stored ∙ ap (λ (x : Refusal). unless_refused x value lent) tested }

-- ---- two results, and a number

module _ {A B : Type 0} (result out : List A) (result' out' : List B) (value lent : ℕ) where
  by_refusal : (refused : Refusal) {r : Refusal} → r ≡ refused_of refused result out result' out' → {ended : List A} {ended' : List B} {last : ℕ} →
      ended ≡ after r result out → ended' ≡ after r result' out' → last ≡ unless_refused r value lent →
      GivesBothNumber refused result out result' out' value lent (answer_of r) ended ended' last
  by_refusal refused same given given' stored =
      record {
        results = record {
          answered = ap answer_of same;
          given = given ∙ ap (λ (x : Refusal). after x result out) same;
          given' = given' ∙ ap (λ (x : Refusal). after x result' out') same;
        };
        number = stored ∙ ap (λ (x : Refusal). unless_refused x value lent) same;
      }

  abbrev first : Refusal
  first = shorter (length result) (length out)

  abbrev second : Refusal
  second = shorter (length result') (length out')

  -- nothing is stored where the call within is refused, or either list is too short
  pub refused_both : (e : Reason) → GivesBothNumber (listed e) result out result' out' value lent (answer_of (listed e)) out out' lent
  refused_both e =
      by_refusal (listed e)
      (sym (listed_first e second) ∙ ap (λ (r : Refusal). r or_else second) (sym (listed_first e first)))
      (listed_kept e _ out) (listed_kept e _ out') (listed_kept e value lent)

  pub short_first : (e : Reason) → listed e ≡ first → GivesBothNumber none result out result' out' value lent (answer_of (listed e)) out out' lent
  short_first e short =
      by_refusal none (sym (listed_first e second) ∙ ap (λ (r : Refusal). r or_else second) short)
      (listed_kept e _ out) (listed_kept e _ out') (listed_kept e value lent)

  module _ (room : none ≡ first) where
    pub short_second : (e : Reason) → listed e ≡ second → GivesBothNumber none result out result' out' value lent (answer_of (listed e)) out out' lent
    short_second e short =
        by_refusal none (short ∙ ap (λ (r : Refusal). r or_else second) room)
        (listed_kept e _ out) (listed_kept e _ out') (listed_kept e value lent)

    pub gives_both : none ≡ second → {ended : List A} {ended' : List B} → ended ≡ front result out → ended' ≡ front result' out' →
        GivesBothNumber none result out result' out' value lent (answer_of none) ended ended' value
    gives_both room' given given' =
        by_refusal none (room' ∙ ap (λ (r : Refusal). r or_else second) room)
        (given ∙ value_given _ out) (given' ∙ value_given _ out') (value_given value lent)
