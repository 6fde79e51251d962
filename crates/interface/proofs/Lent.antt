-- What a call leaves in what is lent to it: all of it where the call is refused, and otherwise the result.
-- Assumes nothing.
use mathlib.Core.Path.{◌≡◌, sym, ap}
use mathlib.Core.Bool.{Bool, cond}
use borrow.Author.Tests.{eq-eqb, ne_eqb}
use Rattle.curve.specs.declared.Refusal.{Refusal}
use Rattle.curve.specs.Refusals.{unless_refused}

module _ {A : Type 0} (r : Refusal) (value lent : A) where
  abbrev left_if : Bool → A
  left_if b = cond b value lent

  pub all_kept : (r.number ≡ 0 → ⊥) → lent ≡ unless_refused r value lent
  unfolding unless_refused
  all_kept some = ap left_if (sym (ne_eqb r.number 0 some))

  pub value_stored : r.number ≡ 0 → value ≡ unless_refused r value lent
  unfolding unless_refused
  value_stored none = ap left_if (sym (eq-eqb r.number 0 none))
