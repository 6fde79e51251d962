-- What is known of a query: no record of a good box is refused.
use mathlib.Core.Path.{◌≡◌, sym, subst}
use mathlib.Core.Bool.{true}
use Prim.Native.Nat.{ℕ}
use lib.Dec.{T}
use Rattle.curve.specs.declared.Rect.{Rect}
use Rattle.curve.specs.declared.Curve.{Curve}
use Rattle.curve.specs.Refusals.{curve_refusal}
use Rattle.curve.proofs.Accepted.{number-accepted}
use Rattle.search.specs.Box.{is_box}
use Rattle.search.specs.Search.{effort_refusal}
use Rattle.search.proofs.Accepted.{Facts, effort_holds}

pub query_facts : (c : Curve) (box : Rect) (depth budget : ℕ) → (curve_refusal c).number ≡ 0 → (effort_refusal c depth budget).number ≡ 0 → is_box box ≡ true → Facts c box depth budget
query_facts c box depth budget curve effort sides = record { accepted = number-accepted c curve; sides = subst T (sym sides) tt; effort = effort_holds c depth budget effort }
