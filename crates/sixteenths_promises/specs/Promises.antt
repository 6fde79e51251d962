-- What is promised of the summed reading beside its equation, over the definitions that its contract cites.
-- Assumes nothing.
use Rattle.std.specs.Prelude.{◌≡◌, true, ℕ, ◌≤◌, ◌<◌, nat_abs}
use Rattle.std.specs.Float.Ieee.Exact.{HasValue}
use Rattle.rational.specs.Rounding.{Rounding}
use Rattle.curve.specs.declared.Curve.{Curve}
use Rattle.curve.specs.Limits.{steps_per_ohm}
use Rattle.curve.specs.Rect.{Coordinate, side, Inside}
use Rattle.curve.specs.Curve.{point, SameButSum}
use Rattle.curve.specs.Refusals.{Accepted}
use Rattle.curve.specs.Calls.{evaluated}
use Rattle.curve_promises.specs.Promises.{ohms_at, negative}
use Rattle.sixteenths.specs.Weights.{sixteenths, highest, entries, index}
use Rattle.sixteenths.specs.Sixteenths.{evaluated_sixteenths}

-- its rectangle lies inside the one of the reading that is rounded at every stage, wherever both are accepted
abbrev pub InsideStaged : Type 0
InsideStaged =
    (c : Curve) (j : ℕ) → Accepted c → j ≤ sixteenths →
    Inside (evaluated_sixteenths c j).load (evaluated c j sixteenths).load

-- where nothing is rounded at any stage, both readings give the same answer, lit
abbrev pub LitStaged : Type 0
LitStaged = (c : Curve) (j : ℕ) → (evaluated c j sixteenths).exact ≡ true → evaluated_sixteenths c j ≡ evaluated c j sixteenths

-- at j = 0 it is control point 0, at j = 16 control point n, both lit
abbrev pub SummedEnds : Type 0
SummedEnds =
    (c : Curve) → Accepted c →
    (((evaluated_sixteenths c 0).load ≡ point c 0) × ((evaluated_sixteenths c 0).exact ≡ true))
    × (((evaluated_sixteenths c sixteenths).load ≡ point c c.degree) × ((evaluated_sixteenths c sixteenths).exact ≡ true))

-- only an accepted call is lit: a refused one's flag is dark
abbrev pub LitAccepted : Type 0
LitAccepted = (c : Curve) (j : ℕ) → (evaluated_sixteenths c j).exact ≡ true → Accepted c × (j ≤ sixteenths)

-- equal curves give equal answers: nothing past the degree is read, and no sum of steps
abbrev pub PastUnread : Type 0
PastUnread = (c e : Curve) → SameButSum c e → (j : ℕ) → evaluated_sixteenths c j ≡ evaluated_sixteenths e j

-- its ohms are its load's sides / 1,024; of a refused one both are zero
abbrev pub LoadOhms : Type 0
LoadOhms =
    (c : Curve) (j : ℕ) (x : Coordinate) (r : Rounding) →
    let z = side x r (evaluated_sixteenths c j).load in
    HasValue (ohms_at x r (evaluated_sixteenths c j).ohms) (negative z) (nat_abs z) steps_per_ohm

-- the entry at i of the table is that of point `point` of degree `degree` at numerator/16
pub record EntryOf (i : ℕ) : Type 0 where
  pub degree : ℕ
  pub numerator : ℕ
  pub point : ℕ
  pub some : 1 ≤ degree
  pub few : degree ≤ highest
  pub most : numerator ≤ sixteenths
  pub within : point ≤ degree
  pub here : index degree numerator point ≡ i

-- every entry of the table is one that its rule speaks of
abbrev pub EveryEntry : Type 0
EveryEntry = (i : ℕ) → i < entries → EntryOf i
