-- Answers as lists of numbers, so that examples of different calls stand in one list.
-- Assumes nothing.
use Rattle.std.specs.Prelude.{Bool, cond, List, [], ◌∷◌, ◌++◌, ℕ, suc, ◌+◌, eqb, ℤ, pos, ◌*ℤ◌, get_or, replicate}
use Rattle.rational.specs.Fraction.{Frac}
use Rattle.curve.specs.declared.Interval.{Interval}
use Rattle.curve.specs.declared.Rect.{Rect}
use Rattle.curve.specs.declared.Curve.{Curve}
use Rattle.curve.specs.declared.Refusal.{Refusal}
use Rattle.curve.specs.declared.Evaluation.{Evaluation}
use Rattle.curve.specs.declared.Subdivision.{Subdivision}
use Rattle.curve.specs.declared.Elevation.{Elevation}
use Rattle.curve.specs.Rect.{zero_interval}
use Rattle.search.specs.declared.Verdict.{Verdict}
use Rattle.search.specs.Verdict as verdict
use Rattle.settings.specs.declared.ChoiceAnswer.{ChoiceAnswer}
use Rattle.settings.specs.Choice as choice
use Rattle.bridge.specs.declared.BridgeAnswer.{BridgeAnswer}
use Rattle.bridge.specs.Bridge.{reported}
use Rattle.curve.specs.Curve.{point, curve_of}

-- "values": one coordinate with low equal to high, the other zero
abbrev pub value_at : List ℤ → ℕ → Rect
value_at vs k = record { resistance = record { low = get_or vs k (pos 0); high = get_or vs k (pos 0) }; reactance = zero_interval }

-- the curve of the given degree with a sum of steps and these values, and the same with the sum 0
abbrev pub summed_values : ℕ → ℕ → List ℤ → Curve
summed_values n sum vs = curve_of n sum (value_at vs)

abbrev pub values : ℕ → List ℤ → Curve
values n vs = summed_values n 0 vs

-- the straight line between two loads, each a resistance and a reactance with low equal to high
abbrev pub line : ℤ → ℤ → ℤ → ℤ → Curve
line r x r' x' = curve_of 1 0 (λ k. cond (eqb k 0) (load r x) (load r' x'))
  where
    load : ℤ → ℤ → Rect
    load r x = record { resistance = record { low = r; high = r }; reactance = record { low = x; high = x } }

abbrev pub refusal_shown : Refusal → List ℤ
refusal_shown r = pos r.number ∷ pos r.place ∷ []

abbrev pub ends : Interval → List ℤ
ends i = i.low ∷ i.high ∷ []

abbrev pub sides_shown : Rect → List ℤ
sides_shown p = ends p.resistance ++ ends p.reactance

-- an exact flag: 1 lit, 0 dark
abbrev pub flag_shown : Bool → List ℤ
flag_shown exact = cond exact (pos 1) (pos 0) ∷ []

-- the refusal, then the load's four sides
abbrev pub evaluation_shown : Evaluation → List ℤ
evaluation_shown e = refusal_shown e.refusal ++ sides_shown e.load

-- the refusal, then the sums of both pieces; and of an elevated curve
abbrev pub sums_shown : Subdivision → List ℤ
sums_shown s = refusal_shown s.refusal ++ (pos s.left.sum ∷ pos s.right.sum ∷ [])

abbrev pub elevated_sum_shown : Elevation → List ℤ
elevated_sum_shown e = refusal_shown e.refusal ++ (pos e.curve.sum ∷ [])

-- the resistances of m control points from k on
unfoldable pub resistances_from : Curve → ℕ → ℕ → List ℤ
resistances_from c ℕ.zero k = []
resistances_from c (suc m) k = ends (point c k).resistance ++ resistances_from c m (suc k)

-- the degree, then the resistances of all control points
unfoldable pub resistances_shown : Curve → List ℤ
resistances_shown c = pos c.degree ∷ resistances_from c (c.degree + 1) 0

-- the number of a walk's answer, the depth and the index of the piece that it names, and the count
abbrev pub verdict_shown : Verdict → List ℤ
verdict_shown v =
    let r = verdict.reported v in pos r.number ∷ pos r.depth ∷ pos r.index ∷ pos r.count ∷ []

-- the choice of a setting: the refusal, the choice's number, the index and the setting number
abbrev pub choice_shown : ChoiceAnswer → List ℤ
choice_shown a =
    let r = choice.reported a.choice in refusal_shown a.refusal ++ (pos r.number ∷ pos r.index ∷ pos r.setting ∷ [])

-- what the bridge measured: the refusal, the number of what was found, and its rectangle's sides
abbrev pub found_shown : BridgeAnswer → List ℤ
found_shown a = refusal_shown a.refusal ++ (pos (reported a.found).number ∷ sides_shown (reported a.found).rect)

-- a fraction by multiplying out: its upper number, and the whole number that it is compared with times its lower one
abbrev pub upper_of : Frac → List ℤ
upper_of x = x.upper ∷ []

abbrev pub times_lower : ℤ → Frac → List ℤ
times_lower z x = (z *ℤ pos x.lower) ∷ []

-- ---- the bytes of a card

-- so many spaces before some bytes
abbrev pub spaces : ℕ → List ℕ → List ℕ
spaces m bytes = replicate m 32 ++ bytes
