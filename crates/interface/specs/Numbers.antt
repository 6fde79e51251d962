-- Curves, rectangles and results as lists of numbers, as a caller outside lends them.
-- Assumes nothing.
use Rattle.std.specs.Prelude.{Bool, cond, List, [], ◌∷◌, ◌++◌, ℕ, zero, suc, ◌+◌, ◌*◌, ℤ, pos, leb, eqb, Float, length, get_or}
use Rattle.std.specs.Float.{nan}
use Rattle.curve.specs.declared.Rect.{Rect}
use Rattle.curve.specs.declared.Curve.{Curve}
use Rattle.curve.specs.declared.Ohms.{Ohms}
use Rattle.curve.specs.Limits.{max_side, max_sum}
use Rattle.curve.specs.Curve.{curve_of, zero_curve, point}
use Rattle.curve.specs.Rect.{sides}
use Rattle.card_text.specs.Reading.{up_to, degree_of}
use Rattle.search.specs.declared.Verdict.{Verdict}
use Rattle.search.specs.Verdict.{Report, reported}
use Rattle.settings.specs.declared.Choice.{Choice}
use Rattle.settings.specs.Choice as choice
use Rattle.bridge.specs.declared.Measurement.{Measurement}
use Rattle.bridge.specs.declared.Measurement.TheVariants.{NoCarrier, Load, LoadWithSpread}
use Rattle.bridge.specs.declared.Found.{Found}
use Rattle.bridge.specs.declared.Found.TheVariants.{Refused, NoCarrier as CarrierAbsent, Rectangle}

-- ---- what a call is given

-- what stands for a number that a list does not have: out of range as a degree, as a sum and as a side
abbrev pub missing : ℤ
missing = pos (max_side + 1)

-- a number by its index
abbrev pub given_at : List ℤ → ℕ → ℤ
given_at zs k = get_or zs k missing

-- a rectangle that lacks a side
abbrev pub missing_rect : Rect
missing_rect = record { resistance = record { low = missing; high = missing }; reactance = record { low = missing; high = missing } }

-- the rectangle whose four sides begin at an index, all of them or none
unfoldable pub rect_at : List ℤ → ℕ → Rect
rect_at zs at =
    cond (leb (at + 4) (length zs))
    (record {
      resistance = record { low = given_at zs at; high = given_at zs (at + 1) };
      reactance = record { low = given_at zs (at + 2); high = given_at zs (at + 3) };
    })
    missing_rect

-- a number as a sum of steps: one outside 0 to 65,535 counts as the largest
abbrev pub sum_from : ℤ → ℕ
sum_from = up_to max_sum max_sum

-- a curve: its degree, its sum of steps, then its sides, four a rectangle; without a degree it is the zero curve, which every call refuses with 1
unfoldable pub curve_from : List ℤ → Curve
curve_from zs =
    cond (eqb (degree_of (given_at zs 0)) 0) zero_curve
    (curve_of (degree_of (given_at zs 0)) (sum_from (given_at zs 1)) (λ k. rect_at zs (2 + 4 * k)))

-- the bridge's number at an index; one that the list does not have is not a number, which is refused
abbrev pub ohms_at : List Float → ℕ → Float
ohms_at xs k = get_or xs k nan

-- the spread: the last of three numbers; a longer list is no measurement, and its spread not a number
unfoldable pub spread_from : List Float → Float
spread_from xs = cond (eqb (length xs) 3) (ohms_at xs 2) nan

-- the measurement with these numbers: none are no carrier, two a load, three a load with a spread
unfoldable pub measurement_from : List Float → Measurement
measurement_from xs =
    cond (eqb (length xs) 0) NoCarrier
    (cond (leb (length xs) 2) (Load (ohms_at xs 0) (ohms_at xs 1)) (LoadWithSpread (ohms_at xs 0) (ohms_at xs 1) (spread_from xs)))

-- ---- what a call gives; a rectangle is its four sides, as on a card

-- the sides of the first m rectangles
unfoldable pub sides_to : ℕ → (ℕ → Rect) → List ℤ
sides_to zero P = []
sides_to (suc m) P = sides_to m P ++ sides (P m)

-- a curve: its degree, its sum of steps, and the sides of its rectangles 0 to n
unfoldable pub curve_numbers : Curve → List ℤ
curve_numbers c = pos c.degree ∷ pos c.sum ∷ sides_to (c.degree + 1) (point c)

-- a load in ohms
abbrev pub ohm_numbers : Ohms → List Float
ohm_numbers o = o.rlow ∷ o.rhigh ∷ o.xlow ∷ o.xhigh ∷ []

-- an exact flag (the paper's lamp): 1 where it is lit, 0 where it is dark
abbrev pub flag_number : Bool → ℕ
flag_number exact = cond exact 1 0

-- a verdict: which of the four, the depth and the index of the piece that it names, and the count
abbrev pub report_numbers : Report → List ℕ
report_numbers r = r.number ∷ r.depth ∷ r.index ∷ r.count ∷ []

abbrev pub verdict_numbers : Verdict → List ℕ
verdict_numbers v = report_numbers (reported v)

-- a choice: which of the two, the index of the record that fits, and its setting number
abbrev pub choice_numbers : Choice → List ℕ
choice_numbers x = (choice.reported x).number ∷ (choice.reported x).index ∷ (choice.reported x).setting ∷ []

-- what a measurement encloses: a rectangle's sides, or nothing
abbrev pub found_numbers : Found → List ℤ
found_numbers Refused = []
found_numbers CarrierAbsent = []
found_numbers (Rectangle p) = sides p
