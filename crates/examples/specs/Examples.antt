-- Document 01's examples that carry a star, the walk's as document 02 restates them, and those of document 02's requests: what the definitions answer beside what the documents say.
-- Assumes nothing.
use Rattle.std.specs.Prelude.{◌≡◌, List, [], ◌∷◌, map, ℕ, ℤ, pos, negsuc, Float, replicate}
use Rattle.std.specs.Float.{nan, binary32}
use Rattle.std.specs.Float.Ieee.{of_bits}
use Rattle.rational.specs.Rounding.{down}
use Rattle.rational.specs.Fraction.{Frac, parameter}
use Rattle.curve.specs.declared.Curve.{Curve}
use Rattle.curve.specs.declared.Rect.{Rect}
use Rattle.curve.specs.Rect.{resistance}
use Rattle.curve.specs.Curve.{point}
use Rattle.curve.specs.Calls.{evaluated, subdivided, elevated, bounded}
use Rattle.sixteenths.specs.Sixteenths.{evaluated_sixteenths}
use Rattle.card_text.specs.Reading.{read_card}
use Rattle.ledger.specs.Ordinary.{exact_side}
use Rattle.search.specs.Verdict.{inside, outside, spent, undecided}
use Rattle.search.specs.Search.{searched}
use Rattle.settings.specs.declared.Setting.{Setting}
use Rattle.settings.specs.Choice.{fitting, none_fitting}
use Rattle.settings.specs.Settings.{chosen}
use Rattle.bridge.specs.declared.Measurement.TheVariants.{NoCarrier, Load, LoadWithSpread}
use Rattle.bridge.specs.Bridge.{no_carrier, rectangle, enclosed}
use Rattle.examples.specs.Shown.{values, summed_values, line, ends, refusal_shown, flag_shown, evaluation_shown, sums_shown, elevated_sum_shown, resistances_shown, verdict_shown, choice_shown, found_shown, upper_of, times_lower, spaces}

-- an example: the numbers that a definition answers, and those that a document gives
pub record Example : Type 0 where
  pub answer : List ℤ
  pub document : List ℤ

infix 3 ◌gives◌
abbrev pub ◌gives◌ : List ℤ → List ℤ → Example
a gives d = record { answer = a; document = d }

-- the bytes of the document's card: a space is 32, a minus 45, the digit d is 48 + d, and 10 ends a line
abbrev pub card_bytes : List ℕ
card_bytes =
    spaces 9 (49 ∷ 10 ∷
    spaces 9 (48 ∷ spaces 9 (49 ∷ spaces 8 (45 ∷ 51 ∷ spaces 8 (45 ∷ 51 ∷ 10 ∷
    spaces 9 (49 ∷ spaces 9 (51 ∷ spaces 9 (48 ∷ spaces 9 (50 ∷ 10 ∷ [])))))))))

-- the card, read
unfoldable pub card_curve : Curve
card_curve = (read_card card_bytes).curve

-- "values 1, 0, 3", and the exact load at 1/2
abbrev pub three_values : Curve
three_values = values 2 (pos 1 ∷ pos 0 ∷ pos 3 ∷ [])

unfoldable pub exact_load : Frac
exact_load = exact_side three_values resistance down (parameter 1 2)

-- resistances 0, 4 and reactances 0, 1, and the exact resistance at 1/2
abbrev pub coordinates_apart : Curve
coordinates_apart = line (pos 0) (pos 0) (pos 4) (pos 1)

unfoldable pub exact_resistance : Frac
exact_resistance = exact_side coordinates_apart resistance down (parameter 1 2)

-- resistance values 0, 4, reactance values 0, 0
abbrev pub zero_to_four : Curve
zero_to_four = values 1 (pos 0 ∷ pos 4 ∷ [])

-- a box: resistance and reactance, each from a low limit to the first value not allowed
abbrev pub box : ℤ → ℤ → ℤ → ℤ → Rect
box r r' x x' = record { resistance = record { low = r; high = r' }; reactance = record { low = x; high = x' } }

-- the box 0 to 2 and 0 to 1, and the widest one
abbrev pub small_box : Rect
small_box = box (pos 0) (pos 2) (pos 0) (pos 1)

abbrev pub widest_box : Rect
widest_box = box (negsuc 16777215) (pos 16777216) (negsuc 16777215) (pos 16777216)

-- relay settings for the resistances 0 to 4: too narrow; the high resistance reached; two that fit, with one number; and one whose box is empty
abbrev pub setting : ℤ → ℤ → ℕ → Setting
setting low high number = record { limits = box low high (pos 0) (pos 1); number = number }

abbrev pub narrow : Setting
narrow = setting (pos 0) (pos 2) 5

abbrev pub touching : Setting
touching = setting (pos 0) (pos 4) 6

abbrev pub fitted : Setting
fitted = setting (pos 0) (pos 5) 7

abbrev pub wider : Setting
wider = setting (pos 0) (pos 6) 7

abbrev pub empty_box : Setting
empty_box = setting (pos 2) (pos 2) 8

-- the straight line from 0 to 4 with a sum of steps
abbrev pub summed_line : ℕ → Curve
summed_line sum = summed_values 1 sum (pos 0 ∷ pos 4 ∷ [])

-- single-precision ohms by their bits
abbrev pub single : ℕ → Float
single bits = of_bits binary32 bits

-- 0, −0, 50 and −0.0009765625, which is −1/1,024
abbrev pub zero : Float
zero = single 0

abbrev pub minus_zero : Float
minus_zero = single 0x80000000

abbrev pub fifty : Float
fifty = single 0x42480000

abbrev pub step_below_zero : Float
step_below_zero = single 0xba800000

-- 1/1,024, and the float nearest to 0.0001
abbrev pub one_step : Float
one_step = single 0x3a800000

abbrev pub ten_thousandth : Float
ten_thousandth = single 0x38d1b717

-- 16,384 and −16,384, and the next floats beyond
abbrev pub largest : Float
largest = single 0x46800000

abbrev pub least : Float
least = single 0xc6800000

abbrev pub beyond_largest : Float
beyond_largest = single 0x46800001

abbrev pub beyond_least : Float
beyond_least = single 0xc6800001

unfoldable pub examples : List Example
examples =
    -- the card above is read, and read at 1/2 gives 0, 2, −2, 0; at 2/4 the same
    (refusal_shown (read_card card_bytes).refusal gives pos 0 ∷ pos 0 ∷ [])
    ∷ (evaluation_shown (evaluated card_curve 1 2) gives pos 0 ∷ pos 0 ∷ pos 0 ∷ pos 2 ∷ negsuc 1 ∷ pos 0 ∷ [])
    ∷ (evaluation_shown (evaluated card_curve 2 4) gives pos 0 ∷ pos 0 ∷ pos 0 ∷ pos 2 ∷ negsuc 1 ∷ pos 0 ∷ [])
    -- reading at 0/1 gives rectangle 0, at 7/7 rectangle n
    ∷ (evaluation_shown (evaluated card_curve 0 1) gives pos 0 ∷ pos 0 ∷ pos 0 ∷ pos 1 ∷ negsuc 2 ∷ negsuc 2 ∷ [])
    ∷ (evaluation_shown (evaluated card_curve 7 7) gives pos 0 ∷ pos 0 ∷ pos 1 ∷ pos 3 ∷ pos 0 ∷ pos 2 ∷ [])
    -- values 1, 0, 3 at 1/2: reading [0, 2], though the exact load is 1
    ∷ (ends (evaluated three_values 1 2).load.resistance gives pos 0 ∷ pos 2 ∷ [])
    ∷ (upper_of exact_load gives times_lower (pos 1) exact_load)
    -- the same, cut at 1/2: left [1, 1], [0, 1], [0, 2]; right [0, 2], [1, 2], [3, 3]
    ∷ (resistances_shown (subdivided three_values 1 2).left
    gives pos 2 ∷ pos 1 ∷ pos 1 ∷ pos 0 ∷ pos 1 ∷ pos 0 ∷ pos 2 ∷ [])
    ∷ (resistances_shown (subdivided three_values 1 2).right
    gives pos 2 ∷ pos 0 ∷ pos 2 ∷ pos 1 ∷ pos 2 ∷ pos 3 ∷ pos 3 ∷ [])
    -- values 0, 1 raised: [0, 0], [0, 1], [1, 1]
    ∷ (resistances_shown (elevated (values 1 (pos 0 ∷ pos 1 ∷ []))).curve
    gives pos 2 ∷ pos 0 ∷ pos 0 ∷ pos 0 ∷ pos 1 ∷ pos 1 ∷ pos 1 ∷ [])
    -- values 0, 0, −1 raised: the third is [−1, 0]
    ∷ (ends (point (elevated (values 2 (pos 0 ∷ pos 0 ∷ negsuc 0 ∷ []))).curve 2).resistance gives negsuc 0 ∷ pos 0 ∷ [])
    -- side 16,777,216 accepted, 16,777,217 refused 2
    ∷ (refusal_shown (bounded (values 1 (pos 0 ∷ pos 16777216 ∷ []))).refusal gives pos 0 ∷ pos 0 ∷ [])
    ∷ (refusal_shown (bounded (values 1 (pos 0 ∷ pos 16777217 ∷ []))).refusal gives pos 2 ∷ pos 1 ∷ [])
    -- den 65,536 accepted; 0 and 65,537 refused 4; 1/0 is a 4, 8/7 a 5
    ∷ (refusal_shown (evaluated card_curve 1 65536).refusal gives pos 0 ∷ pos 0 ∷ [])
    ∷ (refusal_shown (evaluated card_curve 0 0).refusal gives pos 4 ∷ pos 0 ∷ [])
    ∷ (refusal_shown (evaluated card_curve 1 65537).refusal gives pos 4 ∷ pos 0 ∷ [])
    ∷ (refusal_shown (evaluated card_curve 1 0).refusal gives pos 4 ∷ pos 0 ∷ [])
    ∷ (refusal_shown (evaluated card_curve 8 7).refusal gives pos 5 ∷ pos 0 ∷ [])
    -- resistance values 0, 4, box 0 to 2 and 0 to 1: depth 2, budget 5 gives Outside, depth 1, index 1, count 5; budget 4 gives Spent, count 4
    ∷ (verdict_shown (searched zero_to_four small_box 2 5).verdict gives pos outside ∷ pos 1 ∷ pos 1 ∷ pos 5 ∷ [])
    ∷ (verdict_shown (searched zero_to_four small_box 2 4).verdict gives pos spent ∷ pos 0 ∷ pos 0 ∷ pos 4 ∷ [])
    -- the same at depth 1: Outside, depth 1, index 1, count 3
    ∷ (verdict_shown (searched zero_to_four small_box 1 5).verdict gives pos outside ∷ pos 1 ∷ pos 1 ∷ pos 3 ∷ [])
    -- box 0 to 5 and 0 to 1: Inside, count 1; box 0 to 4 and 0 to 1, whose high resistance the curve reaches: Undecided at depth 0
    ∷ (verdict_shown (searched zero_to_four (box (pos 0) (pos 5) (pos 0) (pos 1)) 2 5).verdict gives pos inside ∷ pos 0 ∷ pos 0 ∷ pos 1 ∷ [])
    ∷ (verdict_shown (searched zero_to_four (box (pos 0) (pos 4) (pos 0) (pos 1)) 0 5).verdict gives pos undecided ∷ pos 0 ∷ pos 0 ∷ pos 1 ∷ [])
    -- a box with low equal to high is a 7, in either coordinate
    ∷ (refusal_shown (searched zero_to_four (box (pos 2) (pos 2) (pos 0) (pos 1)) 2 5).refusal gives pos 7 ∷ pos 0 ∷ [])
    ∷ (refusal_shown (searched zero_to_four (box (pos 0) (pos 5) (pos 0) (pos 0)) 2 5).refusal gives pos 7 ∷ pos 0 ∷ [])
    -- the widest box does not hold 16,384 ohms: Outside, at once; a step less it holds
    ∷ (verdict_shown (searched (values 1 (pos 16777216 ∷ pos 16777216 ∷ [])) widest_box 12 8191).verdict gives pos outside ∷ pos 0 ∷ pos 0 ∷ pos 1 ∷ [])
    ∷ (verdict_shown (searched (values 1 (negsuc 16777215 ∷ pos 16777215 ∷ [])) widest_box 12 8191).verdict gives pos inside ∷ pos 0 ∷ pos 0 ∷ pos 1 ∷ [])
    -- the exact flag: values 0, 4 at 1/2 are lit; values 1, 0, 3 at 1/2 dark, read and cut
    ∷ (flag_shown (evaluated zero_to_four 1 2).exact gives pos 1 ∷ [])
    ∷ (flag_shown (evaluated three_values 1 2).exact gives pos 0 ∷ [])
    ∷ (flag_shown (subdivided three_values 1 2).exact gives pos 0 ∷ [])
    -- values 0, 1 raised are dark, values 0, 2 raised lit
    ∷ (flag_shown (elevated (values 1 (pos 0 ∷ pos 1 ∷ []))).exact gives pos 0 ∷ [])
    ∷ (flag_shown (elevated (values 1 (pos 0 ∷ pos 2 ∷ []))).exact gives pos 1 ∷ [])
    -- a refused call is dark, here by 4, 5 and 6
    ∷ (flag_shown (evaluated zero_to_four 1 0).exact gives pos 0 ∷ [])
    ∷ (flag_shown (subdivided zero_to_four 8 7).exact gives pos 0 ∷ [])
    ∷ (flag_shown (elevated (values 8 [])).exact gives pos 0 ∷ [])
    -- a reading can be dark and its load exact in a coordinate: here reactance was rounded, and resistance, 2, is exact
    ∷ (flag_shown (evaluated coordinates_apart 1 2).exact gives pos 0 ∷ [])
    ∷ (evaluation_shown (evaluated coordinates_apart 1 2) gives pos 0 ∷ pos 0 ∷ pos 2 ∷ pos 2 ∷ pos 0 ∷ pos 1 ∷ [])
    ∷ (upper_of exact_resistance gives times_lower (pos 2) exact_resistance)
    -- the bridge: 50 ohms; −0.0009765625 ohm, one step below zero; 0.0001 ohm, between two steps; minus zero
    ∷ (found_shown (enclosed (Load fifty zero)) gives pos 0 ∷ pos 0 ∷ pos rectangle ∷ pos 51200 ∷ pos 51200 ∷ pos 0 ∷ pos 0 ∷ [])
    ∷ (found_shown (enclosed (Load step_below_zero zero)) gives pos 0 ∷ pos 0 ∷ pos rectangle ∷ negsuc 0 ∷ negsuc 0 ∷ pos 0 ∷ pos 0 ∷ [])
    ∷ (found_shown (enclosed (Load ten_thousandth zero)) gives pos 0 ∷ pos 0 ∷ pos rectangle ∷ pos 0 ∷ pos 1 ∷ pos 0 ∷ pos 0 ∷ [])
    ∷ (found_shown (enclosed (Load minus_zero zero)) gives pos 0 ∷ pos 0 ∷ pos rectangle ∷ pos 0 ∷ pos 0 ∷ pos 0 ∷ pos 0 ∷ [])
    -- 16,384 ohms either way are accepted, and the next floats beyond are a 13
    ∷ (found_shown (enclosed (Load largest least)) gives pos 0 ∷ pos 0 ∷ pos rectangle ∷ pos 16777216 ∷ pos 16777216 ∷ negsuc 16777215 ∷ negsuc 16777215 ∷ [])
    ∷ (found_shown (enclosed (Load beyond_largest zero)) gives pos 13 ∷ pos 0 ∷ pos 0 ∷ pos 0 ∷ pos 0 ∷ pos 0 ∷ pos 0 ∷ [])
    ∷ (found_shown (enclosed (Load zero beyond_least)) gives pos 13 ∷ pos 1 ∷ pos 0 ∷ pos 0 ∷ pos 0 ∷ pos 0 ∷ pos 0 ∷ [])
    -- 16,384 ohms with a spread of one step: 14, place 0; with one that is no number it is a 13 at place 2 first
    ∷ (found_shown (enclosed (LoadWithSpread largest zero one_step)) gives pos 14 ∷ pos 0 ∷ pos 0 ∷ pos 0 ∷ pos 0 ∷ pos 0 ∷ pos 0 ∷ [])
    ∷ (found_shown (enclosed (LoadWithSpread largest zero nan)) gives pos 13 ∷ pos 2 ∷ pos 0 ∷ pos 0 ∷ pos 0 ∷ pos 0 ∷ pos 0 ∷ [])
    -- a spread between two steps counts as the larger: 50 ohms within 0.0001 ohm
    ∷ (found_shown (enclosed (LoadWithSpread fifty zero ten_thousandth)) gives pos 0 ∷ pos 0 ∷ pos rectangle ∷ pos 51199 ∷ pos 51201 ∷ negsuc 0 ∷ pos 1 ∷ [])
    -- no carrier: nothing is refused, and there is no rectangle
    ∷ (found_shown (enclosed NoCarrier) gives pos 0 ∷ pos 0 ∷ pos no_carrier ∷ pos 0 ∷ pos 0 ∷ pos 0 ∷ pos 0 ∷ [])
    -- the summed reading: values 1, 0, 3 at 8/16 give [1, 1], lit, where the staged reading gives [0, 2]
    ∷ (ends (evaluated_sixteenths three_values 8).load.resistance gives pos 1 ∷ pos 1 ∷ [])
    ∷ (flag_shown (evaluated_sixteenths three_values 8).exact gives pos 1 ∷ [])
    ∷ (ends (evaluated three_values 8 16).load.resistance gives pos 0 ∷ pos 2 ∷ [])
    -- values 0, 1 at 1/16 give [0, 1], dark, and values 0, −1 give [−1, 0]
    ∷ (ends (evaluated_sixteenths (values 1 (pos 0 ∷ pos 1 ∷ [])) 1).load.resistance gives pos 0 ∷ pos 1 ∷ [])
    ∷ (flag_shown (evaluated_sixteenths (values 1 (pos 0 ∷ pos 1 ∷ [])) 1).exact gives pos 0 ∷ [])
    ∷ (ends (evaluated_sixteenths (values 1 (pos 0 ∷ negsuc 0 ∷ [])) 1).load.resistance gives negsuc 0 ∷ pos 0 ∷ [])
    -- j = 17 is a 15, dark, and degree 9 with j = 17 a 1
    ∷ (evaluation_shown (evaluated_sixteenths three_values 17) gives pos 15 ∷ pos 0 ∷ pos 0 ∷ pos 0 ∷ pos 0 ∷ pos 0 ∷ [])
    ∷ (flag_shown (evaluated_sixteenths three_values 17).exact gives pos 0 ∷ [])
    ∷ (refusal_shown (evaluated_sixteenths (values 9 []) 17).refusal gives pos 1 ∷ pos 0 ∷ [])
    -- relay settings: walks that end Outside and Undecided, then the first that fits, of two with its number; after it the other would fit
    ∷ (choice_shown (chosen zero_to_four (narrow ∷ touching ∷ fitted ∷ wider ∷ []) 2 5) gives pos 0 ∷ pos 0 ∷ pos fitting ∷ pos 2 ∷ pos 7 ∷ [])
    ∷ (choice_shown (chosen zero_to_four (wider ∷ fitted ∷ []) 2 5) gives pos 0 ∷ pos 0 ∷ pos fitting ∷ pos 0 ∷ pos 7 ∷ [])
    -- at budget 4 the first walk spends it, and the second begins with the whole budget
    ∷ (choice_shown (chosen zero_to_four (narrow ∷ fitted ∷ []) 2 4) gives pos 0 ∷ pos 0 ∷ pos fitting ∷ pos 1 ∷ pos 7 ∷ [])
    -- none fits
    ∷ (choice_shown (chosen zero_to_four (narrow ∷ touching ∷ []) 2 5) gives pos 0 ∷ pos 0 ∷ pos none_fitting ∷ pos 0 ∷ pos 0 ∷ [])
    -- a list of 0 and of 65 records is a 16 with its length, before a degree of 9; one of 64 is accepted
    ∷ (choice_shown (chosen (values 9 []) [] 2 5) gives pos 16 ∷ pos 0 ∷ pos 0 ∷ pos 0 ∷ pos 0 ∷ [])
    ∷ (choice_shown (chosen zero_to_four (replicate 65 fitted) 2 5) gives pos 16 ∷ pos 65 ∷ pos 0 ∷ pos 0 ∷ pos 0 ∷ [])
    ∷ (choice_shown (chosen zero_to_four (replicate 64 fitted) 2 5) gives pos 0 ∷ pos 0 ∷ pos fitting ∷ pos 0 ∷ pos 7 ∷ [])
    -- a bad box behind a record that fits is a 7 with its index, after the curve's 1 and before 8 and 9
    ∷ (choice_shown (chosen zero_to_four (fitted ∷ empty_box ∷ empty_box ∷ []) 13 0) gives pos 7 ∷ pos 1 ∷ pos 0 ∷ pos 0 ∷ pos 0 ∷ [])
    ∷ (choice_shown (chosen (values 9 []) (empty_box ∷ []) 2 5) gives pos 1 ∷ pos 0 ∷ pos 0 ∷ pos 0 ∷ pos 0 ∷ [])
    ∷ (choice_shown (chosen zero_to_four (fitted ∷ []) 13 0) gives pos 8 ∷ pos 0 ∷ pos 0 ∷ pos 0 ∷ pos 0 ∷ [])
    ∷ (choice_shown (chosen zero_to_four (fitted ∷ []) 12 0) gives pos 9 ∷ pos 0 ∷ pos 0 ∷ pos 0 ∷ pos 0 ∷ [])
    -- the sum of steps: 0 from a card; a cut adds the degree in both pieces, a raising 1
    ∷ (pos (read_card card_bytes).curve.sum ∷ [] gives pos 0 ∷ [])
    ∷ (sums_shown (subdivided (summed_line 5) 1 2) gives pos 0 ∷ pos 0 ∷ pos 6 ∷ pos 6 ∷ [])
    ∷ (elevated_sum_shown (elevated (summed_line 5)) gives pos 0 ∷ pos 0 ∷ pos 6 ∷ [])
    -- a degree-8 curve with sum 65,527 cut gives 65,535; with 65,528 a 17, after 4 and 5
    ∷ (sums_shown (subdivided (summed_values 8 65527 []) 1 2) gives pos 0 ∷ pos 0 ∷ pos 65535 ∷ pos 65535 ∷ [])
    ∷ (sums_shown (subdivided (summed_values 8 65528 []) 1 2) gives pos 17 ∷ pos 0 ∷ pos 0 ∷ pos 0 ∷ [])
    ∷ (sums_shown (subdivided (summed_values 8 65528 []) 1 0) gives pos 4 ∷ pos 0 ∷ pos 0 ∷ pos 0 ∷ [])
    ∷ (sums_shown (subdivided (summed_values 8 65528 []) 8 7) gives pos 5 ∷ pos 0 ∷ pos 0 ∷ pos 0 ∷ [])
    -- a raising at 65,535 is a 17, after 6, and at 65,534 gives 65,535
    ∷ (elevated_sum_shown (elevated (summed_line 65534)) gives pos 0 ∷ pos 0 ∷ pos 65535 ∷ [])
    ∷ (elevated_sum_shown (elevated (summed_line 65535)) gives pos 17 ∷ pos 0 ∷ pos 0 ∷ [])
    ∷ (elevated_sum_shown (elevated (summed_values 8 65535 [])) gives pos 6 ∷ pos 0 ∷ pos 0 ∷ [])
    -- a walk at sum 65,535, depth 0 is accepted, at depth 1 a 17, after 9; and so is a list of settings
    ∷ (verdict_shown (searched (summed_line 65535) small_box 0 5).verdict gives pos undecided ∷ pos 0 ∷ pos 0 ∷ pos 1 ∷ [])
    ∷ (refusal_shown (searched (summed_line 65535) small_box 1 5).refusal gives pos 17 ∷ pos 0 ∷ [])
    ∷ (refusal_shown (searched (summed_line 65535) small_box 1 0).refusal gives pos 9 ∷ pos 0 ∷ [])
    ∷ (choice_shown (chosen (summed_line 65535) (fitted ∷ []) 0 5) gives pos 0 ∷ pos 0 ∷ pos fitting ∷ pos 0 ∷ pos 7 ∷ [])
    ∷ (choice_shown (chosen (summed_line 65535) (fitted ∷ []) 1 5) gives pos 17 ∷ pos 0 ∷ pos 0 ∷ pos 0 ∷ pos 0 ∷ [])
    -- at degree 2 and depth 12 a sum of 65,511 is accepted and 65,512 is a 17, for a walk and for a list of settings
    ∷ (verdict_shown (searched (summed_values 2 65511 []) small_box 12 5).verdict gives pos inside ∷ pos 0 ∷ pos 0 ∷ pos 1 ∷ [])
    ∷ (refusal_shown (searched (summed_values 2 65512 []) small_box 12 5).refusal gives pos 17 ∷ pos 0 ∷ [])
    ∷ (choice_shown (chosen (summed_values 2 65511 []) (fitted ∷ []) 12 5) gives pos 0 ∷ pos 0 ∷ pos fitting ∷ pos 0 ∷ pos 7 ∷ [])
    ∷ (choice_shown (chosen (summed_values 2 65512 []) (fitted ∷ []) 12 5) gives pos 17 ∷ pos 0 ∷ pos 0 ∷ pos 0 ∷ pos 0 ∷ [])
    -- both readings and bounds are not refused by it
    ∷ (evaluation_shown (evaluated (summed_line 65535) 1 2) gives pos 0 ∷ pos 0 ∷ pos 2 ∷ pos 2 ∷ pos 0 ∷ pos 0 ∷ [])
    ∷ (evaluation_shown (evaluated_sixteenths (summed_line 65535) 8) gives pos 0 ∷ pos 0 ∷ pos 2 ∷ pos 2 ∷ pos 0 ∷ pos 0 ∷ [])
    ∷ (refusal_shown (bounded (summed_line 65535)).refusal gives pos 0 ∷ pos 0 ∷ [])
    ∷ []

-- every example of the list is answered as the documents say
abbrev pub Agree : Type 0
Agree = map (λ (e : Example). e.answer) examples ≡ map (λ (e : Example). e.document) examples
