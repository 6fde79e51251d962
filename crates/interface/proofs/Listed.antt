-- Every refusal has a listed number, or is none: of one test, of the first of several, and so of each call.
-- Assumes nothing.
use mathlib.Core.Path.{◌≡◌, refl}
use mathlib.Core.Bool.{Bool, true, false, cond, ◌&&◌}
use mathlib.Core.List.{List, [], ◌∷◌}
use Prim.Native.Nat.{ℕ, zero, suc, ◌+◌, ◌<◌}
use native.Mathlib.Omega.{arith}
use lib.Dec.{leb, eqb, ltb}
use lib.ListN.{length, get_or}
use Rattle.columns.specs.Column.{read_at}
use Rattle.columns.specs.Line.{newline}
use Rattle.curve.specs.declared.Rect.{Rect}
use Rattle.curve.specs.declared.Curve.{Curve}
use Rattle.curve.specs.declared.Refusal.{Refusal}
use Rattle.curve.specs.Limits.{max_degree, max_den, max_sum}
use Rattle.curve.specs.Rect.{ends_in_range, sides_in_range, sides_ordered}
use Rattle.curve.specs.Curve.{point, piece_sum, elevated_sum}
use Rattle.curve.specs.Refusals.{refusal, none, ◌or_else◌, unless_at, first_failing, range_refusal, order_refusal, curve_refusal, parameter_refusal, highest_refusal, sum_refusal}
use Rattle.curve.specs.Calls.{call_refusal, subdivision_refusal, elevation_refusal}
use Rattle.curve.proofs.Answers.{in_both, evaluated-refusal, subdivided-refusal, elevated-refusal, bounded-refusal}
use Rattle.sixteenths.specs.Weights.{sixteenths}
use Rattle.sixteenths.specs.Sixteenths.{numerator_refusal, sixteenths_refusal}
use Rattle.sixteenths.proofs.Answers.{summed_refusal}
use Rattle.card_text.specs.declared.CardWritten.{CardWritten}
use Rattle.card_text.specs.Card.{header_length, card_length, row_at}
use Rattle.card_text.specs.Reading.{well_formed, decoded, column_refusal, line_end_refusal, ends_refusal, row_refusal, rows_refusal, short_refusal, length_refusal, header_refusal, card_refusal}
use Rattle.card_text.specs.Writing.{writing_refusal, write_card}
use Rattle.card_text.proofs.ReadingAnswer.{read-refusal}
use Rattle.search.specs.Limits.{max_depth, max_budget}
use Rattle.search.specs.Box.{is_box}
use Rattle.search.specs.Search.{deepest_sum, effort_refusal, box_refusal, search_refusal}
use Rattle.search.proofs.Accepted.{searched-refusal}
use Rattle.settings.specs.declared.Setting.{Setting}
use Rattle.settings.specs.Limits.{max_settings}
use Rattle.settings.specs.Settings.{list_refusal, boxes_refusal, settings_refusal}
use Rattle.settings.proofs.Answers.{chosen-refusal}
use Rattle.bridge.specs.declared.Measurement.{Measurement}
use Rattle.bridge.specs.declared.Measurement.TheVariants.{NoCarrier, Load, LoadWithSpread}
use Rattle.bridge.specs.Value.{is_load, is_spread}
use Rattle.bridge.specs.Bridge.{load_rect, spread_rect, load_refusal, number_refusal, side_refusal, spread_refusal, enclosed}
use Rattle.bridge.proofs.Answers.{answered-refusal}
use Rattle.interface.specs.Answer.{shorter}
use Rattle.interface.specs.Promises.{Listed, ListedAnswers}

-- ---- one refusal, and the first of several

listed-none : Listed none
listed-none = record { known = omega arith; zero = λ e. refl }

listed-some : (number place : ℕ) → number < 17 → Listed (refusal (suc number) place)
listed-some number place few = record { known = few; zero = λ e. absurd (omega arith) }

unless : (ok : Bool) (number place : ℕ) → number < 17 → Listed (unless_at ok (suc number) place)
unless true number place few = listed-none
unless false number place few = listed-some number place few

either : (x : Bool) {a b : Refusal} → Listed a → Listed b → Listed (cond x a b)
either true first second = first
either false first second = second

infixr 4 ◌or◌
◌or◌ : {a b : Refusal} → Listed a → Listed b → Listed (a or_else b)
◌or◌ {a} first second = either (eqb a.number 0) second first

failing : (ok : ℕ → Bool) (number m from : ℕ) → number < 17 → Listed (first_failing ok (suc number) m from)
unfolding first_failing
failing ok number zero from few = listed-none
failing ok number (suc m) from few = either (ok from) (failing ok number m (suc from) few) (listed-some number from few)

-- ---- the refusals of the calls

curve-listed : (c : Curve) → Listed (curve_refusal c)
unfolding curve_refusal range_refusal order_refusal
curve-listed c =
    unless (leb 1 c.degree && leb c.degree max_degree) 0 0 (omega arith)
    or failing (λ k. sides_in_range (point c k)) 1 (c.degree + 1) 0 (omega arith)
    or failing (λ k. sides_ordered (point c k)) 2 (c.degree + 1) 0 (omega arith)

call_listed : (c : Curve) (num den : ℕ) → Listed (call_refusal c num den)
unfolding call_refusal parameter_refusal
call_listed c num den =
    curve-listed c or unless (leb 1 den && leb den max_den) 3 0 (omega arith) or unless (leb num den) 4 0 (omega arith)

sum-listed : (s : ℕ) → Listed (sum_refusal s)
unfolding sum_refusal
sum-listed s = unless (leb s max_sum) 16 0 (omega arith)

subdivision_listed : (c : Curve) (num den : ℕ) → Listed (subdivision_refusal c num den)
unfolding subdivision_refusal
subdivision_listed c num den = call_listed c num den or sum-listed (piece_sum c)

summed_listed : (c : Curve) (j : ℕ) → Listed (sixteenths_refusal c j)
unfolding sixteenths_refusal numerator_refusal
summed_listed c j = curve-listed c or unless (leb j sixteenths) 14 0 (omega arith)

elevation_listed : (c : Curve) → Listed (elevation_refusal c)
unfolding elevation_refusal highest_refusal
elevation_listed c = curve-listed c or unless (ltb c.degree max_degree) 5 0 (omega arith) or sum-listed (elevated_sum c)

effort_listed : (c : Curve) (depth budget : ℕ) → Listed (effort_refusal c depth budget)
unfolding effort_refusal
effort_listed c depth budget =
    unless (leb depth max_depth) 7 0 (omega arith) or unless (leb 1 budget && leb budget max_budget) 8 0 (omega arith) or sum-listed (deepest_sum c depth)

search_listed : (c : Curve) (box : Rect) (depth budget : ℕ) → Listed (search_refusal c box depth budget)
unfolding search_refusal box_refusal
search_listed c box depth budget = curve-listed c or unless (is_box box) 6 0 (omega arith) or effort_listed c depth budget

boxes_listed : (index : ℕ) (settings : List Setting) → Listed (boxes_refusal index settings)
unfolding boxes_refusal
boxes_listed index [] = listed-none
boxes_listed index (s ∷ rest) = either (is_box s.limits) (boxes_listed (suc index) rest) (listed-some 6 index (omega arith))

settings_listed : (c : Curve) (settings : List Setting) (depth budget : ℕ) → Listed (settings_refusal c settings depth budget)
unfolding settings_refusal list_refusal
settings_listed c settings depth budget =
    unless (leb 1 (length settings) && leb (length settings) max_settings) 15 (length settings) (omega arith)
    or curve-listed c
    or boxes_listed 0 settings
    or effort_listed c depth budget

bridge_listed : (m : Measurement) → Listed (enclosed m).refusal
unfolding enclosed load_refusal spread_refusal number_refusal side_refusal
bridge_listed NoCarrier = listed-none
bridge_listed (Load r x) = rw (answered-refusal (load_refusal r x) (load_rect r x)) (unless (is_load r) 12 0 (omega arith) or unless (is_load x) 12 1 (omega arith))
bridge_listed (LoadWithSpread r x spread) =
    let p = spread_rect r x spread in
    rw (answered-refusal (spread_refusal r x spread) p)
    (((unless (is_load r) 12 0 (omega arith) or unless (is_load x) 12 1 (omega arith)) or unless (is_spread spread) 12 2 (omega arith))
    or unless (ends_in_range p.resistance) 13 0 (omega arith)
    or unless (ends_in_range p.reactance) 13 1 (omega arith))

module _ (bytes : List ℕ) where
  column-listed : (at : ℕ) → Listed (column_refusal bytes at)
  unfolding column_refusal
  column-listed at = unless (well_formed (read_at bytes at)) 10 at (omega arith)

  end-listed : (at : ℕ) → Listed (line_end_refusal bytes at)
  unfolding line_end_refusal
  end-listed at = unless (eqb (get_or bytes at 0) newline) 10 at (omega arith)

  ends-listed : (at : ℕ) → Listed (ends_refusal bytes at)
  unfolding ends_refusal
  ends-listed at = column-listed at or column-listed (at + 10)

  rows-listed : (m : ℕ) → Listed (rows_refusal bytes m)
  unfolding rows_refusal row_refusal
  rows-listed zero = listed-none
  rows-listed (suc m) = rows-listed m or ends-listed (row_at m) or ends-listed (row_at m + 20) or end-listed (row_at m + 40)

  card_listed : Listed (card_refusal bytes)
  unfolding card_refusal header_refusal short_refusal length_refusal range_refusal order_refusal
  card_listed =
      let c = decoded bytes in
      (unless (leb header_length (length bytes)) 9 (length bytes) (omega arith)
      or column-listed 0
      or end-listed 10
      or unless (leb 1 c.degree && leb c.degree max_degree) 0 0 (omega arith)
      or unless (eqb (length bytes) (card_length c.degree)) 9 (length bytes) (omega arith))
      or rows-listed (c.degree + 1)
      or failing (λ k. sides_in_range (point c k)) 1 (c.degree + 1) 0 (omega arith)
      or failing (λ k. sides_ordered (point c k)) 2 (c.degree + 1) 0 (omega arith)

short-listed : (needed size : ℕ) → Listed (shorter needed size)
unfolding shorter
short-listed needed size = unless (leb needed size) 11 needed (omega arith)

writing-listed : (c : Curve) (size : ℕ) → Listed (writing_refusal c size)
unfolding writing_refusal
writing-listed c size = curve-listed c or unless (leb (card_length c.degree) size) 11 (card_length c.degree) (omega arith)

-- ---- the answers

written_refusal : (c : Curve) (out : List ℕ) → (write_card c out).refusal ≡ writing_refusal c (length out)
unfolding write_card
written_refusal c out = in_both (written (card_length c.degree)) (written 0) (writing_refusal c (length out)) (λ x. x.refusal) _ refl refl
  where
    written : ℕ → Refusal → CardWritten
    written n r = record { refusal = r; length = n }

pub listed_answers : ListedAnswers
listed_answers =
    record {
      evaluating = λ c num den. rw (evaluated-refusal c num den) (call_listed c num den);
      summing = λ c j. rw (summed_refusal c j) (summed_listed c j);
      subdividing = λ c num den. rw (subdivided-refusal c num den) (subdivision_listed c num den);
      elevating = λ c. rw (elevated-refusal c) (elevation_listed c);
      bounding = λ c. rw (bounded-refusal c) (curve-listed c);
      searching = λ c box depth budget. rw (searched-refusal c box depth budget) (search_listed c box depth budget);
      choosing = λ c settings depth budget. rw (chosen-refusal c settings depth budget) (settings_listed c settings depth budget);
      enclosing = bridge_listed;
      reading = λ card. rw (read-refusal card) (card_listed card);
      writing = λ c out. rw (written_refusal c out) (writing-listed c (length out));
      short = λ r needed size listed. listed or short-listed needed size;
    }
