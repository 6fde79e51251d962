-- `report` meets its contract: two rectangles' lines, or a refusal's line.
use Rattle.std.proofs.Common.{◌≡◌, ℕ, List, [], ◌∷◌, ◌++◌, ◌+◌, ◌≤◌, length, take, drop, sym, ap, ap₂, ◌∙◌, arith, ℤ}
use Prim.Native.Nat.{min}
use Rattle.std.proofs.lemmas.List.{take_min}
use mir.Syntax.{w64}
use mir.Val.{to_z, of_z}
use mir.ValLaws.{to_z_pos}
use Rattle.columns.specs.Line.{placed, after_line}
use Rattle.columns.proofs.Placed.{placed-front, placed_then}
use Rattle.curve.specs.declared.Rect.{Rect}
use Rattle.curve.specs.declared.Refusal.{Refusal}
use Rattle.curve.specs.declared.reason.Reason.{Reason}
use Rattle.curve.specs.Calls.{bounded, evaluated}
use Rattle.curve.specs.Inner.{Held}
use Rattle.curve.specs.Reason.{listed}
use Rattle.curve.specs.Rect.{sides}
use Rattle.curve.proofs.BoundsHeld.{bounds_held}
use Rattle.curve.proofs.Loads.{load-held}
use Rattle.card_text.specs.Card.{row, row_length}
use Rattle.card_text.specs.Reading.{read_card}
use Rattle.card_text.proofs.Fitting.{row_put, row_long}
use Rattle.card_report.specs.Report.{most_bytes, curve_lines, refusal_line, shown, reported}
use Rattle.card_report.proofs.Answer.{lines_long, refusal_long, refusal_put, read-within, shown-refused, shown-accepted}
use Rattle.curve.proofs.Listed.{listed_some}
use Rattle.card_report.proofs.report.Goals as goal

-- a text that is put at the front of the buffer
put_in_front : (input out : List ℕ) {text last : List ℕ} {n : ℕ} → shown input ≡ text → length text ≡ n → last ≡ placed out 0 text →
    (n ≡ length (shown input)) × (last ≡ reported input out)
unfolding reported
put_in_front input out {text} e w p = (sym w ∙ ap length (sym e), p ∙ placed-front out text ∙ ap (λ (l : List ℕ). l ++ drop (length l) out) (sym e))

-- the line of a rectangle that was put
row_in : (bytes : List ℕ) (at : ℕ) {last : List ℕ} {zs : List ℤ} {p q : Rect} → last ≡ after_line bytes at zs → zs ≡ sides p → p ≡ q → Held q → at + row_length ≤ length bytes → last ≡ placed bytes at (row q)
row_in bytes at e f g held room = e ∙ ap (λ (zs : List ℤ). after_line bytes at zs) (f ∙ ap sides g) ∙ row_put bytes at held room

-- the card is cut from the input
card_cut : (input : List ℕ) {n : ℕ} → n ≡ min most_bytes (length input) → take n input ≡ take most_bytes input
card_cut input e = ap (λ (n : ℕ). take n input) e ∙ take_min most_bytes input

-- the reason for which the card is refused, and its size
module _ (input : List ℕ) {n : ℕ} (cut : n ≡ min most_bytes (length input)) (e : Reason) (is : listed e ≡ (read_card (take n input)).refusal) where
  unread : listed e ≡ (read_card (take most_bytes input)).refusal
  unread = is ∙ ap (λ (l : List ℕ). (read_card l).refusal) (card_cut input cut)

  small_reason : ((listed e).number ≤ most_bytes) × ((listed e).place ≤ most_bytes)
  small_reason = rw unread (read-within input)

  refused : shown input ≡ refusal_line (listed e)
  refused = shown-refused input (λ h. listed_some e (ap (λ (r : Refusal). r.number) unread ∙ h)) ∙ ap refusal_line (sym unread)

pub overflow_cast-refusal : goal.overflow_cast-refusal
overflow_cast-refusal c =
    let small = small_reason c.args.input.now c.min.ensures c.in-Err.reason c.in-Err.ensures.refusal in
    rw c.from-refusal.ensures (record { sfits = omega (arith, small.1) })

pub returns-in-Err : goal.returns-in-Err
returns-in-Err c =
    let input = c.args.input.now in
    let out = c.args.out.now in
    let r = listed c.in-Err.reason in
    let small = small_reason input c.min.ensures c.in-Err.reason c.in-Err.ensures.refusal in
    put_in_front input out (refused input c.min.ensures c.in-Err.reason c.in-Err.ensures.refusal) (refusal_long r small)
    (c.put_line-in-Err.ensures.1
    ∙ ap (λ (z : ℤ). after_line out 0 (to_z w64 (of_z w64 z) ∷ to_z w64 c.from-refusal.result.place ∷ [])) c.from.ensures
    ∙ ap (λ (x : Refusal). after_line out 0 (to_z w64 x.number ∷ to_z w64 x.place ∷ [])) c.from-refusal.ensures
    ∙ ap₂ (λ (y z : ℤ). after_line out 0 (y ∷ z ∷ [])) (to_z_pos w64 r.number (omega arith)) (to_z_pos w64 r.place (omega arith))
    ∙ refusal_put r small out (omega arith))

pub returns-in-Ok : goal.returns-in-Ok
unfolding curve_lines
returns-in-Ok c =
    let input = c.args.input.now in
    let out = c.args.out.now in
    let curve = (read_card (take most_bytes input)).curve in
    let cut = card_cut input c.min.ensures in
    let none = ap (λ (r : Refusal). r.number) (ap (λ (l : List ℕ). (read_card l).refusal) (sym cut) ∙ sym c.in-Ok.ensures.refusal) in
    let enclosed : c.in-Ok.bounds ≡ (bounded curve).rect =
    ap (λ (p : Rect × Rect). p.0) c.in-Ok.ensures.rects ∙ ap (λ (l : List ℕ). (bounded (read_card l).curve).rect) cut in
    let halved : c.in-Ok.load ≡ (evaluated curve 1 2).load =
    ap (λ (p : Rect × Rect). p.1) c.in-Ok.ensures.rects ∙ ap (λ (l : List ℕ). (evaluated (read_card l).curve 1 2).load) cut in
    let first = row (bounded curve).rect in
    let second = row (evaluated curve 1 2).load in
    let last = c.put_line.new.out in
    let held = bounds_held curve in
    let long = c.fits-out in
    let size = c.put_line.auto.out in
    let one : last ≡ placed out 0 first = row_in out 0 c.put_line.ensures.1 c.sides.ensures enclosed held (omega arith) in
    let two : c.put_line-in-Ok.new.out ≡ placed last 41 second =
    row_in last 41 c.put_line-in-Ok.ensures.1 c.sides-in-Ok.ensures halved (load-held curve 1 2) (omega arith) in
    put_in_front input out (shown-accepted input none) (lines_long curve)
    (two ∙ placed_then out 0 41 first second last (row_long held) (omega arith) one)
