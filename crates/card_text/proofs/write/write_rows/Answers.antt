-- `write_rows` meets its contract: each turn puts the line of one more rectangle behind the others.
use Rattle.std.proofs.Common.{◌≡◌, ℤ, List, ℕ, ◌*◌, ◌<◌, ◌≤◌, length, take, get_or, sym, ap, ◌∙◌, arith, add-one}
use lib.ListN.{length-take}
use lib.Seq.{get_or-take}
use Rattle.columns.specs.Line.{placed, after_line}
use Rattle.columns.proofs.Placed.{placed-none, placed_then}
use Rattle.curve.specs.declared.Rect.{Rect}
use Rattle.curve.specs.Rect.{zero_rect, sides}
use Rattle.curve.specs.Curve.{point}
use Rattle.curve.proofs.Accepted.{accepted_ready}
use Rattle.card_text.specs.Card.{row, rows, header_length, row_length, row_at}
use Rattle.card_text.proofs.Fitting.{row_put, row_long, rows_long}
use Rattle.card_text.proofs.write.write_rows.Goals as goal

-- the rectangles from 0 to n are the curve's
at_front : (m : ℕ) (points : List Rect) (k : ℕ) → k < length (take m points) → (k < m) × (get_or (take m points) k zero_rect ≡ get_or points k zero_rect)
at_front m points k h =
    let low : k < m = omega (arith, length-take m points) in
    (low, get_or-take m points k zero_rect low)

pub loop-k-init : goal.loop-k-init
unfolding rows
loop-k-init c = sym (placed-none c.args.out.now header_length)

pub loop-k-preserved : goal.loop-k-preserved
unfolding rows
loop-k-preserved c =
    let P = point c.args.c in
    let k = c.loop-k.k in
    let out = c.args.out.now in
    let room = c.requires.degree_in_bounds in
    let ready = (accepted_ready c.args.c c.requires.accepted).held in
    let (low, same) = at_front _ c.args.c.points k c.loop-k-test.true in
    let inside : k ≤ c.args.c.degree = omega arith in
    let size : length (rows k P) ≡ row_length * k = rows_long k P (λ i h. row_long (ready i (omega arith))) in
    let row_in : c.put_line.new.out ≡ placed c.loop-k.out (row_at k) (row (P k)) =
    c.put_line.ensures.1
    ∙ ap (λ (zs : List ℤ). after_line c.loop-k.out (row_at k) zs) (c.sides.ensures ∙ ap sides same)
    ∙ row_put c.loop-k.out (row_at k) (ready k inside) (omega (arith, room)) in
    rw add-one (row_in ∙ placed_then out header_length (row_length * k) (rows k P) (row (P k)) c.loop-k.out size (omega (arith, room)) c.loop-k.invariant)
