-- `put_line` meets its contract: where there is room and the numbers fit, columns, and the line end behind them.
use Rattle.std.proofs.Common.{◌+◌, ◌≤◌, length, sym, ◌∙◌}
use borrow.Author.Tests.{leb-true}
use Rattle.columns.specs.Line.{line_length}
use Rattle.columns.proofs.Put.{no_room, no_fit, line_put, line-ended}
use Rattle.columns.proofs.write.put_line.Goals as goal
use Rattle.columns.proofs.write.put_line.Goals.{then-not-has_room-via-then-not-has_room, then-not-has_room-via-else-not-has_room+then-not-all_fit}

pub returns-then-not-has_room : goal.returns-then-not-has_room
returns-then-not-has_room c =
    let out = c.args.out.now in
    let numbers = c.args.numbers.now in
    elim c.then-not-has_room.branch [
      | then-not-has_room-via-then-not-has_room w ↦ no_room out c.args.at numbers (sym c.has_room.ensures ∙ w.if-not-has_room.true)
      | then-not-has_room-via-else-not-has_room+then-not-all_fit w ↦ no_fit out c.args.at numbers (sym w.all_fit.ensures ∙ w.if-not-all_fit.true)
    ]

pub returns : goal.returns
returns c =
    let out = c.args.out.now in
    let numbers = c.args.numbers.now in
    let fits = sym c.all_fit.ensures ∙ c.if-not-all_fit.false in
    let room : c.args.at + line_length (length numbers) ≤ length out = leb-true _ _ (sym c.has_room.ensures ∙ c.if-not-has_room.false) in
    let (can, after) = line_put out c.args.at numbers fits room in
    (sym can, line-ended out c.args.at numbers fits room c.write_columns.ensures ∙ sym after)
