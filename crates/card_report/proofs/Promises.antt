-- The promises of specs/Promises.antt, proved.
-- Assumes nothing.
use mathlib.Core.Path.{◌≡◌, refl, ap, ◌∙◌}
use mathlib.Core.Bool.{Bool, true, false}
use mathlib.Core.List.{List}
use Prim.Native.Nat.{ℕ, ◌+◌, ◌-◌, ◌≤◌}
use native.Mathlib.Omega.{arith}
use lib.Dec.{eqb}
use lib.ListN.{length, take, drop, length-append, length-drop}
use lib.Seq.{take-append_seam, get_or-append-add, get_or-drop}
use borrow.Author.Tests.{eqb-true, eqb-false}
use Rattle.card_text.specs.Reading.{read_card}
use Rattle.card_report.specs.Report.{most_bytes, shown, most_shown, reported}
use Rattle.card_report.specs.Promises.{ShownLines, ReportShows, ReportKeeps}
use Rattle.card_report.proofs.Answer.{lines_long, refusal_long, read-within, shown-refused, shown-accepted}

pub shown_lines : ShownLines
shown_lines input =
    let card = take most_bytes input in
    record {
      read = λ h. ap length (shown-accepted input h) ∙ lines_long (read_card card).curve;
      refused = λ h. ap length (shown-refused input h) ∙ refusal_long (read_card card).refusal (read-within input);
    }

shown-short : (input : List ℕ) → length (shown input) ≤ most_shown
shown-short input = go (eqb n 0) refl
  where
    n : ℕ
    n = (read_card (take most_bytes input)).refusal.number

    go : (b : Bool) → eqb n 0 ≡ b → length (shown input) ≤ most_shown
    go true e = omega (arith, (shown_lines input).read (eqb-true n 0 e))
    go false e = omega (arith, (shown_lines input).refused (eqb-false n 0 e))

pub report_shows : ReportShows
unfolding reported
report_shows input out = take-append_seam (shown input) (drop (length (shown input)) out)

pub report_keeps : ReportKeeps
unfolding reported
report_keeps input out whole =
    let n = length (shown input) in
    let short = shown-short input in
    record {
      fits = omega arith;
      size = length-append (shown input) (drop n out) ∙ rw length-drop (omega arith);
      later = λ k behind. let e : n + (k - n) ≡ k = omega arith in rw (← e, get_or-append-add, get_or-drop);
    }
