-- `main` is safe: what it writes out lies within the buffer that the report was written to.
use Rattle.std.proofs.Common.{◌≡◌, refl, sym, ℕ, ◌≤◌, length, List}
use native.Mathlib.Omega.{arith}
use lib.Seq.{length-take-le}
use Rattle.card_report.specs.Report.{shown, most_shown, reported}
use Rattle.card_report.proofs.Promises.{report_keeps}
use Rattle.card.proofs.main.Goals as goal

within : (input out : List ℕ) → length out ≡ most_shown → length (shown input) ≤ length (reported input out)
within input out whole = omega (arith, (report_keeps input out whole).fits, (report_keeps input out whole).size)

pub slice_bounds-shown-end : goal.slice_bounds-shown-end
slice_bounds-shown-end c = rw (c.report-n.ensures.0, c.report-n.ensures.1) (within _ _ refl)

pub slice_bounds-write_all-end : goal.slice_bounds-write_all-end
slice_bounds-write_all-end c =
    sym (length-take-le c.report-n.result c.report-n.new.out (rw (c.report-n.ensures.0, c.report-n.ensures.1) (within _ _ refl)))
