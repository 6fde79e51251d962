-- What is promised of the report beside its equation, over the definitions that its contract cites.
-- Assumes nothing.
use Rattle.std.specs.Prelude.{◌≡◌, List, ℕ, ◌≤◌, length, get_or, take}
use Rattle.card_text.specs.Reading.{read_card}
use Rattle.card_report.specs.Report.{most_bytes, shown, most_shown, reported}

-- two lines of 41 bytes for a card that is read, and one of 21 for a refusal
pub record Lines (input : List ℕ) : Type 0 where
  pub read : (read_card (take most_bytes input)).refusal.number ≡ 0 → length (shown input) ≡ most_shown
  pub refused : ((read_card (take most_bytes input)).refusal.number ≡ 0 → ⊥) → length (shown input) ≡ 21

abbrev pub ShownLines : Type 0
ShownLines = (input : List ℕ) → Lines input

-- the bytes that the call says it wrote are what is shown
abbrev pub ReportShows : Type 0
ReportShows = (input out : List ℕ) → take (length (shown input)) (reported input out) ≡ shown input

-- what is shown fits the buffer, which keeps its length and the bytes behind
pub record Kept (input out : List ℕ) : Type 0 where
  pub fits : length (shown input) ≤ length out
  pub size : length (reported input out) ≡ length out
  pub later : (k : ℕ) → length (shown input) ≤ k → get_or (reported input out) k 0 ≡ get_or out k 0

abbrev pub ReportKeeps : Type 0
ReportKeeps = (input out : List ℕ) → length out ≡ most_shown → Kept input out
