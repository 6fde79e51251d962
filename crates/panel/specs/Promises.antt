-- What is promised of the panel call beside its equation, over the definitions that its contract cites.
-- Assumes nothing.
use Rattle.std.specs.Prelude.{◌≡◌, cond, List, ℕ, ◌+◌, ◌*◌, ◌^◌, ◌≤◌, ltb, ℤ, pos, ◌-ℤ◌, length, get_or}
use Rattle.rational.specs.Rounding.{Rounding, down, up}
use Rattle.curve.specs.Rect.{Coordinate, resistance, reactance, side}
use Rattle.curve.specs.Refusals.{Accepted, AcceptedAt}
use Rattle.card_text.specs.Reading.{read_card}
use Rattle.panel.specs.Panel.{load_length, panel_refusal, panel_load, panel_bytes}

-- ---- reading the bytes back

-- the number whose four bytes, least first, stand at an offset
abbrev pub bits_at : List ℕ → ℕ → ℕ
bits_at bytes at =
    get_or bytes at 0 + 256 * get_or bytes (at + 1) 0 + 65536 * get_or bytes (at + 2) 0 + 16777216 * get_or bytes (at + 3) 0

-- the whole number whose 32 bits in two's complement these are
abbrev pub signed_of : ℕ → ℤ
signed_of bits = cond (ltb bits (2 ^ 31)) (pos bits) (pos bits -ℤ pos (2 ^ 32))

-- where a side's bytes begin
abbrev pub offset : Coordinate → Rounding → ℕ
offset resistance down = 0
offset resistance up = 4
offset reactance down = 8
offset reactance up = 12

-- ---- the promises

-- 0 is answered only for an accepted card and parameter and a buffer that is long enough
pub record Answered (card : List ℕ) (num den size : ℕ) : Type 0 where
  pub read : (read_card card).refusal.number ≡ 0
  pub curve : Accepted (read_card card).curve
  pub parameter : AcceptedAt num den
  pub room : load_length ≤ size

abbrev pub PanelAnswers : Type 0
PanelAnswers = (card : List ℕ) (num den size : ℕ) → (panel_refusal card num den size).number ≡ 0 → Answered card num den size

-- on 0 the bytes read back are exactly the load's four sides
abbrev pub PanelBytes : Type 0
PanelBytes =
    (card : List ℕ) (num den : ℕ) (out : List ℕ) → (panel_refusal card num den (length out)).number ≡ 0 →
    (x : Coordinate) (r : Rounding) → signed_of (bits_at (panel_bytes card num den out) (offset x r)) ≡ side x r (panel_load card num den)

-- the buffer keeps its length and its later bytes, and on a refusal all of them
pub record Kept (card : List ℕ) (num den : ℕ) (out : List ℕ) : Type 0 where
  pub size : length (panel_bytes card num den out) ≡ length out
  pub later : (k : ℕ) → load_length ≤ k → get_or (panel_bytes card num den out) k 0 ≡ get_or out k 0
  pub refused : ((panel_refusal card num den (length out)).number ≡ 0 → ⊥) → panel_bytes card num den out ≡ out

abbrev pub PanelKeeps : Type 0
PanelKeeps = (card : List ℕ) (num den : ℕ) (out : List ℕ) → Kept card num den out
