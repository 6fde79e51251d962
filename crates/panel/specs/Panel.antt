-- The panel call: its refusal, and the lent buffer afterwards.
-- Assumes nothing.
use Rattle.std.specs.Prelude.{ℕ, suc, ◌-◌, ◌/◌, ◌%◌, ◌^◌, List, [], ◌∷◌, ◌++◌, leb, ℤ, pos, negsuc, length, drop}
use Rattle.curve.specs.declared.Interval.{Interval}
use Rattle.curve.specs.declared.Rect.{Rect}
use Rattle.curve.specs.declared.Refusal.{Refusal}
use Rattle.curve.specs.Refusals.{◌or_else◌, parameter_refusal, unless_at, unless_refused}
use Rattle.curve.specs.Calls.{evaluated}
use Rattle.card_text.specs.Reading.{card_refusal, read_card}

-- ---- the bytes

-- the 32 bits of a side in two's complement, as a natural number: a negative side is counted back from 2^32; `negsuc n` is −(n + 1)
unfoldable pub bits_of : ℤ → ℕ
bits_of (pos n) = n
bits_of (negsuc n) = 2 ^ 32 - suc n

-- a side's four bytes, least first
unfoldable pub bytes_of_side : ℤ → List ℕ
bytes_of_side z =
    let bits = bits_of z in
    (bits % 256) ∷ (bits / 256 % 256) ∷ (bits / 65536 % 256) ∷ (bits / 16777216 % 256) ∷ []

-- the sides' bytes in the rectangle's order: resistance low and high, reactance low and high
unfoldable pub interval_bytes : Interval → List ℕ
interval_bytes i = bytes_of_side i.low ++ bytes_of_side i.high

unfoldable pub load_bytes : Rect → List ℕ
load_bytes p = interval_bytes p.resistance ++ interval_bytes p.reactance

-- how many bytes a load has
abbrev pub load_length : ℕ
load_length = 16

-- ---- the call

-- the card's refusals, then 4 and 5, then 12: a buffer of this size is too short
unfoldable pub panel_refusal : List ℕ → ℕ → ℕ → ℕ → Refusal
panel_refusal card num den size =
    card_refusal card or_else parameter_refusal num den or_else unless_at (leb load_length size) 12 load_length

-- the load of the card's curve at num/den
abbrev pub panel_load : List ℕ → ℕ → ℕ → Rect
panel_load card num den = (evaluated (read_card card).curve num den).load

-- the buffer: the load's bytes in front and the later ones kept, or all kept when refused
unfoldable pub panel_bytes : List ℕ → ℕ → ℕ → List ℕ → List ℕ
panel_bytes card num den out =
    unless_refused (panel_refusal card num den (length out)) (load_bytes (panel_load card num den) ++ drop load_length out) out
