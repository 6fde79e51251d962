-- The answer of `write_card` for any curve and buffer, and the buffer afterwards.
-- Assumes nothing.
use Rattle.std.specs.Prelude.{ℕ, cond, List, ◌++◌, leb, eqb, length, drop}
use Rattle.curve.specs.declared.Curve.{Curve}
use Rattle.curve.specs.declared.Refusal.{Refusal}
use Rattle.curve.specs.Refusals.{◌or_else◌, unless_at, unless_refused, curve_refusal}
use Rattle.card_text.specs.declared.CardWritten.{CardWritten}
use Rattle.card_text.specs.Card.{card_of, card_length}

-- 1 to 3, then 12: a buffer of this size is shorter than the card
unfoldable pub writing_refusal : Curve → ℕ → Refusal
writing_refusal c size = curve_refusal c or_else unless_at (leb (card_length c.degree) size) 12 (card_length c.degree)

-- the length of the card, or 0 when refused
unfoldable pub write_card : Curve → List ℕ → CardWritten
write_card c out =
    let r = writing_refusal c (length out) in
    cond (eqb r.number 0) (record { refusal = r; length = card_length c.degree }) (record { refusal = r; length = 0 })

-- the card in front and the later bytes kept, or all kept when refused
unfoldable pub bytes_after : Curve → List ℕ → List ℕ
bytes_after c out =
    unless_refused (writing_refusal c (length out)) (card_of c ++ drop (card_length c.degree) out) out
