-- What the program `card` prints for the bytes that it reads, and how it gets into a lent buffer.
-- Assumes nothing.
use Rattle.std.specs.Prelude.{ℕ, cond, List, [], ◌∷◌, ◌++◌, eqb, pos, length, take, drop}
use Rattle.columns.specs.Line.{line}
use Rattle.curve.specs.declared.Curve.{Curve}
use Rattle.curve.specs.declared.Refusal.{Refusal}
use Rattle.curve.specs.Calls.{bounded, evaluated}
use Rattle.card_text.specs.Card.{row}
use Rattle.card_text.specs.Reading.{read_card}

-- the most bytes that are taken as a card
abbrev pub most_bytes : ℕ
most_bytes = 4096

-- the lines of a curve: the bounds (the paper's span), and the load at 1/2
unfoldable pub curve_lines : Curve → List ℕ
curve_lines c = row (bounded c).rect ++ row (evaluated c 1 2).load

-- the line of a refusal: number and place
unfoldable pub refusal_line : Refusal → List ℕ
refusal_line r = line (pos r.number ∷ pos r.place ∷ [])

-- what is printed for an input
unfoldable pub shown : List ℕ → List ℕ
shown input =
    let read = read_card (take most_bytes input) in
    cond (eqb read.refusal.number 0) (curve_lines read.curve) (refusal_line read.refusal)

-- the bytes of two lines of rectangles, which are the longest report
abbrev pub most_shown : ℕ
most_shown = 82

-- the buffer after the call: what is shown in front, and the later bytes kept
unfoldable pub reported : List ℕ → List ℕ → List ℕ
reported input out = shown input ++ drop (length (shown input)) out
