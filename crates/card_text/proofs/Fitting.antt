-- Sides in range and degrees fit a column, so each line is put where it has room, and has its length.
-- Assumes nothing.
use mathlib.Core.Path.{◌≡◌, refl, ◌∙◌}
use mathlib.Core.List.{List, [], ◌∷◌}
use mathlib.Core.Bool.{true}
use Prim.Native.Nat.{ℕ, zero, suc, ◌+◌, ◌*◌, ◌≤◌, ◌<◌}
use native.Mathlib.Omega.{arith}
use lib.Dec.{leb→le}
use lib.IntN.{ℤ, pos, negsuc}
use lib.ListN.{length, length-append}
use borrow.Author.Tests.{le-leb}
use Rattle.rational.proofs.Order.{pos_reflects}
use Rattle.rational.specs.Rounding.{down, up}
use Rattle.columns.specs.Column.{fits_column}
use Rattle.columns.specs.Line.{placed, all_fit, after_line}
use Rattle.columns.proofs.Lines.{number_fits, fit_none, fit_more, line_long}
use Rattle.columns.proofs.Put.{line_put}
use Rattle.curve.specs.declared.Curve.{Curve}
use Rattle.curve.specs.declared.Rect.{Rect}
use Rattle.curve.specs.Limits.{max_degree, places}
use Rattle.curve.specs.Rect.{resistance, reactance, sides}
use Rattle.curve.specs.Curve.{point}
use Rattle.curve.specs.Refusals.{Accepted}
use Rattle.curve.specs.Inner.{Side, Held}
use Rattle.curve.proofs.Accepted.{accepted_ready}
use Rattle.card_text.specs.Card.{header, row, rows, card_of, header_length, row_length, card_length}

pub side-fits-column : (z : ℤ) → Side z → fits_column z ≡ true
unfolding fits_column
side-fits-column (pos n) h = let g = pos_reflects h.to in le-leb n 9999999999 (omega arith)
side-fits-column (negsuc n) h = let g = leb→le n 16777215 h.from.le in le-leb (suc n) 999999999 (omega arith)

pub sides_fit : {p : Rect} → Held p → all_fit (sides p) ≡ true
sides_fit {p} h =
    let r = h.at resistance in
    let x = h.at reactance in
    let high = fit_more p.reactance.high [] (side-fits-column _ (x.at up)) fit_none in
    let second = fit_more p.reactance.low (p.reactance.high ∷ []) (side-fits-column _ (x.at down)) high in
    let last = fit_more p.resistance.high (p.reactance.low ∷ p.reactance.high ∷ []) (side-fits-column _ (r.at up)) second in
    fit_more p.resistance.low (p.resistance.high ∷ p.reactance.low ∷ p.reactance.high ∷ []) (side-fits-column _ (r.at down)) last

pub header-fits : (n : ℕ) → n ≤ max_degree → all_fit (pos n ∷ []) ≡ true
header-fits n h = fit_more (pos n) [] (number_fits n (omega arith)) fit_none

pub within_places : (c : Curve) → Accepted c → c.degree + 1 ≤ places
within_places c ok = let few = (accepted_ready c ok).few in omega arith

-- ---- what is put

pub header_put : (bytes : List ℕ) (n : ℕ) → n ≤ max_degree → header_length ≤ length bytes → after_line bytes 0 (pos n ∷ []) ≡ placed bytes 0 (header n)
unfolding header
header_put bytes n few room = (line_put bytes 0 (pos n ∷ []) (header-fits n few) room).1

pub row_put : (bytes : List ℕ) (at : ℕ) {p : Rect} → Held p → at + row_length ≤ length bytes → after_line bytes at (sides p) ≡ placed bytes at (row p)
unfolding row
row_put bytes at {p} h room = (line_put bytes at (sides p) (sides_fit h) room).1

-- ---- lengths

pub header_long : (n : ℕ) → n ≤ max_degree → length (header n) ≡ header_length
unfolding header
header_long n h = line_long (pos n ∷ []) (header-fits n h)

pub row_long : {p : Rect} → Held p → length (row p) ≡ row_length
unfolding row
row_long {p} h = line_long (sides p) (sides_fit h)

pub rows_long : (m : ℕ) (P : ℕ → Rect) → ((k : ℕ) → k < m → length (row (P k)) ≡ row_length) → length (rows m P) ≡ row_length * m
unfolding rows
rows_long zero P h = refl
rows_long (suc m) P h =
    length-append (rows m P) (row (P m)) ∙ rw (rows_long m P (λ k l. h k (omega arith)), h m (omega arith)) (omega arith)

pub card_long : (c : Curve) → Accepted c → length (card_of c) ≡ card_length c.degree
unfolding card_of
card_long c ok =
    let ready = accepted_ready c ok in
    length-append (header c.degree) (rows (c.degree + 1) (point c))
    ∙ rw (header_long c.degree ready.few, rows_long (c.degree + 1) (point c) (λ k h. row_long (ready.held k (omega arith))))
