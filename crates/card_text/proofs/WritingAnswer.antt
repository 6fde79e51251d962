-- The writer's answer by whether the call is refused.
-- Assumes nothing.
use mathlib.Core.Path.{◌≡◌, sym, ap, ◌∙◌}
use mathlib.Core.Bool.{Bool, cond}
use mathlib.Core.List.{List, ◌++◌}
use Prim.Native.Nat.{ℕ, ◌+◌, ◌≤◌}
use native.Mathlib.Omega.{arith}
use lib.Dec.{leb, eqb}
use lib.ListN.{length, drop}
use borrow.Author.Tests.{le-leb, leb-true, eq-eqb, ne_eqb}
use Rattle.columns.specs.Line.{placed}
use Rattle.columns.proofs.Placed.{placed-front, placed_then}
use Rattle.curve.specs.declared.Curve.{Curve}
use Rattle.curve.specs.declared.Refusal.{Refusal}
use Rattle.curve.specs.Curve.{point}
use Rattle.curve.specs.Refusals.{none, curve_refusal, Accepted, unless_at, unless_refused}
use Rattle.curve.proofs.Tests.{or_split}
use Rattle.curve.proofs.Accepted.{number-accepted, accepted_facts}
use Rattle.card_text.specs.declared.CardWritten.{CardWritten}
use Rattle.card_text.specs.Card.{header, rows, card_of, header_length, card_length}
use Rattle.card_text.specs.Writing.{writing_refusal, write_card, bytes_after}
use Rattle.card_text.proofs.Accepting.{or_none, unless-zero, unless-none}
use Rattle.card_text.proofs.Fitting.{header_long, card_long}

module _ (c : Curve) (size : ℕ) where
  -- 12, or none
  abbrev lack : Refusal
  lack = unless_at (leb (card_length c.degree) size) 12 (card_length c.degree)

  pub writing-accepted : Accepted c → card_length c.degree ≤ size → writing_refusal c size ≡ none
  unfolding writing_refusal
  writing-accepted ok h =
      or_none (curve_refusal c) lack ok
      (unless-none (leb (card_length c.degree) size) 12 (card_length c.degree) (le-leb (card_length c.degree) size h))

  -- number 0 says that the curve is accepted and that there is room
  pub writing-zero : (writing_refusal c size).number ≡ 0 → Accepted c × (card_length c.degree ≤ size)
  unfolding writing_refusal
  writing-zero h =
      let (first, second) = or_split (curve_refusal c) lack h in
      (number-accepted c first, leb-true (card_length c.degree) size (unless-zero (leb (card_length c.degree) size) 11 (card_length c.degree) second))

-- ---- the answer, by the test of the refusal's number

module _ (c : Curve) (out : List ℕ) where
  abbrev length_if : Bool → Refusal → CardWritten
  length_if b r = cond b (record { refusal = r; length = card_length c.degree }) (record { refusal = r; length = 0 })

  abbrev bytes_if : Bool → List ℕ
  bytes_if b = cond b (card_of c ++ drop (card_length c.degree) out) out

  module _ {r : Refusal} (e : r ≡ writing_refusal c (length out)) where
    to-length : length_if (eqb r.number 0) r ≡ write_card c out
    unfolding write_card
    to-length = ap (λ (x : Refusal). length_if (eqb x.number 0) x) e

    to_bytes : bytes_if (eqb r.number 0) ≡ bytes_after c out
    unfolding bytes_after unless_refused
    to_bytes = ap (λ (x : Refusal). bytes_if (eqb x.number 0)) e

    pub write_refused : (r.number ≡ 0 → ⊥) → (record { refusal = r; length = 0 } ≡ write_card c out) × (out ≡ bytes_after c out)
    write_refused h =
        let t = sym (ne_eqb r.number 0 h) in
        (ap (λ (b : Bool). length_if b r) t ∙ to-length, ap bytes_if t ∙ to_bytes)

    pub write_accepted : r.number ≡ 0 →
        (record { refusal = r; length = card_length c.degree } ≡ write_card c out) × (card_of c ++ drop (card_length c.degree) out ≡ bytes_after c out)
    write_accepted h =
        let t = sym (eq-eqb r.number 0 h) in
        (ap (λ (b : Bool). length_if b r) t ∙ to-length, ap bytes_if t ∙ to_bytes)

  -- the lines written one after the other
  pub card_placed : Accepted c → card_length c.degree ≤ length out → {first last : List ℕ} →
      first ≡ placed out 0 (header c.degree) → last ≡ placed first header_length (rows (c.degree + 1) (point c)) →
      last ≡ card_of c ++ drop (card_length c.degree) out
  unfolding card_of
  card_placed ok room {first} {last} e f =
      f
      ∙ placed_then out 0 header_length (header c.degree) (rows (c.degree + 1) (point c)) first (header_long c.degree (accepted_facts c ok).few) (omega arith) e
      ∙ placed-front out (card_of c)
      ∙ ap (λ (n : ℕ). card_of c ++ drop n out) (card_long c ok)
