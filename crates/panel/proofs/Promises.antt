-- The promises of specs/Promises.antt, proved.
-- Assumes nothing.
use mathlib.Core.Path.{◌≡◌, refl, sym, ap, ◌∙◌, subst}
use mathlib.Core.Bool.{Bool, true, false, cond}
use mathlib.Core.List.{List, ◌++◌}
use Prim.Native.Nat.{ℕ, suc, ◌+◌, ◌-◌, ◌*◌, ◌/◌, ◌%◌, ◌^◌, ◌≤◌, ◌<◌}
use native.Mathlib.Nat.{div-add-mod', div-div-eq-div-mul, mod-eq_of_lt}
use native.Mathlib.Omega.{arith}
use lib.Dec.{eqb}
use lib.IntN.{ℤ, pos, negsuc, ◌-ℤ◌}
use lib.ListN.{length, get_or, drop, length-append, length-drop}
use lib.Seq.{get_or-drop, get_or-append-add}
use mir.Syntax.{w32}
use mir.Val.{SFits}
use borrow.Author.Tests.{lt-ltb, le-ltb, eqb-true, eqb-false}
use Rattle.rational.specs.Rounding.{Rounding, down, up}
use Rattle.curve.specs.declared.Rect.{Rect}
use Rattle.curve.specs.Rect.{Coordinate, resistance, reactance, side}
use Rattle.curve.specs.Inner.{Held}
use Rattle.curve.proofs.Loads.{load-held}
use Rattle.curve.proofs.Refused.{number_passed}
use Rattle.curve.proofs.Sides.{side-fits}
use Rattle.card_text.specs.Reading.{read_card}
use Rattle.card_text.proofs.ReadingAnswer.{read-refusal}
use Rattle.panel.specs.Panel.{bits_of, bytes_of_side, interval_bytes, load_bytes, load_length, panel_refusal, panel_load, panel_bytes}
use Rattle.panel.specs.Promises.{bits_at, signed_of, offset, PanelAnswers, PanelBytes, PanelKeeps}
use Rattle.panel.proofs.Call.{card_accepted, none-refused, kept, written}
use Rattle.panel.proofs.Lengths.{load_long}

pub panel_answers : PanelAnswers
panel_answers card num den size h =
    let (read, at, room) = none-refused card num den size h in
    record {
      read = number_passed (sym (read-refusal card)) read;
      curve = card_accepted card read;
      parameter = at;
      room = room;
    }

-- ---- reading back

bits_small : (z : ℤ) → SFits w32 z → bits_of z < 2 ^ 32
unfolding bits_of
bits_small (pos n) f = let g = f.sfits in omega arith
bits_small (negsuc n) f = omega arith

-- a number with quotients and remainders by 256, three times over
assembled : (b q r s x y z : ℕ) → q * 256 + x ≡ b → r * 256 + y ≡ q → s * 256 + z ≡ r → x + 256 * y + 65536 * z + 16777216 * s ≡ b
assembled b q r s x y z d e f = omega arith

-- four bytes of some bits, put together again
joined : (b : ℕ) → b < 2 ^ 32 → b % 256 + 256 * (b / 256 % 256) + 65536 * (b / 65536 % 256) + 16777216 * (b / 16777216 % 256) ≡ b
joined b h =
    let top : b / 16777216 % 256 ≡ b / 16777216 = mod-eq_of_lt (omega arith) in
    let whole = assembled b (b / 256) (b / 65536) (b / 16777216) (b % 256) (b / 256 % 256) (b / 65536 % 256) in
    rw top
    (whole (div-add-mod' b 256) (rw (div-div-eq-div-mul b 256 256) at (div-add-mod' (b / 256) 256)) (rw (div-div-eq-div-mul b 65536 256) at (div-add-mod' (b / 65536) 256)))

-- bits that stand for a number
signed_bits : (z : ℤ) → SFits w32 z → signed_of (bits_of z) ≡ z
unfolding bits_of
signed_bits (pos n) f = ap (λ (b : Bool). cond b (pos n) (pos n -ℤ pos (2 ^ 32))) (lt-ltb n (2 ^ 31) f.sfits)
signed_bits (negsuc n) f =
    let g = f.sfits in
    let b = 2 ^ 32 - suc n in
    let back : 2 ^ 32 - suc b ≡ n = omega arith in
    ap (λ (t : Bool). cond t (pos b) (pos b -ℤ pos (2 ^ 32))) (le-ltb b (2 ^ 31) (omega arith))
    ∙ ap (λ (t : Bool). cond t (negsuc (2 ^ 32 - suc b)) (pos (b - 2 ^ 32))) (lt-ltb b (2 ^ 32) (omega arith))
    ∙ ap negsuc back

side-read : (z : ℤ) → SFits w32 z → signed_of (bits_at (bytes_of_side z) 0) ≡ z
unfolding bytes_of_side
side-read z f = ap signed_of (joined (bits_of z) (bits_small z f)) ∙ signed_bits z f

load_read : (p : Rect) → Held p → (rest : List ℕ) (x : Coordinate) (r : Rounding) → signed_of (bits_at (load_bytes p ++ rest) (offset x r)) ≡ side x r p
unfolding load_bytes interval_bytes bytes_of_side
load_read p held rest resistance down = side-read p.resistance.low (side-fits ((held.at resistance).at down))
load_read p held rest resistance up = side-read p.resistance.high (side-fits ((held.at resistance).at up))
load_read p held rest reactance down = side-read p.reactance.low (side-fits ((held.at reactance).at down))
load_read p held rest reactance up = side-read p.reactance.high (side-fits ((held.at reactance).at up))

pub panel-bytes : PanelBytes
panel-bytes card num den out h x r =
    let c = (read_card card).curve in
    ap (λ (l : List ℕ). signed_of (bits_at l (offset x r))) (sym (written card num den out refl h)) ∙ load_read (panel_load card num den) (load-held c num den) (drop load_length out) x r

-- ---- what is kept

module _ (card : List ℕ) (num den : ℕ) (out : List ℕ) where
  pub panel_refused : ((panel_refusal card num den (length out)).number ≡ 0 → ⊥) → panel_bytes card num den out ≡ out
  panel_refused h = sym (kept card num den out refl h)

  -- what holds of the buffer where it was written and where it was kept
  either : (F : List ℕ → Type 0) → (load_length ≤ length out → F (load_bytes (panel_load card num den) ++ drop load_length out)) → F out → F (panel_bytes card num den out)
  either F front same = go (eqb n 0) refl
    where
      n : ℕ
      n = (panel_refusal card num den (length out)).number

      go : (b : Bool) → eqb n 0 ≡ b → F (panel_bytes card num den out)
      go true e =
          let h = eqb-true n 0 e in
          subst F (written card num den out refl h) (front (panel_answers card num den (length out) h).room)
      go false e = subst F (kept card num den out refl (eqb-false n 0 e)) same

  size : length (panel_bytes card num den out) ≡ length out
  size =
      either (λ l. length l ≡ length out)
      (λ room. length-append (load_bytes (panel_load card num den)) (drop load_length out) ∙ rw (load_long (panel_load card num den), length-drop) (omega arith))
      refl

  later : (k : ℕ) → load_length ≤ k → get_or (panel_bytes card num den out) k 0 ≡ get_or out k 0
  later k h =
      either (λ l. get_or l k 0 ≡ get_or out k 0)
      (λ room. let e : length (load_bytes (panel_load card num den)) + (k - load_length) ≡ k = omega (arith, load_long (panel_load card num den)) in rw (← e, get_or-append-add, load_long (panel_load card num den), get_or-drop))
      refl

pub panel_keeps : PanelKeeps
panel_keeps card num den out = record { size = size card num den out; later = later card num den out; refused = panel_refused card num den out }
