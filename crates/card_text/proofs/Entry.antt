-- Columns, line ends and lines: what is read at an offset, and the text that stands there.
-- Assumes nothing.
use mathlib.Core.Path.{◌≡◌, refl, sym, ap, ◌∙◌}
use mathlib.Core.Bool.{true, false≢true}
use mathlib.Core.List.{List, [], ◌∷◌, ◌++◌, append_assoc}
use Prim.Native.Nat.{ℕ, suc, ◌+◌, ◌*◌, ◌<◌}
use native.Mathlib.Nat.{add-zero}
use native.Mathlib.Decide.{dec_lt}
use native.Mathlib.Omega.{arith}
use lib.Dec.{eqb}
use lib.IntN.{ℤ, pos}
use lib.ListN.{length, get_or, take, drop, take-append-drop, get_or-eq_default}
use lib.Seq.{drop-cons, drop-drop, get_or-drop}
use borrow.Author.Tests.{eq-eqb, eqb-true}
use Rattle.std.specs.Prelude.{Option, Some, None}
use Rattle.columns.specs.Column.{column, read_at}
use Rattle.columns.specs.Line.{newline, columns, line, line_length, all_fit}
use Rattle.columns.proofs.Lines.{columns_long, columns-at}
use Rattle.columns.proofs.Promises.{column_is_ten, column_reads, read_is_written}
use Rattle.curve.specs.Refusals.{refusal, none}
use Rattle.card_text.specs.Reading.{well_formed, number_of, number_at, column_refusal, line_end_refusal}
use Rattle.card_text.proofs.Accepting.{unless-zero, unless-none}
use Rattle.card_text.proofs.Stands.{Stands, stands_none, stands_both, stands_second}

module _ (bytes : List ℕ) (at : ℕ) where
  pub entry-number : (z : ℤ) → read_at bytes at ≡ Some z → (none ≡ column_refusal bytes at) × (z ≡ number_at bytes at)
  unfolding column_refusal
  entry-number z e = rw e (refl, refl)

  pub entry_malformed : read_at bytes at ≡ None → (refusal 11 at ≡ column_refusal bytes at) × (pos 0 ≡ number_at bytes at)
  unfolding column_refusal
  entry_malformed e = rw e (refl, refl)

  -- an accepted column is its number's text
  pub entry_stands : (column_refusal bytes at).number ≡ 0 → Stands bytes at 10 (column (number_at bytes at))
  unfolding column_refusal
  entry_stands h =
      let it = read_is_written bytes at (number_at bytes at) (number (read_at bytes at) (unless-zero (well_formed (read_at bytes at)) 10 at h)) in
      record {
        rest = drop 10 (drop at bytes);
        here = sym (take-append-drop 10 (drop at bytes)) ∙ ap (λ (l : List ℕ). l ++ drop 10 (drop at bytes)) it.exactly;
        long = column_is_ten (number_at bytes at) it.fits;
      }
    where
      number : (c : Option ℤ) → well_formed c ≡ true → c ≡ Some (number_of c)
      number (Some z) e = refl
      number None e = absurd (false≢true e)

  -- the same of a line end
  pub end_stands : (line_end_refusal bytes at).number ≡ 0 → Stands bytes at 1 (newline ∷ [])
  unfolding line_end_refusal
  end_stands h =
      let e = eqb-true (get_or bytes at 0) newline (unless-zero (eqb (get_or bytes at 0) newline) 10 at h) in
      let in? = within e (dec_lt at (length bytes)) in
      record { rest = drop (suc at) bytes; here = drop-cons bytes at 0 in? ∙ ap (λ (b : ℕ). b ∷ drop (suc at) bytes) e; long = refl }
    where
      within : get_or bytes at 0 ≡ newline → Dec (at < length bytes) → at < length bytes
      within e (yes h) = h
      within e (no h) = absurd (omega (arith, get_or-eq_default bytes 0 {n = at} (omega arith)))

  pub stands_end : Stands bytes at 1 (newline ∷ []) → line_end_refusal bytes at ≡ none
  unfolding line_end_refusal
  stands_end s =
      let first : get_or (drop at bytes) 0 0 ≡ newline = ap (λ (l : List ℕ). get_or l 0 0) s.here in
      let e : get_or bytes at 0 ≡ newline = ap (λ (i : ℕ). get_or bytes i 0) (sym (add-zero at)) ∙ sym (get_or-drop at bytes 0 0) ∙ first in
      unless-none (eqb (get_or bytes at 0) newline) 11 at (eq-eqb (get_or bytes at 0) newline e)

-- no columns, and a column in front of others that stand behind it
pub columns-none : (bytes : List ℕ) (at : ℕ) → Stands bytes at 0 (columns [])
unfolding columns
columns-none bytes at = stands_none bytes at

pub column_then : {bytes : List ℕ} {at n : ℕ} (z : ℤ) (zs : List ℤ) → Stands bytes at 10 (column z) → Stands bytes (at + 10) n (columns zs) → Stands bytes at (10 + n) (columns (z ∷ zs))
unfolding columns
column_then z zs s t = stands_both s t

-- a line of numbers that fit is read as the numbers, and its end as a line end
module _ (bytes : List ℕ) (at : ℕ) (zs : List ℤ) (fits : all_fit zs ≡ true) (s : Stands bytes at (line_length (length zs)) (line zs)) where
  pub line_read : (k n : ℕ) → k < length zs → at + 10 * k ≡ n → (column_refusal bytes n ≡ none) × (number_at bytes n ≡ get_or zs k (pos 0))
  unfolding line
  line_read k n h e =
      let (a, b) = entry-number bytes n (get_or zs k (pos 0)) (column_reads bytes n (get_or zs k (pos 0)) ten) in
      (sym a, sym b)
    where
      ten : take 10 (drop n bytes) ≡ column (get_or zs k (pos 0))
      ten =
          ap (λ (l : List ℕ). take 10 l) (ap (λ (i : ℕ). drop i bytes) (sym e) ∙ sym (drop-drop (10 * k) at bytes) ∙ ap (λ (l : List ℕ). drop (10 * k) l) (s.here ∙ append_assoc (columns zs) (newline ∷ []) s.rest))
          ∙ columns-at zs ((newline ∷ []) ++ s.rest) k fits h

  pub line-end-read : line_end_refusal bytes (at + 10 * length zs) ≡ none
  unfolding line
  line-end-read = stands_end bytes (at + 10 * length zs) (stands_second (columns zs) (newline ∷ []) s (columns_long zs fits) refl)
