-- What an attempt to put a line of numbers at an offset answers and leaves.
-- Assumes nothing.
use mathlib.Core.Path.{◌≡◌, refl, ap, ◌∙◌}
use mathlib.Core.Bool.{true, false, and-false}
use mathlib.Core.List.{List, [], ◌∷◌}
use Prim.Native.Nat.{ℕ, ◌+◌, ◌*◌, ◌≤◌}
use native.Mathlib.Omega.{arith}
use lib.Dec.{leb}
use lib.IntN.{ℤ}
use lib.ListN.{length, set}
use borrow.Author.Tests.{le-leb}
use Rattle.columns.specs.Line.{placed, newline, columns, line, line_length, all_fit, can_put_line, after_line}
use Rattle.columns.proofs.Lines.{columns_long}
use Rattle.columns.proofs.Placed.{placed_byte, placed_then, placed-length}

module _ (bytes : List ℕ) (at : ℕ) (zs : List ℤ) where
  -- nothing is put where there is no room, or a number does not fit
  pub no_room : leb (at + line_length (length zs)) (length bytes) ≡ false → (false ≡ can_put_line bytes at zs) × (bytes ≡ after_line bytes at zs)
  unfolding can_put_line after_line
  no_room e = rw e (refl, refl)

  pub no_fit : all_fit zs ≡ false → (false ≡ can_put_line bytes at zs) × (bytes ≡ after_line bytes at zs)
  unfolding can_put_line after_line
  no_fit e = rw (e, and-false) (refl, refl)

  -- and otherwise all of it is
  pub line_put : all_fit zs ≡ true → at + line_length (length zs) ≤ length bytes → (can_put_line bytes at zs ≡ true) × (after_line bytes at zs ≡ placed bytes at (line zs))
  unfolding can_put_line after_line
  line_put fits room = rw (le-leb (at + line_length (length zs)) (length bytes) room, fits) (refl, refl)

  -- its columns, and the line end behind them
  pub line-ended :
      all_fit zs ≡ true → at + line_length (length zs) ≤ length bytes → {out : List ℕ} → out ≡ placed bytes at (columns zs) →
      set out (at + 10 * length zs) newline ≡ placed bytes at (line zs)
  unfolding line
  line-ended fits room {out} here =
      placed_byte out (at + 10 * length zs) newline (omega (arith, ap length here, columns_long zs fits, placed-length bytes at (columns zs) (let size = columns_long zs fits in omega arith)))
      ∙ placed_then bytes at (10 * length zs) (columns zs) (newline ∷ []) out (columns_long zs fits) (omega arith) here
