-- Laws of reading a column at an offset.
-- Assumes nothing.
use Prim.Native.Nat.{ℕ, ◌+◌, ◌≤◌, ◌<◌}
use native.Mathlib.Nat.{le_refl}
use native.Mathlib.Omega.{arith}
use mathlib.Core.Bool.{Bool, true, false, cond, false≢true}
use mathlib.Core.List.{List}
use mathlib.Core.Path.{◌≡◌, refl, sym, ap, ◌∙◌}
use lib.ListN.{length, take, drop, length-take, length-drop}
use Rattle.std.specs.Prelude.{slice_range}
use Rattle.std.proofs.lemmas.Slice.{between_to_end}
use Rattle.columns.specs.Column.{column, fits_column, decode, same_bytes, read_bytes, read_at}
use Rattle.std.specs.Prelude.{Some, None}
use Rattle.columns.proofs.Decode.{same_eq, same_refl, column_long, fits_of_ten}

-- bytes that are no column are malformed
pub malformed : (bytes : List ℕ) → (column (decode bytes) ≡ bytes → ⊥) → None ≡ read_bytes bytes
unfolding read_bytes
malformed bytes differ = by (same_bytes (column (decode bytes)) bytes) refl
  where
    by : (t : Bool) → same_bytes (column (decode bytes)) bytes ≡ t → None ≡ cond t (Some (decode bytes)) None
    by true e = absurd (differ (same_eq (column (decode bytes)) bytes e))
    by false e = refl

pub well-formed : (bytes : List ℕ) → column (decode bytes) ≡ bytes → Some (decode bytes) ≡ read_bytes bytes
unfolding read_bytes
well-formed bytes e =
    let t : same_bytes (column (decode bytes)) bytes ≡ true = rw e (same_refl bytes) in
    rw t

-- ten bytes of what is behind the offset, as the code takes them
pub ten_bytes : (bytes behind ten : List ℕ) (at : ℕ) → behind ≡ slice_range bytes at (length bytes) → ten ≡ slice_range behind 0 10 → ten ≡ take 10 (drop at bytes)
ten_bytes bytes behind ten at e f = f ∙ ap (λ (l : List ℕ). take 10 l) (e ∙ between_to_end bytes at (length bytes) (le_refl (length bytes)))

-- fewer than ten bytes, or a number that does not fit
pub too_short : (bytes : List ℕ) (at : ℕ) → length bytes < at + 10 → None ≡ read_at bytes at
unfolding read_at
too_short bytes at h =
    let s : length (take 10 (drop at bytes)) < 10 = simp (length-take, length-drop) (omega arith) in
    malformed (take 10 (drop at bytes)) (λ same. omega (arith, column_long (decode (take 10 (drop at bytes))), ap length same))

pub too_long : (bytes : List ℕ) → length bytes ≤ 10 → fits_column (decode bytes) ≡ false → None ≡ read_bytes bytes
too_long bytes h e = malformed bytes (λ same. absurd (false≢true (sym e ∙ fits_of_ten (decode bytes) (rw same h))))
