-- The promises of specs/Promises.antt, proved.
-- Assumes nothing.
use Prim.Native.Nat.{◌+◌, ◌*◌, ◌≤◌}
use native.Mathlib.Omega.{arith}
use mathlib.Core.List.{◌++◌, append_assoc}
use mathlib.Core.Path.{◌≡◌, ap}
use lib.IntN.{pos}
use lib.ListN.{length, get_or, take, drop, length-take, length-drop, take-append-drop}
use lib.Seq.{drop-drop, take-add}
use Rattle.columns.specs.Column.{column, read_at}
use Rattle.columns.specs.Line.{placed, columns}
use Rattle.columns.specs.Promises.{FitsIsWidth, ColumnIsTen, LineIsLong, ColumnReads, WrittenReads, ReadIsWritten, PutKeeps}
use Rattle.columns.proofs.Digits.{fits_width}
use Rattle.columns.proofs.Decode.{column_ten, column_long, fits_of_ten, read-column_bytes, read_number}
use Rattle.columns.proofs.Lines.{columns-at, line_long}
use Rattle.columns.proofs.Placed.{placed-from, placed-length, placed-before, placed-behind}

pub fits_is_width : FitsIsWidth
fits_is_width = fits_width

pub column_is_ten : ColumnIsTen
column_is_ten = column_ten

pub column_reads : ColumnReads
unfolding read_at
column_reads bytes at z e = rw e (read-column_bytes z)

pub line_is_long : LineIsLong
line_is_long = line_long

pub written_reads : WrittenReads
written_reads bytes at zs more k fits room h =
    let text = columns zs ++ more in
    let rest = drop (at + length text) bytes in
    column_reads (placed bytes at text) (at + 10 * k) (get_or zs k (pos 0))
    (rw (← drop-drop (10 * k) at (placed bytes at text), placed-from bytes at text room, append_assoc) (columns-at zs (more ++ rest) k fits h))

pub put_keeps : PutKeeps
put_keeps bytes at text room =
    record { size = placed-length bytes at text room; before = placed-before bytes at text room; behind = placed-behind bytes at text room }

pub read_is_written : ReadIsWritten
unfolding read_at placed
read_is_written bytes at z e =
    let ten = read_number (take 10 (drop at bytes)) z e in
    let w : length (take 10 (drop at bytes)) ≡ length (column z) = ap length ten in
    let short : length (column z) ≤ 10 = omega (arith, length-take 10 (drop at bytes)) in
    let fits = fits_of_ten z short in
    record {
      fits = fits;
      room = omega (arith, column_long z, length-take 10 (drop at bytes), length-drop at bytes);
      exactly = ten;
      again = rw (column_ten z fits, ← ten, ← take-add at 10 bytes) (take-append-drop (at + 10) bytes);
    }
