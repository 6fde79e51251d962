-- A side has four bytes, so an interval has eight and a load sixteen. And what two halves of some bytes are, written one after the other.
-- Assumes nothing.
use Rattle.std.proofs.lemmas.List.{drop_all}
use mathlib.Core.Path.{◌≡◌, refl, ◌∙◌}
use mathlib.Core.List.{List, ◌++◌, append-nil}
use Prim.Native.Nat.{ℕ, ◌-◌}
use native.Mathlib.Omega.{arith}
use lib.IntN.{ℤ}
use lib.ListN.{length, take, drop, length-append}
use lib.Seq.{take_at, drop_at}
use Rattle.curve.specs.declared.Interval.{Interval}
use Rattle.curve.specs.declared.Rect.{Rect}
use Rattle.panel.specs.Panel.{bytes_of_side, interval_bytes, load_bytes, load_length}

pub side_long : (z : ℤ) → length (bytes_of_side z) ≡ 4
unfolding bytes_of_side
side_long z = refl

pub interval_long : (i : Interval) → length (interval_bytes i) ≡ 8
unfolding interval_bytes
interval_long i = length-append (bytes_of_side i.low) (bytes_of_side i.high) ∙ rw (side_long i.low, side_long i.high)

pub load_long : (p : Rect) → length (load_bytes p) ≡ load_length
unfolding load_bytes
load_long p =
    length-append (interval_bytes p.resistance) (interval_bytes p.reactance)
    ∙ rw (interval_long p.resistance, interval_long p.reactance)

pub halves : (n : ℕ) (first rest second : List ℕ) → length first ≡ n →
    take n (first ++ rest) ++ (second ++ drop (length (first ++ rest) - n) (drop n (first ++ rest))) ≡ first ++ second
halves n first rest second e =
    rw (take_at first rest n e, drop_at first rest n e, drop_all (length (first ++ rest) - n) rest (omega (arith, length-append first rest)), append-nil)
