-- `put_interval` meets its contract: the library's bytes of a side are those of its bits.
use Rattle.std.proofs.Common.{◌≡◌, ℤ, pos, negsuc, ◌++◌, List, ℕ, length, drop, refl, ap, ap₂, ◌∙◌, arith}
use Rattle.std.specs.Int.{w32, to_le_bytes}
use mir.Val.{of_z}
use Rattle.rational.proofs.Machine.{told}
use Rattle.panel.specs.Panel.{bits_of, bytes_of_side, interval_bytes}
use Rattle.panel.proofs.Lengths.{side_long, halves}
use Rattle.panel.proofs.side_bytes.put_interval.Goals as goal

bytes_are : (z : ℤ) → to_le_bytes w32 (of_z w32 z) ≡ bytes_of_side z
unfolding bytes_of_side bits_of
bytes_are (pos n) = refl
bytes_are (negsuc n) = refl

pub returns : goal.returns
unfolding interval_bytes
returns c =
    let i = c.args.i in
    let low : c.copy_from_slice.new.self ≡ bytes_of_side i.low =
    c.copy_from_slice.ensures.after ∙ c.to_le_bytes.ensures ∙ rw (told i.low (omega arith)) (bytes_are i.low) in
    let high : c.copy_from_slice-2.new.self ≡ bytes_of_side i.high =
    c.copy_from_slice-2.ensures.after ∙ c.to_le_bytes-2.ensures ∙ rw (told i.high (omega arith)) (bytes_are i.high) in
    halves 4 c.copy_from_slice.new.self (drop 4 c.args.out.now) c.copy_from_slice-2.new.self (ap length low ∙ side_long i.low)
    ∙ ap₂ (λ (a b : List ℕ). a ++ b) low high
