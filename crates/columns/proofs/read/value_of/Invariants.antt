-- Going on from here gives the whole value, and m is bounded by the bytes read so far, each of which shows at most 207, or 9 × 23.
use Rattle.std.proofs.Common.{◌≡◌, ◌≤◌, ◌+◌, ◌*◌, ◌^◌, drop}
use Rattle.columns.specs.Column.{value_after}
use Rattle.columns.proofs.read.value_of.Given as goal

abbrev pub invariant-loop-byte : goal.invariant-loop-byte
invariant-loop-byte l = record { onward : value_after l.m (drop l.byte-index l.b) ≡ value_after 0 l.b; bounded : l.m + 23 ≤ 23 * 10 ^ l.byte-index }
