-- The invariant of `block_from`: the first i entries are copied.
use Rattle.std.proofs.Common.{◌≡◌, ℕ, ◌+◌, ◌<◌, length, get_or}
use Rattle.sixteenths.specs.Weights.{block}
use Rattle.sixteenths.proofs.weights.block_from.Given as goal

abbrev pub invariant-loop-i : goal.invariant-loop-i
invariant-loop-i l = record {
  full : length l.copied ≡ block;
  same : (k : ℕ) → k < l.i → get_or l.copied k 0 ≡ get_or l.w (l.from + k) 0;
}
