-- `put_rect` meets its contract: two intervals, one behind the other.
use Rattle.std.proofs.Common.{◌++◌, length, drop, ap, ap₂, ◌∙◌, List, ℕ}
use Rattle.panel.specs.Panel.{load_bytes}
use Rattle.panel.proofs.Lengths.{interval_long, halves}
use Rattle.panel.proofs.side_bytes.put_rect.Goals as goal

pub returns : goal.returns
unfolding load_bytes
returns c =
    let p = c.args.p in
    halves 8 c.put_interval.new.out (drop 8 c.args.out.now) c.put_interval-2.new.out (ap length c.put_interval.ensures ∙ interval_long p.resistance)
    ∙ ap₂ (λ (a b : List ℕ). a ++ b) c.put_interval.ensures c.put_interval-2.ensures
