-- `value_of` meets its contract: each turn reads one digit, and ten of them are below 2 ^ 40.
use Rattle.std.proofs.Common.{◌≡◌, rules, arith, ◌+◌, ◌-◌, ◌*◌, ◌<◌, ◌≤◌, ◌^◌, ℕ, get_or, sym, ◌∙◌}
use native.Mathlib.Nat.{pow-suc, pow-le-pow_right}
use native.Mathlib.Numerals.{add-one}
use lib.Dec.{lit<}
use lib.ListN.{drop_of_length-le}
use Rattle.columns.specs.Column.{value_after}
use Rattle.columns.proofs.Decode.{next-value}
use Rattle.columns.proofs.read.value_of.Goals as goal

small : (m i : ℕ) → m + 23 ≤ 23 * 10 ^ i → i ≤ 10 → m < 2 ^ 40
small m i h l = omega (arith, pow-le-pow_right {n = 10} (lit< tt) l)

pub loop-byte-preserved : goal.loop-byte-preserved
loop-byte-preserved c =
    let l = c.loop-byte in
    let digit : c.from.result ≡ get_or c.args.b.now l.byte-index 0 - 48 = search rules in
    let byte : c.from.result < 208 = omega (arith, digit, c.type_inv.b l.byte-index) in
    record {
      onward = rw digit (sym (next-value l.m c.args.b.now l.byte-index c.loop-byte-test.true) ∙ l.invariant.onward);
      bounded = rw add-one (omega (arith, l.invariant.bounded, pow-suc 10 l.byte-index, byte));
    }

pub returns : goal.returns
unfolding value_after
returns c =
    let l = c.loop-byte in
    (rw (drop_of_length-le c.args.b.now c.loop-byte-test.false) at l.invariant.onward, small l.m l.byte-index l.invariant.bounded (omega arith))
