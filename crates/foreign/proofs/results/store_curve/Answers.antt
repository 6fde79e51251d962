-- `store_curve` meets its contract: degree and sum come first, and each turn stores the sides of one more rectangle.
use Rattle.std.proofs.Common.{◌≡◌, List, [], ◌∷◌, ℕ, ℤ, pos, ◌+◌, ◌*◌, length, ap, ap₂, ◌∙◌, arith}
use lib.Seq.{sets}
use Rattle.rational.proofs.Machine.{told}
use Rattle.interface.specs.Numbers.{sides_to, curve_numbers}
use Rattle.interface.proofs.Numbers.{curve-length}
use Rattle.foreign.proofs.Lent.{front, front-first}
use Rattle.foreign.proofs.Numbers.{as_signed}
use Rattle.foreign.proofs.Stored.{stored, stored-next}
use Rattle.foreign.proofs.results.store_curve.Goals as goal

pub store-requires : goal.store-requires
store-requires c = omega (arith, curve-length c.args.c)

pub loop-k-init : goal.loop-k-init
unfolding sides_to
loop-k-init c =
    let a = c.args in
    let long = curve-length a.c in
    record {
      size = c.store.auto.out;
      filled =
          c.store.ensures
          ∙ rw (as_signed a.c.degree (omega arith), told c.from.result c.from.type_inv, c.from.ensures)
          (front-first (pos a.c.degree ∷ pos a.c.sum ∷ []) a.out.now (omega arith));
    }

pub store-requires-in-loop-k : goal.store-requires-in-loop-k
store-requires-in-loop-k c =
    let four : length c.sides.result ≡ 4 = rw c.sides.ensures in
    omega (arith, curve-length c.args.c)

pub loop-k-preserved : goal.loop-k-preserved
loop-k-preserved c =
    let a = c.args in
    let l = c.loop-k in
    let long = curve-length a.c in
    record {
      size = c.store-in-loop-k.auto.out ∙ l.invariant.size;
      filled =
          c.store-in-loop-k.ensures
          ∙ ap₂ (λ (o p : List ℤ). sets o (2 + 4 * l.k) p) l.invariant.filled c.sides.ensures
          ∙ stored-next a.c l.k a.out.now (omega arith);
    }

pub returns-2 : goal.returns-2
unfolding curve_numbers
returns-2 c =
    let a = c.args in
    let l = c.loop-k in
    let long = curve-length a.c in
    let last : l.k ≡ a.c.degree = omega arith in
    c.store-in-loop-k.ensures
    ∙ ap₂ (λ (o p : List ℤ). sets o (2 + 4 * l.k) p) l.invariant.filled c.sides.ensures
    ∙ stored-next a.c l.k a.out.now (omega arith)
    ∙ ap (λ (k : ℕ). front (stored a.c (k + 1)) a.out.now) last
