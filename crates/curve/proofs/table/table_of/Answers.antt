-- `table_of` meets its contract: what a stage maps is in range, and each stage leaves the next entries of de Casteljau's table.
use Rattle.std.proofs.Common.{◌≡◌, ℕ, ◌+◌, ◌-◌, List, Bool, ℤ, refl, sym, ◌∙◌, subst, arith}
use lib.ListN.{replicate}
use lib.IntN.{pos}
use Rattle.curve.specs.declared.Rect.{Rect}
use Rattle.curve.specs.declared.affine.Weights.{Weights}
use Rattle.curve.specs.Inner.{Held, Factors, Stored, Staged, all_sides, placed}
use Rattle.curve.proofs.Placed.{zeros_placed}
use Rattle.curve.proofs.Stages.{table-held, after-start, after-entry, after_next, after-end}
use Rattle.curve.proofs.table.table_of.Goals as goal

-- a rectangle that was read and stored
stored-as : {k : ℕ} {p q : Rect} {l m : List ℤ} → p ≡ q → Stored k p l m → Stored k q l m
stored-as e s = record { here = s.here ∙ e; kept = s.kept }

-- a stage for the weights of s and t, as the table names its factors
staged_by : {s t d m : ℕ} {before after : List ℤ} {exact : Bool} (w : Weights) → Factors s t d → w.t ≡ t → w.den ≡ s + t →
    Staged (w.den - w.t) w.t w.den m before after exact → Staged s t d m before after exact
staged_by {s} {t} {d} w f factor divisor staged =
    let total = f.total in
    let first : s ≡ w.den - w.t = omega arith in
    let whole : d ≡ w.den = omega arith in
    rw (first, sym factor, whole) staged

pub loop-j-init : goal.loop-j-init
loop-j-init c =
    let a = c.args in
    let first = stored-as c.rect_at.ensures c.store_rect.ensures in
    record {
      after = after-start (a.den - a.num) a.num a.den a.n (placed a.right.now) (replicate all_sides (pos 0)) c.store_rect.new.sides a.right.now (λ k. refl) c.requires.begun.past zeros_placed first;
    }

-- what the next stage maps is in range
pub stage-exact-requires-clause-by_index : goal.stage-exact-requires-clause-by_index
stage-exact-requires-clause-by_index c k h =
    let a = c.args in
    let l = c.loop-j in
    subst Held (sym (after-entry (a.den - a.num) a.num a.den a.n (placed a.right.now) l.j l.left l.right l.exact l.invariant.after (omega arith) k (omega arith)))
    (table-held (a.den - a.num) a.num a.den (placed a.right.now) a.n c.requires.factors c.requires.begun.held l.j k (omega arith))

pub loop-j-preserved : goal.loop-j-preserved
loop-j-preserved c =
    let a = c.args in
    let l = c.loop-j in
    let g = c.stage-exact in
    let next = stored-as c.rect_at-in-loop-j.ensures c.store_rect-in-loop-j.ensures in
    record {
      after =
          after_next (a.den - a.num) a.num a.den a.n (placed a.right.now) l.j l.left l.right l.exact l.invariant.after (omega arith)
          c.store_rect-in-loop-j.new.sides g.new.sides g.result (staged_by c.new-w.result c.requires.factors c.new-w.ensures.factor c.new-w.ensures.divisor g.ensures) next;
    }

pub returns : goal.returns
returns c =
    let a = c.args in
    let l = c.loop-j in
    after-end (a.den - a.num) a.num a.den a.n (placed a.right.now) l.j l.left l.right l.exact l.invariant.after (omega arith)
