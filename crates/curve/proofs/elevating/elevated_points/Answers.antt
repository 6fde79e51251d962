-- `elevated_points` meets its contract: the first and the last place are kept, and each turn fills one place by one map.
use Rattle.std.proofs.Common.{◌≡◌, ℕ, ◌+◌, ◌-◌, ◌≤◌, ◌<◌, Bool, ◌&&◌, List, set, sym, ap, ap₂, ◌∙◌, subst, arith}
use Rattle.rational.proofs.Truth.{both_and, and_true}
use Rattle.bernstein.specs.DeCasteljau.{all_below}
use Rattle.bernstein.proofs.EveryMap.{all_zero, all_next}
use Rattle.curve.specs.declared.Rect.{Rect}
use Rattle.curve.specs.Limits.{places}
use Rattle.curve.specs.Curve.{point, points_of, elevated_point, elevated_exact, elevation_exact}
use Rattle.curve.proofs.Places.{points_first, points_next}
use Rattle.curve.proofs.Weighing.{mapped_by, part_times, part-total}
use Rattle.curve.proofs.ElevatedPoints.{elevated-first, elevated_last, exact_first, exact_last}
use Rattle.curve.proofs.elevating.elevated_points.Goals as goal

-- a point more
more : (k : ℕ) (f : ℕ → Rect) → 1 ≤ k → k < places → set (points_of (k - 1) f) k (f k) ≡ points_of k f
more k f positive room =
    let same : k - 1 + 1 ≡ k = omega arith in
    subst (λ (i : ℕ). set (points_of (k - 1) f) i (f i) ≡ points_of i f) same (points_next (k - 1) f (omega arith))

pub loop-k-init : goal.loop-k-init
loop-k-init c =
    let a = c.args.c.now in
    let f = elevated_exact a.degree (point a) in
    record {
      filled = rw (c.zero_rect-points.ensures, elevated-first a.degree (point a)) (points_first (elevated_point a.degree (point a)));
      flag = sym (all_next 0 f ∙ both_and (all_zero f) (exact_first a.degree (point a)));
    }

pub with_part-w-requires-clause-part : goal.with_part-w-requires-clause-part
with_part-w-requires-clause-part c =
    let few = c.requires.degree_lt_max_degree in
    let d = c.args.c.now.degree + 1 in
    rw (c.div_ceil-unit.ensures, c.from.ensures) (part-total _ _ d _ (omega arith) (part_times _ d (omega arith) (omega arith)))

pub loop-k-preserved : goal.loop-k-preserved
unfolding elevated_point elevated_exact
loop-k-preserved c =
    let l = c.loop-k in
    let a = c.args.c.now in
    let n = a.degree in
    let w = c.with_part-w in
    let total : l.k + (n + 1 - l.k) ≡ n + 1 = omega arith in
    let new = mapped_by c.map_rect-mapped.result w.result (point a (l.k - 1)) (point a l.k) c.map_rect-mapped.ensures l.k (n + 1 - l.k) (n + 1) w.ensures.factor (w.ensures.divisor ∙ total) total in
    let same : l.k + 1 - 1 ≡ l.k = omega arith in
    record {
      filled =
          ap₂ (λ (x : List Rect) (v : Rect). set x l.k v) l.invariant.filled new.0
          ∙ more l.k (elevated_point n (point a)) (omega arith) (omega arith)
          ∙ ap (λ (i : ℕ). points_of i (elevated_point n (point a))) (sym same);
      flag = ap₂ ◌&&◌ l.invariant.flag new.1 ∙ sym (all_next l.k (elevated_exact n (point a)));
    }

pub returns : goal.returns
unfolding elevation_exact
returns c =
    let l = c.loop-k in
    let a = c.args.c.now in
    let n = a.degree in
    let f = elevated_exact n (point a) in
    let done : l.k ≡ n + 1 = omega arith in
    let last : l.k - 1 ≡ n = omega arith in
    let all : n + 1 + 1 ≡ n + 2 = omega arith in (
      ap₂ (λ (x : List Rect) (v : Rect). set x (n + 1) v) (l.invariant.filled ∙ ap (λ (k : ℕ). points_of k (elevated_point n (point a))) last) (elevated_last n (point a))
          ∙ points_next n (elevated_point n (point a)) (omega arith),
      l.invariant.flag
          ∙ ap (λ (k : ℕ). all_below k f) done
          ∙ sym (and_true (all_below (n + 1) f))
          ∙ ap (λ (b : Bool). all_below (n + 1) f && b) (sym (exact_last n (point a)))
          ∙ sym (all_next (n + 1) f)
          ∙ ap (λ (m : ℕ). all_below m f) all,
    )
