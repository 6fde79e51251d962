-- `curve_from` meets its contract: each turn fills the next place.
use Rattle.std.proofs.Common.{◌≡◌, ◌≤◌, ℕ, List, sym, ap, ap₂, ◌∙◌, add-one, arith}
use borrow.Author.Tests.{eq-eqb, ne_eqb}
use lib.ListN.{set}
use Rattle.rational.proofs.Machine.{told}
use Rattle.curve.specs.declared.Rect.{Rect}
use Rattle.curve.specs.Limits.{max_degree}
use Rattle.curve.specs.Curve.{points_of}
use Rattle.curve.proofs.Places.{points_first}
use Rattle.card_text.specs.Reading.{degree_of}
use Rattle.card_text.proofs.UpTo.{degree-at-most}
use Rattle.interface.specs.Numbers.{given_at, curve_from}
use Rattle.foreign.proofs.Points.{rects, filled-next}
use Rattle.foreign.proofs.given.curve_from.Goals as goal

pub returns-then-degree-eq0 : goal.returns-then-degree-eq0
unfolding curve_from
returns-then-degree-eq0 c =
    let n = c.number_at-2 in
    let degree : c.degree_from-degree.result ≡ degree_of (given_at c.args.numbers.now 0) = c.degree_from-degree.ensures ∙ ap degree_of (told n.result n.type_inv ∙ n.ensures) in
    rw (c.zero_curve.ensures, eq-eqb _ 0 (sym degree ∙ c.if-degree-eq0.true))

pub loop-k-init : goal.loop-k-init
loop-k-init c = rw (c.zero_rect-points.ensures, c.rect_at-first.ensures) (points_first (rects c.args.numbers.now))

pub rect_at-requires : goal.rect_at-requires
rect_at-requires c =
    let n = c.number_at-2 in
    let few : c.degree_from-degree.result ≤ max_degree = rw c.degree_from-degree.ensures (degree-at-most _) in
    omega arith

pub bounds-points-k : goal.bounds-points-k
bounds-points-k c =
    let n = c.number_at-2 in
    let few : c.degree_from-degree.result ≤ max_degree = rw c.degree_from-degree.ensures (degree-at-most _) in
    omega arith

pub loop-k-preserved : goal.loop-k-preserved
loop-k-preserved c =
    let l = c.loop-k in
    let few : c.degree_from-degree.result ≤ max_degree = rw c.degree_from-degree.ensures (degree-at-most _) in
    rw add-one
    (ap₂ (λ (x : List Rect) (v : Rect). set x l.k v) l.invariant c.rect_at.ensures ∙ filled-next (rects c.args.numbers.now) l.k (omega arith))

pub returns-else-degree-eq0-2 : goal.returns-else-degree-eq0-2
unfolding curve_from
returns-else-degree-eq0-2 c =
    let l = c.loop-k in
    let numbers = c.args.numbers.now in
    let n = c.number_at-2 in
    let s = c.number_at in
    let d = c.degree_from-degree.result in
    let f = rects numbers in
    let few : d ≤ max_degree = rw c.degree_from-degree.ensures (degree-at-most _) in
    let degree : d ≡ degree_of (given_at numbers 0) = c.degree_from-degree.ensures ∙ ap degree_of (told n.result n.type_inv ∙ n.ensures) in
    let last : l.k ≡ d = omega arith in
    let whole : set l.points l.k c.rect_at.result ≡ points_of d f =
    ap₂ (λ (x : List Rect) (v : Rect). set x l.k v) l.invariant c.rect_at.ensures ∙ filled-next f l.k (omega arith) ∙ ap (λ (k : ℕ). points_of k f) last in
    rw (
      whole,
      c.sum_from-sum.ensures,
      told s.result s.type_inv,
      s.ensures,
      degree,
      ne_eqb _ 0 (λ none. c.if-degree-eq0.false (degree ∙ none)),
    )
