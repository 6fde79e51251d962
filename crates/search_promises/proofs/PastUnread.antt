-- Equal curves get equal answers: a walk looks at a curve only through its bounds and its two halves, which read nothing past the degree.
-- Assumes nothing.
use mathlib.Core.Path.{◌≡◌, ap, ap₂}
use mathlib.Core.Bool.{cond, ◌&&◌}
use Prim.Native.Nat.{ℕ, zero, suc, ◌+◌, ◌*◌}
use lib.Dec.{leb, eqb}
use Rattle.curve.specs.declared.Rect.{Rect}
use Rattle.curve.specs.declared.Curve.{Curve}
use Rattle.curve.specs.declared.Refusal.{Refusal}
use Rattle.curve.specs.declared.BoundingRect.{BoundingRect}
use Rattle.curve.specs.declared.Subdivision.{Subdivision}
use Rattle.curve.specs.Curve.{SameCurve}
use Rattle.curve.specs.Refusals.{◌or_else◌, unless, sum_refusal}
use Rattle.curve.specs.Calls.{bounded, subdivided}
use Rattle.curve_promises.proofs.PastUnread as Curves
use Rattle.search.specs.declared.Verdict.{Verdict}
use Rattle.search.specs.declared.Verdict.TheVariants.{Refused, Inside}
use Rattle.search.specs.declared.visit.Visit.{Visit}
use Rattle.search.specs.declared.SearchAnswer.{SearchAnswer}
use Rattle.search.specs.Limits.{max_depth, max_budget}
use Rattle.search.specs.Box.{is_box, in_box, apart_from}
use Rattle.search.specs.Walk.{goes_on, count_of, noted, visit_by, after, visit_at, walked}
use Rattle.search.specs.Search.{effort_refusal, box_refusal, search_refusal, searched}
use Rattle.search_promises.specs.Promises.{PastUnread}

pub same_effort : (c e : Curve) → SameCurve c e → (depth budget : ℕ) → effort_refusal c depth budget ≡ effort_refusal e depth budget
unfolding effort_refusal
same_effort c e same depth budget =
    ap₂ (λ (s n : ℕ). unless (leb depth max_depth) 8 or_else unless (leb 1 budget && leb budget max_budget) 9 or_else sum_refusal (s + depth * n)) same.sums same.rest.degrees

-- the visit of a piece with these bounds
abbrev pub visit_with : Rect → ℕ → Verdict → BoundingRect → Visit
visit_with box budget v x = visit_by (goes_on v) (eqb (count_of v) budget) (in_box x.rect box) (apart_from x.rect box)

module _ (c e : Curve) (box : Rect) (budget : ℕ) (same : SameCurve c e) where
  bounds : bounded c ≡ bounded e
  bounds = (Curves.past_unread).bounding c e same.rest

  halves : subdivided c 1 2 ≡ subdivided e 1 2
  halves = (Curves.past_unread).subdividing c e same 1 2

  walks : (below depth index : ℕ) (v : Verdict) → walked box budget below c depth index v ≡ walked box budget below e depth index v
  unfolding walked visit_at
  walks zero depth index v = ap (λ (x : BoundingRect). after (visit_with box budget v x) depth index v (noted depth index)) bounds
  walks (suc below) depth index v =
      ap₂ (λ (x : BoundingRect) (s : Subdivision). after (visit_with box budget v x) depth index v (λ w.
      walked box budget below s.right (depth + 1) (index * 2 + 1) (walked box budget below s.left (depth + 1) (index * 2) w)))
      bounds halves

abbrev answer : Refusal → Verdict → SearchAnswer
answer r v = cond (eqb r.number 0) (record { refusal = r; verdict = v }) (record { refusal = r; verdict = Refused })

pub past_unread : PastUnread
unfolding searched search_refusal box_refusal
past_unread c e box depth budget same =
    ap₂ answer
    (ap₂ (λ (r x : Refusal). r or_else unless (is_box box) 7 or_else x) (Curves.refusals c e same.rest) (same_effort c e same depth budget))
    (walks c e box budget same depth 0 0 (Inside 0))
