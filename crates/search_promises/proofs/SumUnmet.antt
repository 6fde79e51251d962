-- A walk that is not refused meets no 17 inside: every cut down to its depth limit has room for its sum, so its pieces and its answer do not depend on the curve's own sum.
-- Assumes nothing.
use mathlib.Core.Path.{◌≡◌, refl, sym, ap, ap₂, ◌∙◌, subst, subst₂, fun_ext}
use Prim.Native.Nat.{ℕ, zero, suc, ◌+◌, ◌*◌, ◌/◌, ◌%◌, ◌≤◌, ◌<◌}
use native.Mathlib.Nat.{one-mul, suc-mul}
use native.Mathlib.Omega.{arith}
use mathlib.Core.Bool.{false}
use lib.Dec.{eqb}
use Rattle.curve.specs.declared.Rect.{Rect}
use Rattle.curve.specs.declared.Curve.{Curve}
use Rattle.curve.specs.declared.BoundingRect.{BoundingRect}
use Rattle.curve.specs.declared.Refusal.{Refusal}
use Rattle.curve.specs.Curve.{with_sum, SameButSum, piece_sum, left_of, right_of, table_exact}
use Rattle.curve.specs.Refusals.{none, ◌or_else◌, unless, curve_refusal, Accepted, AcceptedSum}
use Rattle.curve.specs.Calls.{subdivided}
use Rattle.curve.proofs.Refused.{by_number}
use Rattle.curve.proofs.Accepted.{accepted-most, most-accepted, accepted_subdivision}
use Rattle.curve.proofs.Answers.{subdivision, subdivided-accepted, subdivided-refusal}
use Rattle.curve_promises.proofs.PastUnread as Curves
use Rattle.search.specs.declared.Verdict.{Verdict}
use Rattle.search.specs.declared.Verdict.TheVariants.{Refused, Inside}
use Rattle.search.specs.Box.{is_box}
use Rattle.search.specs.Walk.{noted, after, visit_at, walked}
use Rattle.search.specs.Search.{deepest_sum, effort_refusal, box_refusal, search_refusal, searched}
use Rattle.search_promises.specs.Pieces.{half_of, piece_at}
use Rattle.search_promises.specs.Promises.{NoSumInside}
use Rattle.search.proofs.Accepted.{Effort, Facts, answer, effort_none, number_facts, searched-accepted, searched-refused, searched-refusal}
use Rattle.search.proofs.Cuts.{at_half}
use Rattle.search_promises.proofs.PastUnread.{visit_with}
use Rattle.search_promises.proofs.Reached.{Reached, reached_whole, reached_half, cut_room, reached}

-- ---- curves that are equal but for their sums

module _ (c e : Curve) (same : SameButSum c e) (ok : Accepted c) where
  other_accepted : Accepted e
  other_accepted = sym (Curves.refusals c e same) ∙ ok

  -- halves of both, where both have room for a cut
  halves_same : AcceptedSum (piece_sum c) → AcceptedSum (piece_sum e) → (bit : ℕ) → SameButSum (half_of bit (subdivided c 1 2)) (half_of bit (subdivided e 1 2))
  halves_same room room' bit =
      subst₂ (λ s s'. SameButSum (half_of bit s) (half_of bit s')) (sym (subdivided-accepted c 1 2 ok at_half room)) (sym (subdivided-accepted e 1 2 other_accepted at_half room')) (go bit)
    where
      go :
          (bit : ℕ) →
          SameButSum (half_of bit (subdivision (left_of c 1 2) (right_of c 1 2) (table_exact c 1 2) none)) (half_of bit (subdivision (left_of e 1 2) (right_of e 1 2) (table_exact e 1 2) none))
      go zero = Curves.lefts_same c e same 1 2
      go (suc b) = Curves.rights_same c e same 1 2

-- what is known of a half of a curve with so many depths below it
half_reached : (c : Curve) (below bit : ℕ) → Accepted c → AcceptedSum (deepest_sum c (suc below)) → Reached c 1 (half_of bit (subdivided c 1 2))
half_reached c below bit ok room = reached_half c (suc below) room 0 bit c (reached_whole c ok) (omega arith)

first-room : (c : Curve) (below : ℕ) → Accepted c → AcceptedSum (deepest_sum c (suc below)) → AcceptedSum (piece_sum c)
first-room c below ok room = cut_room c (suc below) room 0 c (reached_whole c ok) (omega arith)

-- its deepest pieces are the curve's
half_room : (c piece : Curve) (below : ℕ) → Reached c 1 piece → AcceptedSum (deepest_sum c (suc below)) → AcceptedSum (deepest_sum piece below)
half_room c piece below r room = subst AcceptedSum (sym (ap₂ (λ (s n : ℕ). s + below * n) r.sums r.degrees ∙ same)) room
  where
    same : deepest_sum c 1 + below * c.degree ≡ deepest_sum c (suc below)
    same = let one = one-mul c.degree in let more = suc-mul below c.degree in omega arith

-- ---- the walk

module _ (box : Rect) (budget : ℕ) where
  walks_same :
      (below : ℕ) (c e : Curve) → SameButSum c e → Accepted c → AcceptedSum (deepest_sum c below) → AcceptedSum (deepest_sum e below) →
      (depth index : ℕ) (v : Verdict) → walked box budget below c depth index v ≡ walked box budget below e depth index v
  unfolding walked visit_at
  walks_same zero c e same ok room room' depth index v =
      ap (λ (x : BoundingRect). after (visit_with box budget v x) depth index v (noted depth index)) ((Curves.past_unread).bounding c e same)
  walks_same (suc below) c e same ok room room' depth index v =
      let ok' = other_accepted c e same ok in
      let half : (bit i : ℕ) (w : Verdict) → walked box budget below (half_of bit (subdivided c 1 2)) (depth + 1) i w ≡ walked box budget below (half_of bit (subdivided e 1 2)) (depth + 1) i w = λ bit i w.
      let r = half_reached c below bit ok room in
      let r' = half_reached e below bit ok' room' in
      walks_same below (half_of bit (subdivided c 1 2)) (half_of bit (subdivided e 1 2))
      (halves_same c e same ok (first-room c below ok room) (first-room e below ok' room') bit)
      r.accepted (half_room c _ below r room) (half_room e _ below r' room') (depth + 1) i w in
      ap₂ (λ (x : BoundingRect) (further : Verdict → Verdict). after (visit_with box budget v x) depth index v further) ((Curves.past_unread).bounding c e same)
      (fun_ext (λ w.
      half 1 (index * 2 + 1) (walked box budget below (subdivided c 1 2).left (depth + 1) (index * 2) w)
      ∙ ap (walked box budget below (subdivided e 1 2).right (depth + 1) (index * 2 + 1)) (half 0 (index * 2) w)))

-- ---- the same curve with the sum 0

module _ (c : Curve) where
  abbrev unsummed : Curve
  unsummed = with_sum 0 c

  same_unsummed : SameButSum c unsummed
  same_unsummed = record { degrees = refl; controls = λ k h. refl }

  room_unsummed : (limit : ℕ) → AcceptedSum (deepest_sum c limit) → AcceptedSum (deepest_sum unsummed limit)
  room_unsummed limit room = let most = accepted-most (deepest_sum c limit) room in most-accepted (deepest_sum unsummed limit) (omega arith)

  pub same-curve_unsummed : curve_refusal c ≡ curve_refusal unsummed
  same-curve_unsummed = Curves.refusals c unsummed same_unsummed

  -- where depth and budget are not refused and the deepest sum has room, both are refused alike
  module _ (depth budget : ℕ) (effort : Effort c depth budget) where
    effort_unsummed : Effort unsummed depth budget
    effort_unsummed = record { shallow = effort.shallow; some = effort.some; few = effort.few; room = room_unsummed depth effort.room }

    pub same_effort_unsummed : effort_refusal c depth budget ≡ effort_refusal unsummed depth budget
    same_effort_unsummed = effort_none c depth budget effort ∙ sym (effort_none unsummed depth budget effort_unsummed)

    refusals : (box : Rect) → search_refusal c box depth budget ≡ search_refusal unsummed box depth budget
    unfolding search_refusal box_refusal
    refusals box = ap₂ (λ (a b : Refusal). a or_else unless (is_box box) 7 or_else b) same-curve_unsummed same_effort_unsummed

    -- and answered alike
    pub searched_unsummed : (box : Rect) → searched c box depth budget ≡ searched unsummed box depth budget
    searched_unsummed box = by_number (search_refusal c box depth budget).number accepted refused
      where
        accepted : (search_refusal c box depth budget).number ≡ 0 → searched c box depth budget ≡ searched unsummed box depth budget
        accepted h =
            let f = number_facts c box depth budget h in
            let g : Facts unsummed box depth budget = record { accepted = sym same-curve_unsummed ∙ f.accepted; sides = f.sides; effort = effort_unsummed } in
            searched-accepted c box depth budget f
            ∙ ap (λ (v : Verdict). answer v none) (walks_same box budget depth c unsummed same_unsummed f.accepted effort.room effort_unsummed.room 0 0 (Inside 0))
            ∙ sym (searched-accepted unsummed box depth budget g)

        refused : eqb (search_refusal c box depth budget).number 0 ≡ false → searched c box depth budget ≡ searched unsummed box depth budget
        refused e =
            searched-refused c box depth budget e ∙ ap (answer Refused) (refusals box)
            ∙ sym (searched-refused unsummed box depth budget (ap (λ (r : Refusal). eqb r.number 0) (sym (refusals box)) ∙ e))

-- ---- the promise

module _ (c : Curve) (ok : Accepted c) (limit : ℕ) (room : AcceptedSum (deepest_sum c limit)) where
  pieces-same : (d index : ℕ) → d ≤ limit → SameButSum (piece_at c d index) (piece_at (with_sum 0 c) d index)
  unfolding piece_at
  pieces-same zero index h = same_unsummed c
  pieces-same (suc d) index h =
      let other = with_sum 0 c in
      let room' = room_unsummed c limit room in
      let r = reached c limit room ok d (index / 2) (omega arith) in
      let r' = reached other limit room' (sym (same-curve_unsummed c) ∙ ok) d (index / 2) (omega arith) in
      halves_same _ _ (pieces-same d (index / 2) (omega arith)) r.accepted (cut_room c limit room d _ r h) (cut_room other limit room' d _ r' h) (index % 2)

  cuts-accepted : (d index : ℕ) → d < limit → (subdivided (piece_at c d index) 1 2).refusal ≡ none
  cuts-accepted d index h =
      let r = reached c limit room ok d index (omega arith) in
      subdivided-refusal _ 1 2 ∙ accepted_subdivision _ 1 2 r.accepted at_half (cut_room c limit room d _ r h)

pub no_sum-inside : NoSumInside
no_sum-inside c box depth budget h =
    let f = number_facts c box depth budget (ap (λ (r : Refusal). r.number) (sym (searched-refusal c box depth budget) ∙ h)) in
    record {
      cuts = cuts-accepted c f.accepted depth f.effort.room;
      pieces = pieces-same c f.accepted depth f.effort.room;
      answer = searched_unsummed c depth budget f.effort box;
    }
