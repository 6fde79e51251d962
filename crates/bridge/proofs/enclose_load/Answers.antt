-- `enclose_load` meets its contract: a refusal of its numbers or of its sides, or the rectangle.
use Rattle.std.proofs.Common.{rules, ◌≡◌, sym, ap, ap₂, ◌∙◌, subst, T, w32, to_z, of_z}
use lib.Ieee.{Float}
use Rattle.rational.specs.Rounding.{down, up}
use Rattle.curve.specs.declared.Interval.{Interval}
use Rattle.curve.specs.declared.Rect.{Rect}
use Rattle.curve.specs.declared.Refusal.{Refusal}
use Rattle.curve.specs.Inner.{Side, Sides}
use Rattle.curve.specs.Refusals.{none}
use Rattle.curve.proofs.Sides.{side_back, side_passed}
use Rattle.bridge.specs.Value.{step_at, steps_about, is_load}
use Rattle.bridge.specs.Bridge.{widened, spread_rect, number_refusal, side_refusal, spread_refusal}
use Rattle.bridge.proofs.Refusals.{passed_on}
use Rattle.bridge.proofs.Steps.{load_side, spread_load}
use Rattle.bridge.proofs.Answers.{numbers_first, sides_left, numbers_passed, loads_passed}
use Rattle.bridge.proofs.enclose_load.Goals.{After-check_sides}
use Rattle.bridge.proofs.enclose_load.Goals as goal

pub returns-in_err-check_numbers-clause-refusal : goal.returns-in_err-check_numbers-clause-refusal
returns-in_err-check_numbers-clause-refusal c =
    passed_on _ _ c.from_residual.ensures.1 ∙ numbers_first c.args.resistance c.args.reactance c.args.spread _ c.in_err-check_numbers.ensures

-- past the first test every number is in range
in-range : (r x spread : Float) → none ≡ number_refusal r x spread → T (is_load r) × T (is_load x) × T (is_load spread)
in-range r x spread e =
    let (load, few) = numbers_passed r x spread (ap (λ (r : Refusal). r.number) (sym e)) in
    let (first, second) = loads_passed r x load in
    (first, second, spread_load spread few)

pub steps_about-by-requires : goal.steps_about-by-requires
steps_about-by-requires c = (in-range _ _ _ c.in_ok-check_numbers.ensures).2

pub steps_about-requires : goal.steps_about-requires
steps_about-requires c = (in-range _ _ _ c.in_ok-check_numbers.ensures).0

pub steps_about-requires-2 : goal.steps_about-requires-2
steps_about-requires-2 c = (in-range _ _ _ c.in_ok-check_numbers.ensures).1

-- the steps about a number in range are sides
about-sides : (x : Float) {i : Interval} → T (is_load x) → i ≡ steps_about x → Sides i
unfolding steps_about
about-sides x t e = subst Sides (sym e) (record { at = elim [ down ↦ load_side down x t | up ↦ load_side up x t ] })

-- so are the ends of the spread's, as one of them is passed on; both are proved, so that the wrong one is refused where the result is told
spread_sides : (x : Float) {i : Interval} → T (is_load x) → i ≡ steps_about x → Side (to_z w32 (of_z w32 i.low)) × Side (to_z w32 (of_z w32 i.high))
spread_sides x t e = let s = about-sides x t e in (side_passed (s.at down), side_passed (s.at up))

pub widened-requires-clause-sides : goal.widened-requires-clause-sides
widened-requires-clause-sides c =
    about-sides c.args.resistance (in-range _ _ _ c.in_ok-check_numbers.ensures).0 c.steps_about.ensures

pub widened-requires-clause-side : goal.widened-requires-clause-side
widened-requires-clause-side c =
    let (low, high) = spread_sides c.args.spread (in-range _ _ _ c.in_ok-check_numbers.ensures).2 c.steps_about-by.ensures in
    search rules

pub widened-requires-2-clause-sides : goal.widened-requires-2-clause-sides
widened-requires-2-clause-sides c =
    about-sides c.args.reactance (in-range _ _ _ c.in_ok-check_numbers.ensures).1 c.steps_about-2.ensures

pub widened-requires-2-clause-side : goal.widened-requires-2-clause-side
widened-requires-2-clause-side c =
    let (low, high) = spread_sides c.args.spread (in-range _ _ _ c.in_ok-check_numbers.ensures).2 c.steps_about-by.ensures in
    search rules

-- the spread rounded up, as it is passed on
by-is : (x : Float) {i : Interval} → T (is_load x) → i ≡ steps_about x → to_z w32 (of_z w32 i.high) ≡ step_at up x
unfolding steps_about
by-is x t e = ap (λ (i : Interval). to_z w32 (of_z w32 i.high)) e ∙ side_back (load_side up x t)

-- both coordinates, widened
rect-is : (r x spread : Float) {i j s a b : Interval} → T (is_load spread) → s ≡ steps_about spread → i ≡ steps_about r → j ≡ steps_about x →
    a ≡ widened i (to_z w32 (of_z w32 s.high)) → b ≡ widened j (to_z w32 (of_z w32 s.high)) → ◌≡◌ {A = Rect} (record { resistance = a; reactance = b }) (spread_rect r x spread)
unfolding spread_rect
rect-is r x spread t e f g h k =
    ap₂ (λ (i j : Interval). record { resistance = i; reactance = j })
    (h ∙ ap₂ widened f (by-is spread t e))
    (k ∙ ap₂ widened g (by-is spread t e))

found : (c : After-check_sides) → ◌≡◌ {A = Rect} (record { resistance = c.widened.result; reactance = c.widened-2.result }) (spread_rect c.args.resistance c.args.reactance c.args.spread)
found c =
    rect-is c.args.resistance c.args.reactance c.args.spread (in-range _ _ _ c.in_ok-check_numbers.ensures).2
    c.steps_about-by.ensures c.steps_about.ensures c.steps_about-2.ensures c.widened.ensures c.widened-2.ensures

-- past the numbers, the sides' refusal is the load's
sides-refusal : (c : After-check_sides) (r : Refusal) → r ≡ side_refusal (record { resistance = c.widened.result; reactance = c.widened-2.result }) → r ≡ spread_refusal c.args.resistance c.args.reactance c.args.spread
sides-refusal c r e = e ∙ ap side_refusal (found c) ∙ sides_left c.args.resistance c.args.reactance c.args.spread c.in_ok-check_numbers.ensures

pub returns-in_err-check_sides-clause-refusal : goal.returns-in_err-check_sides-clause-refusal
returns-in_err-check_sides-clause-refusal c =
    passed_on _ _ c.from_residual-in_err-check_sides.ensures.1 ∙ sides-refusal (goal.at.returns-in_err-check_sides-clause-refusal c).After-check_sides _ c.in_err-check_sides.ensures

pub returns-clause-refusal : goal.returns-clause-refusal
returns-clause-refusal c = sides-refusal (goal.at.returns-clause-refusal c).After-check_sides _ c.in_ok-check_sides.ensures

pub returns-clause-rect : goal.returns-clause-rect
returns-clause-rect c = found (goal.at.returns-clause-rect c).After-check_sides
