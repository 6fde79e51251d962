-- What is promised of a measurement's rectangle, proved from the laws of rounding and of fractions.
-- Assumes nothing.
use mathlib.Core.Path.{◌≡◌, refl, sym, ap, ◌∙◌, subst, subst₂}
use mathlib.Core.Bool.{Bool, true, false}
use Prim.Native.Nat.{ℕ}
use native.Mathlib.Omega.{arith}
use borrow.Author.Tests.{eqb-true}
use lib.Dec.{eqb}
use lib.IntN.{ℤ, pos, ◌+ℤ◌, ◌*ℤ◌, +ℤ_idr, -ℤ-+ℤ_cancel}
use lib.Signed.{◌≤ℤ◌}
use lib.Ieee.{Float, fin}
use Rattle.rational.specs.Rounding.{Rounding, down, up}
use Rattle.rational.specs.Fraction.{Frac, whole}
use Rattle.rational.proofs.Whole.{mul-one}
use Rattle.rational.proofs.Truth.{both_and}
use Rattle.rational.proofs.Order.{≤ℤ-trans, ≤ℤ-reflexive, ≤ℤ-certificate}
use Rattle.rational.proofs.Quotient.{rounds_down, rounds_up, down-up}
use Rattle.curve.specs.declared.Rect.{Rect}
use Rattle.curve.specs.declared.Refusal.{Refusal}
use Rattle.curve.specs.Rect.{Coordinate, resistance, reactance, side, Outward, Bounded, Inside, zero_rect, ends_in_range, sides_in_range, sides_ordered}
use Rattle.curve.proofs.Tests.{or_split, true_of}
use Rattle.curve.proofs.Accepted.{sides-order}
use Rattle.bridge.specs.declared.Measurement.{Measurement}
use Rattle.bridge.specs.declared.Measurement.TheVariants.{NoCarrier, Load, LoadWithSpread}
use Rattle.bridge.specs.Value.{steps, step_at, steps_about}
use Rattle.bridge.specs.Bridge.{moved, load_rect, spread_rect, load_refusal, number_refusal, side_refusal, spread_refusal, answered, enclosed, Report, rectangle, reported}
use Rattle.bridge_promises.specs.Promises.{report_of, Encloses, Reports, number_of, Holds, Smallest, SpreadHolds, SpreadMoves, ZeroSpread, GoodRect}
use Rattle.bridge.proofs.Steps.{spread_steps}
use Rattle.bridge.proofs.Answers.{answered-refused, answered_gives, answered-refusal, numbers_passed, sides_passed}
use Rattle.bridge.proofs.ZeroSpread.{same_answer}
use Rattle.bridge_promises.proofs.Spread.{moved_bounds}

-- ---- an answered rectangle

-- nothing was refused, and it is the definition's
rectangle-given : (r : Refusal) (p q : Rect) → reported (answered r p).found ≡ record { number = rectangle; rect = q } → (r.number ≡ 0) × (p ≡ q)
rectangle-given r p q h = go (eqb r.number 0) refl
  where
    go : (b : Bool) → eqb r.number 0 ≡ b → (r.number ≡ 0) × (p ≡ q)
    go true e = (eqb-true r.number 0 e, ap (λ (a : Report). a.rect) (rw e at h))
    go false e = let wrong : ◌≡◌ {A = ℕ} 0 2 = ap (λ (a : Report). a.number) (rw e at h) in absurd (omega arith)

-- a load's sides are the steps below and above, and with a spread they are moved
load-side_is : (r x : Float) (c : Coordinate) (o : Rounding) → side c o (load_rect r x) ≡ step_at o (number_of c r x)
unfolding load_rect steps_about
load-side_is r x resistance down = refl
load-side_is r x resistance up = refl
load-side_is r x reactance down = refl
load-side_is r x reactance up = refl

spread_side_is : (r x spread : Float) (c : Coordinate) (o : Rounding) → side c o (spread_rect r x spread) ≡ moved o (step_at o (number_of c r x)) (step_at up spread)
unfolding spread_rect steps_about
spread_side_is r x spread resistance down = refl
spread_side_is r x spread resistance up = refl
spread_side_is r x spread reactance down = refl
spread_side_is r x spread reactance up = refl

-- ---- what is reported

-- zeros where refused, and a rectangle where not
refused-report : (r : Refusal) (p : Rect) → ((answered r p).refusal.number ≡ 0 → ⊥) → reported (answered r p).found ≡ record { number = 0; rect = zero_rect }
refused-report r p h = ap (λ a. reported a.found) (answered-refused r p (λ e. h (ap (λ (a : Refusal). a.number) (answered-refusal r p) ∙ e)))

given-report : (r : Refusal) (p : Rect) → (answered r p).refusal.number ≡ 0 → reported (answered r p).found ≡ record { number = rectangle; rect = p }
given-report r p h = ap (λ a. reported a.found) (answered_gives r p (sym (ap (λ (a : Refusal). a.number) (answered-refusal r p)) ∙ h))

pub reports : Reports
unfolding enclosed
reports = record { refusing = refusing; silent = (refl, refl); enclosing = enclosing }
  where
    refusing : (m : Measurement) → ((enclosed m).refusal.number ≡ 0 → ⊥) → report_of m ≡ record { number = 0; rect = zero_rect }
    refusing NoCarrier h = absurd (h refl)
    refusing (Load r x) h = refused-report (load_refusal r x) (load_rect r x) h
    refusing (LoadWithSpread r x spread) h = refused-report (spread_refusal r x spread) (spread_rect r x spread) h

    enclosing : (m : Measurement) → (enclosed m).refusal.number ≡ 0 → (m ≡ NoCarrier → ⊥) → (p : Rect) × Encloses m p
    enclosing NoCarrier h load = absurd (load refl)
    enclosing (Load r x) h load = (load_rect r x, given-report (load_refusal r x) (load_rect r x) h)
    enclosing (LoadWithSpread r x spread) h load = (spread_rect r x spread, given-report (spread_refusal r x spread) (spread_rect r x spread) h)

-- ---- the smallest rectangle

-- a side bounds a value as its multiple bounds the upper number
bounded_is : (o : Rounding) (v : Frac) (z : ℤ) → Outward o v.upper (z *ℤ pos v.lower) → Bounded o v z
unfolding whole
bounded_is down v z h = record { crosswise = ≤ℤ-trans h (≤ℤ-reflexive (sym (mul-one v.upper))) }
bounded_is up v z h = record { crosswise = ≤ℤ-trans (≤ℤ-reflexive (mul-one v.upper)) h }

bounds_upper : (o : Rounding) (v : Frac) (z : ℤ) → Bounded o v z → Outward o v.upper (z *ℤ pos v.lower)
unfolding whole
bounds_upper down v z h = ≤ℤ-trans h.crosswise (≤ℤ-reflexive (mul-one v.upper))
bounds_upper up v z h = ≤ℤ-trans (≤ℤ-reflexive (sym (mul-one v.upper))) h.crosswise

-- the step below or above holds the value, and is the nearest that does
step_holds : (o : Rounding) (x : Float) → Bounded o (steps x) (step_at o x)
unfolding step_at
step_holds down x = bounded_is down (steps x) _ (rounds_down (steps x).lower (steps x).positive (steps x).upper).0
step_holds up x = bounded_is up (steps x) _ (rounds_up (steps x).lower (steps x).positive (steps x).upper).0

step_nearest : (o : Rounding) (x : Float) (z : ℤ) → Bounded o (steps x) z → Outward o (step_at o x) z
unfolding step_at
step_nearest down x z h = (rounds_down (steps x).lower (steps x).positive (steps x).upper).1 z (bounds_upper down (steps x) z h)
step_nearest up x z h = (rounds_up (steps x).lower (steps x).positive (steps x).upper).1 z (bounds_upper up (steps x) z h)

step_order : (x : Float) → step_at down x ≤ℤ step_at up x
unfolding step_at
step_order x = down-up (steps x).lower (steps x).positive (steps x).upper

pub smallest : Smallest
unfolding enclosed
smallest r x p e =
    let same = (rectangle-given (load_refusal r x) (load_rect r x) p e).1 in
    subst (λ (p : Rect). ((c : Coordinate) → Holds p c (steps (number_of c r x))) × ((q : Rect) → ((c : Coordinate) → Holds q c (steps (number_of c r x))) → Inside p q)) same (
      (λ c o. subst (Bounded o (steps (number_of c r x))) (sym (load-side_is r x c o)) (step_holds o (number_of c r x))),
      (λ q h. record { at = λ c o. subst (λ (z : ℤ). Outward o z (side c o q)) (sym (load-side_is r x c o)) (step_nearest o (number_of c r x) (side c o q) (h c o)) }),
    )

-- ---- a spread

module _ (r x spread : Float) (p : Rect) (e : Encloses (LoadWithSpread r x spread) p) where
  spread_passed : ((number_refusal r x spread).number ≡ 0) × ((side_refusal (spread_rect r x spread)).number ≡ 0) × (spread_rect r x spread ≡ p)
  unfolding enclosed spread_refusal
  spread_passed =
      let (passed, same) = rectangle-given (spread_refusal r x spread) (spread_rect r x spread) p e in
      let (numbers, sides) = or_split (number_refusal r x spread) (side_refusal (spread_rect r x spread)) passed in
      (numbers, sides, same)

  moved-side : (c : Coordinate) (o : Rounding) → side c o p ≡ moved o (step_at o (number_of c r x)) (step_at up spread)
  moved-side c o = ap (side c o) (sym spread_passed.2) ∙ spread_side_is r x spread c o

pub spread_holds : SpreadHolds
spread_holds r x spread p e c v above below o =
    subst (Bounded o v) (sym (moved-side r x spread p e c o))
    (moved_bounds (step_at o (number_of c r x)) (step_at up spread) (steps (number_of c r x)) (steps spread) v (step_holds up spread) o (step_holds o (number_of c r x)) above below)

pub spread_moves : SpreadMoves
spread_moves r x spread p e = (
  load_rect r x,
  record {
    encloses = load_given;
    sides = λ c o. moved-side r x spread p e c o ∙ ap (λ (z : ℤ). moved o z (step_at up spread)) (sym (load-side_is r x c o));
  },
)
  where
    load_given : Encloses (Load r x) (load_rect r x)
    load_given = unfold enclosed in ap (λ a. reported a.found) (answered_gives (load_refusal r x) (load_rect r x) (numbers_passed r x spread (spread_passed r x spread p e).0).0)

pub zero_spread : ZeroSpread
zero_spread = same_answer

-- ---- accepted as a control point

-- moved outward, a low side stays at most its high one
still_ordered : {a b k : ℤ} → a ≤ℤ b → pos 0 ≤ℤ k → moved down a k ≤ℤ moved up b k
still_ordered {a} {b} {k} h positive =
    ≤ℤ-trans (≤ℤ-certificate positive (-ℤ-+ℤ_cancel a k ∙ sym (+ℤ_idr a))) (≤ℤ-trans h (≤ℤ-certificate positive (sym (+ℤ_idr (b +ℤ k)))))

spread_good : (r x spread : Float) (p : Rect) → Encloses (LoadWithSpread r x spread) p → (sides_in_range p ≡ true) × (sides_ordered p ≡ true)
unfolding sides_in_range
spread_good r x spread p e =
    let (numbers, sides, same) = spread_passed r x spread p e in
    let (first, second) = sides_passed p (subst (λ (p : Rect). (side_refusal p).number ≡ 0) same sides) in
    (both_and (true_of (ends_in_range p.resistance) first) (true_of (ends_in_range p.reactance) second), true_of (sides_ordered p) (sides-order p ordered))
  where
    ordered : (c : Coordinate) → side c down p ≤ℤ side c up p
    ordered c =
        subst₂ ◌≤ℤ◌ (sym (moved-side r x spread p e c down)) (sym (moved-side r x spread p e c up))
        (still_ordered (step_order (number_of c r x)) (spread_steps spread (numbers_passed r x spread (spread_passed r x spread p e).0).1))

pub good_rect : GoodRect
good_rect NoCarrier p e = unfold enclosed in let wrong : ◌≡◌ {A = ℕ} 1 2 = ap (λ (a : Report). a.number) e in absurd (omega arith)
good_rect (Load r x) p e = spread_good r x (fin false 0 (pos 0)) p (ap (λ a. reported a.found) (same_answer r x) ∙ e)
good_rect (LoadWithSpread r x spread) p e = spread_good r x spread p e
