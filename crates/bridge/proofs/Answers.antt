-- The answers of `enclose` by what is refused: its numbers, its sides, or nothing.
-- Assumes nothing.
use Rattle.std.proofs.Common.{◌≡◌, refl, sym, ap, ap₂, ◌∙◌, Bool, cond, Option, Some, Result, Ok, Err, IsErrAnd}
use borrow.Author.Tests.{eq-eqb, ne_eqb}
use lib.Dec.{T}
use lib.Ieee.{Float}
use Rattle.curve.specs.declared.Rect.{Rect}
use Rattle.curve.specs.declared.Refusal.{Refusal}
use Rattle.curve.specs.Rect.{ends_in_range}
use Rattle.curve.specs.declared.reason.Reason.{Reason}
use Rattle.curve.specs.Reason.{listed}
use Rattle.curve.specs.Refusals.{none, ◌or_else◌, unless_at}
use Rattle.curve.proofs.Tests.{or_split, unless_holds}
use Rattle.curve.proofs.Answers.{in_both}
use Rattle.bridge.specs.declared.Measurement.TheVariants.{LoadWithSpread}
use Rattle.bridge.specs.declared.Found.TheVariants.{Refused, Rectangle}
use Rattle.bridge.specs.declared.BridgeAnswer.{BridgeAnswer}
use Rattle.bridge.specs.Results.{as_bridge_answer}
use Rattle.curve.proofs.Listed.{listed_refuses, listed_first}
use Rattle.bridge.specs.Value.{is_load, is_spread}
use Rattle.bridge.specs.Bridge.{spread_rect, load_refusal, number_refusal, side_refusal, spread_refusal, answered, enclosed}

-- ---- an answer by its refusal's number

abbrev pub refused : Refusal → BridgeAnswer
refused r = record { refusal = r; found = Refused }

abbrev pub gives : Refusal → Rect → BridgeAnswer
gives r p = record { refusal = r; found = Rectangle p }

pub answered-refused : (r : Refusal) (p : Rect) → (r.number ≡ 0 → ⊥) → answered r p ≡ refused r
answered-refused r p h = rw (ne_eqb r.number 0 h)

pub answered_gives : (r : Refusal) (p : Rect) → r.number ≡ 0 → answered r p ≡ gives r p
answered_gives r p h = rw (eq-eqb r.number 0 h)

pub answered-refusal : (r : Refusal) (p : Rect) → (answered r p).refusal ≡ r
answered-refusal r p = in_both (λ r. gives r p) refused r (λ a. a.refusal) r refl refl

-- ---- a load with a spread

module _ (r x spread : Float) where
  -- its sides are looked at where its numbers pass
  pub sides_left : none ≡ number_refusal r x spread → side_refusal (spread_rect r x spread) ≡ spread_refusal r x spread
  unfolding spread_refusal
  sides_left passed = ap (λ (a : Refusal). a or_else side_refusal (spread_rect r x spread)) passed

  pub numbers_first : (e : Reason) → listed e ≡ number_refusal r x spread → listed e ≡ spread_refusal r x spread
  unfolding spread_refusal
  numbers_first e is =
      sym (listed_first e (side_refusal (spread_rect r x spread))) ∙ ap (λ (a : Refusal). a or_else side_refusal (spread_rect r x spread)) is

  pub refused_answer :
      (res : Result (Option Rect) Reason) (e : Reason) → IsErrAnd res (λ x. x ≡ e) → listed e ≡ spread_refusal r x spread →
      as_bridge_answer res ≡ enclosed (LoadWithSpread r x spread)
  unfolding enclosed
  refused_answer (Ok found) e given is = absurd given
  refused_answer (Err d) e given is =
      let d-is : listed d ≡ spread_refusal r x spread = ap listed given ∙ is in
      rw (← d-is) (sym (ap (λ (b : Bool). cond b (gives (listed d) (spread_rect r x spread)) (refused (listed d))) (listed_refuses d)))

  pub accepted_answer :
      (p : Rect) → none ≡ spread_refusal r x spread → p ≡ spread_rect r x spread → as_bridge_answer (Ok (Some p)) ≡ enclosed (LoadWithSpread r x spread)
  unfolding enclosed
  accepted_answer p passed is = ap₂ answered passed is

-- ---- what number 0 says

pub loads_passed : (r x : Float) → (load_refusal r x).number ≡ 0 → T (is_load r) × T (is_load x)
unfolding load_refusal
loads_passed r x h =
    let (first, second) = or_split (unless_at (is_load r) 13 0) (unless_at (is_load x) 13 1) h in
    (unless_holds (is_load r) 12 0 first, unless_holds (is_load x) 12 1 second)

pub numbers_passed : (r x spread : Float) → (number_refusal r x spread).number ≡ 0 → ((load_refusal r x).number ≡ 0) × T (is_spread spread)
unfolding number_refusal
numbers_passed r x spread h =
    let (load, last) = or_split (load_refusal r x) (unless_at (is_spread spread) 13 2) h in
    (load, unless_holds (is_spread spread) 12 2 last)

pub sides_passed : (p : Rect) → (side_refusal p).number ≡ 0 → T (ends_in_range p.resistance) × T (ends_in_range p.reactance)
unfolding side_refusal
sides_passed p h =
    let (first, second) = or_split (unless_at (ends_in_range p.resistance) 14 0) (unless_at (ends_in_range p.reactance) 14 1) h in
    (unless_holds (ends_in_range p.resistance) 13 0 first, unless_holds (ends_in_range p.reactance) 13 1 second)
