-- The promises of specs/Promises.antt, proved.
-- Assumes nothing.
use mathlib.Core.Path.{◌≡◌, sym, ap, ap₂, ◌∙◌, subst, subst₂}
use mathlib.Core.Bool.{Bool, true, false, cond}
use Prim.Native.Nat.{ℕ, ◌+◌, ◌-◌, ◌^◌, ◌≤◌, ◌<◌}
use native.Mathlib.Omega.{arith}
use lib.Dec.{eqb}
use lib.IntN.{ℤ, pos, ◌*ℤ◌}
use Rattle.rational.specs.Rounding.{Rounding, quotient, divisible}
use Rattle.rational.proofs.Division.{ratio_embed}
use Rattle.rational.proofs.Quotient.{quotient_exact}
use Rattle.rational.proofs.Divisible.{multiple_divisible}
use Rattle.bernstein.specs.Affine.{affine}
use Rattle.bernstein.specs.DeCasteljau.{value}
use Rattle.bernstein.specs.WholeSum.{weight, whole_sum}
use Rattle.bernstein.proofs.Unrounded.{table_mean}
use Rattle.bernstein.proofs.WholeSum.{power_positive, whole-value, total_agree}
use Rattle.curve.specs.declared.Curve.{Curve}
use Rattle.curve.specs.declared.Evaluation.{Evaluation}
use Rattle.curve.specs.declared.Rect.{Rect}
use Rattle.curve.specs.declared.Refusal.{Refusal}
use Rattle.curve.specs.Rect.{Coordinate, side, Inside, zero_rect}
use Rattle.curve.specs.Curve.{point, load_of, table_exact, SameButSum}
use Rattle.curve.specs.Refusals.{none, ◌or_else◌}
use Rattle.curve.proofs.Accepted.{parameter_facts}
use Rattle.curve.proofs.Answers.{evaluation, no_evaluation, evaluated-accepted}
use Rattle.curve_promises.proofs.EndPoints.{end_points}
use Rattle.curve_promises.proofs.Flags as Flags
use Rattle.curve_promises.proofs.Flags.{lit-ends, table-lit}
use Rattle.curve_promises.proofs.LoadOhms.{Exactly, rect-ohms}
use Rattle.curve.proofs.Loads.{zero-ohms}
use Rattle.curve_promises.proofs.PastUnread.{refusals}
use Rattle.curve.proofs.Points.{sides, side-value}
use Rattle.curve.proofs.Ranges.{zero_held}
use Rattle.curve.proofs.RectSides.{same-sides}
use Rattle.curve.proofs.Refused.{by_number}
use Rattle.sixteenths.specs.Weights.{sixteenths}
use Rattle.sixteenths.specs.Sixteenths.{sum_of, summed_side, side_exact, summed_load, summed_exact, numerator_refusal, sixteenths_refusal, evaluated_sixteenths}
use Rattle.sixteenths_promises.specs.Promises as Promises
use Rattle.sixteenths_promises.specs.Promises.{InsideStaged, LitStaged, SummedEnds}
use Rattle.sixteenths.proofs.Answers.{number_facts, summed_accepted, summed_refused, sixteenth_accepted, summed_lit}
use Rattle.sixteenths.proofs.Loads.{side_summed, load_inside, summed_held, four}

pub inside_staged : InsideStaged
inside_staged c j ok most =
    subst₂ Inside
    (sym (ap (λ (e : Evaluation). e.load) (summed_accepted c j ok most)))
    (sym (ap (λ (e : Evaluation). e.load) (evaluated-accepted c j sixteenths ok (sixteenth_accepted j most))))
    (load_inside c j most)

-- ---- where nothing is rounded at any stage

some : 0 < sixteenths
some = omega arith

module _ (c : Curve) (j : ℕ) (most : j ≤ sixteenths) (lit : table_exact c j sixteenths ≡ true) (x : Coordinate) (r : Rounding) where
  abbrev staged : ℤ
  staged = value (affine r (sixteenths - j) j sixteenths) (sides x r (point c)) c.degree

  -- the sum is 16 to the power n times the staged side
  sum_staged : sum_of c j x r ≡ staged *ℤ pos (sixteenths ^ c.degree)
  unfolding sum_of value
  sum_staged =
      let positive = power_positive sixteenths c.degree some in
      ratio_embed (sixteenths ^ c.degree) positive staged (sum_of c j x r)
      (whole-value sixteenths some (sixteenths - j) j c.degree (sides x r (point c))
      ∙ sym (table_mean r (sixteenths - j) j sixteenths some (sides x r (point c)) c.degree (table-lit c x r j sixteenths lit) c.degree 0 (omega arith)))

  side_staged : summed_side c j x r ≡ staged
  unfolding summed_side
  side_staged =
      ap (λ (z : ℤ). quotient r z (sixteenths ^ c.degree)) sum_staged
      ∙ quotient_exact (sixteenths ^ c.degree) (power_positive sixteenths c.degree some) r staged

  exact_staged : side_exact c j x r ≡ true
  unfolding side_exact
  exact_staged = ap (λ (z : ℤ). divisible z (sixteenths ^ c.degree)) sum_staged ∙ multiple_divisible (sixteenths ^ c.degree) staged

pub lit_staged : LitStaged
unfolding load_of
lit_staged c j flag =
    let (ok, at) = (Flags.lit-accepted).evaluating c j sixteenths flag in
    let most = (parameter_facts j sixteenths at).most in
    let answer = evaluated-accepted c j sixteenths ok at in
    let lit : table_exact c j sixteenths ≡ true = sym (ap (λ (e : Evaluation). e.exact) answer) ∙ flag in
    let load : summed_load c j ≡ load_of c j sixteenths = same-sides (λ x r. side_summed c j x r ∙ side_staged c j most lit x r ∙ sym (side-value x r (point c) (sixteenths - j) j sixteenths c.degree)) in
    let exact : summed_exact c j ≡ true = sym (four c j (λ x r. true) (λ x r. sym (exact_staged c j most lit x r))) in
    summed_accepted c j ok most
    ∙ ap₂ (λ (p : Rect) (b : Bool). evaluation p b none) load (exact ∙ sym lit)
    ∙ sym answer

pub summed_ends : SummedEnds
summed_ends c ok =
    let at = sixteenth_accepted sixteenths (omega arith) in
    let (first, last) = lit-ends c sixteenths ok at in
    let ends = end_points c sixteenths ok at in
    let start = lit_staged c 0 first.0 in
    let end = lit_staged c sixteenths last.0 in (
      (ap (λ (e : Evaluation). e.load) start ∙ ends.0, ap (λ (e : Evaluation). e.exact) start ∙ first.0),
      (ap (λ (e : Evaluation). e.load) end ∙ ends.1, ap (λ (e : Evaluation). e.exact) end ∙ last.0),
    )

-- ---- every call

pub lit-accepted : Promises.LitAccepted
lit-accepted = summed_lit

pub load-ohms : Promises.LoadOhms
load-ohms c j x r = by_number (sixteenths_refusal c j).number accepted refused
  where
    accepted : (sixteenths_refusal c j).number ≡ 0 → Exactly x r (evaluated_sixteenths c j).load (evaluated_sixteenths c j).ohms
    accepted h =
        let (ok, most) = number_facts c j h in
        subst (λ (e : Evaluation). Exactly x r e.load e.ohms) (sym (summed_accepted c j ok most)) (rect-ohms (summed_load c j) (summed_held c j ok most) x r)

    refused : eqb (sixteenths_refusal c j).number 0 ≡ false → Exactly x r (evaluated_sixteenths c j).load (evaluated_sixteenths c j).ohms
    refused e =
        subst (λ (e : Evaluation). Exactly x r e.load e.ohms) (sym (summed_refused c j e))
        (subst (λ o. Exactly x r zero_rect o) zero-ohms (rect-ohms zero_rect zero_held x r))

-- the sums read the control points as far as the degree
module _ (c e : Curve) (same : SameButSum c e) (j : ℕ) where
  sum_same : (x : Coordinate) (r : Rounding) → sum_of c j x r ≡ sum_of e j x r
  unfolding sum_of whole_sum
  sum_same x r =
      total_agree (c.degree + 1) _ _ (λ k h. ap (λ (p : Rect). pos (weight c.degree (sixteenths - j) j k) *ℤ side x r p) (same.controls k (omega arith)))
      ∙ ap (λ (n : ℕ). whole_sum n (sixteenths - j) j (λ k. side x r (point e k))) same.degrees

  side_same : (x : Coordinate) (r : Rounding) → summed_side c j x r ≡ summed_side e j x r
  unfolding summed_side
  side_same x r = ap₂ (λ (z : ℤ) (n : ℕ). quotient r z (sixteenths ^ n)) (sum_same x r) same.degrees

  exact_same : (x : Coordinate) (r : Rounding) → side_exact c j x r ≡ side_exact e j x r
  unfolding side_exact
  exact_same x r = ap₂ (λ (z : ℤ) (n : ℕ). divisible z (sixteenths ^ n)) (sum_same x r) same.degrees

pub past_unread : Promises.PastUnread
unfolding evaluated_sixteenths sixteenths_refusal summed_exact
past_unread c e same j =
    let refusal : sixteenths_refusal c j ≡ sixteenths_refusal e j = ap (λ (r : Refusal). r or_else numerator_refusal j) (refusals c e same) in
    let load : summed_load c j ≡ summed_load e j = same-sides (λ x r. side_summed c j x r ∙ side_same c e same j x r ∙ sym (side_summed e j x r)) in
    let exact : summed_exact c j ≡ summed_exact e j = four e j (side_exact c j) (exact_same c e same j) in
    ap (λ (r : Refusal). cond (eqb r.number 0) (evaluation (summed_load c j) (summed_exact c j) r) (no_evaluation r)) refusal
    ∙ ap₂ (λ (p : Rect) (b : Bool). cond (eqb (sixteenths_refusal e j).number 0) (evaluation p b (sixteenths_refusal e j)) (no_evaluation (sixteenths_refusal e j))) load exact
