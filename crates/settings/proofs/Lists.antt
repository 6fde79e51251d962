-- The first box of a list that is refused, and the first record that fits, from one record to the next.
use mathlib.Core.Path.{◌≡◌, refl, sym, ap, ◌∙◌}
use mathlib.Core.Bool.{Bool, true, false, cond}
use mathlib.Core.List.{List, ◌∷◌}
use Prim.Native.Nat.{ℕ, ◌+◌, ◌<◌}
use native.Mathlib.Numerals.{add-one}
use borrow.Author.Tests.{eqb-false}
use lib.ListN.{length, get_or, drop}
use lib.Seq.{drop-cons}
use Rattle.curve.specs.declared.Refusal.{Refusal}
use Rattle.curve.specs.declared.reason.Reason.{Reason}
use Rattle.curve.specs.Refusals.{none, refusal}
use Rattle.curve.specs.Reason.{listed}
use Rattle.search.specs.Box.{is_box}
use Rattle.curve.proofs.Listed.{listed_some}
use Rattle.settings.specs.declared.Setting.{Setting}
use Rattle.settings.specs.declared.Choice.TheVariants.{Fits}
use Rattle.settings.specs.Settings.{boxes_refusal, first_of}

-- a test that gives a reason fails, and one that gives none holds
box_bad : (b : Bool) (at : ℕ) (later : Refusal) (e : Reason) → listed e ≡ cond b none (refusal 7 at) → listed e ≡ cond b later (refusal 7 at)
box_bad true at later e h = absurd (listed_some e (ap (λ (r : Refusal). r.number) h))
box_bad false at later e h = h

box_good : (b : Bool) (at : ℕ) (later : Refusal) → none ≡ cond b none (refusal 7 at) → later ≡ cond b later (refusal 7 at)
box_good true at later h = refl
box_good false at later h = absurd (eqb-false 0 7 refl (ap (λ (r : Refusal). r.number) h))

module _ (ss : List Setting) (d : Setting) (at : ℕ) (l : at < length ss) where
  -- what is left of the list
  rest : drop at ss ≡ get_or ss at d ∷ drop (at + 1) ss
  rest = drop-cons ss at d l ∙ ap (λ (k : ℕ). get_or ss at d ∷ drop k ss) (sym (add-one at))

  boxes_here : boxes_refusal at (drop at ss) ≡ cond (is_box (get_or ss at d).limits) (boxes_refusal (at + 1) (drop (at + 1) ss)) (refusal 7 at)
  unfolding boxes_refusal
  boxes_here =
      ap (boxes_refusal at) rest
      ∙ ap (λ (k : ℕ). cond (is_box (get_or ss at d).limits) (boxes_refusal k (drop (at + 1) ss)) (refusal 7 at)) (sym (add-one at))

  pub boxes_bad : (e : Reason) → listed e ≡ cond (is_box (get_or ss at d).limits) none (refusal 7 at) → listed e ≡ boxes_refusal at (drop at ss)
  boxes_bad e h = box_bad (is_box (get_or ss at d).limits) at (boxes_refusal (at + 1) (drop (at + 1) ss)) e h ∙ sym boxes_here

  pub boxes_next : none ≡ cond (is_box (get_or ss at d).limits) none (refusal 7 at) → boxes_refusal at (drop at ss) ≡ boxes_refusal (at + 1) (drop (at + 1) ss)
  boxes_next h = boxes_here ∙ sym (box_good (is_box (get_or ss at d).limits) at (boxes_refusal (at + 1) (drop (at + 1) ss)) h)

  module _ (test : Setting → Bool) where
    first_here : (b : Bool) → test (get_or ss at d) ≡ b → first_of test at (drop at ss) ≡ cond b (Fits at (get_or ss at d).number) (first_of test (at + 1) (drop (at + 1) ss))
    unfolding first_of
    first_here b e =
        ap (first_of test at) rest
        ∙ ap (λ (k : ℕ). cond (test (get_or ss at d)) (Fits at (get_or ss at d).number) (first_of test k (drop (at + 1) ss))) (sym (add-one at))
        ∙ ap (λ (x : Bool). cond x (Fits at (get_or ss at d).number) (first_of test (at + 1) (drop (at + 1) ss))) e

    pub first_fits : test (get_or ss at d) ≡ true → first_of test at (drop at ss) ≡ Fits at (get_or ss at d).number
    first_fits = first_here true

    pub first_next : test (get_or ss at d) ≡ false → first_of test at (drop at ss) ≡ first_of test (at + 1) (drop (at + 1) ss)
    first_next = first_here false
