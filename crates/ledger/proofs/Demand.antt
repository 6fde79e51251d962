-- Demand 3: along every list of calls the present curve is the stretch that the ledger says, so every accepted reading is sound.
-- Assumes nothing.
use mathlib.Core.Path.{◌≡◌, refl, sym, ap, ap₂, ◌∙◌, subst, subst₂}
use mathlib.Core.Bool.{Bool, true, false, cond}
use mathlib.Core.List.{List, [], ◌∷◌}
use Prim.Native.Nat.{ℕ, ◌+◌, ◌<◌}
use native.Mathlib.Nat.{zero-add, add-zero, add_assoc}
use lib.Dec.{T, eqb, eqb→eq}
use lib.IntN.{pos}
use Rattle.rational.specs.Fraction.{Frac, ◌*ᶠ◌, complement, parameter}
use Rattle.rational.proofs.Rational.{ℚ, rat, rat_add, rat_mul, embed, ◌+ℚ◌, ◌*ℚ◌, zero-+ℚ, one-*ℚ, *ℚ-zero, *ℚ-one, +ℚ-zero}
use Rattle.curve.specs.declared.Curve.{Curve}
use Rattle.curve.specs.declared.Rect.{Rect}
use Rattle.curve.specs.declared.Refusal.{Refusal}
use Rattle.curve.specs.Limits.{max_degree}
use Rattle.curve.specs.Curve.{piece_sum, elevated_sum, left_of, right_of, elevated_of}
use Rattle.curve.specs.Refusals.{◌or_else◌, parameter_refusal, highest_refusal, sum_refusal, Accepted, AcceptedAt, AcceptedSum}
use Rattle.curve.proofs.Tests.{or_split}
use Rattle.curve.proofs.Accepted.{accepted_facts, parameter_facts, number-accepted-at, number-accepted-sum, call_parameter, subdivision_own, elevation_own, number-highest}
use Rattle.curve.proofs.Answers.{evaluated-accepted, evaluated-refusal, subdivided-accepted, subdivided-refusal, elevated-accepted, elevated-refusal}
use Rattle.curve.proofs.Pieces.{left-accepted, right-accepted, elevated_of-accepted, left-degree, right-degree, elevated-degree, left-sum, right-sum, elevated-sum}
use Rattle.sixteenths.specs.Weights.{sixteenths}
use Rattle.sixteenths.proofs.Answers.{number-numerator, sixteenth_accepted, refusal-numerator, summed_accepted, summed_refusal}
use Rattle.ledger.specs.Ordinary.{Ordinary, InsideOf}
use Rattle.ledger.specs.Ledger as Book
use Rattle.ledger.specs.Ledger.{Ledger, Call, evaluate, evaluate_sixteenths, subdivide, elevate, left, right, opened, place_of, subdivided_sum, refused, entered, after, refusal_of, answer_of, leaves}
use Rattle.ledger.specs.Claim.{Sound, AtCall, Along, Demand, OneEvaluation}
use Rattle.ledger.proofs.Stretch.{Stretch, whole_stretch, joined, renamed}
use Rattle.ledger.proofs.Steps.{left_stretch, right_stretch, elevated_stretch}
use Rattle.ledger.proofs.Evaluation.{staged_reads, summed_reads, reads_weaken, sound}

-- what is kept along the list: the present curve is accepted, of the ledger's degree and with its sum on top of the one brought, and the stretch of the starting curve that the ledger says
pub record Kept (c : Curve) (l : Ledger) (now : Curve) : Type 0 where
  pub accepted : Accepted now
  pub degrees : now.degree ≡ l.degree
  pub sums : now.sum ≡ l.brought + l.sum
  pub stretch : Stretch (rat l.start) (rat l.width) l.sum c now

-- it holds at the start
pub opened-kept : (c : Curve) → Accepted c → Kept c (opened c) c
unfolding opened embed
opened-kept c a = record { accepted = a; degrees = refl; sums = sym (add-zero c.sum); stretch = whole_stretch c }

-- the ledger's place is the stretch's
place_is : (l : Ledger) (t : Frac) → rat l.start +ℚ rat l.width *ℚ rat t ≡ rat (place_of l t)
unfolding place_of
place_is l t = sym (rat_add l.start (l.width *ᶠ t) ∙ ap (λ x. rat l.start +ℚ x) (rat_mul l.width t))

module _ (c : Curve) (l : Ledger) (now : Curve) (kept : Kept c l now) where
  -- the sum of the pieces, as the ledger tells it
  piece_sums : piece_sum now ≡ l.brought + subdivided_sum l
  piece_sums = ap₂ ◌+◌ kept.sums kept.degrees ∙ add_assoc l.brought l.sum l.degree

  -- and that of the elevated curve
  one_more : elevated_sum now ≡ l.brought + Book.elevated_sum l
  one_more = ap (λ (s : ℕ). s + 1) kept.sums ∙ add_assoc l.brought l.sum 1

  -- the ledger's refusal is the call's
  pub same-refusal : (call : Call) → refusal_of now call ≡ refused l call
  same-refusal (evaluate num den) = evaluated-refusal now num den ∙ call_parameter now num den kept.accepted
  same-refusal (evaluate_sixteenths j) = summed_refusal now j ∙ refusal-numerator now j kept.accepted
  same-refusal (subdivide num den piece) =
      subdivided-refusal now num den ∙ subdivision_own now num den kept.accepted ∙ ap (λ (s : ℕ). parameter_refusal num den or_else sum_refusal s) piece_sums
  same-refusal elevate =
      elevated-refusal now ∙ elevation_own now kept.accepted
      ∙ ap₂ (λ (n s : ℕ). highest_refusal n or_else sum_refusal s) kept.degrees one_more

  -- an accepted reading is sound
  pub evaluation_sound : (o : Ordinary) → InsideOf o c → (call : Call) → AtCall c o l now call
  evaluation_sound o inside (evaluate num den) = λ h.
      let at : AcceptedAt num den = sym (same-refusal (evaluate num den)) ∙ h in
      subst₂ (λ (n : ℕ) (p : Rect). Sound c o (place_of l (parameter num den)) (l.sum + n) p) kept.degrees
      (ap (λ e. e.load) (sym (evaluated-accepted now num den kept.accepted at)))
      (sound c now _ _ _ kept.stretch num den (parameter_facts num den at).factors _ (place_is l (parameter num den)) _ _ (staged_reads now num den (parameter_facts num den at).factors) o inside)
  evaluation_sound o inside (evaluate_sixteenths j) = λ h.
      let most = number-numerator j (ap (λ (r : Refusal). r.number) (sym (same-refusal (evaluate_sixteenths j)) ∙ h)) in
      let f = (parameter_facts j sixteenths (sixteenth_accepted j most)).factors in
      let some = (accepted_facts now kept.accepted).some in
      subst₂ (λ (n : ℕ) (p : Rect). Sound c o (place_of l (parameter j sixteenths)) (l.sum + n) p) kept.degrees
      (ap (λ e. e.load) (sym (summed_accepted now j kept.accepted most)))
      (sound c now _ _ _ kept.stretch j sixteenths f _ (place_is l (parameter j sixteenths)) _ _ (reads_weaken now j sixteenths f _ 1 now.degree some (summed_reads now j f)) o inside)
  evaluation_sound o inside (subdivide num den piece) = tt
  evaluation_sound o inside elevate = tt

  -- a stretch of the present curve takes its place
  followed :
      (next : Curve) (b v : ℚ) (n : ℕ) (m : Ledger) → l.sum + n ≡ m.sum → Accepted next → Stretch b v n now next → next.degree ≡ m.degree → next.sum ≡ m.brought + m.sum →
      rat l.start +ℚ rat l.width *ℚ b ≡ rat m.start → rat l.width *ℚ v ≡ rat m.width → Kept c m next
  followed next b v n m r a s d t p q = record { accepted = a; degrees = d; sums = t; stretch = renamed p q r (joined _ _ b v _ n c now next kept.stretch s) }

  same_start : rat l.start +ℚ rat l.width *ℚ embed (pos 0) ≡ rat l.start
  same_start = ap (λ x. rat l.start +ℚ x) (*ℚ-zero (rat l.width)) ∙ +ℚ-zero (rat l.start)

  -- what a subdivision that the ledger does not refuse allows
  pub subdivision_allowed : (num den : ℕ) → (parameter_refusal num den or_else sum_refusal (l.brought + subdivided_sum l)).number ≡ 0 → AcceptedAt num den × AcceptedSum (piece_sum now)
  subdivision_allowed num den h =
      let (first, last) = or_split (parameter_refusal num den) (sum_refusal (l.brought + subdivided_sum l)) h in
      (number-accepted-at num den first, subst AcceptedSum (sym piece_sums) (number-accepted-sum (l.brought + subdivided_sum l) last))

  -- and what an elevation allows
  pub elevation_allowed : (highest_refusal l.degree or_else sum_refusal (l.brought + Book.elevated_sum l)).number ≡ 0 → (now.degree < max_degree) × AcceptedSum (elevated_sum now)
  elevation_allowed h =
      let (highest, last) = or_split (highest_refusal l.degree) (sum_refusal (l.brought + Book.elevated_sum l)) h in (
        subst (λ (n : ℕ). n < max_degree) (sym kept.degrees) (number-highest l.degree highest),
        subst AcceptedSum (sym one_more) (number-accepted-sum (l.brought + Book.elevated_sum l) last),
      )

  -- an accepted call keeps it
  entered-kept : (call : Call) → (refused l call).number ≡ 0 → Kept c (entered l call) (answer_of now call)
  entered-kept (evaluate num den) h = kept
  entered-kept (evaluate_sixteenths j) h = kept
  entered-kept (subdivide num den left) h =
      let (at, room) = subdivision_allowed num den h in
      subst (λ s. Kept c (entered l (subdivide num den left)) s.left) (sym (subdivided-accepted now num den kept.accepted at room))
      (followed (left_of now num den) _ _ _ (entered l (subdivide num den left)) (ap (λ (n : ℕ). l.sum + n) kept.degrees) (left-accepted now kept.accepted num den at)
      (left_stretch now kept.accepted num den (parameter_facts num den at).factors) (left-degree now num den ∙ kept.degrees) (left-sum now num den ∙ piece_sums)
      same_start (sym (rat_mul l.width (parameter num den))))
  entered-kept (subdivide num den right) h =
      let (at, room) = subdivision_allowed num den h in
      subst (λ s. Kept c (entered l (subdivide num den right)) s.right) (sym (subdivided-accepted now num den kept.accepted at room))
      (followed (right_of now num den) _ _ _ (entered l (subdivide num den right)) (ap (λ (n : ℕ). l.sum + n) kept.degrees) (right-accepted now kept.accepted num den at)
      (right_stretch now kept.accepted num den (parameter_facts num den at).factors) (right-degree now num den ∙ kept.degrees) (right-sum now num den ∙ piece_sums)
      (place_is l (parameter num den)) (sym (rat_mul l.width (complement (parameter num den)))))
  entered-kept elevate h =
      let (few, room) = elevation_allowed h in
      subst (λ e. Kept c (entered l elevate) e.curve) (sym (elevated-accepted now kept.accepted few room))
      (followed (elevated_of now) _ _ _ (entered l elevate) refl (elevated_of-accepted now kept.accepted few)
      (elevated_stretch now kept.accepted few) (elevated-degree now ∙ ap (λ (n : ℕ). n + 1) kept.degrees)
      (elevated-sum now ∙ one_more)
      same_start (*ℚ-one (rat l.width)))

  -- and so does every call
  pub after_kept : (call : Call) → Kept c (after l call) (leaves now call)
  unfolding after leaves
  after_kept call =
      subst (λ (r : Refusal). Kept c (after l call) (cond (eqb r.number 0) (answer_of now call) now)) (sym (same-refusal call))
      (go (eqb (refused l call).number 0) refl)
    where
      go : (b : Bool) → eqb (refused l call).number 0 ≡ b → Kept c (cond b (entered l call) l) (cond b (answer_of now call) now)
      go true e = entered-kept call (eqb→eq (refused l call).number 0 (subst T (sym e) tt))
      go false e = kept

-- the claim, from any present curve of which this is kept
along : (c : Curve) (o : Ordinary) → InsideOf o c → (calls : List Call) (l : Ledger) (now : Curve) → Kept c l now → Along c o l now calls
along c o inside [] l now kept = tt
along c o inside (call ∷ calls) l now kept =
    (same-refusal c l now kept call, evaluation_sound c l now kept o inside call, along c o inside calls (after l call) (leaves now call) (after_kept c l now kept call))

-- demand 3
pub demand : Demand
demand c accepted o inside calls = along c o inside calls (opened c) c (opened-kept c accepted)

-- the corollary of one reading: the whole stretch, read at the parameter
pub one_evaluation : OneEvaluation
one_evaluation c accepted o inside num den at =
    subst₂ (λ (n : ℕ) (p : Rect). Sound c o (parameter num den) n p) (zero-add c.degree) (ap (λ e. e.load) (sym (evaluated-accepted c num den accepted at)))
    (sound c c _ _ _ (whole_stretch c) num den (parameter_facts num den at).factors (parameter num den) (zero-+ℚ _ ∙ one-*ℚ _) _ _ (staged_reads c num den (parameter_facts num den at).factors) o inside)
