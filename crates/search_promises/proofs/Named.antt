-- The pieces that Outside and Undecided name: a piece apart from the box, and the first piece at the depth limit that is noted.
-- Assumes nothing.
use mathlib.Core.Path.{◌≡◌, refl, sym, ap, ap₂, ◌∙◌, subst}
use mathlib.Core.Bool.{Bool, true, false, ◌&&◌, false≢true}
use mathlib.Core.Logic.{inl, inr}
use Prim.Native.Nat.{ℕ, zero, suc, ◌+◌, ◌*◌, ◌/◌, ◌%◌, ◌≤◌, ◌<◌, ◌^◌}
use native.Mathlib.Nat.{eq-or-lt_of_le, two-pow-succ}
use native.Mathlib.Numerals.{add-one}
use native.Mathlib.Omega.{arith}
use borrow.Author.Tests.{eqb-false}
use Rattle.curve.specs.declared.Rect.{Rect}
use Rattle.curve.specs.declared.Curve.{Curve}
use Rattle.curve.specs.Calls.{bounded, subdivided}
use Rattle.search.specs.declared.Verdict.{Verdict}
use Rattle.search.specs.declared.Verdict.TheVariants.{Refused, Inside, Outside, Spent, Undecided}
use Rattle.search.specs.Verdict.{reported, outside, undecided}
use Rattle.search.specs.Box.{apart_from}
use Rattle.search.specs.Walk.{goes_on, looked, noted, walked}
use Rattle.search_promises.specs.Pieces.{half_of, piece_at, is_across, across_to}
use Rattle.search_promises.specs.Promises.{FirstNoted, FoundApart, UndecidedNames, OutsideNames}
use Rattle.search.proofs.Visits.{Going, clear, marked, Within, Crossing, Rules, walk_keeps}
use Rattle.search.proofs.Counts.{looked_going}
use Rattle.search.proofs.Accepted.{by_answer}

-- ---- indices

-- the index of the piece m depths above piece j
up : ℕ → ℕ → ℕ
up zero j = j
up (suc m) j = up m j / 2

up_half : (m j : ℕ) → up m (j / 2) ≡ up m j / 2
unfolding up
up_half zero j = refl
up_half (suc m) j = ap (λ (k : ℕ). k / 2) (up_half m j)

module _ (c : Curve) where
  -- the halves of a piece
  piece_half : (d k i bit : ℕ) → k / 2 ≡ i → k % 2 ≡ bit → piece_at c (suc d) k ≡ half_of bit (subdivided (piece_at c d i) 1 2)
  unfolding piece_at
  piece_half d k i bit e f = ap₂ (λ (b j : ℕ). half_of b (subdivided (piece_at c d j) 1 2)) f e

  module _ (box : Rect) where
    across_crossing : (piece : Curve) → Crossing box piece → is_across box piece ≡ true
    unfolding is_across
    across_crossing piece o = rw (o.outside, o.meeting)

    across_within : (piece : Curve) → Within box piece → is_across box piece ≡ false
    unfolding is_across
    across_within piece w = rw w.contained

    -- a piece that is reached: every piece that it is cut from lies across
    abbrev Above : ℕ → ℕ → Type 0
    Above zero index = Unit {0}
    Above (suc depth) index = across_to c box depth (index / 2) ≡ true

    pub record Place (depth index : ℕ) (piece : Curve) : Type 0 where
      pub is : piece ≡ piece_at c depth index
      pub above : Above depth index
      pub numbered : index < 2 ^ depth

    -- the whole curve is reached
    pub whole_place : Place 0 0 c
    unfolding piece_at
    whole_place = record { is = refl; above = tt; numbered = omega arith }

    place_across : (d i : ℕ) (piece : Curve) → Place d i piece → Crossing box piece → across_to c box d i ≡ true
    unfolding across_to piece_at
    place_across zero i piece p o = subst (λ (q : Curve). is_across box q ≡ true) p.is (across_crossing piece o)
    place_across (suc d) i piece p o =
        ap₂ ◌&&◌ p.above (subst (λ (q : Curve). is_across box q ≡ true) p.is (across_crossing piece o))

    -- so are both halves of a piece that lies across
    pub place_half :
        (d i : ℕ) (piece : Curve) → Place d i piece → Crossing box piece →
        (k bit : ℕ) → k / 2 ≡ i → k % 2 ≡ bit → Place (d + 1) k (half_of bit (subdivided piece 1 2))
    place_half d i piece p o k bit e f =
        subst (λ (n : ℕ). Place n k (half_of bit (subdivided piece 1 2))) (sym (add-one d)) (record {
          is = ap (λ (q : Curve). half_of bit (subdivided q 1 2)) p.is ∙ sym (piece_half d k i bit e f);
          above = subst (λ (j : ℕ). across_to c box d j ≡ true) (sym e) (place_across d i piece p o);
          numbered = omega (arith, p.numbered, e, two-pow-succ d);
        })

    -- a piece above one that lies across all the way lies across all the way
    and_both : (a b : Bool) → (a && b) ≡ true → (a ≡ true) × (b ≡ true)
    and_both true b h = (refl, h)
    and_both false b h = absurd (false≢true h)

    last_across : (d i : ℕ) → across_to c box d i ≡ true → is_across box (piece_at c d i) ≡ true
    unfolding across_to piece_at
    last_across zero i h = h
    last_across (suc d) i h = (and_both (across_to c box d (i / 2)) _ h).1

    above_across : (m d j limit : ℕ) → d + m ≡ limit → across_to c box limit j ≡ true → across_to c box d (up m j) ≡ true
    unfolding up across_to
    above_across zero d j limit e h = let same : limit ≡ d = omega arith in subst (λ (n : ℕ). across_to c box n j ≡ true) same h
    above_across (suc m) d j limit e h =
        let more : limit ≡ suc (d + m) = omega arith in
        let here = (and_both (across_to c box (d + m) (j / 2)) _ (subst (λ (n : ℕ). across_to c box n j ≡ true) more h)).0 in
        subst (λ (k : ℕ). across_to c box d k ≡ true) (up_half m j) (above_across m d (j / 2) (d + m) refl here)

    -- so nothing below a piece in the box does
    under_within :
        (m d i : ℕ) (piece : Curve) (limit : ℕ) → d + m ≡ limit → Place d i piece → Within box piece →
        (j : ℕ) → up m j ≡ i → across_to c box limit j ≡ false
    under_within m d i piece limit e p w j h = go (across_to c box limit j) refl
      where
        go : (b : Bool) → across_to c box limit j ≡ b → across_to c box limit j ≡ false
        go false f = f
        go true f =
            let there = last_across d i (subst (λ (k : ℕ). across_to c box d k ≡ true) h (above_across m d j limit e f)) in
            absurd (false≢true (sym (subst (λ (q : Curve). is_across box q ≡ false) p.is (across_within piece w)) ∙ there))

    -- what the verdict says once all pieces at the limit below the first i pieces, m depths above them, are walked
    module _ (limit : ℕ) where
      Told : ℕ → ℕ → Verdict → Type 0
      Told m i Refused = Unit {0}
      Told m i (Inside n) = (j : ℕ) → up m j < i → across_to c box limit j ≡ false
      Told m i (Outside d k n) = FoundApart c box limit d k
      Told m i (Spent n) = Unit {0}
      Told m i (Undecided d k n) = (up m k < i) × FirstNoted c box limit d k

      -- an ended walk says the same later
      told-ended : (m i : ℕ) (v : Verdict) → goes_on v ≡ false → Told m i v → Told m (i + 1) v
      unfolding Told
      told-ended m i Refused e h = tt
      told-ended m i (Inside n) e h = absurd (false≢true (sym e))
      told-ended m i (Outside d k n) e h = h
      told-ended m i (Spent n) e h = tt
      told-ended m i (Undecided d k n) e h = absurd (false≢true (sym e))

      -- looking says nothing more
      told-looked : (m i : ℕ) {v : Verdict} → Going v → Told m i v → Told m i (looked v)
      unfolding Told
      told-looked m i clear h = h
      told-looked m i marked h = h

      -- a piece in the box holds no noted piece
      told-within :
          (m d i : ℕ) (piece : Curve) → d + m ≡ limit → Place d i piece → Within box piece →
          {v : Verdict} → Going v → Told m i v → Told m (i + 1) v
      unfolding Told
      told-within m d i piece e p w clear h = λ j l. elim (eq-or-lt_of_le (small j l)) [ inl same ↦ under_within m d i piece limit e p w j same | inr less ↦ h j less ]
        where
          small : (j : ℕ) → up m j < i + 1 → up m j ≤ i
          small j l = omega arith
      told-within m d i piece e p w marked h = (let l = h.0 in omega arith, h.1)

      -- at the limit a piece across is the first, or there is one before it
      told-noted :
          (d i : ℕ) (piece : Curve) → d + 0 ≡ limit → Place d i piece → Crossing box piece →
          {v : Verdict} → Going v → Told 0 i v → Told 0 (i + 1) (noted d i v)
      unfolding Told up
      told-noted d i piece e p o clear h =
          let same : d ≡ limit = omega arith in (
            omega arith,
            record {
              deepest = same;
              numbered = subst (λ (n : ℕ). i < 2 ^ n) same p.numbered;
              noted = subst (λ (n : ℕ). across_to c box n i ≡ true) same (place_across d i piece p o);
              first = h;
            },
          )
      told-noted d i piece e p o marked h = (let l = h.0 in omega arith, h.1)

      -- from a piece to its halves, and back
      told-down : (m i : ℕ) {v : Verdict} → Going v → Told (suc m) i v → Told m (i * 2) v
      unfolding Told up
      told-down m i clear h = λ j l. h j (omega arith)
      told-down m i marked h = (let l = h.0 in omega arith, h.1)

      told_back : (m i : ℕ) (v : Verdict) → Told m (i * 2 + 1 + 1) v → Told (suc m) (i + 1) v
      unfolding Told up
      told_back m i Refused h = tt
      told_back m i (Inside n) h = λ j l. h j (omega arith)
      told_back m i (Outside d k n) h = h
      told_back m i (Spent n) h = tt
      told_back m i (Undecided d k n) h = (let l = h.0 in omega arith, h.1)

      named_rules : (budget : ℕ) → Rules box budget (λ m piece d i v u. d + m ≡ limit → Place d i piece → Told m i v → Told m (i + 1) u)
      unfolding Told
      named_rules budget = record {
        ended = λ m piece d i v e s p h. told-ended m i v e h;
        exhausted = λ m piece d i v g f s p h. tt;
        contained = λ m piece d i v l w s p h. told-looked m (i + 1) l.going (told-within m d i piece s p w l.going h);
        apart = λ m piece d i v l o s p h. record {
          limited = omega arith;
          numbered = p.numbered;
          apart = subst (λ (q : Curve). apart_from (bounded q).rect box ≡ true) p.is o.apart;
        };
        limit = λ piece d i v l o s p h. told-noted d i piece s p o (looked_going l.going) (told-looked 0 i l.going h);
        halves = λ m piece d i v l o w u e f left right s p h.
            told_back m i u
            (right (omega arith) (place_half d i piece p o (i * 2 + 1) 1 (omega arith) (omega arith))
            (left (omega arith) (place_half d i piece p o (i * 2) 0 (omega arith) (omega arith))
            (told-down m i (looked_going l.going) (told-looked (suc m) i l.going h))));
      }

      -- the walk of the whole curve
      walk_told : (budget : ℕ) → Told limit 1 (walked box budget limit c 0 0 (Inside 0))
      unfolding Told
      walk_told budget =
          walk_keeps box budget (λ m piece d i v u. d + m ≡ limit → Place d i piece → Told m i v → Told m (i + 1) u) (named_rules budget)
          limit c 0 0 (Inside 0) (omega arith) whole_place (λ j l. absurd (omega arith))

      told-undecided : (m i : ℕ) (v : Verdict) → Told m i v → (reported v).number ≡ undecided → FirstNoted c box limit (reported v).depth (reported v).index
      unfolding Told
      told-undecided m i Refused h e = absurd (eqb-false 0 4 refl e)
      told-undecided m i (Inside n) h e = absurd (eqb-false 1 4 refl e)
      told-undecided m i (Outside d k n) h e = absurd (eqb-false 2 4 refl e)
      told-undecided m i (Spent n) h e = absurd (eqb-false 3 4 refl e)
      told-undecided m i (Undecided d k n) h e = h.1

      told-outside : (m i : ℕ) (v : Verdict) → Told m i v → (reported v).number ≡ outside → FoundApart c box limit (reported v).depth (reported v).index
      unfolding Told
      told-outside m i Refused h e = absurd (eqb-false 0 2 refl e)
      told-outside m i (Inside n) h e = absurd (eqb-false 1 2 refl e)
      told-outside m i (Outside d k n) h e = h
      told-outside m i (Spent n) h e = absurd (eqb-false 3 2 refl e)
      told-outside m i (Undecided d k n) h e = absurd (eqb-false 4 2 refl e)

-- ---- the promises

pub undecided_names : UndecidedNames
undecided_names c box depth budget =
    by_answer c box depth budget (λ v. (reported v).number ≡ undecided → FirstNoted c box depth (reported v).depth (reported v).index)
    (λ e. absurd (eqb-false 0 4 refl e))
    (λ f. told-undecided c box depth depth 1 (walked box budget depth c 0 0 (Inside 0)) (walk_told c box depth budget))

pub outside_names : OutsideNames
outside_names c box depth budget =
    by_answer c box depth budget (λ v. (reported v).number ≡ outside → FoundApart c box depth (reported v).depth (reported v).index)
    (λ e. absurd (eqb-false 0 2 refl e))
    (λ f. told-outside c box depth depth 1 (walked box budget depth c 0 0 (Inside 0)) (walk_told c box depth budget))
