-- A table's sides, four for each place: storing a rectangle, and what one pass over the sides makes of the places.
-- Assumes nothing.
use mathlib.Core.Path.{◌≡◌, refl, sym, ap, ap₂, ◌∙◌, subst}
use mathlib.Core.Bool.{Bool, true, false, ◌&&◌}
use mathlib.Core.List.{List}
use mathlib.Core.Logic.{◌⊎◌, inl, inr}
use Prim.Native.Nat.{ℕ, zero, suc, ◌+◌, ◌*◌, ◌/◌, ◌%◌, ◌≤◌, ◌<◌}
use native.Mathlib.Nat.{add-zero}
use native.Mathlib.Decide.{dec_lt}
use native.Mathlib.Omega.{arith}
use borrow.Author.Tests.{eq-eqb, ne_eqb}
use lib.Dec.{eqb}
use lib.IntN.{ℤ, pos}
use lib.ListN.{length, get_or, set, replicate, length-set}
use lib.Seq.{get_or-set_same, get_or-set_other}
use Rattle.rational.specs.Rounding.{down, up, rounding_of}
use Rattle.bernstein.specs.Affine.{affine, affine_exact}
use Rattle.bernstein.specs.DeCasteljau.{all_below}
use Rattle.bernstein.proofs.EveryMap.{all_zero, all_next}
use Rattle.curve.specs.declared.Rect.{Rect}
use Rattle.curve.specs.Limits.{places}
use Rattle.curve.specs.Rect.{zero_rect, affine_interval, affine_rect, exact_interval, exact_rect, resistance, reactance}
use Rattle.curve.specs.Inner.{Side, Held, Stored, Staged, all_sides, placed}

-- ---- zeros

get_d_zeros : (n i : ℕ) → get_or (replicate n (pos 0)) i (pos 0) ≡ pos 0
get_d_zeros zero i = refl
get_d_zeros (suc n) zero = refl
get_d_zeros (suc n) (suc i) = get_d_zeros n i

pub zeros_placed : (k : ℕ) → placed (replicate all_sides (pos 0)) k ≡ zero_rect
unfolding placed
zeros_placed k = rw (get_d_zeros all_sides (4 * k), get_d_zeros all_sides (4 * k + 1), get_d_zeros all_sides (4 * k + 2), get_d_zeros all_sides (4 * k + 3))

-- ---- storing

-- four numbers stored one after the other
abbrev pub four : List ℤ → ℕ → ℤ → ℤ → ℤ → ℤ → List ℤ
four l m a b c d = set (set (set (set l m a) (m + 1) b) (m + 2) c) (m + 3) d

module _ (l : List ℤ) (m : ℕ) (a b c d : ℤ) where
  -- what lies outside the four is none of them
  outside : (i j : ℕ) → (i < m) ⊎ (m + 4 ≤ i) → m ≤ j → j < m + 4 → i ≡ j → ⊥
  outside i j (inl h) from to e = omega arith
  outside i j (inr h) from to e = omega arith

  four_kept : (i : ℕ) → (i < m) ⊎ (m + 4 ≤ i) → get_or (four l m a b c d) i (pos 0) ≡ get_or l i (pos 0)
  four_kept i h =
      get_or-set_other (set (set (set l m a) (m + 1) b) (m + 2) c) (m + 3) i d (pos 0) (outside i (m + 3) h (omega arith) (omega arith))
      ∙ get_or-set_other (set (set l m a) (m + 1) b) (m + 2) i c (pos 0) (outside i (m + 2) h (omega arith) (omega arith))
      ∙ get_or-set_other (set l m a) (m + 1) i b (pos 0) (outside i (m + 1) h (omega arith) (omega arith))
      ∙ get_or-set_other l m i a (pos 0) (outside i m h (omega arith) (omega arith))

  module _ (room : m + 4 ≤ length l) where
    four_first : get_or (four l m a b c d) m (pos 0) ≡ a
    four_first =
        get_or-set_other (set (set (set l m a) (m + 1) b) (m + 2) c) (m + 3) m d (pos 0) (λ e. omega arith)
        ∙ get_or-set_other (set (set l m a) (m + 1) b) (m + 2) m c (pos 0) (λ e. omega arith)
        ∙ get_or-set_other (set l m a) (m + 1) m b (pos 0) (λ e. omega arith)
        ∙ get_or-set_same l m a (pos 0) (omega arith)

    four_second : get_or (four l m a b c d) (m + 1) (pos 0) ≡ b
    four_second =
        get_or-set_other (set (set (set l m a) (m + 1) b) (m + 2) c) (m + 3) (m + 1) d (pos 0) (λ e. omega arith)
        ∙ get_or-set_other (set (set l m a) (m + 1) b) (m + 2) (m + 1) c (pos 0) (λ e. omega arith)
        ∙ get_or-set_same (set l m a) (m + 1) b (pos 0) (rw (length-set l m a) (omega arith))

    four_third : get_or (four l m a b c d) (m + 2) (pos 0) ≡ c
    four_third =
        get_or-set_other (set (set (set l m a) (m + 1) b) (m + 2) c) (m + 3) (m + 2) d (pos 0) (λ e. omega arith)
        ∙ get_or-set_same (set (set l m a) (m + 1) b) (m + 2) c (pos 0) (rw (length-set (set l m a) (m + 1) b, length-set l m a) (omega arith))

    four_last : get_or (four l m a b c d) (m + 3) (pos 0) ≡ d
    four_last =
        get_or-set_same (set (set (set l m a) (m + 1) b) (m + 2) c) (m + 3) d (pos 0)
        (rw (length-set (set (set l m a) (m + 1) b) (m + 2) c, length-set (set l m a) (m + 1) b, length-set l m a) (omega arith))

-- a place that is another lies before or behind
apart : (i k : ℕ) → (i ≡ k → ⊥) → (i < k) ⊎ (k < i)
apart i k other = go (dec_lt i k) (dec_lt k i)
  where
    go : Dec (i < k) → Dec (k < i) → (i < k) ⊎ (k < i)
    go (yes h) _ = inl h
    go (no h) (yes g) = inr g
    go (no h) (no g) = absurd (other (omega arith))

-- the places beside it
beyond : (i k : ℕ) → (i < k) ⊎ (k < i) → (x : ℕ) → 4 * i ≤ x → x < 4 * i + 4 → (x < 4 * k) ⊎ (4 * k + 4 ≤ x)
beyond i k (inl h) x from to = inl (omega arith)
beyond i k (inr h) x from to = inr (omega arith)

beside : (l : List ℤ) (i k : ℕ) (a b c d : ℤ) → (i < k) ⊎ (k < i) → placed (four l (4 * k) a b c d) i ≡ placed l i
unfolding placed
beside l i k a b c d h =
    rw (
      four_kept l (4 * k) a b c d (4 * i) (beyond i k h (4 * i) (omega arith) (omega arith)),
      four_kept l (4 * k) a b c d (4 * i + 1) (beyond i k h (4 * i + 1) (omega arith) (omega arith)),
      four_kept l (4 * k) a b c d (4 * i + 2) (beyond i k h (4 * i + 2) (omega arith) (omega arith)),
      four_kept l (4 * k) a b c d (4 * i + 3) (beyond i k h (4 * i + 3) (omega arith) (omega arith)),
    )

pub stored :
    (l : List ℤ) (k : ℕ) (p : Rect) → length l ≡ all_sides → k < places →
    Stored k p l (four l (4 * k) p.resistance.low p.resistance.high p.reactance.low p.reactance.high)
unfolding placed
stored l k p whole room =
    let a = p.resistance.low in
    let b = p.resistance.high in
    let c = p.reactance.low in
    let d = p.reactance.high in
    record {
      here =
          rw (
            four_first l (4 * k) a b c d (omega arith),
            four_second l (4 * k) a b c d (omega arith),
            four_third l (4 * k) a b c d (omega arith),
            four_last l (4 * k) a b c d (omega arith),
          );
      kept = λ i other. beside l i k a b c d (apart i k other);
    }

-- ---- one pass over the sides

-- the sides with even numbers are low ones
abbrev pub way : ℕ → Bool
way x = eqb (x % 2) 1

-- the first i sides are mapped, each with the one four places on
pub record Passed (s t d i : ℕ) (before after : List ℤ) (exact : Bool) : Type 0 where
  pub new : (x : ℕ) → x < i → get_or after x (pos 0) ≡ affine (rounding_of (way x)) s t d (get_or before x (pos 0)) (get_or before (x + 4) (pos 0))
  pub old : (x : ℕ) → i ≤ x → get_or after x (pos 0) ≡ get_or before x (pos 0)
  pub flag : exact ≡ all_below i (λ x. affine_exact s t d (get_or before x (pos 0)) (get_or before (x + 4) (pos 0)))

module _ (s t d : ℕ) (before : List ℤ) where
  pub passed_start : Passed s t d 0 before before true
  passed_start = record { new = λ x h. absurd (omega arith); old = λ x h. refl; flag = sym (all_zero _) }

  pub passed_next :
      (i : ℕ) (now : List ℤ) (b e : Bool) (v x y : ℤ) → Passed s t d i before now b → i < length now → x ≡ get_or now i (pos 0) → y ≡ get_or now (i + 4) (pos 0) →
      v ≡ affine (rounding_of (way i)) s t d x y → e ≡ affine_exact s t d x y →
      Passed s t d (i + 1) before (set now i v) (b && e)
  passed_next i now b e v x y p room first second is tells =
      record {
        new = λ x h. at x h (dec_lt x i);
        old = λ x h. get_or-set_other now i x v (pos 0) (λ q. omega arith) ∙ p.old x (omega arith);
        flag = ap₂ ◌&&◌ p.flag (tells ∙ ap₂ (affine_exact s t d) here there) ∙ sym (all_next i _);
      }
    where
      here : x ≡ get_or before i (pos 0)
      here = first ∙ p.old i (omega arith)

      there : y ≡ get_or before (i + 4) (pos 0)
      there = second ∙ p.old (i + 4) (omega arith)

      at : (x : ℕ) → x < i + 1 → Dec (x < i) → get_or (set now i v) x (pos 0) ≡ affine (rounding_of (way x)) s t d (get_or before x (pos 0)) (get_or before (x + 4) (pos 0))
      at x h (yes less) = get_or-set_other now i x v (pos 0) (λ q. omega arith) ∙ p.new x less
      at x h (no more) =
          let same : i ≡ x = omega arith in
          subst (λ (y : ℕ). get_or (set now i v) y (pos 0) ≡ affine (rounding_of (way y)) s t d (get_or before y (pos 0)) (get_or before (y + 4) (pos 0))) same
          (get_or-set_same now i v (pos 0) room ∙ is ∙ ap₂ (affine (rounding_of (way i)) s t d) here there)

-- ---- from sides to places

-- the four sides of a place in range
held-side : (l : List ℤ) (k c : ℕ) → c < 4 → Held (placed l k) → Side (get_or l (4 * k + c) (pos 0))
unfolding placed
held-side l k zero h held = subst (λ (x : ℕ). Side (get_or l x (pos 0))) (sym (add-zero (4 * k))) ((held.at resistance).at down)
held-side l k (suc zero) h held = (held.at resistance).at up
held-side l k (suc (suc zero)) h held = (held.at reactance).at down
held-side l k (suc (suc (suc zero))) h held = (held.at reactance).at up
held-side l k (suc (suc (suc (suc c)))) h held = absurd (omega arith)

pub side-held : (l : List ℤ) (m : ℕ) → ((k : ℕ) → k ≤ m → Held (placed l k)) → (x : ℕ) → x < 4 * (m + 1) → Side (get_or l x (pos 0))
side-held l m held x h =
    let parts : 4 * (x / 4) + x % 4 ≡ x = omega arith in
    subst (λ (y : ℕ). Side (get_or l y (pos 0))) parts (held-side l (x / 4) (x % 4) (omega arith) (held (x / 4) (omega arith)))

-- a test of four more numbers
regroup : (a b c d e : Bool) → ((((a && b) && c) && d) && e) ≡ (a && ((b && c) && (d && e)))
regroup false b c d e = refl
regroup true false c d e = refl
regroup true true false d e = refl
regroup true true true d e = refl

all_four : (f : ℕ → Bool) (i : ℕ) → all_below (i + 4) f ≡ (all_below i f && ((f i && f (i + 1)) && (f (i + 2) && f (i + 3))))
all_four f i =
    step (i + 3) (i + 4) (omega arith)
    ∙ ap (λ (b : Bool). b && f (i + 3)) (step (i + 2) (i + 3) (omega arith))
    ∙ ap (λ (b : Bool). (b && f (i + 2)) && f (i + 3)) (step (i + 1) (i + 2) (omega arith))
    ∙ ap (λ (b : Bool). ((b && f (i + 1)) && f (i + 2)) && f (i + 3)) (all_next i f)
    ∙ regroup (all_below i f) (f i) (f (i + 1)) (f (i + 2)) (f (i + 3))
  where
    step : (j k : ℕ) → k ≡ j + 1 → all_below k f ≡ (all_below j f && f j)
    step j k e = ap (λ (i : ℕ). all_below i f) e ∙ all_next j f

module _ (s t d : ℕ) (before : List ℤ) where
  -- whether a side's map leaves no remainder
  abbrev exact_side : ℕ → Bool
  exact_side x = affine_exact s t d (get_or before x (pos 0)) (get_or before (x + 4) (pos 0))

  -- the flags of a place's four sides are its rectangle's
  flags : (m : ℕ) → all_below (4 * m) exact_side ≡ all_below m (λ k. exact_rect s t d (placed before k) (placed before (suc k)))
  unfolding placed exact_rect exact_interval all_below
  flags zero = refl
  flags (suc m) =
      let more : 4 * suc m ≡ 4 * m + 4 = omega arith in
      ap (λ (i : ℕ). all_below i exact_side) more
      ∙ all_four exact_side (4 * m)
      ∙ ap₂ ◌&&◌ (flags m)
      (ap₂ ◌&&◌
      (ap₂ ◌&&◌ (next (4 * m) (4 * suc m) (omega arith)) (next (4 * m + 1) (4 * suc m + 1) (omega arith)))
      (ap₂ ◌&&◌ (next (4 * m + 2) (4 * suc m + 2) (omega arith)) (next (4 * m + 3) (4 * suc m + 3) (omega arith))))
    where
      next : (x y : ℕ) → x + 4 ≡ y → exact_side x ≡ affine_exact s t d (get_or before x (pos 0)) (get_or before y (pos 0))
      next x y e = ap (λ (z : ℕ). affine_exact s t d (get_or before x (pos 0)) (get_or before z (pos 0))) e

  pub passed_staged : (m : ℕ) (after : List ℤ) (b : Bool) → Passed s t d (4 * m) before after b → Staged s t d m before after b
  unfolding placed affine_rect affine_interval
  passed_staged m after b p = record {
    mapped =
        λ k h.
        rw (
          lane (4 * k) (4 * suc k) false (omega arith) (ne_eqb (4 * k % 2) 1 (λ e. omega arith)) (omega arith),
          lane (4 * k + 1) (4 * suc k + 1) true (omega arith) (eq-eqb ((4 * k + 1) % 2) 1 (omega arith)) (omega arith),
          lane (4 * k + 2) (4 * suc k + 2) false (omega arith) (ne_eqb ((4 * k + 2) % 2) 1 (λ e. omega arith)) (omega arith),
          lane (4 * k + 3) (4 * suc k + 3) true (omega arith) (eq-eqb ((4 * k + 3) % 2) 1 (omega arith)) (omega arith),
        );
    kept = λ k h. rw (p.old (4 * k) (omega arith), p.old (4 * k + 1) (omega arith), p.old (4 * k + 2) (omega arith), p.old (4 * k + 3) (omega arith));
    flag = p.flag ∙ flags m;
  }
    where
      lane : (x y : ℕ) (u : Bool) → x < 4 * m → way x ≡ u → x + 4 ≡ y →
          get_or after x (pos 0) ≡ affine (rounding_of u) s t d (get_or before x (pos 0)) (get_or before y (pos 0))
      lane x y u h is e = p.new x h ∙ ap₂ (λ (u : Bool) (z : ℕ). affine (rounding_of u) s t d (get_or before x (pos 0)) (get_or before z (pos 0))) is e
