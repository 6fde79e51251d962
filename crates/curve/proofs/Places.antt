-- Lists that are tabulated: what stands at a place, when a list is one, and a record's places filled one after the other.
-- Assumes nothing.
use mathlib.Core.Path.{◌≡◌, refl, sym, ap, ◌∙◌, subst}
use mathlib.Core.List.{List}
use mathlib.Core.Bool.{Bool, cond}
use Prim.Native.Nat.{ℕ, zero, suc, ◌+◌, ◌≤◌, ◌<◌}
use native.Mathlib.Nat.{le_of_suc-le-suc}
use native.Mathlib.Decide.{ℕ_discrete, dec_le, dec_lt}
use native.Mathlib.Omega.{arith}
use borrow.Author.Tests.{le-leb, lt-leb}
use lib.Dec.{leb}
use lib.ListN.{length, get_or, set, length-set, replicate, get_or-eq_default}
use lib.Seq.{ext_get_or, get_or-set_same, get_or-set_other}
use Rattle.curve.specs.declared.Rect.{Rect}
use Rattle.curve.specs.Limits.{places}
use Rattle.curve.specs.Rect.{zero_rect}
use Rattle.curve.specs.Curve.{tabulate, points_of}

module _ {A : Type 0} where
  pub length-tabulate : (m : ℕ) (f : ℕ → A) → length (tabulate m f) ≡ m
  unfolding tabulate
  length-tabulate zero f = refl
  length-tabulate (suc m) f = ap suc (length-tabulate m (λ k. f (suc k)))

  pub get_d_tabulate : (m : ℕ) (f : ℕ → A) (k : ℕ) (d : A) → k < m → get_or (tabulate m f) k d ≡ f k
  unfolding tabulate
  get_d_tabulate zero f k d h = absurd (omega arith)
  get_d_tabulate (suc m) f zero d h = refl
  get_d_tabulate (suc m) f (suc k) d h = get_d_tabulate m (λ i. f (suc i)) k d (le_of_suc-le-suc h)

  -- a list is tabulated if it has the length and the entries
  pub is_tabulate : (m : ℕ) (f : ℕ → A) (d : A) (l : List A) → length l ≡ m → ((k : ℕ) → k < m → get_or l k d ≡ f k) → l ≡ tabulate m f
  is_tabulate m f d l len at =
      ext_get_or d l (tabulate m f) (len ∙ sym (length-tabulate m f))
      (λ k h. let g : k < m = omega (arith, len) in at k g ∙ sym (get_d_tabulate m f k d g))

  -- a store makes another tabulated list
  pub set_tabulate : (m : ℕ) (f g : ℕ → A) (d : A) (k : ℕ) (v : A) → k < m → v ≡ g k → ((i : ℕ) → (i ≡ k → ⊥) → f i ≡ g i) → set (tabulate m f) k v ≡ tabulate m g
  set_tabulate m f g d k v h new old =
      is_tabulate m g d (set (tabulate m f) k v) (length-set (tabulate m f) k v ∙ length-tabulate m f) (λ i hi. at i hi (ℕ_discrete i k))
    where
      at : (i : ℕ) → i < m → Dec (i ≡ k) → get_or (set (tabulate m f) k v) i d ≡ g i
      at i hi (yes e) =
          subst (λ (j : ℕ). get_or (set (tabulate m f) k v) j d ≡ g j) (sym e)
          (get_or-set_same (tabulate m f) k v d (let len = length-tabulate m f in omega arith) ∙ new)
      at i hi (no ne) = get_or-set_other (tabulate m f) k i v d ne ∙ get_d_tabulate m f i d hi ∙ old i ne

-- ---- a record's places

pub points_length : (n : ℕ) (f : ℕ → Rect) → length (points_of n f) ≡ places
unfolding points_of
points_length n f = length-tabulate places (λ k. cond (leb k n) (f k) zero_rect)

pub points_at : (n : ℕ) (f : ℕ → Rect) (k : ℕ) → k < places → k ≤ n → get_or (points_of n f) k zero_rect ≡ f k
unfolding points_of
points_at n f k h within =
    get_d_tabulate places (λ k. cond (leb k n) (f k) zero_rect) k zero_rect h ∙ ap (λ (b : Bool). cond b (f k) zero_rect) (le-leb k n within)

pub points_past : (n : ℕ) (f : ℕ → Rect) (k : ℕ) → n < k → get_or (points_of n f) k zero_rect ≡ zero_rect
unfolding points_of
points_past n f k past = go (dec_lt k places)
  where
    all : List Rect
    all = tabulate places (λ i. cond (leb i n) (f i) zero_rect)

    go : Dec (k < places) → get_or all k zero_rect ≡ zero_rect
    go (yes h) = get_d_tabulate places (λ i. cond (leb i n) (f i) zero_rect) k zero_rect h ∙ ap (λ (b : Bool). cond b (f k) zero_rect) (lt-leb k n past)
    go (no h) = get_or-eq_default all zero_rect (let len = length-tabulate places (λ i. cond (leb i n) (f i) zero_rect) in omega arith)

-- a list is a record's places if it has the points, and zero past them
pub is_points : (n : ℕ) (f : ℕ → Rect) (l : List Rect) → length l ≡ places →
    ((k : ℕ) → k < places → k ≤ n → get_or l k zero_rect ≡ f k) →
    ((k : ℕ) → k < places → n < k → get_or l k zero_rect ≡ zero_rect) → l ≡ points_of n f
unfolding points_of
is_points n f l len within past = is_tabulate places (λ k. cond (leb k n) (f k) zero_rect) zero_rect l len (λ k h. at k h (dec_le k n))
  where
    at : (k : ℕ) → k < places → Dec (k ≤ n) → get_or l k zero_rect ≡ cond (leb k n) (f k) zero_rect
    at k h (yes low) = within k h low ∙ sym (ap (λ (b : Bool). cond b (f k) zero_rect) (le-leb k n low))
    at k h (no high) = let over : n < k = omega arith in past k h over ∙ sym (ap (λ (b : Bool). cond b (f k) zero_rect) (lt-leb k n over))

pub points_agree : (n : ℕ) (f g : ℕ → Rect) → ((k : ℕ) → k ≤ n → f k ≡ g k) → points_of n f ≡ points_of n g
points_agree n f g same = is_points n g (points_of n f) (points_length n f) (λ k h low. points_at n f k h low ∙ same k low) (λ k h high. points_past n f k high)

-- the first place is stored into zeros, and each further one
pub points_first : (f : ℕ → Rect) → set (replicate places zero_rect) 0 (f 0) ≡ points_of 0 f
unfolding points_of tabulate
points_first f = refl

pub points_next : (n : ℕ) (f : ℕ → Rect) → n + 1 < places → set (points_of n f) (n + 1) (f (n + 1)) ≡ points_of (n + 1) f
unfolding points_of
points_next n f h =
    set_tabulate places (λ k. cond (leb k n) (f k) zero_rect) (λ k. cond (leb k (n + 1)) (f k) zero_rect) zero_rect (n + 1) (f (n + 1)) h
    (ap (λ (b : Bool). cond b (f (n + 1)) zero_rect) (sym (le-leb (n + 1) (n + 1) (omega arith))))
    (λ i ne. ap (λ (b : Bool). cond b (f i) zero_rect) (same i ne (dec_le i n)))
  where
    same : (i : ℕ) → (i ≡ n + 1 → ⊥) → Dec (i ≤ n) → leb i n ≡ leb i (n + 1)
    same i ne (yes low) = le-leb i n low ∙ sym (le-leb i (n + 1) (omega arith))
    same i ne (no high) = lt-leb i n (omega arith) ∙ sym (lt-leb i (n + 1) (omega arith))
