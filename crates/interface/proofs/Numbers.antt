-- Curves as numbers: how many they are, those of one rectangle more, and rectangles read back.
-- Assumes nothing.
use mathlib.Core.Path.{◌≡◌, refl, sym, ap, ◌∙◌}
use mathlib.Core.List.{List, ◌++◌, append_assoc}
use Prim.Native.Nat.{ℕ, zero, suc, ◌+◌, ◌*◌, ◌≤◌, ◌<◌}
use native.Mathlib.Decide.{dec_lt}
use native.Mathlib.Numerals.{add-one}
use native.Mathlib.Omega.{arith}
use lib.IntN.{ℤ}
use lib.ListN.{length, length-append}
use lib.Seq.{get_or-append-add}
use borrow.Author.Tests.{le-leb, lt-leb}
use Rattle.rational.specs.Rounding.{Rounding, down, up}
use Rattle.curve.specs.declared.Rect.{Rect}
use Rattle.curve.specs.declared.Curve.{Curve}
use Rattle.curve.specs.Rect.{Coordinate, resistance, reactance, side, sides}
use Rattle.curve.specs.Curve.{point}
use Rattle.curve.proofs.RectSides.{same-sides}
use Rattle.interface.specs.Numbers.{missing, given_at, missing_rect, rect_at, sides_to, curve_numbers}

module _ (P : ℕ → Rect) where
  pub sides-length : (m : ℕ) → length (sides_to m P) ≡ 4 * m
  unfolding sides_to
  sides-length zero = refl
  sides-length (suc m) = length-append (sides_to m P) (sides (P m)) ∙ rw (sides-length m) (omega arith)

  -- one rectangle more
  pub sides-next : (m : ℕ) → sides_to m P ++ sides (P m) ≡ sides_to (m + 1) P
  unfolding sides_to
  sides-next m = rw (add-one m)

pub curve-length : (c : Curve) → length (curve_numbers c) ≡ 2 + 4 * (c.degree + 1)
unfolding curve_numbers
curve-length c = ap (λ (n : ℕ). suc (suc n)) (sides-length (point c) (c.degree + 1)) ∙ omega arith

-- the length that a degree gives
pub length_by_degree : (c : Curve) {n : ℕ} → n ≡ 2 + 4 * (c.degree + 1) → n ≡ length (curve_numbers c)
length_by_degree c e = e ∙ sym (curve-length c)

-- a rectangle that a list has
pub rect_had : (zs : List ℤ) (at : ℕ) → at + 4 ≤ length zs →
    rect_at zs at ≡ record {
      resistance = record { low = given_at zs at; high = given_at zs (at + 1) };
      reactance = record { low = given_at zs (at + 2); high = given_at zs (at + 3) };
    }
unfolding rect_at
rect_had zs at room = rw (le-leb (at + 4) (length zs) room)

-- and one that it lacks
pub rect_lacking : (zs : List ℤ) (at : ℕ) → length zs < at + 4 → rect_at zs at ≡ missing_rect
unfolding rect_at
rect_lacking zs at short = rw (lt-leb (at + 4) (length zs) short)

-- a rectangle whose sides stand behind other numbers
pub rect-here : (xs : List ℤ) (p : Rect) (more : List ℤ) (at : ℕ) → length xs ≡ at → rect_at (xs ++ (sides p ++ more)) at ≡ p
rect-here xs p more at e = rect_had zs at room ∙ same-sides sided
  where
    zs : List ℤ
    zs = xs ++ (sides p ++ more)

    room : at + 4 ≤ length zs
    room = rw (length-append xs (sides p ++ more), length-append (sides p) more) (omega arith)

    here : (k n : ℕ) → n ≡ length xs + k → given_at zs n ≡ given_at (sides p ++ more) k
    here k n f = ap (λ (n : ℕ). given_at zs n) f ∙ get_or-append-add xs (sides p ++ more) k missing

    sided : (x : Coordinate) (r : Rounding) → side x r (record {
      resistance = record { low = given_at zs at; high = given_at zs (at + 1) };
      reactance = record { low = given_at zs (at + 2); high = given_at zs (at + 3) };
    }) ≡ side x r p
    sided resistance down = here 0 at (omega arith)
    sided resistance up = here 1 (at + 1) (omega arith)
    sided reactance down = here 2 (at + 2) (omega arith)
    sided reactance up = here 3 (at + 3) (omega arith)

-- the sides of rectangles behind other numbers, with anything behind them, are read as these rectangles
pub rect_back : (head : List ℤ) (P : ℕ → Rect) (m : ℕ) (more : List ℤ) (k : ℕ) → k < m → rect_at (head ++ (sides_to m P ++ more)) (length head + 4 * k) ≡ P k
unfolding sides_to
rect_back head P zero more k h = absurd (omega arith)
rect_back head P (suc m) more k h = ap (λ (l : List ℤ). rect_at (head ++ l) (length head + 4 * k)) (append_assoc (sides_to m P) (sides (P m)) more) ∙ go (rect_back head P m (sides (P m) ++ more) k) (dec_lt k m)
  where
    go : (k < m → rect_at (head ++ (sides_to m P ++ (sides (P m) ++ more))) (length head + 4 * k) ≡ P k) → Dec (k < m) → rect_at (head ++ (sides_to m P ++ (sides (P m) ++ more))) (length head + 4 * k) ≡ P k
    go back (yes before) = back before
    go back (no last) =
        let e : m ≡ k = omega arith in
        ap (λ (l : List ℤ). rect_at l (length head + 4 * k)) (sym (append_assoc head (sides_to m P) (sides (P m) ++ more)))
        ∙ rect-here (head ++ sides_to m P) (P m) more (length head + 4 * k) (length-append head (sides_to m P) ∙ ap (λ (n : ℕ). length head + n) (sides-length P m ∙ ap (λ (n : ℕ). 4 * n) e))
        ∙ ap P e
