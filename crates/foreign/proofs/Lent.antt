-- Numbers stored in front of a lent list.
-- Assumes nothing.
use mathlib.Core.Path.{◌≡◌, sym, ap, ap₂, ◌∙◌}
use mathlib.Core.List.{List, [], ◌∷◌, ◌++◌}
use Prim.Native.Nat.{ℕ, ◌+◌, ◌≤◌, ◌<◌}
use native.Mathlib.Nat.{zero-add}
use native.Mathlib.Omega.{arith}
use lib.ListN.{length, get_or, drop, length-append, length-drop}
use lib.Seq.{sets, sets-eq, take_at, drop_at, drop-drop, drop-cons}

module _ {A : Type 0} where
  -- numbers in front of a list
  abbrev pub front : List A → List A → List A
  front xs out = xs ++ drop (length xs) out

  front_length : (xs out : List A) → length xs ≤ length out → length (front xs out) ≡ length out
  front_length xs out room = simp (length-append, length-drop) (omega arith)

  -- stored one after the other from the first place on
  pub front-first : (xs out : List A) → length xs ≤ length out → sets out 0 xs ≡ front xs out
  front-first xs out room = sets-eq xs out 0 (omega arith) ∙ rw zero-add

  pub front_stored : (xs ys out : List A) {ended : List A} → ended ≡ sets out 0 ys → ys ≡ xs → length xs ≤ length out → ended ≡ front xs out
  front_stored xs ys out given same room = given ∙ ap (λ (l : List A). sets out 0 l) same ∙ front-first xs out room

  -- and further ones behind them
  pub front-next : (xs ys out : List A) (m : ℕ) → length xs ≡ m → m + length ys ≤ length out → sets (front xs out) m ys ≡ front (xs ++ ys) out
  front-next xs ys out m long room =
      let rest = drop (length xs) out in
      let same : length (front xs out) ≡ length out = front_length xs out (omega arith) in
      let past : drop (m + length ys) (xs ++ rest) ≡ drop (length (xs ++ ys)) out =
      sym (drop-drop (length ys) m (xs ++ rest))
      ∙ ap (λ (l : List A). drop (length ys) l) (drop_at xs rest m long)
      ∙ drop-drop (length ys) (length xs) out
      ∙ ap (λ (n : ℕ). drop n out) (sym (length-append xs ys)) in
      sets-eq ys (front xs out) m (omega arith)
      ∙ ap₂ (λ (a b : List A). a ++ ys ++ b) (take_at xs rest m long) past

  -- the first two numbers of a list, in front of the same
  pub front_same : (out : List A) (d : A) → 1 < length out → out ≡ front (get_or out 0 d ∷ get_or out 1 d ∷ []) out
  front_same out d some = drop-cons out 0 d (omega arith) ∙ ap (λ (l : List A). get_or out 0 d ∷ l) (drop-cons out 1 d some)
