-- Laws of a text that is put at an offset of some bytes: what stands there, what is kept, and several texts one behind the other.
-- Assumes nothing.
use mathlib.Core.Path.{◌≡◌, sym, ap, ◌∙◌}
use mathlib.Core.List.{List, [], ◌∷◌, ◌++◌, append_assoc, append-nil}
use Prim.Native.Nat.{ℕ, ◌+◌, ◌-◌, ◌≤◌, ◌<◌}
use native.Mathlib.Nat.{add-zero, zero-add}
use native.Mathlib.Numerals.{add-one}
use native.Mathlib.Omega.{arith}
use lib.ListN.{length, get_or, take, drop, set, length-append, length-drop, take-append-drop, get_or-append}
use lib.Seq.{length-take-le, take_at, drop_at, drop-drop, get_or-take, get_or-drop, get_or-append-add, set_split, append_snoc}
use Rattle.columns.specs.Line.{placed}

pub placed-none : (bytes : List ℕ) (at : ℕ) → placed bytes at [] ≡ bytes
unfolding placed
placed-none bytes at = rw (append-nil, add-zero) (take-append-drop at bytes)

pub placed-front : (bytes text : List ℕ) → placed bytes 0 text ≡ text ++ drop (length text) bytes
unfolding placed
placed-front bytes text = rw zero-add

-- what stands from the offset on
pub placed-from : (bytes : List ℕ) (at : ℕ) (text : List ℕ) → at ≤ length bytes → drop at (placed bytes at text) ≡ text ++ drop (at + length text) bytes
unfolding placed
placed-from bytes at text h =
    rw (append_assoc) (drop_at (take at bytes) (text ++ drop (at + length text) bytes) at (length-take-le at bytes h))

-- a text that takes the place of as many bytes
pub placed_copy : (bytes : List ℕ) (at k : ℕ) (text : List ℕ) → k ≡ length text → take at bytes ++ (text ++ drop k (drop at bytes)) ≡ placed bytes at text
unfolding placed
placed_copy bytes at k text e = rw (e, drop-drop (length text) at bytes, append_assoc)

-- a single byte
pub placed_byte : (bytes : List ℕ) (at b : ℕ) → at < length bytes → set bytes at b ≡ placed bytes at (b ∷ [])
unfolding placed
placed_byte bytes at b h = set_split bytes at b h ∙ sym (append_snoc (take at bytes) b _) ∙ ap (λ (n : ℕ). take at bytes ++ (b ∷ []) ++ drop n bytes) (sym (add-one at))

module _ (bytes : List ℕ) (at : ℕ) (text : List ℕ) (room : at + length text ≤ length bytes) where
  head : length (take at bytes ++ text) ≡ at + length text
  head = length-append (take at bytes) text ∙ ap (λ (n : ℕ). n + length text) (length-take-le at bytes (omega arith))

  pub placed-length : length (placed bytes at text) ≡ length bytes
  unfolding placed
  placed-length =
      length-append (take at bytes ++ text) (drop (at + length text) bytes) ∙ rw (head, length-drop) (omega arith)

  -- the bytes before and behind the text
  pub placed-before : (k : ℕ) → k < at → get_or (placed bytes at text) k 0 ≡ get_or bytes k 0
  unfolding placed
  placed-before k h =
      get_or-append (take at bytes ++ text) (drop (at + length text) bytes) 0 k (omega (arith, head))
      ∙ get_or-append (take at bytes) text 0 k (omega (arith, length-take-le at bytes (omega arith)))
      ∙ get_or-take at bytes k 0 h

  pub placed-behind : (k : ℕ) → at + length text ≤ k → get_or (placed bytes at text) k 0 ≡ get_or bytes k 0
  unfolding placed
  placed-behind k h =
      let j = k - (at + length text) in
      let e : length (take at bytes ++ text) + j ≡ k = omega (arith, head) in
      rw (← e, get_or-append-add, head, get_or-drop)

  -- a second text behind the first
  pub placed-next : (next : List ℕ) → placed (placed bytes at text) (at + length text) next ≡ placed bytes at (text ++ next)
  unfolding placed
  placed-next next =
      let rest = drop (at + length text) bytes in
      let sum : at + length text + length next ≡ at + length (text ++ next) = rw (length-append text next) (omega arith) in
      let behind : drop (at + length text + length next) (take at bytes ++ text ++ rest) ≡ drop (at + length (text ++ next)) bytes =
      sym (drop-drop (length next) (at + length text) (take at bytes ++ text ++ rest))
      ∙ ap (λ (l : List ℕ). drop (length next) l) (drop_at (take at bytes ++ text) rest (at + length text) head)
      ∙ drop-drop (length next) (at + length text) bytes
      ∙ ap (λ (n : ℕ). drop n bytes) sum in
      rw (take_at (take at bytes ++ text) rest (at + length text) head, behind, append_assoc (take at bytes) text next)

-- bytes that hold a text already, with a second one put behind it
pub placed_then : (bytes : List ℕ) (at m : ℕ) (text next out : List ℕ) → length text ≡ m → at + m ≤ length bytes →
    out ≡ placed bytes at text → placed out (at + m) next ≡ placed bytes at (text ++ next)
placed_then bytes at m text next out w room e =
    ap (λ (o : List ℕ). placed o (at + m) next) e
    ∙ ap (λ (n : ℕ). placed (placed bytes at text) (at + n) next) (sym w)
    ∙ placed-next bytes at text (omega arith) next
