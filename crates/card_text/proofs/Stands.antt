-- A text that stands at an offset of some bytes: two behind each other, each of two, and the whole.
-- Assumes nothing.
use mathlib.Core.Path.{◌≡◌, refl, sym, ap, ◌∙◌, subst}
use mathlib.Core.List.{List, [], ◌∷◌, ◌++◌, append_assoc, append-nil}
use Prim.Native.Nat.{ℕ, ◌+◌}
use native.Mathlib.Omega.{arith}
use lib.ListN.{length, drop, length-append}
use lib.Seq.{drop-drop, drop_at}

-- the text of this size begins at the offset
pub record Stands (bytes : List ℕ) (at size : ℕ) (text : List ℕ) : Type 0 where
  pub rest : List ℕ
  pub here : drop at bytes ≡ text ++ rest
  pub long : length text ≡ size

-- what begins behind the first m bytes of it
behind : (bytes : List ℕ) (at m : ℕ) (text rest : List ℕ) → length text ≡ m → drop at bytes ≡ text ++ rest → drop (at + m) bytes ≡ rest
behind bytes at m text rest w e = sym (drop-drop m at bytes) ∙ ap (λ (l : List ℕ). drop m l) e ∙ drop_at text rest m w

pub stands_none : (bytes : List ℕ) (at : ℕ) → Stands bytes at 0 []
stands_none bytes at = record { rest = drop at bytes; here = refl; long = refl }

pub stands_both : {bytes : List ℕ} {at m n : ℕ} {a b : List ℕ} → Stands bytes at m a → Stands bytes (at + m) n b → Stands bytes at (m + n) (a ++ b)
stands_both {bytes} {at} {m} {n} {a} {b} s t =
    record {
      rest = t.rest;
      here = s.here ∙ ap (λ (l : List ℕ). a ++ l) (sym (behind bytes at m a s.rest s.long s.here) ∙ t.here) ∙ sym (append_assoc a b t.rest);
      long = length-append a b ∙ rw (s.long, t.long);
    }

module _ (a b : List ℕ) {bytes : List ℕ} {at k m : ℕ} (s : Stands bytes at k (a ++ b)) (w : length a ≡ m) where
  pub stands_first : Stands bytes at m a
  stands_first = record { rest = b ++ s.rest; here = s.here ∙ append_assoc a b s.rest; long = w }

  pub stands_second : {n : ℕ} → length b ≡ n → Stands bytes (at + m) n b
  stands_second v =
      record {
        rest = s.rest;
        here = behind bytes at m a (b ++ s.rest) w (s.here ∙ append_assoc a b s.rest);
        long = v;
      }

-- the same under another name of the offset or the size
pub stands_at : {bytes text : List ℕ} {at at' size : ℕ} → at ≡ at' → Stands bytes at size text → Stands bytes at' size text
stands_at {bytes} {text} {at} {at'} {size} e s = subst (λ (i : ℕ). Stands bytes i size text) e s

pub stands_sized : {bytes text : List ℕ} {at size size' : ℕ} → size ≡ size' → Stands bytes at size text → Stands bytes at size' text
stands_sized e s = record { rest = s.rest; here = s.here; long = s.long ∙ e }

-- ---- the whole

pub stands_whole : (bytes : List ℕ) → Stands bytes 0 (length bytes) bytes
stands_whole bytes = record { rest = []; here = sym (append-nil bytes); long = refl }

pub stands_is : {bytes text : List ℕ} → Stands bytes 0 (length bytes) text → text ≡ bytes
stands_is {bytes} {text} s =
    let count : length text + length s.rest ≡ length bytes = sym (length-append text s.rest) ∙ sym (ap length s.here) in
    let nothing = none s.rest (let w = s.long in omega arith) in
    sym (s.here ∙ ap (λ (l : List ℕ). text ++ l) nothing ∙ append-nil text)
  where
    none : (l : List ℕ) → length l ≡ 0 → l ≡ []
    none [] e = refl
    none (x ∷ l) e = absurd (omega arith)
