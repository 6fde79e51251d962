-- The lines of a card read one after the other: none refused so far, and a curve's places filled in order.
-- Assumes nothing.
use mathlib.Core.Path.{◌≡◌, refl, sym, ◌∙◌, subst}
use mathlib.Core.List.{List}
use Prim.Native.Nat.{ℕ, zero, suc, ◌+◌, ◌≤◌, ◌<◌}
use native.Mathlib.Decide.{ℕ_discrete}
use native.Mathlib.Numerals.{add-one}
use native.Mathlib.Omega.{arith}
use lib.ListN.{length, get_or, set, replicate, length-set, get_or-replicate}
use lib.Seq.{get_or-set_same, get_or-set_other}
use Rattle.curve.specs.declared.Rect.{Rect}
use Rattle.curve.specs.declared.reason.Reason.{Reason}
use Rattle.curve.specs.Limits.{places}
use Rattle.curve.specs.Rect.{zero_rect}
use Rattle.curve.specs.Curve.{points_of}
use Rattle.curve.specs.Refusals.{none}
use Rattle.curve.specs.Reason.{listed}
use Rattle.curve.proofs.Places.{is_points}
use Rattle.card_text.specs.Card.{row_at}
use Rattle.card_text.specs.Reading.{row_refusal, rows_refusal, rect_at}
use Rattle.card_text.specs.Inner.{limited_rect}
use Rattle.curve.proofs.Listed.{first_is, goes_on}

-- the rectangles as the reader holds them
abbrev pub held_at : List ℕ → ℕ → Rect
held_at bytes k = limited_rect (rect_at bytes (row_at k))

-- k lines are read, and none of them is refused
pub record RowsRead (bytes : List ℕ) (k : ℕ) (points : List Rect) : Type 0 where
  pub accepted : none ≡ rows_refusal bytes k
  pub size : length points ≡ places
  pub done : (i : ℕ) → i < k → get_or points i zero_rect ≡ held_at bytes i
  pub rest : (i : ℕ) → k ≤ i → i < places → get_or points i zero_rect ≡ zero_rect

pub rows_none : (bytes : List ℕ) → RowsRead bytes 0 (replicate places zero_rect)
unfolding rows_refusal
rows_none bytes =
    record {
      accepted = refl;
      size = refl;
      done = λ i h. absurd (omega arith);
      rest = λ i low high. get_or-replicate places i zero_rect zero_rect high;
    }

module _ (bytes : List ℕ) (k : ℕ) (points : List Rect) (r : RowsRead bytes k points) where
  pub rows_next : (p : Rect) → k < places → none ≡ row_refusal bytes (row_at k) → p ≡ held_at bytes k → RowsRead bytes (k + 1) (set points k p)
  unfolding rows_refusal
  rows_next p h e is =
      rw is record {
        accepted = rw add-one (goes_on (rows_refusal bytes k) (row_refusal bytes (row_at k)) none r.accepted e);
        size = length-set points k (held_at bytes k) ∙ r.size;
        done = λ i low. at i low (ℕ_discrete i k);
        rest = λ i low high. get_or-set_other points k i (held_at bytes k) zero_rect (λ f. omega arith) ∙ r.rest i (omega arith) high;
      }
    where
      at : (i : ℕ) → i < k + 1 → Dec (i ≡ k) → get_or (set points k (held_at bytes k)) i zero_rect ≡ held_at bytes i
      at i low (yes f) =
          subst (λ (j : ℕ). get_or (set points k (held_at bytes k)) j zero_rect ≡ held_at bytes j) (sym f)
          (get_or-set_same points k (held_at bytes k) zero_rect (let size = r.size in omega arith))
      at i low (no ne) = get_or-set_other points k i (held_at bytes k) zero_rect ne ∙ r.done i (omega arith)

  -- the next line is refused, and so are all of them
  pub rows_stop : (e : Reason) (m : ℕ) → k ≤ m → listed e ≡ row_refusal bytes (row_at k) → listed e ≡ rows_refusal bytes (m + 1)
  unfolding rows_refusal
  rows_stop e m low h = rw add-one (by m low (ℕ_discrete k m))
    where
      by : (j : ℕ) → k ≤ j → Dec (k ≡ j) → listed e ≡ rows_refusal bytes (suc j)
      by j low (yes f) = subst (λ (i : ℕ). listed e ≡ rows_refusal bytes (suc i)) f (goes_on (rows_refusal bytes k) (row_refusal bytes (row_at k)) (listed e) r.accepted h)
      by zero low (no ne) = absurd (ne (omega arith))
      by (suc j) low (no ne) = let less : k ≤ j = omega arith in first_is e (rows_refusal bytes (suc j)) (row_refusal bytes (row_at (suc j))) (by j less (ℕ_discrete k j))

  pub rows_points : (n : ℕ) → k ≡ n + 1 → points ≡ points_of n (held_at bytes)
  rows_points n e = is_points n (held_at bytes) points r.size (λ i h low. r.done i (omega arith)) (λ i h past. r.rest i (omega arith) h)
