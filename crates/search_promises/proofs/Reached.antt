-- What is known of every piece down to a depth for which a curve's sum has room: no cut on the way to it was refused.
-- Assumes nothing.
use mathlib.Core.Path.{◌≡◌, refl, sym, ap, ap₂, ◌∙◌, subst}
use Prim.Native.Nat.{ℕ, zero, suc, ◌+◌, ◌*◌, ◌/◌, ◌%◌, ◌≤◌, ◌<◌}
use native.Mathlib.Nat.{zero-mul, suc-mul, add-zero, add_assoc, mul-le-mul_right}
use native.Mathlib.Omega.{arith}
use Rattle.curve.specs.declared.Curve.{Curve}
use Rattle.curve.specs.Curve.{piece_sum, left_of, right_of, table_exact}
use Rattle.curve.specs.Calls.{subdivided}
use Rattle.curve.specs.Refusals.{none, parameter_refusal, Accepted, AcceptedAt, AcceptedSum}
use Rattle.curve.proofs.Accepted.{accepted-most, most-accepted}
use Rattle.curve.proofs.Answers.{subdivision, subdivided-accepted}
use Rattle.curve.proofs.Pieces.{left-accepted, right-accepted, left-degree, right-degree, left-sum, right-sum}
use Rattle.search.specs.Search.{deepest_sum}
use Rattle.search.proofs.Cuts.{at_half}
use Rattle.search_promises.specs.Pieces.{half_of, piece_at}

-- a piece of a depth is accepted, of the curve's degree, and has a sum of so many cuts
pub record Reached (c : Curve) (depth : ℕ) (piece : Curve) : Type 0 where
  pub accepted : Accepted piece
  pub degrees : piece.degree ≡ c.degree
  pub sums : piece.sum ≡ deepest_sum c depth

module _ (c : Curve) where
  pub reached_whole : Accepted c → Reached c 0 c
  reached_whole ok = record { accepted = ok; degrees = refl; sums = sym (ap (λ (n : ℕ). c.sum + n) (zero-mul c.degree) ∙ add-zero c.sum) }

  -- the sum of its pieces is that of one cut more
  next-sum : (d : ℕ) (piece : Curve) → Reached c d piece → piece_sum piece ≡ deepest_sum c (suc d)
  next-sum d piece r =
      ap₂ ◌+◌ r.sums r.degrees ∙ add_assoc c.sum (d * c.degree) c.degree ∙ ap (λ (n : ℕ). c.sum + n) (sym (suc-mul d c.degree))

  module _ (limit : ℕ) (room : AcceptedSum (deepest_sum c limit)) where
    -- a shallower depth has room too
    room_at : (d : ℕ) → d ≤ limit → AcceptedSum (deepest_sum c d)
    room_at d h =
        let most = accepted-most (deepest_sum c limit) room in
        let less = mul-le-mul_right c.degree h in
        most-accepted (deepest_sum c d) (omega arith)

    pub cut_room : (d : ℕ) (piece : Curve) → Reached c d piece → d < limit → AcceptedSum (piece_sum piece)
    cut_room d piece r h = subst AcceptedSum (sym (next-sum d piece r)) (room_at (suc d) h)

    pub reached_half : (d bit : ℕ) (piece : Curve) → Reached c d piece → d < limit → Reached c (suc d) (half_of bit (subdivided piece 1 2))
    reached_half d bit piece r h =
        subst (λ s. Reached c (suc d) (half_of bit s)) (sym (subdivided-accepted piece 1 2 r.accepted at_half (cut_room d piece r h))) (go bit)
      where
        go : (bit : ℕ) → Reached c (suc d) (half_of bit (subdivision (left_of piece 1 2) (right_of piece 1 2) (table_exact piece 1 2) none))
        go zero = record {
          accepted = left-accepted piece r.accepted 1 2 at_half;
          degrees = left-degree piece 1 2 ∙ r.degrees;
          sums = left-sum piece 1 2 ∙ next-sum d piece r;
        }
        go (suc b) = record {
          accepted = right-accepted piece r.accepted 1 2 at_half;
          degrees = right-degree piece 1 2 ∙ r.degrees;
          sums = right-sum piece 1 2 ∙ next-sum d piece r;
        }

    -- so every piece down to the limit
    pub reached : Accepted c → (d index : ℕ) → d ≤ limit → Reached c d (piece_at c d index)
    unfolding piece_at
    reached ok zero index h = reached_whole ok
    reached ok (suc d) index h = reached_half d (index % 2) (piece_at c d (index / 2)) (reached ok d (index / 2) (omega arith)) h
