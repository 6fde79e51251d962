-- Every piece of a walk is an accepted curve, and the stretch of the whole curve from index / 2^depth to (index + 1) / 2^depth.
-- Assumes nothing.
use mathlib.Core.Path.{◌≡◌, refl, sym, ap, ◌∙◌, subst}
use Prim.Native.Nat.{ℕ, zero, suc, ◌+◌, ◌*◌, ◌/◌, ◌%◌, ◌≤◌, ◌<◌, ◌^◌}
use native.Mathlib.Nat.{two-pow-succ}
use native.Mathlib.Omega.{arith}
use lib.IntN.{pos}
use Rattle.rational.proofs.Rational.{embed, ◌+ℚ◌, ◌*ℚ◌, *ℚ-one, *ℚ-zero, +ℚ-zero}
use Rattle.curve.specs.declared.Curve.{Curve}
use Rattle.curve.specs.Curve.{piece_sum, left_of, right_of}
use Rattle.curve.specs.Calls.{subdivided}
use Rattle.curve.specs.Refusals.{Accepted, AcceptedSum}
use Rattle.curve.proofs.Answers.{subdivided-accepted}
use Rattle.curve.proofs.Pieces.{left-accepted, right-accepted}
use Rattle.ledger.proofs.Stretch.{Stretch, whole_stretch, joined, renamed}
use Rattle.ledger.proofs.Steps.{left_stretch, right_stretch}
use Rattle.search.specs.Search.{deepest_sum}
use Rattle.search_promises.specs.Pieces.{half_of, piece_at}
use Rattle.search_promises.proofs.Reached.{cut_room, reached}
use Rattle.search.proofs.Cuts.{at_half}
use Rattle.search_promises.proofs.Dyadic.{half, halving, half_rest, width, dyadic, dyadic_left, dyadic_right}

pub record Laid (c : Curve) (depth index : ℕ) (piece : Curve) : Type 0 where
  pub accepted : Accepted piece
  pub steps : ℕ
  pub stretch : Stretch (dyadic depth index) (width depth) steps c piece

module _ (c : Curve) where
  -- the whole curve
  laid_whole : Accepted c → Laid c 0 0 c
  unfolding dyadic width
  laid_whole a = record { accepted = a; steps = 0; stretch = renamed (sym (*ℚ-one (embed (pos 0)))) refl refl (whole_stretch c) }

  -- the halves of a piece
  laid_left : (d i : ℕ) (piece : Curve) → AcceptedSum (piece_sum piece) → Laid c d i piece → Laid c (suc d) (i * 2) (subdivided piece 1 2).left
  unfolding width half
  laid_left d i piece room l =
      subst (λ s. Laid c (suc d) (i * 2) s.left) (sym (subdivided-accepted piece 1 2 l.accepted at_half room)) (record {
        accepted = left-accepted piece l.accepted 1 2 at_half;
        steps = _;
        stretch =
            renamed (ap (λ x. dyadic d i +ℚ x) (*ℚ-zero (width d)) ∙ +ℚ-zero (dyadic d i) ∙ dyadic_left d i) refl refl
            (joined _ _ _ _ _ _ c piece (left_of piece 1 2) l.stretch (left_stretch piece l.accepted 1 2 halving));
      })

  laid_right : (d i : ℕ) (piece : Curve) → AcceptedSum (piece_sum piece) → Laid c d i piece → Laid c (suc d) (i * 2 + 1) (subdivided piece 1 2).right
  unfolding width half
  laid_right d i piece room l =
      subst (λ s. Laid c (suc d) (i * 2 + 1) s.right) (sym (subdivided-accepted piece 1 2 l.accepted at_half room)) (record {
        accepted = right-accepted piece l.accepted 1 2 at_half;
        steps = _;
        stretch =
            renamed (dyadic_right d i) (ap (λ x. width d *ℚ x) half_rest) refl
            (joined _ _ _ _ _ _ c piece (right_of piece 1 2) l.stretch (right_stretch piece l.accepted 1 2 halving));
      })

  -- so every piece down to a depth for which the curve's sum has room
  module _ (limit : ℕ) (room : AcceptedSum (deepest_sum c limit)) where
    pub laid : Accepted c → (d i : ℕ) → d ≤ limit → i < 2 ^ d → Laid c d i (piece_at c d i)
    unfolding piece_at
    laid a zero i deep h = let first : 0 ≡ i = omega arith in subst (λ (k : ℕ). Laid c 0 k c) first (laid_whole a)
    laid a (suc d) i deep h = go (i % 2) refl (laid a d (i / 2) (omega arith) (omega (arith, two-pow-succ d)))
      where
        rooms : AcceptedSum (piece_sum (piece_at c d (i / 2)))
        rooms = cut_room c limit room d (piece_at c d (i / 2)) (reached c limit room a d (i / 2) (omega arith)) deep

        go : (bit : ℕ) → i % 2 ≡ bit → Laid c d (i / 2) (piece_at c d (i / 2)) → Laid c (suc d) i (half_of bit (subdivided (piece_at c d (i / 2)) 1 2))
        go zero e l = let same : i / 2 * 2 ≡ i = omega arith in subst (λ (k : ℕ). Laid c (suc d) k (subdivided (piece_at c d (i / 2)) 1 2).left) same (laid_left d (i / 2) _ rooms l)
        go (suc b) e l = let same : i / 2 * 2 + 1 ≡ i = omega arith in subst (λ (k : ℕ). Laid c (suc d) k (subdivided (piece_at c d (i / 2)) 1 2).right) same (laid_right d (i / 2) _ rooms l)
