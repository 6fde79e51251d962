-- The pieces of a subdivision cover their parent: of every ordinary curve inside, the exact pieces lie inside the rounded ones, and they are its first part and the rest.
-- Assumes nothing.
use mathlib.Core.Path.{◌≡◌, sym, ap, ap₂, ◌∙◌, subst, subst₂, fun_ext}
use Prim.Native.Nat.{ℕ, ◌+◌, ◌-◌}
use native.Mathlib.Nat.{mul-zero}
use Rattle.rational.specs.Fraction.{Frac, Equal, ◌*ᶠ◌, complement, parameter}
use Rattle.rational.proofs.Rational.{ℚ, rat, rat_add, rat_mul, ◌+ℚ◌, ◌*ℚ◌, zero-+ℚ}
use Rattle.rational.proofs.RationalOrder.{equal_of}
use Rattle.bernstein.proofs.Curve.{curve, bernstein-curve}
use Rattle.bernstein.proofs.Rounded.{Near}
use Rattle.curve.specs.declared.Curve.{Curve}
use Rattle.curve.specs.Rect.{Coordinate, side}
use Rattle.curve.specs.Curve.{point, piece_sum, left_of, right_of}
use Rattle.curve.specs.Refusals.{Accepted, AcceptedAt, AcceptedSum}
use Rattle.curve.specs.Calls.{subdivided}
use Rattle.curve.specs.Inner.{Factors}
use Rattle.curve.proofs.Accepted.{parameter_facts}
use Rattle.curve.proofs.Answers.{subdivided-accepted}
use Rattle.curve.proofs.Pieces.{left-degree, right-degree}
use Rattle.ledger.specs.Ordinary.{Ordinary, InsideOf, load_at}
use Rattle.ledger.specs.Ledger.{Piece, left, right, kept}
use Rattle.ledger.specs.Exact.{part}
use Rattle.ledger_promises.specs.Promises.{place_on, Covers, PiecesCover}
use Rattle.ledger.proofs.Stretch.{Stretch}
use Rattle.ledger.proofs.Steps.{left_stretch, right_stretch, left_exact, right_exact}
use Rattle.ledger.proofs.Evaluation.{inward, inward_none, bounded-near, near-bounded}

-- an ordinary curve whose control points are those of another, moved as a stretch moves them
module _
    (c now : Curve) (start width : ℚ) (steps : ℕ) (stretch : Stretch start width steps c now) (o moved : Ordinary) (inside : InsideOf o c)
    (degrees : moved.degree ≡ now.degree)
    (same : (x : Coordinate) (k : ℕ) → rat (moved.control x k) ≡ stretch.move (λ i. rat (o.control x i)) k) where
  moved_inside : InsideOf moved now
  moved_inside = record {
    degrees = degrees;
    controls = λ x r k h. near-bounded r _ _
        (subst₂ (λ (m : ℕ) (y : ℚ). Near (inward r) m (side x r (point now k)) y) (inward_none r (0 + steps)) (sym (same x k))
        (stretch.near x r (inward r) 0 (λ i. rat (o.control x i)) (λ i g. rw mul-zero (bounded-near r _ _ (inside.controls x r i g))) k h));
  }

  moved-load : (x : Coordinate) (u place : Frac) → start +ℚ width *ℚ rat u ≡ rat place → Equal (load_at moved x u) (load_at o x place)
  moved-load x u place h = equal_of (load_at moved x u) (load_at o x place)
      (bernstein-curve moved.degree (moved.control x) u
      ∙ ap₂ (λ (n : ℕ) (P : ℕ → ℚ). curve P n (rat u)) degrees (fun_ext (same x))
      ∙ stretch.moved (λ i. rat (o.control x i)) (rat u)
      ∙ ap₂ (λ (n : ℕ) (y : ℚ). curve (λ i. rat (o.control x i)) n y) (sym inside.degrees) h
      ∙ sym (bernstein-curve o.degree (o.control x) place))

module _ (c : Curve) (accepted : Accepted c) (o : Ordinary) (inside : InsideOf o c) (num den : ℕ) (at : AcceptedAt num den) (room : AcceptedSum (piece_sum c)) where
  abbrev t : Frac
  t = parameter num den

  abbrev f : Factors (den - num) num den
  f = (parameter_facts num den at).factors

  -- a piece that is a stretch of the curve, as the ordinary curve's piece is of the ordinary curve
  covers :
      (piece : Piece) (now : Curve) (start width : ℚ) (steps : ℕ) (stretch : Stretch start width steps c now) →
      now ≡ kept piece (subdivided c num den) → (part piece t o).degree ≡ now.degree →
      ((x : Coordinate) (k : ℕ) → rat ((part piece t o).control x k) ≡ stretch.move (λ i. rat (o.control x i)) k) →
      ((u : Frac) → start +ℚ width *ℚ rat u ≡ rat (place_on piece t u)) → Covers c o num den piece
  covers piece now start width steps stretch is degrees same place = record {
    inside = subst (InsideOf (part piece t o)) is (moved_inside c now start width steps stretch o (part piece t o) inside degrees same);
    loads = λ x u. moved-load c now start width steps stretch o (part piece t o) inside degrees same x u (place_on piece t u) (place u);
  }

  covered : (piece : Piece) → Covers c o num den piece
  covered left =
      covers left (left_of c num den) _ _ _ (left_stretch c accepted num den f) (ap (λ s. s.left) (sym (subdivided-accepted c num den accepted at room)))
      (inside.degrees ∙ sym (left-degree c num den)) (left_exact c accepted o inside.degrees num den f) (λ u. zero-+ℚ _ ∙ sym (rat_mul t u))
  covered right =
      covers right (right_of c num den) _ _ _ (right_stretch c accepted num den f) (ap (λ s. s.right) (sym (subdivided-accepted c num den accepted at room)))
      (inside.degrees ∙ sym (right-degree c num den)) (right_exact c accepted o inside.degrees num den f)
      (λ u. ap (λ y. rat t +ℚ y) (sym (rat_mul (complement t) u)) ∙ sym (rat_add t (complement t *ᶠ u)))

pub pieces_cover : PiecesCover
pieces_cover = covered
