-- The walk of a piece by its visit, and by its halves.
use mathlib.Core.Path.{◌≡◌, sym, ap, ◌∙◌}
use Prim.Native.Nat.{ℕ, ◌+◌, ◌*◌}
use native.Mathlib.Numerals.{add-one}
use native.Mathlib.Omega.{arith}
use Rattle.curve.specs.declared.Rect.{Rect}
use Rattle.curve.specs.declared.Curve.{Curve}
use Rattle.curve.specs.Calls.{subdivided}
use Rattle.search.specs.declared.Verdict.{Verdict}
use Rattle.search.specs.declared.visit.Visit.{Visit}
use Rattle.search.specs.declared.visit.Visit.TheVariants.{Across}
use Rattle.search.specs.declared.piece.Piece.{Piece}
use Rattle.search.specs.Walk.{looked, after, visit_at, walked}
use Rattle.search.specs.Piece.{AreHalves}
use Rattle.search.proofs.Visits.{walked_by, further}

module _ (box : Rect) (budget : ℕ) where
  -- the walk of a piece
  abbrev pub walked_of : Piece → Verdict → Verdict
  walked_of p v = walked box budget p.below p.curve p.depth p.index v

  -- after a visit that is known
  pub visited : (p : Piece) (v : Verdict) (s : Visit) → s ≡ visit_at box budget p.curve v → after s p.depth p.index v (further box budget p.below p.curve p.depth p.index) ≡ walked_of p v
  visited p v s e = walked_by box budget p.below p.curve p.depth p.index v s (sym e)

  halves : ℕ → Curve → ℕ → ℕ → Verdict → Verdict
  halves m curve depth index v =
      walked box budget m (subdivided curve 1 2).right (depth + 1) (index * 2 + 1) (walked box budget m (subdivided curve 1 2).left (depth + 1) (index * 2) v)

  further_cut : (m below : ℕ) (curve : Curve) (depth index : ℕ) (v : Verdict) → m + 1 ≡ below → halves m curve depth index v ≡ further box budget below curve depth index v
  unfolding further halves
  further_cut m below curve depth index v e = ap (λ (n : ℕ). further box budget n curve depth index v) (sym (add-one m) ∙ e)

  -- a piece across the box's edge, above the depth limit
  pub both_halves :
      (p l r : Piece) → AreHalves p l r → (v : Verdict) → walked_of r (walked_of l v) ≡ further box budget p.below p.curve p.depth p.index v
  unfolding halves
  both_halves p l r h v =
      let level : r.below ≡ l.below = omega (arith, h.former.left, h.latter.left) in
      rw (h.latter.curved, h.latter.deeper, h.latter.indexed, level, h.former.curved, h.former.deeper, h.former.indexed)
      (further_cut l.below p.below p.curve p.depth p.index v h.former.left)

  pub crossed :
      (p l r : Piece) → AreHalves p l r → (v seen half u : Verdict) → Across ≡ visit_at box budget p.curve v → seen ≡ looked v → half ≡ walked_of l seen → u ≡ walked_of r half → u ≡ walked_of p v
  crossed p l r cut v seen half u e s h k =
      k ∙ ap (walked_of r) (h ∙ ap (walked_of l) s) ∙ both_halves p l r cut (looked v) ∙ visited p v Across e
