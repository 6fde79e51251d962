-- The halves of a piece.
use Rattle.std.specs.Prelude.{◌≡◌, ℕ, ◌+◌, ◌*◌}
use Rattle.curve.specs.declared.Curve.{Curve}
use Rattle.curve.specs.Calls.{subdivided}
use Rattle.search.specs.declared.piece.Piece.{Piece}

-- a half of the parent: this curve at this index, one depth deeper
pub record IsHalf (parent : Piece) (curve : Curve) (index : ℕ) (half : Piece) : Type 0 where
  pub curved : half.curve ≡ curve
  pub deeper : half.depth ≡ parent.depth + 1
  pub indexed : half.index ≡ index
  pub left : half.below + 1 ≡ parent.below

-- both halves of the parent, which is cut at 1/2
pub record AreHalves (parent first second : Piece) : Type 0 where
  pub former : IsHalf parent (subdivided parent.curve 1 2).left (parent.index * 2) first
  pub latter : IsHalf parent (subdivided parent.curve 1 2).right (parent.index * 2 + 1) second
