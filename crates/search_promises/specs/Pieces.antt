-- The pieces of a walk by depth and index.
-- Assumes nothing.
use Rattle.std.specs.Prelude.{Bool, not, ◌&&◌, ℕ, zero, suc, ◌/◌, ◌%◌}
use Rattle.curve.specs.declared.Rect.{Rect}
use Rattle.curve.specs.declared.Curve.{Curve}
use Rattle.curve.specs.declared.Subdivision.{Subdivision}
use Rattle.curve.specs.Calls.{bounded, subdivided}
use Rattle.search.specs.Box.{in_box, apart_from}

-- the left piece for 0, the right one for 1
abbrev pub half_of : ℕ → Subdivision → Curve
half_of zero s = s.left
half_of (suc bit) s = s.right

-- piece `index` of a depth: its last bit tells which half it is of the piece that it was cut from, the bits before it which piece that is
unfoldable pub piece_at : Curve → ℕ → ℕ → Curve
piece_at c zero index = c
piece_at c (suc depth) index = half_of (index % 2) (subdivided (piece_at c depth (index / 2)) 1 2)

-- a piece's span neither lies in the box nor is apart from it
unfoldable pub is_across : Rect → Curve → Bool
is_across box piece = not (in_box (bounded piece).rect box) && not (apart_from (bounded piece).rect box)

-- the same of every piece on the way from the whole curve to this one, both included: at the depth limit, a piece that the walk notes when it comes to it
unfoldable pub across_to : Curve → Rect → ℕ → ℕ → Bool
across_to c box zero index = is_across box c
across_to c box (suc depth) index = across_to c box depth (index / 2) && is_across box (piece_at c (suc depth) index)
