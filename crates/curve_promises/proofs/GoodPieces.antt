-- The pieces and the elevated curve of an accepted call are accepted curves.
-- Assumes nothing.
use mathlib.Core.Path.{◌≡◌, sym, ap, ◌∙◌, subst, subst₂}
use Prim.Native.Nat.{◌+◌, ◌≤◌}
use native.Mathlib.Nat.{le_refl}
use Rattle.bernstein.proofs.Table.{left-last}
use Rattle.curve.specs.Limits.{max_degree}
use Rattle.curve.specs.Curve.{point, map_at, load_of}
use Rattle.curve.specs.Refusals.{Accepted}
use Rattle.curve.proofs.Accepted.{accepted_facts}
use Rattle.curve.proofs.Answers.{evaluated-accepted, subdivided-accepted, elevated-accepted}
use Rattle.curve.proofs.Pieces.{left-accepted, right-accepted, elevated_of-accepted, left-degree, right-degree, elevated-degree, left-sum, right-sum, elevated-sum, left-point, right-load}
use Rattle.curve_promises.specs.Promises.{Pieces, GoodPieces, GoodElevation}

pub good_pieces : GoodPieces
unfolding load_of
good_pieces c num den accepted at room =
    subst₂ (Pieces c) (sym (subdivided-accepted c num den accepted at room)) (ap (λ e. e.load) (sym (evaluated-accepted c num den accepted at)))
    (record {
      left_accepted = left-accepted c accepted num den at;
      right_accepted = right-accepted c accepted num den at;
      left_degree = left-degree c num den;
      right_degree = right-degree c num den;
      left_sum = left-sum c num den;
      right_sum = right-sum c num den;
      left_last = left-point c num den c.degree few (le_refl c.degree) ∙ left-last (map_at num den) (point c) c.degree;
      right_first = right-load c num den accepted;
    })
  where
    few : c.degree ≤ max_degree
    few = (accepted_facts c accepted).few

pub good_elevation : GoodElevation
good_elevation c accepted few room =
    subst (λ e. Accepted e.curve × (e.curve.degree ≡ c.degree + 1) × (e.curve.sum ≡ c.sum + 1)) (sym (elevated-accepted c accepted few room))
    (elevated_of-accepted c accepted few, elevated-degree c, elevated-sum c)
