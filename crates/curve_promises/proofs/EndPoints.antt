-- The reading at 0/den is control point 0, and at den/den control point n.
-- Assumes nothing.
use mathlib.Core.Path.{◌≡◌, sym, ap, ◌∙◌}
use mathlib.Core.Bool.{Bool, ◌&&◌}
use Prim.Native.Nat.{ℕ, zero, suc, ◌+◌, ◌<◌}
use native.Mathlib.Nat.{le_refl, sub-zero, sub_self, zero-add, add-zero, add-suc, suc-add}
use lib.Dec.{leb, leb-zero}
use borrow.Author.Tests.{le-leb}
use Rattle.bernstein.specs.DeCasteljau.{table, value}
use Rattle.bernstein.proofs.Table.{table-zero, table-suc}
use Rattle.curve.specs.declared.Curve.{Curve}
use Rattle.curve.specs.declared.Evaluation.{Evaluation}
use Rattle.curve.specs.Limits.{max_den}
use Rattle.curve.specs.Curve.{point, map_at, load_of}
use Rattle.curve.specs.Refusals.{◌or_else◌, unless, parameter_refusal, AcceptedAt}
use Rattle.curve.proofs.Accepted.{parameter_facts}
use Rattle.curve.proofs.Answers.{evaluated-accepted}
use Rattle.curve.proofs.WholeWeight.{affine-rect-first, affine-rect_second}
use Rattle.curve_promises.specs.Promises.{EndPoints}

-- a map that keeps its first point, or its second, keeps the first point of all, or the last
module _ {A : Type 0} (map : A → A → A) (P : ℕ → A) where
  table_keeps_first : ((a b : A) → map a b ≡ a) → (j k : ℕ) → table map P j k ≡ P k
  table_keeps_first keeps zero k = table-zero map P k
  table_keeps_first keeps (suc j) k = table-suc map P j k ∙ keeps (table map P j k) (table map P j (suc k)) ∙ table_keeps_first keeps j k

  table_keeps_second : ((a b : A) → map a b ≡ b) → (j k : ℕ) → table map P j k ≡ P (j + k)
  table_keeps_second keeps zero k = table-zero map P k ∙ ap P (sym (zero-add k))
  table_keeps_second keeps (suc j) k = table-suc map P j k ∙ keeps (table map P j k) (table map P j (suc k)) ∙ table_keeps_second keeps j (suc k) ∙ ap P (add-suc j k ∙ sym (suc-add j k))

module _ (c : Curve) (den : ℕ) (positive : 0 < den) where
  load-first : load_of c 0 den ≡ point c 0
  unfolding load_of value
  load-first = table_keeps_first (map_at 0 den) (point c) (λ p q. rw sub-zero (affine-rect-first den positive p q)) c.degree 0

  load_last : load_of c den den ≡ point c c.degree
  unfolding load_of value
  load_last =
      table_keeps_second (map_at den den) (point c) (λ p q. rw sub_self (affine-rect_second den positive p q)) c.degree 0
      ∙ ap (point c) (add-zero c.degree)

-- num = 0 is accepted where num = den is
pub start-accepted : (den : ℕ) → AcceptedAt den den → AcceptedAt 0 den
unfolding parameter_refusal
start-accepted den h =
    ap (λ (b : Bool). unless (leb 1 den && leb den max_den) 4 or_else unless b 5) (leb-zero den ∙ sym (le-leb den den (le_refl den))) ∙ h

pub end_points : EndPoints
end_points c den a h =
    let positive = (parameter_facts den den h).factors.positive in (
      ap (λ (x : Evaluation). x.load) (evaluated-accepted c 0 den a (start-accepted den h)) ∙ load-first c den positive,
      ap (λ (x : Evaluation). x.load) (evaluated-accepted c den den a h) ∙ load_last c den positive,
    )
