-- One curve as a stretch of another: exactly it is the other from a start over a width, and its rounded sides lie within a number of steps of that. Stretches follow one another.
-- Assumes nothing.
use mathlib.Core.Path.{◌≡◌, sym, ap, ◌∙◌, subst₃}
use Prim.Native.Nat.{ℕ, ◌+◌, ◌*◌, ◌≤◌}
use native.Mathlib.Nat.{add-zero, add_assoc}
use lib.IntN.{pos}
use Rattle.rational.specs.Rounding.{Rounding}
use Rattle.rational.proofs.Rational.{ℚ, embed, ◌+ℚ◌, ◌*ℚ◌, rational-ring, zero-+ℚ, one-*ℚ}
use Rattle.bernstein.proofs.Curve.{curve}
use Rattle.bernstein.proofs.Rounded.{Side, Near, error}
use Rattle.curve.specs.declared.Curve.{Curve}
use Rattle.curve.specs.Rect.{Coordinate, side}
use Rattle.curve.specs.Curve.{point}

-- of every side of c, taken as near an exact sequence on either side, the moved sequence is the exact one of now
pub record Stretch (start width : ℚ) (steps : ℕ) (c now : Curve) : Type 0 where
  pub move : (ℕ → ℚ) → ℕ → ℚ
  pub moved : (q : ℕ → ℚ) (u : ℚ) → curve (move q) now.degree u ≡ curve q c.degree (start +ℚ width *ℚ u)
  pub near :
      (x : Coordinate) (r : Rounding) (way : Side) (m : ℕ) (q : ℕ → ℚ) →
      ((k : ℕ) → k ≤ c.degree → Near way (error way r * m) (side x r (point c k)) (q k)) →
      (k : ℕ) → k ≤ now.degree → Near way (error way r * (m + steps)) (side x r (point now k)) (move q k)

-- a curve is the whole stretch of itself
pub whole_stretch : (c : Curve) → Stretch (embed (pos 0)) (embed (pos 1)) 0 c c
whole_stretch c = record {
  move = λ q. q;
  moved = λ q u. ap (curve q c.degree) (sym (zero-+ℚ (embed (pos 1) *ℚ u) ∙ one-*ℚ u));
  near = λ x r way m q start k h. rw add-zero (start k h);
}

-- a stretch of a stretch
pub joined :
    (a w b v : ℚ) (m n : ℕ) (c d e : Curve) → Stretch a w m c d → Stretch b v n d e → Stretch (a +ℚ w *ℚ b) (w *ℚ v) (m + n) c e
joined a w b v m n c d e p p' = record {
  move = λ q. p'.move (p.move q);
  moved = λ q u. p'.moved (p.move q) u ∙ p.moved q (b +ℚ v *ℚ u) ∙ ap (curve q c.degree) (place a w b v u);
  near = λ x r way i q start k h. rw (← add_assoc) (p'.near x r way (i + m) (p.move q) (p.near x r way i q start) k h);
}
  where
    place : (a w b v u : ℚ) → a +ℚ w *ℚ (b +ℚ v *ℚ u) ≡ a +ℚ w *ℚ b +ℚ w *ℚ v *ℚ u
    place a w b v u = simp rational-ring

-- the same stretch by other names of its numbers
pub renamed :
    {a a' w w' : ℚ} {m m' : ℕ} {c now : Curve} → a ≡ a' → w ≡ w' → m ≡ m' → Stretch a w m c now → Stretch a' w' m' c now
renamed {c = c} {now} p q r = subst₃ (λ x y z. Stretch x y z c now) p q r
