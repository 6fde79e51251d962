-- The two pieces of an accepted curve and its elevated curve are stretches of it, with the ledger's widths and sums, and move an ordinary curve's control points as the exact steps do.
-- Assumes nothing.
use mathlib.Core.Path.{◌≡◌, sym, ap, ap₂, ◌∙◌, subst}
use Prim.Native.Nat.{ℕ, suc, pred, ◌+◌, ◌*◌, ◌-◌, ◌≤◌, ◌<◌}
use native.Mathlib.Numerals.{add-one}
use native.Mathlib.Omega.{arith}
use lib.IntN.{ℤ, pos, ◌*ℤ◌}
use Rattle.rational.specs.Fraction.{Frac, complement, parameter}
use Rattle.rational.proofs.Rational.{ℚ, rat, embed, ◌+ℚ◌, ◌-ℚ◌, ◌*ℚ◌, zero-+ℚ, one-*ℚ, *ℚ-comm, +ℚ-cancel, rat_complement}
use Rattle.rational.proofs.Division.{ratio, ratio_weights, ratio_equal, rat_ratio}
use Rattle.bernstein.specs.Affine.{exact_affine}
use Rattle.bernstein.specs.DeCasteljau.{table, left, right}
use Rattle.bernstein.proofs.Table.{table_image}
use Rattle.bernstein.proofs.Elevate.{elevate}
use Rattle.bernstein.proofs.Exact.{mix}
use Rattle.bernstein.proofs.Rationals.{rationals, mean}
use Rattle.bernstein.proofs.Promises.{exact-affine}
use Rattle.bernstein.proofs.Curve.{curve, left-curve, right-curve, elevate-curve}
use Rattle.bernstein.proofs.Rounded.{Near, error, left_near, right_near, elevate-near}
use Rattle.curve.specs.declared.Curve.{Curve}
use Rattle.curve.specs.Limits.{max_degree}
use Rattle.curve.specs.Rect.{Coordinate, side}
use Rattle.curve.specs.Curve.{point, left_of, right_of, elevated_of}
use Rattle.curve.specs.Refusals.{Accepted}
use Rattle.curve.specs.Inner.{Factors}
use Rattle.curve.proofs.Accepted.{accepted_facts}
use Rattle.curve.proofs.Points.{sides, side_left, side_right, side-elevated}
use Rattle.curve.proofs.Pieces.{left-point, right-point, elevated-point}
use Rattle.ledger.specs.Ordinary.{Ordinary}
use Rattle.ledger.specs.Ledger.{left as left_piece, right as right_piece}
use Rattle.ledger.specs.Exact.{part, raised}
use Rattle.ledger.proofs.Stretch.{Stretch}

-- a parameter as a rational number, and its complement
module _ (num den : ℕ) (f : Factors (den - num) num den) where
  pub parameter_ratio : rat (parameter num den) ≡ ratio den f.positive (pos num)
  unfolding parameter
  parameter_ratio =
      let positive = f.positive in
      let same : den ≡ suc (pred den) = omega arith in
      rat_ratio (parameter num den) ∙ ratio_equal (suc (pred den)) den (parameter num den).positive positive (pos num) (pos num) (ap (λ (d : ℕ). pos num *ℤ pos d) same)

  pub complement_ratio : rat (complement (parameter num den)) ≡ ratio den f.positive (pos (den - num))
  complement_ratio =
      rat_complement (parameter num den) ∙ ap (λ x. embed (pos 1) -ℚ x) parameter_ratio ∙
      ap (λ x. x -ℚ ratio den f.positive (pos num)) (sym (ratio_weights den f.positive (den - num) num f.total)) ∙ +ℚ-cancel _ _

  -- the exact map and the exact table at it
  pub exact_map : (a b : Frac) → rat (exact_affine (parameter num den) a b) ≡ mean den f.positive (den - num) num (rat a) (rat b)
  unfolding mean
  exact_map a b =
      exact-affine (parameter num den) a b ∙ ap₂ (λ (s t : ℚ). mix rationals s t (rat a) (rat b)) complement_ratio parameter_ratio

  pub exact_mean :
      (p : ℕ → Frac) (j k : ℕ) →
      rat (table (exact_affine (parameter num den)) p j k) ≡ table (mean den f.positive (den - num) num) (λ i. rat (p i)) j k
  exact_mean = table_image (exact_affine (parameter num den)) (mean den f.positive (den - num) num) rat exact_map

pub above_zero : (n : ℕ) → 0 < suc n
above_zero n = omega arith

module _ (c : Curve) (accepted : Accepted c) where
  abbrev few : c.degree ≤ max_degree
  few = (accepted_facts c accepted).few

  module _ (num den : ℕ) (f : Factors (den - num) num den) where
    -- the left piece: from 0, as wide as the parameter
    unfoldable pub left_stretch : Stretch (embed (pos 0)) (rat (parameter num den)) c.degree c (left_of c num den)
    unfolding left_of mean
    left_stretch = record {
      move = left (mean den f.positive (den - num) num);
      moved = λ q u.
          left-curve q c.degree u _ _ (ratio_weights den f.positive (den - num) num f.total)
          ∙ ap (curve q c.degree) (*ℚ-comm u _ ∙ ap (λ y. y *ℚ u) (sym (parameter_ratio num den f)) ∙ sym (zero-+ℚ _));
      near = λ x r way m q start k h. subst (λ (z : ℤ). Near way (error way r * (m + c.degree)) z (left (mean den f.positive (den - num) num) q k))
          (sym (ap (side x r) (left-point c num den k few h) ∙ side_left x r (point c) (den - num) num den k))
          (left_near r (den - num) num den f.total f.positive way (sides x r (point c)) q c.degree m start k h);
    }

    -- the right piece: from the parameter, as wide as the rest
    unfoldable pub right_stretch : Stretch (rat (parameter num den)) (rat (complement (parameter num den))) c.degree c (right_of c num den)
    unfolding right_of mean
    right_stretch = record {
      move = λ q. right (mean den f.positive (den - num) num) q c.degree;
      moved = λ q u.
          right-curve q c.degree u _ _ (ratio_weights den f.positive (den - num) num f.total)
          ∙ ap₂ (λ y z. curve q c.degree (y +ℚ z *ℚ u)) (sym (parameter_ratio num den f)) (sym (complement_ratio num den f));
      near = λ x r way m q start k h. subst (λ (z : ℤ). Near way (error way r * (m + c.degree)) z (right (mean den f.positive (den - num) num) q c.degree k))
          (sym (ap (side x r) (right-point c num den k few h) ∙ side_right x r (point c) (den - num) num den c.degree k))
          (right_near r (den - num) num den f.total f.positive way (sides x r (point c)) q c.degree m start k h);
    }

  -- the elevated curve: the whole stretch, one step further
  unfoldable pub elevated_stretch : c.degree < max_degree → Stretch (embed (pos 0)) (embed (pos 1)) 1 c (elevated_of c)
  unfolding elevated_of
  elevated_stretch below = record {
    move = elevate (mean (suc c.degree) (above_zero c.degree)) c.degree;
    moved = λ q u.
        ap (λ (m : ℕ). curve (elevate (mean (suc c.degree) (above_zero c.degree)) c.degree q) m u) (add-one c.degree)
        ∙ elevate-curve q c.degree u (above_zero c.degree)
        ∙ ap (curve q c.degree) (sym (zero-+ℚ (embed (pos 1) *ℚ u) ∙ one-*ℚ u));
    near = λ x r way m q start k h.
        rw (add-one m)
        (subst (λ (z : ℤ). Near way (error way r * suc m) z (elevate (mean (suc c.degree) (above_zero c.degree)) c.degree q k))
        (sym (ap (side x r) (elevated-point c k below h) ∙ side-elevated x r (point c) c.degree k))
        (elevate-near r c.degree (above_zero c.degree) way (sides x r (point c)) q m start k (omega arith)));
  }

  -- ---- an ordinary curve's control points, moved as the exact steps move them
  module _ (o : Ordinary) (degrees : o.degree ≡ c.degree) where
    module _ (num den : ℕ) (f : Factors (den - num) num den) where
      pub left_exact : (x : Coordinate) (k : ℕ) → rat ((part left_piece (parameter num den) o).control x k) ≡ (left_stretch num den f).move (λ i. rat (o.control x i)) k
      unfolding left_stretch left
      left_exact x k = exact_mean num den f (o.control x) k 0

      pub right_exact : (x : Coordinate) (k : ℕ) → rat ((part right_piece (parameter num den) o).control x k) ≡ (right_stretch num den f).move (λ i. rat (o.control x i)) k
      unfolding right_stretch right
      right_exact x k =
          ap (λ (n : ℕ). rat (right (exact_affine (parameter num den)) (o.control x) n k)) degrees ∙ exact_mean num den f (o.control x) (c.degree - k) k

    pub raised_exact : (below : c.degree < max_degree) (x : Coordinate) (k : ℕ) → k ≤ c.degree + 1 → rat ((raised o).control x k) ≡ (elevated_stretch below).move (λ i. rat (o.control x i)) k
    unfolding elevated_stretch elevate
    raised_exact below x k h =
        let n = c.degree in
        let one_more : o.degree + 1 ≡ suc n = ap (λ (m : ℕ). m + 1) degrees ∙ add-one n in
        let factors : Factors (suc n - (suc n - k)) (suc n - k) (suc n) = record { total = omega arith; positive = above_zero n; small = omega arith } in
        let rest : suc n - (suc n - k) ≡ k = omega arith in
        ap (λ (m : ℕ). rat (exact_affine (parameter (m - k) m) (o.control x (k - 1)) (o.control x k))) one_more
        ∙ exact_map (suc n - k) (suc n) factors (o.control x (k - 1)) (o.control x k)
        ∙ ap (λ (s : ℕ). mean (suc n) factors.positive s (suc n - k) (rat (o.control x (k - 1))) (rat (o.control x k))) rest
