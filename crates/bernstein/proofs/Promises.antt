-- The promise of specs/Promises.antt, proved.
-- Assumes nothing.
use Prim.Native.Nat.{ℕ}
use mathlib.Core.Path.{◌≡◌, sym, ap₂, ◌∙◌}
use Rattle.rational.specs.Fraction.{Frac, ◌*ᶠ◌, complement}
use Rattle.rational.proofs.Rational.{rat, rat_add, rat_mul, ◌+ℚ◌}
use Rattle.rational.proofs.RationalOrder.{equal_of}
use Rattle.bernstein.specs.Affine.{exact_affine}
use Rattle.bernstein.specs.DeCasteljau.{table, value}
use Rattle.bernstein.specs.Bernstein.{bernstein}
use Rattle.bernstein.specs.Promises.{SumIsValue}
use Rattle.bernstein.proofs.Table.{table_image}
use Rattle.bernstein.proofs.Exact.{mix}
use Rattle.bernstein.proofs.Rationals.{rationals, bernstein-value}

-- the map and the table of fractions, as rational numbers
pub exact-affine : (x a b : Frac) → rat (exact_affine x a b) ≡ mix rationals (rat (complement x)) (rat x) (rat a) (rat b)
unfolding mix
exact-affine x a b = rat_add (complement x *ᶠ a) (x *ᶠ b) ∙ ap₂ ◌+ℚ◌ (rat_mul (complement x) a) (rat_mul x b)

exact_table :
    (x : Frac) (p : ℕ → Frac) (j k : ℕ) →
    rat (table (exact_affine x) p j k) ≡ table (mix rationals (rat (complement x)) (rat x)) (λ k. rat (p k)) j k
exact_table x = table_image (exact_affine x) (mix rationals (rat (complement x)) (rat x)) rat (exact-affine x)

pub sum_is_value : SumIsValue
unfolding value
sum_is_value n p x = equal_of (bernstein n p x) (value (exact_affine x) p n) (bernstein-value n p x ∙ sym (exact_table x p n 0))
