-- What is promised of the Bernstein sum, over any degree.
-- Assumes nothing.
use Rattle.std.specs.Prelude.{ℕ}
use Rattle.rational.specs.Fraction.{Frac, Equal}
use Rattle.bernstein.specs.Affine.{exact_affine}
use Rattle.bernstein.specs.DeCasteljau.{value}
use Rattle.bernstein.specs.Bernstein.{bernstein}

-- it is the value that de Casteljau's table gives where nothing is rounded
abbrev pub SumIsValue : Type 0
SumIsValue = (n : ℕ) (p : ℕ → Frac) (x : Frac) → Equal (bernstein n p x) (value (exact_affine x) p n)
