-- What is promised of the public calls beside their equations, over the definitions that their contracts cite.
-- Assumes nothing.
use Rattle.std.specs.Prelude.{◌≡◌, Bool, true, false, ℕ, ◌+◌, ◌*◌, ◌≤◌, ◌<◌, T, ℤ, pos, negsuc, nat_abs, Float}
use Rattle.std.specs.Float.Ieee.Exact.{HasValue}
use Rattle.rational.specs.Rounding.{Rounding, down, up}
use Rattle.curve.specs.declared.Curve.{Curve}
use Rattle.curve.specs.declared.Rect.{Rect}
use Rattle.curve.specs.declared.Ohms.{Ohms}
use Rattle.curve.specs.declared.Subdivision.{Subdivision}
use Rattle.curve.specs.Limits.{max_degree, steps_per_ohm}
use Rattle.curve.specs.Rect.{Coordinate, resistance, reactance, side, Inside, in_range, zero_rect}
use Rattle.curve.specs.Curve.{point, piece_sum, elevated_sum, SameButSum, SameCurve}
use Rattle.curve.specs.Refusals.{Accepted, AcceptedAt, AcceptedSum}
use Rattle.curve.specs.Ohms.{ohm}
use Rattle.curve.specs.Calls.{evaluated, subdivided, bounded, elevated}

-- evaluation at 0/den is control point 0, and at den/den control point n
abbrev pub EndPoints : Type 0
EndPoints =
    (c : Curve) (den : ℕ) → Accepted c → AcceptedAt den den →
    ((evaluated c 0 den).load ≡ point c 0) × ((evaluated c den den).load ≡ point c c.degree)

-- evaluation and subdivision at one parameter have equal flags, where the pieces' sum is not refused
abbrev pub SameFlag : Type 0
SameFlag = (c : Curve) (num den : ℕ) → AcceptedSum (piece_sum c) → (evaluated c num den).exact ≡ (subdivided c num den).exact

-- evaluation is lit, and so is subdivision where the pieces' sum is not refused
abbrev pub Lit : Curve → ℕ → ℕ → Type 0
Lit c num den = ((evaluated c num den).exact ≡ true) × (AcceptedSum (piece_sum c) → (subdivided c num den).exact ≡ true)

-- so they are at 0/den and at den/den
abbrev pub LitEnds : Type 0
LitEnds = (c : Curve) (den : ℕ) → Accepted c → AcceptedAt den den → Lit c 0 den × Lit c den den

-- only an accepted call is lit: a refused one's flag is dark
pub record LitAccepted : Type 0 where
  pub evaluating : (c : Curve) (num den : ℕ) → (evaluated c num den).exact ≡ true → Accepted c × AcceptedAt num den
  pub subdividing : (c : Curve) (num den : ℕ) → (subdivided c num den).exact ≡ true → Accepted c × AcceptedAt num den × AcceptedSum (piece_sum c)
  pub elevating : (c : Curve) → (elevated c).exact ≡ true → Accepted c × (c.degree < max_degree) × AcceptedSum (elevated_sum c)

-- equal fractions, both accepted, give equal answers
abbrev pub EqualFractions : Type 0
EqualFractions =
    (c : Curve) (num den num' den' : ℕ) → AcceptedAt num den → AcceptedAt num' den' → num * den' ≡ num' * den →
    (evaluated c num den ≡ evaluated c num' den') × (subdivided c num den ≡ subdivided c num' den')

-- equal curves give equal answers: nothing past the degree is read, and by evaluation and bounds no sum of steps
pub record PastUnread : Type 0 where
  pub evaluating : (c e : Curve) → SameButSum c e → (num den : ℕ) → evaluated c num den ≡ evaluated e num den
  pub bounding : (c e : Curve) → SameButSum c e → bounded c ≡ bounded e
  pub subdividing : (c e : Curve) → SameCurve c e → (num den : ℕ) → subdivided c num den ≡ subdivided e num den
  pub elevating : (c e : Curve) → SameCurve c e → elevated c ≡ elevated e

-- the pieces of an accepted curve
pub record Pieces (c : Curve) (s : Subdivision) (load : Rect) : Type 0 where
  pub left_accepted : Accepted s.left
  pub right_accepted : Accepted s.right
  pub left_degree : s.left.degree ≡ c.degree
  pub right_degree : s.right.degree ≡ c.degree
  pub left_sum : s.left.sum ≡ c.sum + c.degree
  pub right_sum : s.right.sum ≡ c.sum + c.degree
  pub left_last : point s.left c.degree ≡ load
  pub right_first : point s.right 0 ≡ load

-- both pieces are accepted curves of the same degree, with the parent's sum plus its degree, and the load is the left one's last and the right one's first control point
abbrev pub GoodPieces : Type 0
GoodPieces =
    (c : Curve) (num den : ℕ) → Accepted c → AcceptedAt num den → AcceptedSum (piece_sum c) →
    Pieces c (subdivided c num den) (evaluated c num den).load

-- an accepted curve below the highest degree, elevated, is accepted, of degree n + 1, with one more in its sum
abbrev pub GoodElevation : Type 0
GoodElevation =
    (c : Curve) → Accepted c → c.degree < max_degree → AcceptedSum (elevated_sum c) →
    Accepted (elevated c).curve × ((elevated c).curve.degree ≡ c.degree + 1) × ((elevated c).curve.sum ≡ c.sum + 1)

-- bounds holds every control point, and lies inside every rectangle that does
abbrev pub LeastBounds : Type 0
LeastBounds =
    (c : Curve) → Accepted c →
    ((k : ℕ) → k ≤ c.degree → Inside (point c k) (bounded c).rect)
    × ((p : Rect) → ((k : ℕ) → k ≤ c.degree → Inside (point c k) p) → Inside (bounded c).rect p)

-- the load lies inside bounds
abbrev pub LoadInBounds : Type 0
LoadInBounds =
    (c : Curve) (num den : ℕ) → Accepted c → AcceptedAt num den → Inside (evaluated c num den).load (bounded c).rect

-- every place past a curve's degree is zero
abbrev pub PastZero : Curve → Type 0
PastZero c = (k : ℕ) → c.degree < k → point c k ≡ zero_rect

-- so it is in every curve that is answered
abbrev pub ZeroPast : Type 0
ZeroPast =
    (c : Curve) →
    ((num den : ℕ) → PastZero (subdivided c num den).left × PastZero (subdivided c num den).right)
    × PastZero (elevated c).curve

abbrev pub negative : ℤ → Bool
negative (pos n) = false
negative (negsuc n) = true

-- each ohm value is finite and exactly its side / 1,024, for every side in range
abbrev pub ExactOhms : Type 0
ExactOhms = (z : ℤ) → T (in_range z) → HasValue (ohm z) (negative z) (nat_abs z) steps_per_ohm

-- the ohms of one side
abbrev pub ohms_at : Coordinate → Rounding → Ohms → Float
ohms_at resistance down o = o.rlow
ohms_at resistance up o = o.rhigh
ohms_at reactance down o = o.xlow
ohms_at reactance up o = o.xhigh

-- an evaluation's ohms are its load's sides / 1,024; of a refused one both are zero
abbrev pub LoadOhms : Type 0
LoadOhms =
    (c : Curve) (num den : ℕ) (x : Coordinate) (r : Rounding) →
    let z = side x r (evaluated c num den).load in
    HasValue (ohms_at x r (evaluated c num den).ohms) (negative z) (nat_abs z) steps_per_ohm
