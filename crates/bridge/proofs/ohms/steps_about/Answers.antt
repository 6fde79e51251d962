-- `steps_about` meets its contract: those of its size, and below zero the same turned about.
use Rattle.std.proofs.Common.{rules, ◌≡◌, sym, ap, ap₂, ◌∙◌, subst, T, ℤ, pos, neg_ℤ, ◌-ℤ◌, w32, FitsSigned, to_z, of_z}
use lib.IntN.{+ℤ_idl, neg_ℤ-neg_ℤ}
use lib.Ieee.{Float}
use Rattle.rational.specs.Rounding.{Rounding, down, up}
use Rattle.curve.specs.declared.Interval.{Interval}
use Rattle.curve.specs.Rect.{end}
use Rattle.curve.specs.Inner.{Side}
use Rattle.curve.proofs.Sides.{side-fits, side_back}
use Rattle.bridge.specs.Value.{step_at, steps_about, is_load}
use Rattle.bridge.proofs.Steps.{negated, load_side}
use Rattle.bridge.proofs.ByBits.{opposite, load-number, load-few, about_above, about_below}
use Rattle.bridge.proofs.ohms.steps_about.Goals as goal

pub float_to_bits-bits : goal.float_to_bits-bits
float_to_bits-bits c = load-number c.args.x c.requires

pub size_about-size-requires : goal.size_about-size-requires
size_about-size-requires c = load-few c.args.x c.well_formed.0.1 c.requires

pub returns-then-bits-lt-SIGN : goal.returns-then-bits-lt-SIGN
returns-then-bits-lt-SIGN c =
    c.size_about-size.ensures ∙ about_above c.args.x c.well_formed.0.1 c.requires c.if-bits-lt-SIGN.true

-- a side taken off 0
taken-off : (z : ℤ) {s : ℤ} → Side s → s ≡ neg_ℤ z → pos 0 -ℤ to_z w32 (of_z w32 z) ≡ s
taken-off z {s} h e =
    let back : neg_ℤ s ≡ z = ap neg_ℤ e ∙ neg_ℤ-neg_ℤ z in
    ap (λ (y : ℤ). pos 0 -ℤ y) (side_back (subst Side back (negated h))) ∙ +ℤ_idl (neg_ℤ z) ∙ sym e

-- a side below zero is the other end of the size, taken off 0
module _ (x : Float) (size : Interval) (t : T (is_load x)) (below : (o : Rounding) → step_at o x ≡ neg_ℤ (end (opposite o) size)) where
  side-is : (o : Rounding) → pos 0 -ℤ to_z w32 (of_z w32 (end (opposite o) size)) ≡ step_at o x
  side-is o = taken-off (end (opposite o) size) (load_side o x t) (below o)

  fits : (o : Rounding) → FitsSigned w32 (pos 0 -ℤ to_z w32 (of_z w32 (end (opposite o) size)))
  fits o = subst (FitsSigned w32) (sym (side-is o)) (side-fits (load_side o x t))

  turned : (o : Rounding) → to_z w32 (of_z w32 (pos 0 -ℤ to_z w32 (of_z w32 (end (opposite o) size)))) ≡ step_at o x
  turned o = ap (λ (z : ℤ). to_z w32 (of_z w32 z)) (side-is o) ∙ side_back (load_side o x t)

  -- either end of the size, taken off 0, fits; both are proved for each side, so that the wrong end is refused where the result is told
  fits_both :
      FitsSigned w32 (pos 0 -ℤ to_z w32 (of_z w32 size.low)) × FitsSigned w32 (pos 0 -ℤ to_z w32 (of_z w32 size.high))
  fits_both = (fits up, fits down)

pub overflow_sub-result : goal.overflow_sub-result
overflow_sub-result c =
    let (low, high) =
    fits_both c.args.x c.size_about-size.result c.requires
    (λ o. about_below c.args.x c.well_formed.0.1 c.requires c.if-bits-lt-SIGN.false o ∙ ap (λ (i : Interval). neg_ℤ (end (opposite o) i)) (sym c.size_about-size.ensures)) in
    search rules

pub overflow_sub-result-2 : goal.overflow_sub-result-2
overflow_sub-result-2 c =
    let (low, high) =
    fits_both c.args.x c.size_about-size.result c.requires
    (λ o. about_below c.args.x c.well_formed.0.1 c.requires c.if-bits-lt-SIGN.false o ∙ ap (λ (i : Interval). neg_ℤ (end (opposite o) i)) (sym c.size_about-size.ensures)) in
    search rules

pub returns : goal.returns
unfolding steps_about
returns c =
    let below : (o : Rounding) → step_at o c.args.x ≡ neg_ℤ (end (opposite o) c.size_about-size.result) =
    λ o. about_below c.args.x c.well_formed.0.1 c.requires c.if-bits-lt-SIGN.false o ∙ ap (λ (i : Interval). neg_ℤ (end (opposite o) i)) (sym c.size_about-size.ensures) in
    ap₂ (λ (l h : ℤ). record { low = l; high = h })
    (turned c.args.x c.size_about-size.result c.requires below down)
    (turned c.args.x c.size_about-size.result c.requires below up)
