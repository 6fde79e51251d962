-- `with_part` meets its contract: the factor's share of the lift is at most the lift.
use Rattle.std.proofs.Common.{◌≡◌, ◌+◌, ◌*◌, ◌≤◌, ℕ, ap, arith}
use native.Mathlib.Nat.{mul-le-mul_left}
use Rattle.std.proofs.lemmas.Grind.{div_ceil_times}
use Rattle.curve.specs.Inner.{turns_of}
use Rattle.curve.proofs.affine.Weights.with_part.Goals as goal

pub overflow_mul-result-2 : goal.overflow_mul-result-2
overflow_mul-result-2 c =
    let a = c.args in
    let near = div_ceil_times 33554432 (a.s + a.t) c.requires.t_nonzero in
    let lift : a.turns * (a.s + a.t) ≡ turns_of (a.s + a.t) * (a.s + a.t) = ap (λ (n : ℕ). n * (a.s + a.t)) c.requires.turns_value in
    let most : a.turns * a.t ≤ a.turns * (a.s + a.t) = mul-le-mul_left a.turns (omega arith) in
    record { fits = omega arith }
