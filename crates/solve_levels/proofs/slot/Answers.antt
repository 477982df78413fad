-- A slot is one of 32.
use Prim.Native.Nat.{ℕ, ◌*◌, ◌%◌, ◌≤◌}
use mathlib.Core.Path.{◌≡◌, ap}
use native.Mathlib.Nat.{mul-le-mul}
use native.Mathlib.Omega.{arith}
use Rattle.solve_reduce.specs.Reduced.{wide}
use Rattle.solve_levels.proofs.Stack.{slot_ends, wide_most}
use Rattle.solve_levels.proofs.slot.Goals as goal

pub overflow_mul-result : goal.overflow_mul-result
overflow_mul-result c =
    let few : c.width.result ≤ 514 = omega (arith, c.width.ensures, wide_most c.args.n c.requires) in
    let some : c.args.opened % 32 ≤ 31 = omega arith in
    omega (arith, mul-le-mul few some)

pub returns : goal.returns
returns c =
    let is : c.width.result * (c.args.opened % 32) ≡ wide c.args.n * (c.args.opened % 32) = ap (λ (k : ℕ). k * (c.args.opened % 32)) c.width.ensures in
    (is, omega (arith, is, slot_ends (wide c.args.n) (c.args.opened % 32) 32 (omega arith)))
