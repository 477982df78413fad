use Prim.Native.Nat.{ℕ, ◌+◌, ◌-◌, ◌<◌}
use mathlib.Core.Path.{◌≡◌, subst}
use native.Mathlib.Omega.{arith}
use Rattle.solve_levels.specs.Decisions.{upper_at, lower_at}
use Rattle.solve_branch.proofs.Walks.{second_or_after}
use Rattle.solve_branch.proofs.dive.back.Goals as goal

pub loop-last-init : goal.loop-last-init
loop-last-init c = λ i a b. absurd (omega arith)

pub returns-then-taken : goal.returns-then-taken
returns-then-taken c =
    let l = c.loop-last in
    let same : l.last - 1 ≡ l.last - 1 + 1 - 1 = omega arith in
    record { fewer = omega (arith, l.auto.last, c.loop-last-test.true); seconds = λ i a b. l.invariant i (omega arith) b; first = λ h. subst (λ (i : ℕ). upper_at c.args.trail.now i < lower_at c.args.trail.now i) same c.if-taken.true }

pub loop-last-preserved : goal.loop-last-preserved
loop-last-preserved c =
    let l = c.loop-last in
    λ i a b. second_or_after c.args.trail.now l.last i c.if-taken.false (λ h. l.invariant i h b) a

pub returns : goal.returns
returns c =
    let l = c.loop-last in
    record { fewer = omega arith; seconds = λ i a b. l.invariant i (omega arith) b; first = λ h. absurd (omega arith) }
