use Prim.Native.Nat.{ℕ, ◌+◌, ◌-◌}
use mathlib.Core.Path.{◌≡◌, subst}
use native.Mathlib.Omega.{arith}
use Rattle.std.specs.Prelude.{Some}
use Rattle.solve_branch.specs.States.{Stands}
use Rattle.solve_walk.proofs.Moved.{moved_to}
use Rattle.solve_numbered.proofs.reach.Goals as goal

pub next-requires : goal.next-requires
next-requires c =
    let l = c.loop-passed in
    let s = c.requires.0 in
    ((l.passed - 1, record { walked = s.walked; stands = l.invariant.2 s.walked.graph s.walked.fits (c.first-at.ensures s) }), omega (arith, c.requires.2, l.invariant.0, c.first-at.auto))

pub loop-passed-preserved : goal.loop-passed-preserved
loop-passed-preserved c =
    let l = c.loop-passed in
    let same : l.passed - 1 + 1 ≡ l.passed + 1 - 1 = omega (arith, l.auto.passed) in
    let led : c.next.result ≡ Some c.in_ok-at.at = grind arith in (
      omega (arith, l.invariant.0, c.next.auto),
      omega (arith, l.invariant.1, c.next.auto),
      λ g f x. subst (λ (m : ℕ). Stands g c.next.new.trail c.next.new.states c.in_ok-at.at m) same (moved_to g _ _ (l.passed - 1 + 1) led (c.next.ensures g (l.passed - 1) f (l.invariant.2 g f x))),
    )

pub returns : goal.returns
returns c =
    let l = c.loop-passed in
    let all : l.passed ≡ c.args.k = omega arith in
    λ s. subst (λ (m : ℕ). Stands s.walked.graph l.trail l.states l.at (m - 1)) all (l.invariant.2 s.walked.graph s.walked.fits (c.first-at.ensures s))
