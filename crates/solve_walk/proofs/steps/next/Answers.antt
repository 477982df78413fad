use Prim.Native.Nat.{◌+◌, ◌-◌}
use mathlib.Core.Path.{refl}
use native.Mathlib.Omega.{arith}
use Rattle.solve_levels.proofs.Tables.{noted_long}
use Rattle.solve_levels.proofs.Fitting.{valid_noted}
use Rattle.solve_branch.proofs.Walks.{left_all, back_leaves}
use Rattle.solve_branch.proofs.Ways.{arrived_to, arrived_stuck}
use Rattle.solve_walk.proofs.Moved.{stands_leaves}
use Rattle.solve_walk.proofs.steps.next.Goals as goal

pub loop-here-init : goal.loop-here-init
loop-here-init c = (refl, refl, λ g k f x. x)

pub back-left-requires : goal.back-left-requires
back-left-requires c =
    let w = c.requires.0.1.walked in
    let l = c.loop-here in
    let y = l.invariant.2 w.graph (c.requires.0.0 + 1) w.fits (stands_leaves c.requires.0.1.stands) in
    noted_long l.top (valid_noted w.graph c.args.trees.now l.trail w.fits l.top (omega (arith, c.requires.1, l.invariant.0)) y.leaving.valid)

pub returns-then-left-eq0 : goal.returns-then-left-eq0
returns-then-left-eq0 c = λ g k f x. left_all c.loop-here.trail (back_leaves c.loop-here.trail c.loop-here.top c.back-left.result 0 c.back-left.ensures (omega (arith, c.if-left-eq0.true)) (omega arith) (c.loop-here.invariant.2 g (k + 1) f (stands_leaves x))).leaving

pub hop-requires : goal.hop-requires
hop-requires c =
    let w = c.requires.0.1.walked in
    let l = c.loop-here in
    let y = l.invariant.2 w.graph (c.requires.0.0 + 1) w.fits (stands_leaves c.requires.0.1.stands) in
    (record { walked = w; passed = c.requires.0.0 + 1; leaves = back_leaves l.trail l.top c.back-left.result (c.back-left.result - 1 + 1) c.back-left.ensures (omega arith) (omega (arith, c.back-left.ensures.fewer, c.if-left-eq0.false)) y }, omega (arith, c.requires.1, l.invariant.0), c.back-left.ensures.first (omega (arith, c.if-left-eq0.false)))

pub returns-in-Ok : goal.returns-in-Ok
returns-in-Ok c = λ g k f x. arrived_to g _ _ (k + 1) (c.back-left.result - 1) c.in-Ok.is (c.hop.ensures g (k + 1) f (back_leaves c.loop-here.trail c.loop-here.top c.back-left.result (c.back-left.result - 1 + 1) c.back-left.ensures (omega arith) (omega (arith, c.back-left.ensures.fewer, c.if-left-eq0.false)) (c.loop-here.invariant.2 g (k + 1) f (stands_leaves x))))

pub loop-here-smaller : goal.loop-here-smaller
loop-here-smaller c = omega (arith, c.back-left.ensures.fewer, c.if-left-eq0.false)

pub loop-here-preserved : goal.loop-here-preserved
loop-here-preserved c = (
  omega (arith, c.loop-here.invariant.0, c.hop.auto),
  omega (arith, c.loop-here.invariant.1, c.hop.auto),
  λ g k f x. arrived_stuck g _ _ k (c.back-left.result - 1) c.in-Err.is (c.hop.ensures g k f (back_leaves c.loop-here.trail c.loop-here.top c.back-left.result (c.back-left.result - 1 + 1) c.back-left.ensures (omega arith) (omega (arith, c.back-left.ensures.fewer, c.if-left-eq0.false)) (c.loop-here.invariant.2 g k f x))),
)
