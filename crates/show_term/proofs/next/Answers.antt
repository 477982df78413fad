use mathlib.Core.Path.{refl, ◌∙◌}
use native.Mathlib.Omega.{arith}
use Rattle.show_term.proofs.Lists.{roots_skip, next_found, next_none}
use Rattle.show_term.proofs.next.Goals as goal

pub loop-r-init : goal.loop-r-init
loop-r-init c = (c.requires, refl)

pub returns-then-above-r : goal.returns-then-above-r
returns-then-above-r c =
    let l = c.loop-r in
    next_found _ _ _ l.r l.invariant.1 c.loop-r-test.true c.if-above-r.true

pub loop-r-preserved : goal.loop-r-preserved
loop-r-preserved c =
    let l = c.loop-r in
    (omega arith, l.invariant.1 ∙ roots_skip c.args.above.now c.args.v l.r c.loop-r-test.true c.if-above-r.false)

pub returns : goal.returns
returns c =
    let l = c.loop-r in
    next_none _ _ _ l.r l.invariant.1 l.invariant.0 c.loop-r-test.false
