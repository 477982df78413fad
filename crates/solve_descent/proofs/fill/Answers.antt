use mathlib.Core.Path.{◌∙◌}
use native.Mathlib.Omega.{arith}
use borrow.Author.Count.{below_none}
use Rattle.solve_descent.proofs.Filling.{fills_none, fills_more, fills_all, none_whole, below_whole}
use Rattle.solve_descent.proofs.fill.Goals as goal

pub loop-node-init : goal.loop-node-init
loop-node-init c = (omega arith, fills_none _ _ (none_whole c.args.rows.now _ c.empty-whole.ensures), below_none _)

pub fill_from-whole-requires : goal.fill_from-whole-requires
fill_from-whole-requires c =
    let l = c.loop-node in
    (l.invariant.1.long ∙ c.requires.0, l.invariant.1.is_whole, omega (arith, c.requires.1, c.loop-node-test.true))

pub loop-node-preserved : goal.loop-node-preserved
loop-node-preserved c =
    let l = c.loop-node in
    let filled = c.fill_from-whole.ensures in
    (omega arith, fills_more l.invariant.1 filled.0, below_whole l.node filled.0 filled.1 l.invariant.2)

pub returns : goal.returns
returns c =
    let l = c.loop-node in
    fills_all c.args.n _ _ _ _ c.requires.0 c.requires.2 l.invariant.1 (λ u h. l.invariant.2 u (omega arith))
