use mathlib.Core.Path.{refl}
use lib.ListN.{length-set}
use Rattle.base_tables.proofs.Stored.{row_put}
use native.Mathlib.Omega.{arith}
use Rattle.solve_reduce.proofs.Tables.{ends_disjoint, enter_start, enter_more, enter_end, forks_none, marked}
use Rattle.solve_reduce.proofs.reduced.reduce.Goals as goal

pub lay-requires : goal.lay-requires
lay-requires c = (c.requires.0, c.requires.1.few, c.requires.2)

pub loop-l-init : goal.loop-l-init
loop-l-init c =
    let a = c.args in
    (refl, enter_start a.trees.now.n a.trees.now.leaves a.trees.now.roots a.rows.now _ (omega (arith, c.requires.2, c.lay.auto)) c.lay.ensures, λ apart. forks_none a.trees.now a.rows.now _ c.empty-forks.result c.requires.1 apart c.empty-forks.ensures c.lay.ensures)

pub heads-to-requires : goal.heads-to-requires
heads-to-requires c = (c.requires.0, (c.pop_first.ensures.lowest _ c.in-Some.is).below)

pub only-requires : goal.only-requires
only-requires c = (c.pop_first.ensures.lowest _ c.in-Some.is).below

pub revise-forks-requires : goal.revise-forks-requires
revise-forks-requires c = λ v m. omega (arith, c.loop-l.invariant.1.wide, c.requires.1.roots_within v (c.heads-to.ensures.of_roots v m))

pub loop-l-smaller : goal.loop-l-smaller
loop-l-smaller c = omega (arith, (c.pop_first.ensures.lowest _ c.in-Some.is).one_less)

pub loop-l-preserved : goal.loop-l-preserved
loop-l-preserved c =
    let a = c.args in
    let l = c.loop-l in
    (omega (arith, l.invariant.0, c.revise-forks.auto), enter_more a.trees.now.n a.trees.now.leaves a.trees.now.roots a.rows.now _ l.sets _ _ c.heads-to.result c.empty.result c.only.result _ (omega (arith, c.revise-forks.auto)) (c.pop_first.ensures.lowest _ c.in-Some.is) c.heads-to.ensures c.empty.ensures c.only.ensures c.revise-forks.ensures.revised l.invariant.1, λ apart. c.revise-forks.ensures.by_index a.trees.now.roots c.heads-to.ensures.of_roots (l.invariant.2 apart))

pub bounds-sets-trees : goal.bounds-sets-trees
bounds-sets-trees c = omega (arith, c.loop-l.invariant.1.wide)

pub shape_of-sets : goal.shape_of-sets
shape_of-sets c = omega (arith, length-set c.loop-l.sets c.args.trees.now.n c.loop-l.forks, c.loop-l.invariant.0, c.lay.auto)

pub returns : goal.returns
returns c =
    let a = c.args in
    let l = c.loop-l in
    λ g s ends rows.
    marked a.trees.now.roots g ends.nodes ends.roots_are (enter_end a.trees.now a.rows.now l.left l.sets (c.pop_first.ensures.empty c.in_default.is) l.invariant.1 g s ends rows) (l.invariant.2 (ends_disjoint g s ends)) (row_put a.trees.now.n l.forks l.sets (omega (arith, l.invariant.1.wide)))
