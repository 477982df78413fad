use native.Mathlib.Omega.{arith}
use Rattle.solve_test.proofs.Filled.{leaves_start, leaves_more, leaves_end}
use Rattle.solve_test.proofs.tables.leaf_rows.Goals as goal

pub loop-l-init : goal.loop-l-init
loop-l-init c = leaves_start _ _ c.requires.1

pub shape_of-rows : goal.shape_of-rows
shape_of-rows c = omega (arith, c.requires.1.long, c.loop-l.invariant.long)

pub returns : goal.returns
returns c = leaves_end _ _ c.loop-l.invariant (c.pop_first.ensures.empty c.in_default.is)

pub bounds-owner-l : goal.bounds-owner-l
bounds-owner-l c =
    let first = c.pop_first.ensures.lowest _ c.in-Some.is in
    omega (arith, (c.requires.0 _ (c.loop-l.invariant.of_leaves _ first.in_set)).0)

pub overflow_cast-owner : goal.overflow_cast-owner
overflow_cast-owner c =
    let first = c.pop_first.ensures.lowest _ c.in-Some.is in
    omega (arith, (c.requires.0 _ (c.loop-l.invariant.of_leaves _ first.in_set)).1)

pub only-requires : goal.only-requires
only-requires c = (c.pop_first.ensures.lowest _ c.in-Some.is).below

pub put-requires : goal.put-requires
put-requires c =
    let first = c.pop_first.ensures.lowest _ c.in-Some.is in
    (c.loop-l.invariant.long, (c.requires.0 _ (c.loop-l.invariant.of_leaves _ first.in_set)).1)

pub loop-l-smaller : goal.loop-l-smaller
loop-l-smaller c =
    let first = c.pop_first.ensures.lowest _ c.in-Some.is in
    omega arith

pub loop-l-preserved : goal.loop-l-preserved
loop-l-preserved c =
    leaves_more _ _ c.only.result c.only.ensures c.loop-l.invariant (c.pop_first.ensures.lowest _ c.in-Some.is) c.put.ensures
