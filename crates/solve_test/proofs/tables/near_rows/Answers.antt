use mathlib.Core.Path.{refl}
use lib.ListN.{get_or}
use Rattle.base_tables.specs.Rows.{nothing}
use native.Mathlib.Omega.{arith}
use Rattle.solve_test.proofs.Filled.{near_start, near_more, near_end}
use borrow.Author.Rules.{rules}
use Rattle.solve_test.proofs.tables.near_rows.Goals as goal

pub loop-f-init : goal.loop-f-init
loop-f-init c = near_start _ _ _ c.requires.1

pub shape_of-rows : goal.shape_of-rows
shape_of-rows c = omega (arith, c.requires.1.long, c.loop-f.invariant.long)

pub returns : goal.returns
returns c =
    near_end _ c.args.roots c.loop-f.left c.loop-f.rows c.loop-f.invariant (c.pop_first.ensures.empty c.in_default.is)

pub bounds-below-f : goal.bounds-below-f
bounds-below-f c =
    let first = c.pop_first.ensures.lowest _ c.in-Some.is in
    search rules

pub offset_bounds-below-f : goal.offset_bounds-below-f
offset_bounds-below-f c =
    let first = c.pop_first.ensures.lowest _ c.in-Some.is in
    search rules

pub put-requires : goal.put-requires
put-requires c =
    (c.loop-f.invariant.long, (c.pop_first.ensures.lowest _ c.in-Some.is).below)

pub put_all-requires : goal.put_all-requires
put_all-requires c =
    (c.put.ensures.long, (c.pop_first.ensures.lowest _ c.in-Some.is).below)

pub loop-f-smaller : goal.loop-f-smaller
loop-f-smaller c =
    let first = c.pop_first.ensures.lowest _ c.in-Some.is in
    omega arith

pub loop-f-preserved : goal.loop-f-preserved
loop-f-preserved c =
    near_more _ _ _ _ (get_or c.args.below.now c.in-Some.f nothing) c.intersection-under.result c.loop-f.rows _ _ _ c.loop-f.invariant (c.pop_first.ensures.lowest _ c.in-Some.is) (λ v. refl) c.intersection-under.ensures c.put.ensures c.put_all.ensures
