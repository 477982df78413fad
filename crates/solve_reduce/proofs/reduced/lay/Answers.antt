use mathlib.Core.Path.{refl}
use native.Mathlib.Omega.{arith}
use Rattle.base_tables.proofs.Stored.{row_put}
use Rattle.solve_reduce.proofs.Tables.{laid_more}
use Rattle.solve_reduce.proofs.reduced.lay.Goals as goal

pub loop-u-init : goal.loop-u-init
loop-u-init c = (omega arith, refl, λ u v h. absurd (omega arith))

pub leaf_row-requires : goal.leaf_row-requires
leaf_row-requires c = (c.requires.0, omega (arith, c.requires.1))

pub bounds-sets-u : goal.bounds-sets-u
bounds-sets-u c = omega (arith, c.loop-u.invariant.1, c.requires.2)

pub loop-u-preserved : goal.loop-u-preserved
loop-u-preserved c =
    let l = c.loop-u in
    let put = row_put l.u c.leaf_row.result l.sets (omega (arith, l.invariant.1, c.requires.2)) in
    (omega arith, omega (arith, l.invariant.1, put.long), laid_more c.args.leaves c.args.rows.now l.u l.sets _ c.leaf_row.result c.leaf_row.ensures put l.invariant.2)

pub shape_of-sets : goal.shape_of-sets
shape_of-sets c = c.loop-u.invariant.1

pub returns : goal.returns
returns c =
    let l = c.loop-u in
    record { row_is = λ u v h. l.invariant.2 u v (omega arith) }
