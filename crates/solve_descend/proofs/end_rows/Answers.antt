use mathlib.Core.Path.{refl}
use native.Mathlib.Omega.{arith}
use Rattle.base_tables.proofs.Stored.{row_put}
use Rattle.solve_branch.proofs.Ends.{ends_none, ends_more, blank_after, blank_more, ends_all}
use Rattle.solve_descend.proofs.end_rows.Goals as goal

pub loop-u-init : goal.loop-u-init
loop-u-init c = (omega arith, refl, blank_after _ c.requires.3, λ g s ends of are. ends_none g _)

pub end_row-requires : goal.end_row-requires
end_row-requires c = (c.requires.0, c.requires.1, c.requires.2, omega arith)

pub bounds-rows-u : goal.bounds-rows-u
bounds-rows-u c = omega (arith, c.loop-u.invariant.1, c.requires.3.long, c.requires.2.few)

pub loop-u-preserved : goal.loop-u-preserved
loop-u-preserved c =
    let l = c.loop-u in
    let put = row_put l.u c.end_row.result l.rows (omega (arith, l.invariant.1, c.requires.3.long, c.requires.2.few)) in
    (omega arith, omega (arith, l.invariant.1, put.long), blank_more l.u put l.invariant.2, λ g s ends of are. ends_more g l.u c.end_row.result (c.end_row.ensures g s ends of are) put (l.invariant.3 g s ends of are))

pub shape_of-rows : goal.shape_of-rows
shape_of-rows c = c.loop-u.invariant.1

pub returns : goal.returns
returns c =
    let l = c.loop-u in
    λ g s ends of are. ends_all g c.args.trees.now.n l.u l.rows ends.nodes (omega arith) (l.invariant.3 g s ends of are) l.invariant.2
