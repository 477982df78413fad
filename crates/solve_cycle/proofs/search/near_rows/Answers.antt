use mathlib.Core.Path.{◌≡◌, sym, ◌∙◌}
use native.Mathlib.Omega.{arith}
use Rattle.solve_cycle.specs.Searching.{joined_in}
use Rattle.base_tables.proofs.Stored.{row_put}
use Rattle.solve_cycle.proofs.Searches.{near_none, near_more}
use Rattle.solve_cycle.proofs.search.near_rows.Goals as goal

pub loop-u-init : goal.loop-u-init
loop-u-init c = (omega arith, near_none _ _ _ c.requires.1)

pub bounds-near-u : goal.bounds-near-u
bounds-near-u c = omega (arith, c.loop-u.invariant.1.long, c.requires.0)

pub loop-u-preserved : goal.loop-u-preserved
loop-u-preserved c =
    let l = c.loop-u in
    let a = c.args in
    let put = row_put l.u c.near_row.result l.near (omega (arith, l.invariant.1.long, c.requires.0)) in
    (omega arith, near_more a.graph.now.n (joined_in a.graph.now.parent a.graph.now.heads) l.u l.near _ c.near_row.result l.invariant.1 c.near_row.ensures put)

pub shape_of-near : goal.shape_of-near
shape_of-near c = c.loop-u.invariant.1.long ∙ sym c.requires.1

pub returns : goal.returns
returns c =
    let l = c.loop-u in
    let all : l.u ≡ c.args.graph.now.n = omega arith in
    rw all at l.invariant.1
