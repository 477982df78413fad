-- `v` is put into the row of the node above; no edge where there is none.
use mathlib.Core.Path.{refl, ◌∙◌}
use lib.ListN.{get_or}
use Rattle.base_tables.specs.Rows.{nothing}
use Rattle.base_tables.proofs.Stored.{row_put}
use native.Mathlib.Omega.{arith}
use lib.Dec.{eqb}
use Rattle.base_finite.proofs.Laws.{or_comm}
use Rattle.base_nodeset.specs.Set.{mem}
use Rattle.solve_closure.specs.Closing.{link_to}
use Rattle.solve_closure.proofs.Edges.{adds_ext, adds_none, put_adds, link_present, link_absent}
use Rattle.solve_closure.proofs.add_link.Goals as goal

pub bounds-rows-above : goal.bounds-rows-above
bounds-rows-above c = omega (arith, c.requires.0, c.requires.2 c.if-above-ne-NONE.true)

pub offset_bounds-rows-above : goal.offset_bounds-rows-above
offset_bounds-rows-above c = omega (arith, c.requires.0, c.requires.2 c.if-above-ne-NONE.true)

pub returns-then-above-ne-NONE : goal.returns-then-above-ne-NONE
returns-then-above-ne-NONE c =
    let a = c.args in
    let row = get_or a.rows.now a.above nothing in
    let put = row_put a.above c.with.result a.rows.now (omega (arith, c.requires.0, c.requires.2 c.if-above-ne-NONE.true)) in
    adds_ext
    (λ u v. link_present a.above a.v u v c.if-above-ne-NONE.true)
    (put_adds a.above (λ v. eqb v a.v) row (λ v. refl) (λ v. c.with.ensures v ∙ or_comm (eqb v a.v) (mem row v)) put)

pub returns-else-above-ne-NONE : goal.returns-else-above-ne-NONE
returns-else-above-ne-NONE c =
    let a = c.args in
    adds_none (link_to a.above a.v) a.rows.now (λ u v. link_absent a.above a.v u v c.if-above-ne-NONE.false)
