-- By the two parents.
use mathlib.Core.Path.{◌∙◌}
use borrow.Author.Tests.{eq-eqb}
use native.Mathlib.Omega.{arith}
use Rattle.base_tables.proofs.Climbing.{tied_first, tied_second}
use Rattle.base_tables.proofs.trees.tied.Goals as goal

pub overflow_cast-parent : goal.overflow_cast-parent
overflow_cast-parent c = omega (arith, c.type_inv.parent c.args.v)

pub returns-then-parent-v : goal.returns-then-parent-v
returns-then-parent-v c =
    let a = c.args in
    eq-eqb _ _ c.if-parent-v.true ∙ tied_first a.parent.now a.u a.v c.if-parent-v.true

pub overflow_cast-result : goal.overflow_cast-result
overflow_cast-result c = omega (arith, c.type_inv.parent c.args.u)

pub returns-else-parent-v : goal.returns-else-parent-v
returns-else-parent-v c =
    let a = c.args in
    tied_second a.parent.now a.u a.v c.if-parent-v.false
