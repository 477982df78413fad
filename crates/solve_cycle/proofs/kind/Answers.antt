-- By the tree.
use Rattle.solve_cycle.proofs.Spells.{kind_tree, kind_dominance}
use Rattle.solve_cycle.proofs.kind.Goals as goal

pub returns-then-tied : goal.returns-then-tied
returns-then-tied c =
    let a = c.args in
    kind_tree a.parent.now a.u a.v c.tied.result c.tied.ensures c.if-tied.true

pub returns-else-tied : goal.returns-else-tied
returns-else-tied c =
    let a = c.args in
    kind_dominance a.parent.now a.u a.v c.tied.result c.tied.ensures c.if-tied.false
