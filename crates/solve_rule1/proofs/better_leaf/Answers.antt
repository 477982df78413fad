-- The leaf is taken where it is less deep.
use native.Mathlib.Omega.{arith}
use mathlib.Core.Path.{sym, ◌∙◌}
use Rattle.graph.specs.Rule1.{depth}
use Rattle.solve_rule1.proofs.Choosing.{better_taken}
use Rattle.solve_rule1.proofs.better_leaf.Goals as goal

pub returns-then-edges_above : goal.returns-then-edges_above
returns-then-edges_above c = λ s.
    let a = c.args in
    better_taken a.leaves (depth s.sheet.graph a.p.now) a.best a.l
    (sym c.has.ensures ∙ c.if-has.true)
    (omega (arith, c.if-edges_above.true, c.edges_above.ensures s, c.edges_above-then-has.ensures s))
