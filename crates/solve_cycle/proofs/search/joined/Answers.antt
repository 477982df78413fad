-- By the tree, then by the heads.
use mathlib.Core.Path.{sym, ◌∙◌}
use mathlib.Core.Bool.{true≢false}
use Rattle.solve_cycle.proofs.Searches.{joined_first, joined_second, joined_third}
use Rattle.solve_cycle.proofs.search.joined.Goals as goal
use Rattle.solve_cycle.proofs.search.joined.Goals.{then-tied, else-tied}

pub returns-then-has : goal.returns-then-has
returns-then-has c =
    let a = c.args in
    let value = a.graph.now in
    c.if-has.true
    ∙ elim c.if-tied.branch [
      | then-tied w ↦ joined_first value.parent value.heads a.u a.v c.tied.result c.tied.ensures w.if-tied.true
      | else-tied w ↦ joined_second value.parent value.heads a.u a.v w.has.result w.has.ensures (sym w.value-is ∙ c.if-has.true)
    ]

pub returns-else-has : goal.returns-else-has
returns-else-has c =
    let a = c.args in
    let value = a.graph.now in
    elim c.if-tied.branch [
      | then-tied w ↦ absurd (true≢false (sym w.if-tied.true ∙ sym w.value-is ∙ c.if-has.false))
      | else-tied w ↦ joined_third value.parent value.heads a.u a.v c.tied.result w.has.result c.has-else-has.result c.tied.ensures w.has.ensures c.has-else-has.ensures w.if-tied.false (sym w.value-is ∙ c.if-has.false)
    ]
