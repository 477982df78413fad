-- By the test.
use mathlib.Core.Path.{sym, ◌∙◌}
use Rattle.solve_reduce.proofs.reduced.leaf_row.Goals as goal

pub returns-then-has : goal.returns-then-has
returns-then-has c = λ v. rw (sym c.has.ensures ∙ c.if-has.true)

pub returns-else-has : goal.returns-else-has
returns-else-has c = λ v. c.empty.ensures v ∙ rw (sym c.has.ensures ∙ c.if-has.false)
