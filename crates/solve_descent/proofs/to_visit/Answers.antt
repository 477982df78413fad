-- By cases of whether the row is whole.
use mathlib.Core.Path.{◌∙◌}
use Rattle.solve_descent.proofs.to_visit.Goals as goal

pub returns-then-whole : goal.returns-then-whole
returns-then-whole c v = c.empty.ensures v ∙ rw c.if-whole.true

pub returns-else-whole : goal.returns-else-whole
returns-else-whole c v = c.difference.ensures v ∙ rw c.if-whole.false
