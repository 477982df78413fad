-- Both tests, the second where the first holds.
use borrow.Author.Tests.{eq-eqb, ne_eqb}
use Rattle.show_drawing.proofs.on_top.Goals as goal

pub returns-then-parent-eq-NONE : goal.returns-then-parent-eq-NONE
returns-then-parent-eq-NONE c = rw (eq-eqb c.args.parent 255 c.if-parent-eq-NONE.true)

pub returns-else-parent-eq-NONE : goal.returns-else-parent-eq-NONE
returns-else-parent-eq-NONE c = rw (ne_eqb c.args.parent 255 c.if-parent-eq-NONE.false)
