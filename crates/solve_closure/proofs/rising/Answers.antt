-- The columns of a's word, which has just the rows with a.
use mathlib.Core.Path.{◌∙◌}
use native.Mathlib.Omega.{arith}
use Rattle.base_nodeset.proofs.Laws.{member_low, member_high}
use Rattle.solve_closure.proofs.Edges.{column_rising}
use Rattle.solve_closure.proofs.rising.Goals as goal

pub returns-then-a-lt64 : goal.returns-then-a-lt64
returns-then-a-lt64 c =
    let a = c.args in
    column_rising a.n a.a a.rows.now _ _ (omega arith) (λ x. c.columns.ensures x ∙ rw (member_low _ _ a.a c.if-a-lt64.true)) c.with.ensures

pub returns-else-a-lt64 : goal.returns-else-a-lt64
returns-else-a-lt64 c =
    let a = c.args in
    column_rising a.n a.a a.rows.now _ _ (omega arith) (λ x. c.columns-else-a-lt64.ensures x ∙ rw (member_high _ _ a.a c.if-a-lt64.false)) c.with-else-a-lt64.ensures
