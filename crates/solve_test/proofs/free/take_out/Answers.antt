-- The test of the leaves decides.
use Rattle.base_tables.specs.Rows.{nothing, in_row}
use lib.ListN.{get_or}
use mathlib.Core.Path.{refl}
use Rattle.solve_test.proofs.Rounds.{taken_out, not_taken}
use Rattle.solve_test.proofs.free.take_out.Goals as goal

pub returns-then-apart : goal.returns-then-apart
returns-then-apart c =
    let a = c.args in
    taken_out _ _ (in_row a.leaf.now) a.rem c.without-others.result (get_or a.leaf.now a.f nothing) a.f c.apart.result c.without-others.ensures (λ v. refl) c.apart.ensures c.if-apart.true

pub returns-else-apart : goal.returns-else-apart
returns-else-apart c =
    let a = c.args in
    not_taken _ _ (in_row a.leaf.now) a.rem c.without-others.result (get_or a.leaf.now a.f nothing) a.f c.apart.result c.without-others.ensures (λ v. refl) c.apart.ensures c.if-apart.false
