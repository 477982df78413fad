-- Each test that fails is one of `check_in`'s, and `check_is` ties `check_in` to the graph.
use Rattle.std.proofs.Common.{arith}
use Rattle.std.proofs.lemmas.Grind.{common_steps}
use Rattle.check_cycle.specs.Check.{check_in}
use Rattle.check_cycle.proofs.Checked.{sized_two, nodes_below, check_is}
use Rattle.check_cycle.proofs.check.Goals as goal

pub all_joined-requires : goal.all_joined-requires
all_joined-requires c = λ i h. let d = nodes_below c.args.graph.now.n c.args.cycle.now in grind (arith, d)

pub edges_differ-requires : goal.edges_differ-requires
edges_differ-requires c = let d = sized_two c.args.graph.now.n c.args.cycle.now in grind (arith, d)

pub leaves_differ-requires : goal.leaves_differ-requires
leaves_differ-requires c = λ i h. let d = nodes_below c.args.graph.now.n c.args.cycle.now in grind (arith, d)

pub returns-then-edges_differ : goal.returns-then-edges_differ
unfolding check_in
returns-then-edges_differ c = λ g edges t. let a = c.args in let e = check_is g a.graph.now.n a.graph.now.parent a.graph.now.heads edges t a.cycle.now in grind (arith, common_steps, e)

pub returns-else-edges_differ : goal.returns-else-edges_differ
unfolding check_in
returns-else-edges_differ c = λ g edges t. let a = c.args in let e = check_is g a.graph.now.n a.graph.now.parent a.graph.now.heads edges t a.cycle.now in grind (arith, common_steps, e)
