use Rattle.std.proofs.Common.{◌≤◌}
use Rattle.test_second.proofs.graph.Graph.number_fragments.Given as goal

abbrev pub invariant-loop-v : goal.invariant-loop-v
invariant-loop-v l = l.number ≤ l.v
