use Rattle.std.proofs.Common.{◌≡◌, ◌≤◌}
use Rattle.base_finite.specs.Below.{count}
use Rattle.base_nodeset.specs.Set.{mem}
use Rattle.sheet_labels.proofs.fit.labelled_nodes.Given as goal

abbrev pub invariant-loop-v : goal.invariant-loop-v
invariant-loop-v l = (l.nodes ≡ count l.v (mem l.labelled)) × (l.nodes ≤ l.v)
