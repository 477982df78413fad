-- The set has the nodes below v whose entry is x.
use Prim.Native.Nat.{ℕ, ◌-◌, ◌≤◌}
use mathlib.Core.Path.{◌≡◌}
use Rattle.base_nodeset.specs.Set.{mem}
use Rattle.base_tables.specs.Trees.{node_in}
use Rattle.base_tables.proofs.trees.nodes_with.Given as goal

abbrev pub invariant-loop-v : goal.invariant-loop-v
invariant-loop-v l = (l.v ≤ l.n) × ((u : ℕ) → mem l.set u ≡ node_in l.v l.table l.x u)

abbrev pub decreases-loop-v : goal.decreases-loop-v
decreases-loop-v l = l.n - l.v
