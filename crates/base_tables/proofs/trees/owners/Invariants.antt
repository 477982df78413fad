-- The roots of the nodes passed are filled in.
use Prim.Native.Nat.{◌-◌, ◌≤◌}
use Rattle.base_tables.specs.Trees.{Filled}
use Rattle.base_tables.proofs.trees.owners.Given as goal

abbrev pub invariant-loop-v : goal.invariant-loop-v
invariant-loop-v l = (l.v ≤ l.n) × Filled l.n l.parent l.initial.owner l.owner l.v

abbrev pub decreases-loop-v : goal.decreases-loop-v
decreases-loop-v l = l.n - l.v
