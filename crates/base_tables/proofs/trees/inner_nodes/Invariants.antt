-- The set has the parents of the nodes passed.
use Prim.Native.Nat.{ℕ, ◌<◌}
use mathlib.Core.Path.{◌≡◌}
use Rattle.base_nodeset.specs.Set.{mem}
use Rattle.base_tables.specs.Trees.{inner_in}
use Rattle.base_tables.proofs.trees.inner_nodes.Given as goal

abbrev pub invariant-loop-above : goal.invariant-loop-above
invariant-loop-above l = (u : ℕ) → u < 128 → mem l.set u ≡ inner_in l.above-index l.parent u
