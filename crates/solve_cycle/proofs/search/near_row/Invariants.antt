-- The nodes passed that an edge joins to u are in the set.
use Prim.Native.Nat.{ℕ, ◌≤◌}
use mathlib.Core.Path.{◌≡◌}
use mathlib.Core.Bool.{◌&&◌}
use lib.Dec.{ltb}
use Rattle.base_nodeset.specs.Set.{mem}
use Rattle.solve_cycle.specs.Searching.{joined_in}
use Rattle.solve_cycle.proofs.search.near_row.Given as goal

abbrev pub invariant-loop-v : goal.invariant-loop-v
invariant-loop-v l = (l.v ≤ l.graph.n) × ((x : ℕ) → mem l.set x ≡ (ltb x l.v && joined_in l.graph.parent l.graph.heads l.u x))
