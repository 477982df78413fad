-- The invariant: the rows passed are as they are to be, the others have nothing.
use Prim.Native.Nat.{◌-◌, ◌≤◌}
use mathlib.Core.Path.{◌≡◌}
use lib.ListN.{length}
use Rattle.graph.specs.Graph.{Graph, own}
use Rattle.theory_forest.specs.Shape.{Shaped}
use Rattle.base_tables.specs.Trees.{TreesOf}
use Rattle.solve_below.specs.Below.{Fragments, Under}
use Rattle.solve_branch.proofs.Ends.{EndsSo, AfterBlank}
use Rattle.solve_descend.proofs.end_rows.Given as goal

abbrev pub invariant-loop-u : goal.invariant-loop-u
invariant-loop-u l = (l.u ≤ l.trees.n) × (length l.rows ≡ length l.initial.rows) × AfterBlank l.u l.rows × ((g : Graph) → Shaped g → TreesOf g l.trees → Fragments l.trees.n (own g) l.fragments → Under g l.sets → EndsSo g l.u l.rows)

abbrev pub decreases-loop-u : goal.decreases-loop-u
decreases-loop-u l = l.trees.n - l.u
