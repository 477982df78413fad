-- The invariant: the leaves found so far are above, and where one has an edge to the fragment of a leaf found it is found or is to
-- be looked at.
use Prim.Native.Nat.{ℕ, ◌≤◌, ◌<◌}
use mathlib.Core.Path.{◌≡◌}
use mathlib.Core.Bool.{true}
use Rattle.base_nodeset.specs.Set.{mem}
use Rattle.graph.specs.Graph.{Graph, leaf}
use Rattle.theory_list.specs.Redundancy.{Loopless}
use Rattle.base_tables.specs.Trees.{Fits}
use Rattle.solve_reduce.specs.Reduced.{Reduced}
use Rattle.solve_reduce.proofs.Rises.{Climbed}
use Rattle.solve_reduce.proofs.over.over.Given as goal

abbrev pub invariant-loop-step : goal.invariant-loop-step
invariant-loop-step at_turn =
    (at_turn._step ≤ 3)
    × ((l : ℕ) → mem at_turn.over l ≡ true → l < at_turn.trees.n)
    × ((l : ℕ) → mem at_turn.left l ≡ true → l < at_turn.trees.n)
    × ((g : Graph) → Fits g at_turn.trees → Loopless g → Reduced g at_turn.trees.n at_turn.sets → leaf g at_turn.a ≡ true → Climbed g at_turn.a at_turn.over at_turn.left)
