-- Out of the reading; a half is entered once all before it are passed, and the first that has a reading ends the search.
use Prim.Native.Nat.{ℕ}
use mathlib.Core.Path.{◌≡◌}
use lib.ListN.{length}
use Rattle.graph.specs.Graph.{Graph}
use Rattle.base_tables.specs.Trees.{Fits}
use Rattle.solve_branch.specs.States.{Leaves}
use Rattle.solve_walk.proofs.steps.next.Given as goal

abbrev pub invariant-loop-here : goal.invariant-loop-here
invariant-loop-here l =
    (length l.trail ≡ length l.initial.trail)
    × (length l.states ≡ length l.initial.states)
    × ((g : Graph) (k : ℕ) → Fits g l.trees → Leaves g l.initial.trail l.initial.states l.initial.here l.initial.top k → Leaves g l.trail l.states l.here l.top k)

abbrev pub decreases-loop-here : goal.decreases-loop-here
decreases-loop-here l = l.top
