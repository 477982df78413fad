-- Each turn enters a first half, of a graph that has no cycle.
use Prim.Native.Nat.{ℕ, ◌*◌, ◌-◌, ◌≤◌}
use mathlib.Core.Path.{◌≡◌}
use lib.ListN.{length}
use Rattle.graph.specs.Graph.{Graph}
use Rattle.base_tables.specs.Trees.{Fits}
use Rattle.solve_levels.specs.Decisions.{Kept}
use Rattle.solve_branch.specs.States.{Dives}
use Rattle.solve_branch.proofs.dive.dive.Given as goal

abbrev pub invariant-loop-choice : goal.invariant-loop-choice
invariant-loop-choice l =
    (l.initial.here.depth ≤ l.here.depth)
    × (length l.trail ≡ length l.initial.trail)
    × Kept l.initial.here.depth l.initial.trail l.trail
    × (length l.states ≡ length l.initial.states)
    × ((g : Graph) (k : ℕ) → Fits g l.trees → Dives g l.initial.trail l.initial.states l.initial.here k → Dives g l.trail l.states l.here k)

abbrev pub decreases-loop-choice : goal.decreases-loop-choice
decreases-loop-choice l = l.trees.n * l.trees.n - l.here.depth
