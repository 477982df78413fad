-- The first graph may have no solved form. Each other is a half that has one: a dive from there comes to a reading, or it ends below
-- and the walk goes back to a half that is deeper.
use Prim.Native.Nat.{ℕ, ◌*◌, ◌-◌, ◌≤◌}
use mathlib.Core.Path.{◌≡◌}
use mathlib.Core.Logic.{◌⊎◌}
use lib.ListN.{length}
use Rattle.graph.specs.Graph.{Graph}
use Rattle.graph.specs.Placing.{Solvable}
use Rattle.base_tables.specs.Trees.{Fits}
use Rattle.solve_levels.specs.Decisions.{reached, Kept}
use Rattle.solve_branch.specs.States.{Dives}
use Rattle.solve_descend.proofs.descend.Given as goal

abbrev pub invariant-loop-reading : goal.invariant-loop-reading
invariant-loop-reading l =
    (l.initial.here.depth ≤ l.here.depth)
    × (length l.trail ≡ length l.initial.trail)
    × Kept l.initial.here.depth l.initial.trail l.trail
    × (length l.states ≡ length l.initial.states)
    × ((g : Graph) (k : ℕ) → Fits g l.trees → Dives g l.initial.trail l.initial.states l.initial.here k → Dives g l.trail l.states l.here k × ((l.here.depth ≡ l.initial.here.depth) ⊎ Solvable (reached g l.trail l.here.depth)))

abbrev pub decreases-loop-reading : goal.decreases-loop-reading
decreases-loop-reading l = l.trees.n * l.trees.n - l.here.depth
