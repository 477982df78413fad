-- Each turn takes one decision more.
use Prim.Native.Nat.{◌-◌, ◌≤◌}
use mathlib.Core.Path.{◌≡◌}
use lib.ListN.{length}
use Rattle.graph.specs.Graph.{Graph}
use Rattle.theory_walk.specs.Walk.{Valid}
use Rattle.base_tables.specs.Trees.{Fits}
use Rattle.solve_levels.specs.Decisions.{decisions}
use Rattle.solve_levels.specs.Levels.{Matches}
use Rattle.solve_levels.proofs.replay.Given as goal

abbrev pub invariant-loop-at : goal.invariant-loop-at
invariant-loop-at l =
    (l.at.depth ≤ l.depth)
    × (l.at.opened ≤ l.at.depth)
    × (length l.states ≡ length l.initial.states)
    × ((g : Graph) → Fits g l.trees → Matches g l.trail l.initial.states l.initial.at → l.initial.at.kept ≤ l.initial.at.opened → Valid g (decisions l.trail l.depth) → Matches g l.trail l.states l.at × (l.at.kept ≤ l.at.opened))

abbrev pub decreases-loop-at : goal.decreases-loop-at
decreases-loop-at l = l.depth - l.at.depth
