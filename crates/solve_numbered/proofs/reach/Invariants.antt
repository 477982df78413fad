-- Each turn goes on by one reading.
use Prim.Native.Nat.{◌-◌}
use mathlib.Core.Path.{◌≡◌}
use lib.ListN.{length}
use Rattle.graph.specs.Graph.{Graph}
use Rattle.base_tables.specs.Trees.{Fits}
use Rattle.solve_branch.specs.States.{Stands}
use Rattle.solve_numbered.proofs.reach.Given as goal

abbrev pub invariant-loop-passed : goal.invariant-loop-passed
invariant-loop-passed l =
    (length l.trail ≡ length l.initial.trail)
    × (length l.states ≡ length l.initial.states)
    × ((g : Graph) → Fits g l.trees → Stands g l.initial.trail l.initial.states l.initial.at 0 → Stands g l.trail l.states l.at (l.passed - 1))
