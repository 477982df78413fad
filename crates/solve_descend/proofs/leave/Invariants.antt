-- A half that has no solved form is left as it was entered; each turn leaves one decision at least.
use Prim.Native.Nat.{ℕ, ◌*◌, ◌≤◌, ◌<◌}
use mathlib.Core.Path.{◌≡◌}
use lib.ListN.{length}
use Rattle.graph.specs.Graph.{Graph}
use Rattle.base_tables.specs.Trees.{Fits}
use Rattle.solve_levels.specs.Decisions.{Noted, Kept}
use Rattle.solve_branch.specs.States.{Leaves}
use Rattle.solve_descend.proofs.leave.Given as goal

abbrev pub invariant-loop-here : goal.invariant-loop-here
invariant-loop-here l =
    (length l.states ≡ length l.initial.states)
    × (length l.trail ≡ length l.initial.trail)
    × (l.base ≤ l.top)
    × (l.here.opened ≤ 2 * length l.initial.trail)
    × Kept l.base l.initial.trail l.trail
    × ((i : ℕ) → i < l.top → Noted l.trees.n l.trail i)
    × ((g : Graph) (k : ℕ) → Fits g l.trees → Leaves g l.initial.trail l.initial.states l.initial.here l.initial.top k → Leaves g l.trail l.states l.here l.top k)

abbrev pub decreases-loop-here : goal.decreases-loop-here
decreases-loop-here l = l.top
