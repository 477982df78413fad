-- The walk stands at a reading, and those before it are written. Each turn writes one and goes on.
use Prim.Native.Nat.{◌+◌, ◌-◌, ◌≤◌, ◌<◌}
use mathlib.Core.Path.{◌≡◌}
use lib.ListN.{length}
use Rattle.graph.specs.Graph.{Graph}
use Rattle.graph.specs.Order.{limit}
use Rattle.base_tables.specs.Trees.{Fits}
use Rattle.solve_branch.specs.States.{Stands}
use Rattle.solve_stretch.proofs.Placings.{Handed}
use Rattle.solve_stretch.proofs.fill.Given as goal

abbrev pub invariant-loop-last : goal.invariant-loop-last
invariant-loop-last l =
    ((l.initial.last ≤ l.last) × (l.last < limit))
    × (l.end + l.n ≤ length l.out)
    × (length l.states ≡ length l.initial.states)
    × (length l.trail ≡ length l.initial.trail)
    × (length l.out ≡ length l.initial.out)
    × ((g : Graph) → Fits g l.trees → Stands g l.initial.trail l.initial.states l.initial.at l.initial.last → Stands g l.trail l.states l.at l.last × Handed g l.initial.last l.initial.out l.last l.end l.out)

abbrev pub decreases-loop-last : goal.decreases-loop-last
decreases-loop-last l = limit - l.last
