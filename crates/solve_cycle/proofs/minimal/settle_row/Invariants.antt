-- The edges from l to what is left are yet to be settled.
use Rattle.base_finite.specs.Below.{count}
use Rattle.base_nodeset.specs.Set.{mem}
use Rattle.graph.specs.Graph.{Graph}
use Rattle.solve_cycle.specs.Thinning.{SameTrees, Thinned, before}
use Rattle.solve_cycle.proofs.Thins.{row_settled}
use Rattle.solve_cycle.proofs.minimal.settle_row.Given as goal

abbrev pub invariant-loop-r : goal.invariant-loop-r
invariant-loop-r l =
    SameTrees l.initial.graph l.graph × ((g : Graph) → Thinned g l.initial.graph (before l.l) → Thinned g l.graph (row_settled l.l l.left))

abbrev pub decreases-loop-r : goal.decreases-loop-r
decreases-loop-r l = count 128 (mem l.left)
