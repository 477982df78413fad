-- The edges from the nodes passed are settled.
use Prim.Native.Nat.{◌≤◌}
use Rattle.solve_cycle.specs.Thinning.{Unsolved, SameTrees, Thinned, before}
use Rattle.solve_cycle.proofs.minimal.minimize.Given as goal

abbrev pub invariant-loop-l : goal.invariant-loop-l
invariant-loop-l l =
    (l.l ≤ l.trees.n) × SameTrees l.initial.graph l.graph × ((s : Unsolved l.initial.graph) → Thinned s.graph l.graph (before l.l))
