-- The best of the leaves passed, of least depth and then lowest; the first is the lowest of all.
use Prim.Native.Nat.{◌<◌}
use Rattle.graph.specs.Rule1.{depth}
use Rattle.solve_rule1.specs.Solved.{Solved}
use Rattle.solve_rule1.specs.Carried.{Best}
use Rattle.solve_rule1.proofs.best_leaf.Given as goal

abbrev pub invariant-loop-l : goal.invariant-loop-l
invariant-loop-l l =
    (l.best < l.graph.n) × ((s : Solved l.graph.n l.graph.parent l.p) → Best l.leaves (depth s.sheet.graph l.p) l.l l.best)
