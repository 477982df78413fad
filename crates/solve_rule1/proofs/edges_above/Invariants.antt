-- The edges passed and those that still lead up from the node reached are the depth of v.
use Prim.Native.Nat.{◌+◌, ◌-◌, ◌<◌}
use mathlib.Core.Path.{◌≡◌}
use Rattle.graph.specs.Rule1.{rise, depth}
use Rattle.solve_rule1.specs.Solved.{Solved}
use Rattle.solve_rule1.proofs.edges_above.Given as goal

abbrev pub invariant-loop-edges : goal.invariant-loop-edges
invariant-loop-edges l =
    (l.at < l.graph.n) × ((s : Solved l.graph.n l.graph.parent l.p) → l.edges + rise (l.graph.n - l.edges) s.sheet.graph l.p l.at ≡ depth s.sheet.graph l.p l.v)
