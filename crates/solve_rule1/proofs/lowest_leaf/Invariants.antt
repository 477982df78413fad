-- No node passed is a leaf of the fragment, so the first that is one is the lowest.
use Prim.Native.Nat.{ℕ, ◌<◌}
use mathlib.Core.Path.{◌≡◌}
use mathlib.Core.Bool.{false}
use Rattle.graph.specs.Graph.{leaf_of}
use Rattle.solve_rule1.specs.Solved.{GraphOf}
use Rattle.solve_rule1.proofs.lowest_leaf.Given as goal

abbrev pub invariant-loop-v : goal.invariant-loop-v
invariant-loop-v l = ((s : GraphOf l.graph.n l.graph.parent) → (k : ℕ) → k < l.v → leaf_of s.graph l.root k ≡ false)
