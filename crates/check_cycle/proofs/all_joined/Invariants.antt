-- The invariant: the nodes of the places passed are joined to the next.
use Prim.Native.Nat.{ℕ, ◌<◌}
use mathlib.Core.Path.{◌≡◌}
use mathlib.Core.Bool.{true}
use Rattle.graph.specs.Cycle.{node, kind, next}
use Rattle.check_cycle.specs.Check.{joined_in}
use Rattle.check_cycle.proofs.all_joined.Given as goal

abbrev pub invariant-loop-i : goal.invariant-loop-i
invariant-loop-i l = (k : ℕ) → k < l.i → joined_in l.graph.parent l.graph.heads (kind l.cycle k) (node l.cycle k) (next l.cycle k) ≡ true
