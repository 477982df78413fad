-- The rows of the nodes passed are filled in.
use Prim.Native.Nat.{◌≤◌}
use Rattle.solve_cycle.specs.Searching.{joined_in, Near}
use Rattle.solve_cycle.proofs.search.near_rows.Given as goal

abbrev pub invariant-loop-u : goal.invariant-loop-u
invariant-loop-u l = (l.u ≤ l.graph.n) × Near l.graph.n (joined_in l.graph.parent l.graph.heads) l.u l.near
