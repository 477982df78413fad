-- The invariant: the edges from the nodes passed are in the rows.
use Prim.Native.Nat.{◌-◌, ◌≤◌}
use Rattle.solve_closure.specs.Closing.{head_in, Adds}
use Rattle.solve_closure.proofs.add_heads.Given as goal

abbrev pub invariant-loop-l : goal.invariant-loop-l
invariant-loop-l l = (l.l ≤ l.n) × Adds (head_in l.l l.heads) l.initial.rows l.rows

abbrev pub decreases-loop-l : goal.decreases-loop-l
decreases-loop-l l = l.n - l.l
