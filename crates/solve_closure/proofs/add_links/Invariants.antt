-- The invariant: the edges to the nodes passed are in the rows.
use Prim.Native.Nat.{◌-◌, ◌≤◌}
use Rattle.solve_closure.specs.Closing.{link_in, Adds}
use Rattle.solve_closure.proofs.add_links.Given as goal

abbrev pub invariant-loop-v : goal.invariant-loop-v
invariant-loop-v l = (l.v ≤ l.n) × Adds (link_in l.v l.links) l.initial.rows l.rows

abbrev pub decreases-loop-v : goal.decreases-loop-v
decreases-loop-v l = l.n - l.v
