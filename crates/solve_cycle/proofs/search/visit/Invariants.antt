-- The nodes passed that are near it are found.
use Prim.Native.Nat.{◌-◌, ◌≤◌}
use lib.ListN.{get_or}
use Rattle.base_tables.specs.Rows.{in_row}
use Rattle.solve_cycle.specs.Searching.{Visited}
use Rattle.solve_cycle.proofs.search.visit.Given as goal

abbrev pub invariant-loop-v : goal.invariant-loop-v
invariant-loop-v l =
    (l.v ≤ l.n) × Visited l.n (in_row l.near) (get_or l.initial.queue l.from 0) l.v l.initial.queue l.initial.place l.initial.found l.queue l.came l.place l.found

abbrev pub decreases-loop-v : goal.decreases-loop-v
decreases-loop-v l = l.n - l.v
