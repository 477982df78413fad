-- What is near one of the first nodes gone through is found.
use Prim.Native.Nat.{◌-◌, ◌≤◌}
use Rattle.base_tables.specs.Rows.{in_row}
use Rattle.solve_cycle.specs.Searching.{Searched}
use Rattle.solve_cycle.proofs.search.search.Given as goal

abbrev pub invariant-loop-from : goal.invariant-loop-from
invariant-loop-from l =
    (l.from ≤ l.found) × Searched l.n (in_row l.near) l.root l.from l.queue l.came l.place l.found

abbrev pub decreases-loop-from : goal.decreases-loop-from
decreases-loop-from l = l.n - l.from
