-- The invariant: the walk stands where its list does (`Walking`); the first places of the list were filled before the loop.
use Prim.Native.Nat.{◌-◌, ◌≤◌}
use mathlib.Core.Path.{◌≡◌}
use lib.ListN.{length}
use Rattle.solve_descent.proofs.Walk.{Walking}
use Rattle.solve_descent.proofs.under.Given as goal

abbrev pub invariant-loop-at : goal.invariant-loop-at
invariant-loop-at l = (length l.initial.list ≡ 128) × (l.initial.end ≤ l.end) × Walking l.rows l.node l.initial.list l.found l.at l.end l.list

abbrev pub decreases-loop-at : goal.decreases-loop-at
decreases-loop-at l = 128 - l.at
