-- The invariant: no node passed lies under itself.
use Prim.Native.Nat.{ℕ, ◌-◌, ◌≤◌, ◌<◌}
use mathlib.Core.Path.{◌≡◌}
use mathlib.Core.Bool.{false}
use Rattle.base_tables.specs.Rows.{in_row}
use Rattle.solve_closure.proofs.cyclic.Given as goal

abbrev pub invariant-loop-u : goal.invariant-loop-u
invariant-loop-u l = (l.u ≤ l.n) × ((k : ℕ) → k < l.u → in_row l.rows k k ≡ false)

abbrev pub decreases-loop-u : goal.decreases-loop-u
decreases-loop-u l = l.n - l.u
