-- No leaf passed has an edge.
use Prim.Native.Nat.{ℕ, ◌≤◌, ◌<◌}
use mathlib.Core.Path.{◌≡◌}
use mathlib.Core.Bool.{false}
use Rattle.base_finite.specs.Below.{any}
use Rattle.base_tables.specs.Rows.{in_row}
use Rattle.solve_cycle.proofs.minimal.first_leaf.Given as goal

abbrev pub invariant-loop-l : goal.invariant-loop-l
invariant-loop-l l =
    (l.l ≤ l.graph.n) × ((k : ℕ) → k < l.l → any 128 (in_row l.graph.heads k) ≡ false)
