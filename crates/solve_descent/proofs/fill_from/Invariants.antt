-- The invariant: rows filled so far are whole, and the way begins at the node (`Underway`); where the way has no node left, the
-- node's own row is whole.
use Prim.Native.Nat.{◌+◌, ◌*◌, ◌-◌}
use mathlib.Core.Path.{◌≡◌}
use lib.ListN.{length}
use Rattle.base_finite.specs.Below.{count}
use Rattle.base_nodeset.specs.Set.{mem}
use Rattle.base_tables.specs.Rows.{Long}
use Rattle.solve_descent.specs.Descent.{Fills}
use Rattle.solve_descent.proofs.Filling.{Underway}
use Rattle.solve_descent.proofs.fill_from.Given as goal

abbrev pub invariant-loop-depth : goal.invariant-loop-depth
invariant-loop-depth l =
    (length l.list ≡ 128) × (length l.way ≡ 128) × Long l.rows × Fills l.initial.rows l.initial.filled l.rows l.filled × Underway l.node l.way l.depth l.seen l.filled

abbrev pub decreases-loop-depth : goal.decreases-loop-depth
decreases-loop-depth l = 2 * (128 - count 128 (mem l.seen)) + l.depth
