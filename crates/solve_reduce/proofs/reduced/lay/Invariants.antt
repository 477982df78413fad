-- The invariant: the nodes passed have what they are to have.
use Prim.Native.Nat.{◌-◌, ◌≤◌}
use mathlib.Core.Path.{◌≡◌}
use lib.ListN.{length}
use Rattle.solve_reduce.proofs.Tables.{LaidSo}
use Rattle.solve_reduce.proofs.reduced.lay.Given as goal

abbrev pub invariant-loop-u : goal.invariant-loop-u
invariant-loop-u l = (l.u ≤ l.n) × (length l.sets ≡ length l.initial.sets) × LaidSo l.leaves l.rows l.u l.sets

abbrev pub decreases-loop-u : goal.decreases-loop-u
decreases-loop-u l = l.n - l.u
