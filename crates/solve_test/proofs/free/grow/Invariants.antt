-- The loop keeps `Growing`; pending and unseen together lose a node in each turn.
use mathlib.Core.Bool.{◌||◌}
use Rattle.base_finite.specs.Below.{count}
use Rattle.base_nodeset.specs.Set.{mem}
use Rattle.base_tables.specs.Rows.{in_row}
use Rattle.solve_test.proofs.Spreading.{Growing}
use Rattle.solve_test.proofs.free.grow.Given as goal

abbrev pub invariant-loop-f : goal.invariant-loop-f
invariant-loop-f l = Growing (in_row l.near) (mem l.within) (mem l.initial.pending) (mem l.pending) (mem l.unseen)

abbrev pub decreases-loop-f : goal.decreases-loop-f
decreases-loop-f l = count 128 (λ k. mem l.pending k || mem l.unseen k)
