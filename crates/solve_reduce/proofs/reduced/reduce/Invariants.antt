-- The invariant: the edges of the leaves passed are entered.
use mathlib.Core.Path.{◌≡◌}
use Rattle.base_finite.specs.Below.{count}
use Rattle.base_nodeset.specs.Set.{mem}
use lib.ListN.{length}
use Rattle.solve_reduce.specs.Reduced.{Forks}
use Rattle.solve_reduce.proofs.Tables.{Disjoint, EnteredSo}
use Rattle.solve_reduce.proofs.reduced.reduce.Given as goal

abbrev pub invariant-loop-l : goal.invariant-loop-l
invariant-loop-l l = (length l.sets ≡ length l.initial.sets) × EnteredSo l.trees.n l.initial.left l.trees.roots l.rows l.left l.sets × (Disjoint l.trees.roots l.initial.left → Forks l.trees.roots l.sets l.forks)

abbrev pub decreases-loop-l : goal.decreases-loop-l
decreases-loop-l l = count 128 (mem l.left)
