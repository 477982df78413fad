-- The leaves gone through are in the rows of their owners.
use Rattle.base_finite.specs.Below.{count}
use Rattle.base_nodeset.specs.Set.{mem}
use Rattle.solve_test.proofs.Filled.{LeafSo}
use Rattle.solve_test.proofs.tables.leaf_rows.Given as goal

abbrev pub invariant-loop-l : goal.invariant-loop-l
invariant-loop-l l = LeafSo l.initial.left l.owner l.left l.rows

abbrev pub decreases-loop-l : goal.decreases-loop-l
decreases-loop-l l = count 128 (mem l.left)
