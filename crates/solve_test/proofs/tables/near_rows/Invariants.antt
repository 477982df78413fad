-- A root gone through has put itself and the roots below it into each other's rows.
use Rattle.base_finite.specs.Below.{count}
use Rattle.base_nodeset.specs.Set.{mem}
use Rattle.base_tables.specs.Rows.{in_row}
use Rattle.solve_test.proofs.Filled.{NearSo}
use Rattle.solve_test.proofs.tables.near_rows.Given as goal

abbrev pub invariant-loop-f : goal.invariant-loop-f
invariant-loop-f l = NearSo (in_row l.below) l.roots l.left l.rows

abbrev pub decreases-loop-f : goal.decreases-loop-f
decreases-loop-f l = count 128 (mem l.left)
