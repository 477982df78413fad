-- What is left was made by taking free fragments out of the roots. A round that leaves as many was stuck.
use Rattle.base_finite.specs.Below.{count}
use Rattle.base_nodeset.specs.Set.{mem}
use Rattle.base_tables.specs.Rows.{in_row, Closed}
use Rattle.solve_test.specs.Free.{Taking}
use Rattle.solve_test.proofs.free.eliminate.Given as goal

abbrev pub invariant-loop-rem : goal.invariant-loop-rem
invariant-loop-rem l = Closed (in_row l.rows) → Taking (in_row l.rows) (in_row l.near) (in_row l.leaf) l.initial.rem l.rem

abbrev pub decreases-loop-rem : goal.decreases-loop-rem
decreases-loop-rem l = count 128 (mem l.rem)
