-- The tops gone through were tried, and those that were free are taken out.
use Rattle.base_finite.specs.Below.{count}
use Rattle.base_nodeset.specs.Set.{mem}
use Rattle.base_tables.specs.Rows.{in_row}
use Rattle.solve_test.proofs.Rounds.{RoundSo}
use Rattle.solve_test.proofs.free.round.Given as goal

abbrev pub invariant-loop-f : goal.invariant-loop-f
invariant-loop-f l = RoundSo (in_row l.rows) (in_row l.near) (in_row l.leaf) l.initial.kept l.initial.left l.kept l.left

abbrev pub decreases-loop-f : goal.decreases-loop-f
decreases-loop-f l = count 128 (mem l.left)
