-- The members gone through have f in their rows.
use Rattle.base_finite.specs.Below.{count}
use Rattle.base_nodeset.specs.Set.{mem}
use Rattle.base_tables.specs.Rows.{in_row}
use Rattle.solve_test.proofs.Filled.{PutSo}
use Rattle.solve_test.proofs.tables.put_all.Given as goal

abbrev pub invariant-loop-h : goal.invariant-loop-h
invariant-loop-h l = PutSo (in_row l.initial.rows) l.initial.left l.f l.left l.rows

abbrev pub decreases-loop-h : goal.decreases-loop-h
decreases-loop-h l = count 128 (mem l.left)
