-- The leaves gone through are apart. With nothing seen below the next one, it is apart from them too.
use Rattle.base_finite.specs.Below.{count}
use Rattle.base_nodeset.specs.Set.{mem}
use Rattle.base_tables.specs.Rows.{in_row}
use Rattle.solve_test.proofs.Rounds.{ApartSo}
use Rattle.solve_test.proofs.free.apart.Given as goal

abbrev pub invariant-loop-l : goal.invariant-loop-l
invariant-loop-l l = ApartSo (in_row l.rows) (in_row l.near) l.within l.initial.left l.left l.seen

abbrev pub decreases-loop-l : goal.decreases-loop-l
decreases-loop-l l = count 128 (mem l.left)
