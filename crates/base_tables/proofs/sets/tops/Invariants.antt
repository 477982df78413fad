-- The invariant: what is out of `top` or of `left`, and why.
use Rattle.base_finite.specs.Below.{count}
use Rattle.base_nodeset.specs.Set.{mem}
use Rattle.base_tables.specs.Rows.{in_row}
use Rattle.base_tables.proofs.Tops.{TopsSo}
use Rattle.base_tables.proofs.sets.tops.Given as goal

abbrev pub invariant-loop-x : goal.invariant-loop-x
invariant-loop-x l = TopsSo (in_row l.rows) l.initial.top l.top l.left

abbrev pub decreases-loop-x : goal.decreases-loop-x
decreases-loop-x l = count 128 (mem l.left)
