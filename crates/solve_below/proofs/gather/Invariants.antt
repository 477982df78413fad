-- The invariant: the rows of the leaves passed are gathered.
use Rattle.base_finite.specs.Below.{count}
use Rattle.base_nodeset.specs.Set.{mem}
use Rattle.solve_below.proofs.Roots.{GatheredSo}
use Rattle.solve_below.proofs.gather.Given as goal

abbrev pub invariant-loop-l : goal.invariant-loop-l
invariant-loop-l l = GatheredSo l.sets l.initial.all l.initial.left l.left l.all

abbrev pub decreases-loop-l : goal.decreases-loop-l
decreases-loop-l l = count 128 (mem l.left)
