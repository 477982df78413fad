-- The invariant: no leaf passed is above one of the nodes.
use Rattle.base_finite.specs.Below.{count}
use Rattle.base_nodeset.specs.Set.{mem}
use Rattle.solve_branch.proofs.Ends.{MeetsSo}
use Rattle.solve_branch.proofs.dive.meets.Given as goal

abbrev pub invariant-loop-l : goal.invariant-loop-l
invariant-loop-l l = MeetsSo l.sets l.nodes l.initial.left l.left

abbrev pub decreases-loop-l : goal.decreases-loop-l
decreases-loop-l l = count 128 (mem l.left)
