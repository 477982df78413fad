-- The invariant: the members that are no longer left stand in the bytes.
use mathlib.Core.Path.{◌≡◌}
use lib.ListN.{length}
use Rattle.base_finite.specs.Below.{count}
use Rattle.base_nodeset.specs.Set.{mem}
use Rattle.base_nodeset.proofs.Writing.{Left, itself}
use Rattle.base_nodeset.proofs.NodeSet.list.Given as goal

abbrev pub invariant-loop-x : goal.invariant-loop-x
invariant-loop-x l = (length l.out ≡ length l.initial.out) × Left itself l.initial.left l.left l.initial.out l.at l.out l.end

abbrev pub decreases-loop-x : goal.decreases-loop-x
decreases-loop-x l = count 128 (mem l.left)
