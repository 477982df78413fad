-- The invariant: the edges of the members gone through are revised.
use mathlib.Core.Path.{◌≡◌}
use mathlib.Core.Bool.{true}
use Prim.Native.Nat.{ℕ}
use lib.ListN.{length}
use Rattle.base_finite.specs.Below.{count}
use Rattle.base_nodeset.specs.Set.{mem}
use Rattle.base_nodeset.specs.declared.NodeSet.{NodeSet}
use Rattle.solve_reduce.specs.Reduced.{Forks}
use Rattle.solve_reduce.proofs.Tables.{RevisedSo}
use Rattle.solve_reduce.proofs.reduced.revise.Given as goal

abbrev pub invariant-loop-v : goal.invariant-loop-v
invariant-loop-v l = (length l.sets ≡ length l.initial.sets) × RevisedSo l.initial.left l.less l.more l.initial.sets l.left l.sets × ((roots : NodeSet) → ((v : ℕ) → mem l.initial.left v ≡ true → mem roots v ≡ true) → Forks roots l.initial.sets l.initial.forked → Forks roots l.sets l.forked)

abbrev pub decreases-loop-v : goal.decreases-loop-v
decreases-loop-v l = count 128 (mem l.left)
