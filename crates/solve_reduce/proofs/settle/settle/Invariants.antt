-- The invariant: the roots passed are as they are to be, the other bytes are cleared or as before.
use mathlib.Core.Path.{◌≡◌}
use lib.ListN.{length}
use Rattle.base_finite.specs.Below.{count}
use Rattle.base_nodeset.specs.Set.{mem}
use Rattle.solve_reduce.proofs.Settling.{SettledSo}
use Rattle.solve_reduce.proofs.settle.settle.Given as goal

abbrev pub invariant-loop-v : goal.invariant-loop-v
invariant-loop-v l = (length l.out ≡ length l.initial.out) × SettledSo l.n l.initial.left l.sets l.left l.initial.out l.out

abbrev pub decreases-loop-v : goal.decreases-loop-v
decreases-loop-v l = count 128 (mem l.left)
