-- The invariant: the way goes on from what it was.
use Prim.Native.Nat.{◌-◌, ◌<◌}
use mathlib.Core.Path.{◌≡◌}
use lib.ListN.{length}
use Rattle.base_finite.specs.Below.{count}
use Rattle.base_nodeset.specs.Set.{mem}
use Rattle.solve_descent.specs.Descent.{Longer}
use Rattle.solve_descent.proofs.down.Given as goal

abbrev pub invariant-loop-next : goal.invariant-loop-next
invariant-loop-next l = (length l.initial.way ≡ 128) × (0 < l.initial.depth) × Longer l.initial.way l.initial.depth l.initial.seen l.way l.depth l.seen

abbrev pub decreases-loop-next : goal.decreases-loop-next
decreases-loop-next l = 128 - count 128 (mem l.seen)
