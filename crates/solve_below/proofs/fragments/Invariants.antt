-- The invariant: the nodes passed are in the sets of their roots.
use Prim.Native.Nat.{◌-◌, ◌≤◌}
use mathlib.Core.Path.{◌≡◌}
use lib.ListN.{length}
use Rattle.solve_below.proofs.Roots.{FragmentsSo}
use Rattle.solve_below.proofs.fragments.Given as goal

abbrev pub invariant-loop-v : goal.invariant-loop-v
invariant-loop-v l = (l.v ≤ l.n) × (length l.sets ≡ length l.initial.sets) × FragmentsSo l.n l.trees.owner l.v l.sets

abbrev pub decreases-loop-v : goal.decreases-loop-v
decreases-loop-v l = l.n - l.v
