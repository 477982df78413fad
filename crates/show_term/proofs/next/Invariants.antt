-- The nodes passed do not stand below v.
use Prim.Native.Nat.{◌-◌, ◌≤◌}
use mathlib.Core.Path.{◌≡◌}
use lib.ListN.{length}
use Rattle.show_term.specs.Terms.{roots_from}
use Rattle.show_term.proofs.next.Given as goal

abbrev pub invariant-loop-r : goal.invariant-loop-r
invariant-loop-r l = (l.r ≤ length l.above) × (roots_from l.above l.v l.from ≡ roots_from l.above l.v l.r)

abbrev pub decreases-loop-r : goal.decreases-loop-r
decreases-loop-r l = length l.above - l.r
