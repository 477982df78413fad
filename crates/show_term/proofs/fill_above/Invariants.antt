-- The table has what stands above the nodes passed.
use Prim.Native.Nat.{ℕ, ◌-◌, ◌≤◌, ◌<◌}
use mathlib.Core.Path.{◌≡◌}
use lib.ListN.{length, get_or}
use Rattle.show_term.specs.Terms.{above_in}
use Rattle.show_term.proofs.fill_above.Given as goal

abbrev pub invariant-loop-v : goal.invariant-loop-v
invariant-loop-v l = (l.v ≤ l.n) × (length l.above ≡ 128) × ((k : ℕ) → k < l.v → get_or l.above k 0 ≡ above_in l.parent l.placing k)

abbrev pub decreases-loop-v : goal.decreases-loop-v
decreases-loop-v l = l.n - l.v
