-- The table has the homes of the nodes passed.
use Prim.Native.Nat.{ℕ, ◌-◌, ◌≤◌, ◌<◌}
use mathlib.Core.Path.{◌≡◌}
use lib.ListN.{length, get_or}
use Rattle.show_drawing.specs.Drawn.{home_in}
use Rattle.show_drawing.proofs.fill_homes.Given as goal

abbrev pub invariant-loop-v : goal.invariant-loop-v
invariant-loop-v l = (l.v ≤ l.n) × (length l.homes ≡ 128) × ((k : ℕ) → k < l.v → get_or l.homes k 0 ≡ home_in l.n l.parent k)

abbrev pub decreases-loop-v : goal.decreases-loop-v
decreases-loop-v l = l.n - l.v
