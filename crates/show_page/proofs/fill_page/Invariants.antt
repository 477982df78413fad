-- The lines of the readings up to k are written.
use Prim.Native.Nat.{◌+◌, ◌≤◌}
use mathlib.Core.Path.{◌≡◌}
use lib.ListN.{length}
use Rattle.base_finite.specs.Stores.{Written}
use Rattle.show_page.specs.Pages.{lines, Held}
use Rattle.show_page.proofs.fill_page.Given as goal

abbrev pub invariant-loop-k : goal.invariant-loop-k
invariant-loop-k l =
    (l.end + 1100 ≤ length l.out)
    × (length l.out ≡ length l.initial.out)
    × ((s : Held l.trees l.passed l.last l.placings) → Written l.initial.out 0 (lines s.graph l.done l.k) l.out l.end)
