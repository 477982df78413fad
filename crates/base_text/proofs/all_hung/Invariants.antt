-- The invariant: whoever stores the hung roots that are left has stored all of them.
use Prim.Native.Nat.{ℕ, ◌+◌, ◌≤◌}
use mathlib.Core.Path.{◌≡◌}
use mathlib.Core.List.{List}
use lib.ListN.{length}
use Rattle.base_finite.specs.Below.{count}
use Rattle.base_finite.specs.Stores.{Written}
use Rattle.base_nodeset.specs.Set.{mem}
use Rattle.base_text.specs.Lines.{hung_in}
use Rattle.base_text.proofs.all_hung.Given as goal

abbrev pub invariant-loop-r : goal.invariant-loop-r
invariant-loop-r l =
    (length l.out ≡ length l.initial.out)
    × (l.end + length (hung_in l.left l.placing l.n) ≤ length l.initial.out)
    × ((new : List ℕ) (e : ℕ) → Written l.out l.end (hung_in l.left l.placing l.n) new e → Written l.initial.out l.initial.end (hung_in l.initial.left l.placing l.n) new e)

abbrev pub decreases-loop-r : goal.decreases-loop-r
decreases-loop-r l = count 128 (mem l.left)
