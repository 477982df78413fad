-- The invariant: the set holds the leaves of the places passed, and none of them was met twice.
use Prim.Native.Nat.{ℕ, ◌<◌}
use mathlib.Core.Path.{◌≡◌}
use mathlib.Core.Bool.{true}
use Rattle.base_nodeset.specs.Set.{mem}
use Rattle.check_cycle.specs.Check.{spare}
use Rattle.check_cycle.proofs.Scans.{used_before}
use Rattle.check_cycle.proofs.leaves_differ.Given as goal

abbrev pub invariant-loop-i : goal.invariant-loop-i
invariant-loop-i l = ((x : ℕ) → mem l.used x ≡ used_before l.graph.heads l.cycle l.i x) × ((k : ℕ) → k < l.i → spare l.graph.heads l.cycle k ≡ true)
