-- The invariant: the set holds the nodes of the places passed, and each of them was new.
use Prim.Native.Nat.{ℕ, ◌<◌}
use mathlib.Core.Path.{◌≡◌}
use mathlib.Core.Bool.{true}
use Rattle.base_nodeset.specs.Set.{mem}
use Rattle.check_cycle.specs.Check.{fresh}
use Rattle.check_cycle.proofs.Scans.{seen_before}
use Rattle.check_cycle.proofs.nodes_differ.Given as goal

abbrev pub invariant-loop-i : goal.invariant-loop-i
invariant-loop-i l = ((u : ℕ) → mem l.seen u ≡ seen_before l.cycle l.i u) × ((k : ℕ) → k < l.i → fresh l.n l.cycle k ≡ true)
