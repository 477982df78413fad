-- The invariant: nothing is written yet, and the places passed are taken.
use Prim.Native.Nat.{◌≤◌}
use mathlib.Core.Path.{◌≡◌}
use Rattle.sheet_nodes.proofs.Holds.{Taken}
use Rattle.sheet_nodes.proofs.add_child.Given as goal

abbrev pub invariant-loop-i : goal.invariant-loop-i
invariant-loop-i l = (l.i ≤ 3) × (l.table ≡ l.initial.table) × Taken l.initial.table l.p l.i
