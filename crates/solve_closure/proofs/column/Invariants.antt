-- The invariant: the word has the bits of the rows passed.
use Prim.Native.Nat.{ℕ, ◌+◌, ◌-◌, ◌≤◌}
use mathlib.Core.Path.{◌≡◌}
use mathlib.Core.Bool.{◌&&◌}
use lib.Dec.{ltb}
use lib.ListN.{get_or}
use Rattle.base_tables.specs.Rows.{nothing}
use Rattle.solve_closure.specs.Closing.{word_of}
use Rattle.base_nodeset.specs.Set.{bit}
use Rattle.solve_closure.proofs.column.Given as goal

abbrev pub invariant-loop-i : goal.invariant-loop-i
invariant-loop-i l = (l.i ≤ l.count) × ((j : ℕ) → bit l.bits j ≡ (ltb j l.i && bit (word_of l.high (get_or l.rows (l.first + j) nothing)) l.k))

abbrev pub decreases-loop-i : goal.decreases-loop-i
decreases-loop-i l = l.count - l.i
