-- Where a move has led, and from where the next one starts.
use Prim.Native.Nat.{ℕ, ◌+◌}
use mathlib.Core.List.{List}
use mathlib.Core.Path.{◌≡◌, sym}
use native.Mathlib.Omega.{arith}
use lib.ListN.{length}
use Rattle.base_nodeset.specs.declared.NodeSet.{NodeSet}
use Rattle.graph.specs.Graph.{Graph}
use Rattle.theory_list.specs.Readings.{listed}
use Rattle.theory_walk.proofs.States.{at_leaving}
use Rattle.solve_branch.specs.States.{Stands, Leaves}
use Rattle.solve_levels.specs.declared.Level.{Level}
use Rattle.solve_walk.specs.Moves.{Moves}
use Rattle.std.specs.Prelude.{Option, Some, None}
use Rattle.solve_levels.specs.Decisions.{Trail}

pub moved_to : (g : Graph) (trail : Trail) (states : List NodeSet) (k : ℕ) {r : Option Level} {at : Level} → r ≡ Some at → Moves g trail states k r → Stands g trail states at k
moved_to g trail states k e x = rw e at x

pub moved_end : (g : Graph) (trail : Trail) (states : List NodeSet) (k : ℕ) {r : Option Level} → r ≡ None → Moves g trail states k r → length (listed g) ≡ k
moved_end g trail states k e x = rw e at x

-- out of a reading
pub stands_leaves : {g : Graph} {trail : Trail} {states : List NodeSet} {at : Level} {k : ℕ} → Stands g trail states at k → Leaves g trail states at at.depth (k + 1)
stands_leaves x = record { leaving = at_leaving x.reading; matches = x.matches; above = omega arith; seconds = sym x.matches.open_is }
