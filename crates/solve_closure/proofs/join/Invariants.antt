-- The invariant: the rows of the members that are no longer left are joined.
use Prim.Native.Nat.{ℕ}
use mathlib.Core.Path.{◌≡◌}
use mathlib.Core.Bool.{true}
use Rattle.base_finite.specs.Below.{count}
use Rattle.base_nodeset.specs.Set.{mem}
use Rattle.solve_closure.specs.Closing.{Joined}
use Rattle.solve_closure.proofs.Edges.{done}
use Rattle.solve_closure.proofs.join.Given as goal

abbrev pub invariant-loop-x : goal.invariant-loop-x
invariant-loop-x l = ((x : ℕ) → mem l.left x ≡ true → mem l.initial.left x ≡ true) × Joined (done l.initial.left l.left) (mem l.more) l.initial.rows l.rows

abbrev pub decreases-loop-x : goal.decreases-loop-x
decreases-loop-x l = count 128 (mem l.left)
