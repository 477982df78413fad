-- The invariant: the rows of the nodes passed are whole.
use Prim.Native.Nat.{ℕ, ◌-◌, ◌≤◌, ◌<◌}
use mathlib.Core.Path.{◌≡◌}
use mathlib.Core.Bool.{true}
use Rattle.base_nodeset.specs.Set.{mem}
use Rattle.solve_descent.specs.Descent.{Fills}
use Rattle.solve_descent.proofs.fill.Given as goal

abbrev pub invariant-loop-node : goal.invariant-loop-node
invariant-loop-node l = (l.node ≤ l.n) × Fills l.initial.rows l.initial.whole l.rows l.whole × ((u : ℕ) → u < l.node → mem l.whole u ≡ true)

abbrev pub decreases-loop-node : goal.decreases-loop-node
decreases-loop-node l = l.n - l.node
