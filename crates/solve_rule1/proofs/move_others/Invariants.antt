-- The nodes passed are as after the move, the others as before.
use Prim.Native.Nat.{ℕ, ◌≤◌, ◌<◌}
use mathlib.Core.Path.{◌≡◌}
use mathlib.Core.Bool.{cond}
use lib.Dec.{eqb}
use lib.ListN.{get_or}
use Rattle.solve_rule1.proofs.move_others.Given as goal

abbrev pub invariant-loop-leaf : goal.invariant-loop-leaf
invariant-loop-leaf l =
    ((k : ℕ) → k < l.leaf-index → get_or l.leaf-items k 0 ≡ cond (eqb (get_or l.initial.leaf-items k 0) l.from) l.to (get_or l.initial.leaf-items k 0))
    × ((k : ℕ) → l.leaf-index ≤ k → get_or l.leaf-items k 0 ≡ get_or l.initial.leaf-items k 0)
