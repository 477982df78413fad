-- The top of what is left to climb is the top of v.
use Prim.Native.Nat.{◌-◌, ◌≤◌, ◌<◌}
use mathlib.Core.Path.{◌≡◌}
use Rattle.base_tables.specs.Trees.{top_in}
use Rattle.base_tables.proofs.trees.own.Given as goal

abbrev pub invariant-loop-step : goal.invariant-loop-step
invariant-loop-step l = (l.at < l.n) × (l._step ≤ l.n) × (top_in (l.n - l._step) l.parent l.at ≡ top_in l.n l.parent l.v)
