-- To the reading with a number, and its placing written where there is one.
use Rattle.std.specs.Prelude.{ℕ, ◌*◌, ◌-◌, ◌≤◌, ◌<◌, ◌≡◌, List, ◌++◌, Bool, true, false, length, drop, Result, Ok, Err}
use Rattle.base_nodeset.specs.declared.NodeSet.{NodeSet}
use Rattle.graph.specs.Graph.{Graph}
use Rattle.graph.specs.Order.{entry}
use Rattle.theory_list.specs.Readings.{listed}
use Rattle.solve_reduce.specs.Reduced.{wide}
use Rattle.solve_branch.specs.States.{Stands}
use Rattle.solve_levels.specs.Decisions.{Trail}
use Rattle.solve_levels.specs.declared.Level.{Level}
use Rattle.solve_numbered.specs.declared.TooFew.{TooFew}

-- tables of s sets and t decisions are long enough for a walk of a graph with n nodes, and no longer than those for 128
abbrev pub Tables : ℕ → ℕ → ℕ → Type 0
Tables n s t = ((wide n * 34 ≤ s) × (s ≤ 4386)) × ((n * n ≤ t) × (t ≤ 16384))

-- to the reading with the number k, or there are fewer
abbrev pub Reaches : Graph → Trail → List NodeSet → ℕ → Result Level TooFew → Type 0
Reaches g trail states k (Ok at) = Stands g trail states at (k - 1)
Reaches g trail states k (Err few) = (length (listed g) ≡ few.all) × (few.all < k)

-- whether there is one with the number k, and the lent bytes before and after
pub record Finds (g : Graph) (k : ℕ) (old : List ℕ) (r : Bool) (new : List ℕ) : Type 0 where
  pub found : r ≡ true → (k ≤ length (listed g)) × (new ≡ entry (listed g) (k - 1) ++ drop g.nodes old)
  pub fewer : r ≡ false → (length (listed g) < k) × (new ≡ old)
