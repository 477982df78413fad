-- Where the ways down and back lead.
use Rattle.std.specs.Prelude.{ℕ, ◌-◌, ◌≤◌, ◌<◌, ◌≡◌, List, true, false, ◌↔◌, Result, Ok, Err}
use Rattle.base_nodeset.specs.Set.{mem}
use Rattle.base_nodeset.specs.declared.NodeSet.{NodeSet}
use Rattle.graph.specs.Graph.{Graph, Descent}
use Rattle.graph.specs.Placing.{Solvable}
use Rattle.solve_test.specs.Tables.{End}
use Rattle.solve_branch.specs.declared.dive.Stuck.{Stuck}
use Rattle.solve_levels.specs.declared.Level.{Level}
use Rattle.solve_levels.specs.Decisions.{Trail, upper_at, lower_at, reached}
use Rattle.solve_branch.specs.States.{Enters, Stands, Leaves}

-- of a root or a leaf what is under it, and nothing of another node
pub record EndRow (g : Graph) (u : ℕ) (r : NodeSet) : Type 0 where
  pub end : End g u → (v : ℕ) → (mem r v ≡ true) ↔ Descent g u v
  pub inner : (End g u → ⊥) → (v : ℕ) → mem r v ≡ false

-- down to a reading, or to a graph that has none
abbrev pub Reaches : Graph → Trail → List NodeSet → ℕ → Result Level Stuck → Type 0
Reaches g trail states k (Ok at) = Stands g trail states at k
Reaches g trail states k (Err stuck) = Leaves g trail states stuck.at stuck.at.depth k

-- at `depth` or below
abbrev pub Deeper : ℕ → Result Level Stuck → Type 0
Deeper depth (Ok at) = depth ≤ at.depth
Deeper depth (Err stuck) = depth ≤ stuck.at.depth

-- back to a half below the level `base` that has a solved form, or out of the graph at that level
abbrev pub Opens : Graph → Trail → List NodeSet → ℕ → ℕ → Result Level Stuck → Type 0
Opens g trail states base k (Ok at) = Enters g trail states at k × Solvable (reached g trail at.depth) × (base < at.depth)
Opens g trail states base k (Err stuck) = Leaves g trail states stuck.at base k

-- to a reading, or out of the graph at the level `base`
abbrev pub Arrives : Graph → Trail → List NodeSet → ℕ → ℕ → Result Level Stuck → Type 0
Arrives g trail states base k (Ok at) = Stands g trail states at k
Arrives g trail states base k (Err stuck) = Leaves g trail states stuck.at base k

-- the decisions from r on are second halves, and the one before them, if any, is a first half
pub record Turns (trail : Trail) (depth r : ℕ) : Type 0 where
  pub fewer : r ≤ depth
  pub seconds : (i : ℕ) → r ≤ i → i < depth → lower_at trail i ≤ upper_at trail i
  pub first : 0 < r → upper_at trail (r - 1) < lower_at trail (r - 1)
