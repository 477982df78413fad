-- The states of a walk: where it stands in the list, with the states that match. k readings are passed.
use Rattle.std.specs.Prelude.{ℕ, ◌≤◌, ◌≡◌, List}
use Rattle.base_nodeset.specs.declared.NodeSet.{NodeSet}
use Rattle.graph.specs.Graph.{Graph}
use Rattle.theory_list.specs.Redundancy.{Loopless}
use Rattle.theory_walk.specs.Walk.{Entering, At, Leaving}
use Rattle.base_tables.specs.Trees.{Owners, Fits}
use Rattle.base_tables.specs.declared.trees.Trees.{Trees}
use Rattle.solve_levels.specs.Decisions.{Trail, decisions, opens, reached}
use Rattle.solve_levels.specs.Levels.{Matches}
use Rattle.solve_levels.specs.declared.Level.{Level}

-- the readings of the graph at the decisions, if it has some, come next
pub record Enters (g : Graph) (trail : Trail) (states : List NodeSet) (at : Level) (k : ℕ) : Type 0 where
  pub entering : Entering g (decisions trail at.depth) k
  pub matches : Matches g trail states at
  pub here : at.kept ≤ at.opened

-- and it has no cycle
pub record Dives (g : Graph) (trail : Trail) (states : List NodeSet) (at : Level) (k : ℕ) : Type 0 where
  pub enters : Enters g trail states at k
  pub loopless : Loopless (reached g trail at.depth)

-- the next reading is the settled placing of the graph at the decisions
pub record Stands (g : Graph) (trail : Trail) (states : List NodeSet) (at : Level) (k : ℕ) : Type 0 where
  pub reading : At g (decisions trail at.depth) k
  pub matches : Matches g trail states at
  pub here : at.kept ≤ at.opened

-- the readings of the graph at the first `depth` decisions are passed, and the decisions after them are second halves
pub record Leaves (g : Graph) (trail : Trail) (states : List NodeSet) (at : Level) (depth k : ℕ) : Type 0 where
  pub leaving : Leaving g (decisions trail depth) k
  pub matches : Matches g trail states at
  pub above : depth ≤ at.depth
  pub seconds : opens trail depth ≡ at.opened

-- Where a walk may go down: in some graph that the tables fit.

pub record Walked (t : Trees) : Type 0 where
  pub graph : Graph
  pub table : Owners t
  pub fits : Fits graph t

pub record Diving (t : Trees) (trail : Trail) (states : List NodeSet) (at : Level) : Type 0 where
  pub walked : Walked t
  pub passed : ℕ
  pub dives : Dives walked.graph trail states at passed
