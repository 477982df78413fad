-- Where a step may begin: in the walk of some graph that the tables fit.
use Rattle.std.specs.Prelude.{ℕ, ◌+◌, List}
use Rattle.base_nodeset.specs.declared.NodeSet.{NodeSet}
use Rattle.graph.specs.Graph.{Descent}
use Rattle.graph.specs.Placing.{Solvable}
use Rattle.base_tables.specs.Rows.{Rows}
use Rattle.base_tables.specs.declared.trees.Trees.{Trees}
use Rattle.solve_branch.specs.States.{Stands, Leaves, Walked}
use Rattle.solve_levels.specs.declared.Level.{Level}
use Rattle.solve_levels.specs.Decisions.{Trail}

-- a graph with a solved form, and the rows of its descent relation
pub record Walkable (t : Trees) (rows : List NodeSet) : Type 0 where
  pub walked : Walked t
  pub solvable : Solvable walked.graph
  pub rows_are : Rows (Descent walked.graph) rows

-- the walk stands there
pub record Standing (t : Trees) (trail : Trail) (states : List NodeSet) (at : Level) (passed : ℕ) : Type 0 where
  pub walked : Walked t
  pub stands : Stands walked.graph trail states at passed

-- the walk leaves the half that it was in, the decision at `last`
pub record Departing (t : Trees) (trail : Trail) (states : List NodeSet) (at : Level) (last : ℕ) : Type 0 where
  pub walked : Walked t
  pub passed : ℕ
  pub leaves : Leaves walked.graph trail states at (last + 1) passed
