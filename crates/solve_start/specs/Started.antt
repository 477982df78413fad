-- What the tables hold where a walk starts.
use Rattle.std.specs.Prelude.{◌≡◌, List, Option, None, Some}
use Rattle.base_nodeset.specs.declared.NodeSet.{NodeSet}
use Rattle.graph.specs.Graph.{Graph}
use Rattle.graph.specs.Placing.{Solvable}
use Rattle.base_tables.specs.declared.trees.Trees.{Trees}
use Rattle.solve_walk.specs.States.{Walkable}

-- the sheet that a walk is given, and its graph is g
pub record WalkableOf (g : Graph) (t : Trees) (rows : List NodeSet) : Type 0 where
  pub sheet : Walkable t rows
  pub is : sheet.walked.graph ≡ g

-- the trees to walk through, where the graph has a solved form
pub record Started (g : Graph) (rows : List NodeSet) (r : Option Trees) : Type 0 where
  pub solved : (trees : Trees) → r ≡ Some trees → WalkableOf g trees rows
  pub unsolved : r ≡ None → Solvable g → ⊥
