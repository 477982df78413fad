-- What the code is given: a graph's table of parents, and a solved form of that graph. A promise is made of every graph
-- that the tables are those of, so a caller puts its own graph here.
use Rattle.std.specs.Prelude.{ℕ, List}
use Rattle.graph.specs.Graph.{Graph}
use Rattle.graph.specs.Placing.{SolvedForm}
use Rattle.base_nodeset.specs.declared.NodeSet.{NodeSet}
use Rattle.base_tables.specs.Tables.{Tables}

-- a graph of n nodes with this table of parents
pub record GraphOf (n : ℕ) (parents : List ℕ) : Type 0 where
  pub graph : Graph
  pub heads : List NodeSet
  pub edges : ℕ
  pub tables : Tables graph n parents heads edges

-- such a graph, of which p is a solved form
pub record Solved (n : ℕ) (parents p : List ℕ) : Type 0 where
  pub sheet : GraphOf n parents
  pub solved : SolvedForm sheet.graph p
