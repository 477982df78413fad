-- The tables of a sheet's graph: of each node its parent, of each leaf the roots that its dominance edges go to.
use Rattle.std.specs.Prelude.{ℕ, ◌<◌, ◌≡◌, List, true, length, get_or}
use Rattle.base_nodeset.specs.Set.{mem}
use Rattle.base_nodeset.specs.declared.NodeSet.{NodeSet}
use Rattle.graph.specs.Graph.{Edge, Graph, WellFormed, among, different, single, parent}
use Rattle.theory_edges.specs.Edges.{Within}
use Rattle.base_tables.specs.declared.Graph.{Graph as Value}
use Rattle.base_tables.specs.Rows.{nothing}

-- The tables of 128 entries hold the edges t and d: of each node its parent, of each leaf the set of roots that its
-- dominance edges go to, and how many different dominance edges there are.
pub record Holds (n : ℕ) (t d : List Edge) (parents : List ℕ) (heads : List NodeSet) (edges : ℕ) : Type 0 where
  pub tree_within : Within n t
  pub one_parent : single t ≡ true
  pub dominance_within : Within n d
  pub parents_long : length parents ≡ 128
  pub heads_long : length heads ≡ 128
  pub parent_is : (v : ℕ) → v < 128 → get_or parents v 0 ≡ parent t v
  pub heads_are : (l r : ℕ) → mem (get_or heads l nothing) r ≡ among d l r
  pub edges_are : edges ≡ different d

-- the tables of a well-formed graph's value: parents, and for each leaf the roots that its dominance edges go to
pub record Tables (g : Graph) (n : ℕ) (parents : List ℕ) (heads : List NodeSet) (edges : ℕ) : Type 0 where
  pub well_formed : WellFormed g
  pub nodes : n ≡ g.nodes
  pub holds : Holds g.nodes g.tree g.dominance parents heads edges

-- some well-formed graph's tables, whatever the value says of the number of edges
pub record SheetTables (v : Value) : Type 0 where
  pub graph : Graph
  pub edges : ℕ
  pub tables : Tables graph v.n v.parent v.heads edges
