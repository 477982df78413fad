-- The value of a graph without a solved form, and what dropping its edges one by one leaves: a part of the edges that has no
-- solved form either, and in which each edge that was settled is needed for that.
use Rattle.std.specs.Prelude.{ℕ, ◌≡◌, List, Bool, true, not, ◌&&◌, ◌||◌, eqb, ltb, length}
use Rattle.graph.specs.Graph.{Edge, Graph, different, DominanceEdge}
use Rattle.graph.specs.Order.{removed}
use Rattle.graph.specs.Placing.{Solvable}
use Rattle.base_tables.specs.Rows.{in_row}
use Rattle.base_tables.specs.declared.Graph.{Graph as Value}
use Rattle.base_tables.specs.Tables.{Tables}
use Rattle.base_tables.specs.Trees.{Parents, TreeOf, Owners, Fits}
use Rattle.base_tables.specs.declared.trees.Trees.{Trees}
use Rattle.theory_forest.specs.Shape.{Shaped}
use Rattle.theory_forest.specs.Table.{Among}
use Rattle.theory_edges.specs.Edges.{over}

-- the value is that of a well-formed graph that has no solved form
pub record Unsolved (value : Value) : Type 0 where
  pub graph : Graph
  pub edges : ℕ
  pub tables : Tables graph value.n value.parent value.heads edges
  pub unsolvable : Solvable graph → ⊥

-- the trees are those of every graph whose trees the value's parents are
pub record Known (value : Value) (t : Trees) : Type 0 where
  pub nodes : t.n ≡ value.n
  pub parents_are : Parents value.n value.parent
  pub owners_are : Owners t
  pub fits : (g : Graph) → Shaped g → TreeOf g value.n value.parent → Fits g t

-- nodes and tree edges are the same
pub record SameTrees (value value' : Value) : Type 0 where
  pub nodes : value'.n ≡ value.n
  pub parents : value'.parent ≡ value.parent

-- the edge from l to r is out of the heads
pub record TakenOut (l r : ℕ) (value value' : Value) : Type 0 where
  pub same : SameTrees value value'
  pub long : length value'.heads ≡ length value.heads
  pub row_is : (a b : ℕ) → in_row value'.heads a b ≡ (not (eqb a l && eqb b r) && in_row value.heads a b)

-- The value holds edges of g, the kept ones: with g's tree they have no solved form, and have one without any that is settled.
pub record Thinned (g : Graph) (value : Value) (settled : ℕ → ℕ → Bool) : Type 0 where
  pub kept : List Edge
  pub inside : (l r : ℕ) → Among kept l r → DominanceEdge g l r
  pub tables : Tables (over g kept) value.n value.parent value.heads (different kept)
  pub unsolvable : Solvable (over g kept) → ⊥
  pub needed : (l r : ℕ) → settled l r ≡ true → Among kept l r → Solvable (removed (over g kept) l r)

-- one more edge is settled
abbrev pub and_edge : (ℕ → ℕ → Bool) → ℕ → ℕ → ℕ → ℕ → Bool
and_edge settled l r a b = settled a b || eqb a l && eqb b r

-- the edges from leaves below l
abbrev pub before : ℕ → ℕ → ℕ → Bool
before l a b = ltb a l
