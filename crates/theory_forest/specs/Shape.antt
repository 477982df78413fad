-- What the theorems ask of a graph: that it is a dominance graph (Definition 4.1), whatever the number of its dominance
-- edges. Unlike `WellFormed` this stays so when Rule 3 adds an edge or an edge is taken away.
use Rattle.std.specs.Prelude.{ℕ, ◌≤◌, ◌<◌, ◌≡◌, true, ◌||◌}
use Rattle.graph.specs.Graph.{Graph, entered, left, single, root, leaf, TreeEdge, DominanceEdge, Path}

pub record Shaped (g : Graph) : Type 0 where
  pub few_nodes : g.nodes ≤ 128
  pub tree_within : (p c : ℕ) → TreeEdge g p c → (p < g.nodes) × (c < g.nodes)
  pub one_parent : single g.tree ≡ true
  pub no_tree_cycle : (v : ℕ) → Path (TreeEdge g) v v → ⊥
  pub on_tree_edge : (v : ℕ) → v < g.nodes → (entered g.tree v || left g.tree v) ≡ true
  pub leaf_to_root : (l r : ℕ) → DominanceEdge g l r → (leaf g l ≡ true) × (root g r ≡ true)
