-- A table of what a labelled sheet says of its nodes (02, Five): four bytes a node, its symbol and then its children, in the order of their
-- commands.
use Rattle.std.specs.Prelude.{ℕ, suc, ◌+◌, ◌*◌, ◌<◌, ◌≡◌, List, true, length, get_or}
use Rattle.base_nodeset.specs.Set.{mem}
use Rattle.base_nodeset.specs.declared.NodeSet.{NodeSet}
use Rattle.graph.specs.Graph.{none}
use Rattle.format.specs.Sheet as spec

-- nothing is said of any node
pub record Empty (table : List ℕ) : Type 0 where
  pub long : length table ≡ 512
  pub nothing : (i : ℕ) → i < 512 → get_or table i 0 ≡ none

-- a symbol for each node that is labelled, and three places for the children of each, `none` where there is no child
pub record NodeTable (s : spec.Content) (table : List ℕ) (labelled : NodeSet) : Type 0 where
  pub long : length table ≡ 512
  pub labelled_are : (v : ℕ) → mem labelled v ≡ spec.labelled s.labels.symbols v
  pub symbol_is : (v : ℕ) → v < 128 → spec.labelled s.labels.symbols v ≡ true → get_or table (4 * v) 0 ≡ spec.symbol s.labels.symbols v
  pub child_is : (v i : ℕ) → v < 128 → i < 3 → get_or table (4 * v + suc i) 0 ≡ get_or (spec.children s.written.tree v) i none
