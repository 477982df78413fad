-- A table of parents: the trees that it holds, the way from a node up to the root of its fragment, the edges between two
-- nodes, the roots and the inner nodes.
use Rattle.std.specs.Prelude.{ℕ, zero, suc, ◌≤◌, ◌<◌, ◌≡◌, List, Bool, true, cond, ◌&&◌, ◌||◌, eqb, ltb, length, get_or}
use Rattle.base_finite.specs.Below.{any}
use Rattle.base_nodeset.specs.Set.{mem}
use Rattle.base_nodeset.specs.declared.NodeSet.{NodeSet}
use Rattle.graph.specs.Graph.{Graph, parent, none, leaf, root, own}
use Rattle.theory_forest.specs.Shape.{Shaped}
use Rattle.base_tables.specs.declared.trees.Trees.{Trees}

-- A table of parents of n nodes: each is a node or `none`.
pub record Parents (n : ℕ) (parents : List ℕ) : Type 0 where
  pub few : n ≤ 128
  pub long : length parents ≡ 128
  pub node_or_none : (v : ℕ) → v < n → (get_or parents v 0 ≡ none → ⊥) → get_or parents v 0 < n

-- the table of parents holds the trees of g, whatever its dominance edges
pub record TreeOf (g : Graph) (n : ℕ) (parents : List ℕ) : Type 0 where
  pub nodes : n ≡ g.nodes
  pub parent_is : (v : ℕ) → v < 128 → get_or parents v 0 ≡ parent g.tree v

-- from v up to a node without a parent, k edges at most
unfoldable pub top_in : ℕ → List ℕ → ℕ → ℕ
top_in zero parents v = v
top_in (suc k) parents v = cond (eqb (get_or parents v 0) none) v (top_in k parents (get_or parents v 0))

-- a table that has of each of the first k nodes the root of its fragment, and the bytes from k on that it had
pub record Filled (n : ℕ) (parents old owners : List ℕ) (k : ℕ) : Type 0 where
  pub long : length owners ≡ length old
  pub top_is : (v : ℕ) → v < k → get_or owners v 0 ≡ top_in n parents v
  pub within : (v : ℕ) → v < k → get_or owners v 0 < n
  pub others : (v : ℕ) → k ≤ v → get_or owners v 0 ≡ get_or old v 0

-- one of the two is the other's parent
unfoldable pub tied_in : List ℕ → ℕ → ℕ → Bool
tied_in parents u v = eqb (get_or parents v 0) u || eqb (get_or parents u 0) v

-- v is the parent of a node
unfoldable pub inner_in : ℕ → List ℕ → ℕ → Bool
inner_in n parents v = any n (λ c. eqb (get_or parents c 0) v)

-- v is a node whose entry in the table is x
unfoldable pub node_in : ℕ → List ℕ → ℕ → ℕ → Bool
node_in n table x v = ltb v n && eqb (get_or table v 0) x

-- v is a node without a parent
abbrev pub root_in : ℕ → List ℕ → ℕ → Bool
root_in n parents v = node_in n parents none v

abbrev pub WithParent : NodeSet → ℕ → NodeSet → Type 0
WithParent s above r = (v : ℕ) → v < 128 → mem r v ≡ (mem s v || eqb above v)

abbrev pub InnerSet : ℕ → List ℕ → NodeSet → Type 0
InnerSet n parents r = (v : ℕ) → v < 128 → mem r v ≡ inner_in n parents v

abbrev pub WithNode : NodeSet → ℕ → ℕ → ℕ → NodeSet → Type 0
WithNode s v entry x r = (u : ℕ) → mem r u ≡ (eqb u v && eqb entry x || mem s u)

abbrev pub NodesWith : ℕ → List ℕ → ℕ → NodeSet → Type 0
NodesWith n table x r = (v : ℕ) → mem r v ≡ node_in n table x v

abbrev pub RootSet : ℕ → List ℕ → NodeSet → Type 0
RootSet n parents r = NodesWith n parents none r

-- What a solver is told of the trees: the sets of leaves and of roots, and the root of each node.

-- the sets are of nodes
pub record Bounded (t : Trees) : Type 0 where
  pub few : t.n ≤ 128
  pub leaves_within : (v : ℕ) → mem t.leaves v ≡ true → v < t.n
  pub roots_within : (v : ℕ) → mem t.roots v ≡ true → v < t.n

-- the leaves and the roots of g
pub record TreesOf (g : Graph) (t : Trees) : Type 0 where
  pub nodes : t.n ≡ g.nodes
  pub leaves_are : (v : ℕ) → mem t.leaves v ≡ leaf g v
  pub roots_are : (v : ℕ) → mem t.roots v ≡ root g v

-- each node has a node for its root
pub record Owners (t : Trees) : Type 0 where
  pub bounded : Bounded t
  pub long : t.n ≤ length t.owner
  pub within : (v : ℕ) → v < t.n → get_or t.owner v 0 < t.n

-- the trees of g, whatever its dominance edges
pub record Fits (g : Graph) (t : Trees) : Type 0 where
  pub shaped : Shaped g
  pub trees : TreesOf g t
  pub owners_are : (v : ℕ) → v < t.n → get_or t.owner v 0 ≡ own g v
