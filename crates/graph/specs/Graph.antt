-- Dominance graphs: nodes, tree edges, dominance edges, roots, leaves, fragments (document 000, Definition 4.1;
-- document 01, "The sheet"). A graph's edges are lists of pairs, read as sets: what counts is which pairs are among them.
use Rattle.std.specs.Prelude.{ℕ, zero, suc, ◌+◌, ◌≤◌, ◌<◌, ◌≡◌, List, [], ◌∷◌, Bool, true, false, cond, not, ◌&&◌, ◌||◌, ◌⊎◌, eqb, ltb}
use Rattle.base_finite.specs.Below.{any, count}

-- an edge from its first part to its second
abbrev pub Edge : Type 0
Edge = ℕ × ℕ

-- the edge from u to v is in the list
unfoldable pub among : List Edge → ℕ → ℕ → Bool
among [] u v = false
among (e ∷ es) u v = eqb e.0 u && eqb e.1 v || among es u v

-- some edge of the list goes to v
unfoldable pub entered : List Edge → ℕ → Bool
entered [] v = false
entered (e ∷ es) v = eqb e.1 v || entered es v

-- some edge of the list starts from v
unfoldable pub left : List Edge → ℕ → Bool
left [] v = false
left (e ∷ es) v = eqb e.0 v || left es v

-- how many different edges the list has
unfoldable pub different : List Edge → ℕ
different [] = 0
different (e ∷ es) = cond (among es e.0 e.1) (different es) (suc (different es))

-- no two entries of the list go to one node
unfoldable pub single : List Edge → Bool
single [] = true
single (e ∷ es) = not (entered es e.1) && single es

-- Definition 4.1: a directed graph G = (V, E ∪ D). V is the numbers below `nodes`.
pub record Graph : Type 0 where
  pub nodes : ℕ
  pub tree : List Edge
  pub dominance : List Edge

-- "a tree edge from parent p to child c"
abbrev pub TreeEdge : Graph → ℕ → ℕ → Type 0
TreeEdge g p c = among g.tree p c ≡ true

-- "a dominance edge from leaf l to root r"
abbrev pub DominanceEdge : Graph → ℕ → ℕ → Type 0
DominanceEdge g l r = among g.dominance l r ≡ true

-- "A root has no incoming tree edge, a leaf no outgoing one."
unfoldable pub root : Graph → ℕ → Bool
root g v = ltb v g.nodes && not (entered g.tree v)

unfoldable pub leaf : Graph → ℕ → Bool
leaf g v = ltb v g.nodes && not (left g.tree v)

-- No node: what stands for the parent of a root, and in a placing for the top (document 01, "Readings").
abbrev pub none : ℕ
none = 255

-- the node that the first edge to v starts from, and `none` where no edge goes to v
unfoldable pub parent : List Edge → ℕ → ℕ
parent [] v = none
parent (e ∷ es) v = cond (eqb e.1 v) e.0 (parent es v)

-- k tree edges, one above the other, lead up from v
unfoldable pub rises : ℕ → List Edge → ℕ → Bool
rises zero t v = true
rises (suc k) t v = entered t v && rises k t (parent t v)

-- "tree edges form a cycle" (refusal 4, of the whole sheet). Where no node has two parents, that is a node with n edges above it.
unfoldable pub cyclic : Graph → Bool
cyclic g = any g.nodes (rises g.nodes g.tree)

-- from v up the tree edges to a node that none goes to, k edges at most
unfoldable pub top : ℕ → List Edge → ℕ → ℕ
top zero es v = v
top (suc k) es v = cond (entered es v) (top k es (parent es v)) v

-- the root of v's fragment: a path of tree edges passes fewer than `nodes` of them
unfoldable pub own : Graph → ℕ → ℕ
own g v = top g.nodes g.tree v

-- x is a leaf of the fragment whose root is r
unfoldable pub leaf_of : Graph → ℕ → ℕ → Bool
leaf_of g r x = leaf g x && eqb (own g x) r

-- One or more steps of a relation, from the first node to the last: its transitive closure.
pub data Path (E : ℕ → ℕ → Type 0) : ℕ → ℕ → Type 0 where
  one : {u v : ℕ} → E u v → Path E u v
  more : {u v w : ℕ} → Path E u v → E v w → Path E u w

-- an edge of the graph, tree or dominance
abbrev pub GraphEdge : Graph → ℕ → ℕ → Type 0
GraphEdge g u v = TreeEdge g u v ⊎ DominanceEdge g u v

-- "The descent relation holds all pairs (u, v) with a path of one or more edges from u to v, tree or dominance."
-- (The reachability relation of document 000, Section 4.)
abbrev pub Descent : Graph → ℕ → ℕ → Type 0
Descent g = Path (GraphEdge g)

-- A dominance graph (Definition 4.1), with document 01's bounds: what a well-formed sheet means.
pub record WellFormed (g : Graph) : Type 0 where
  -- "there are n nodes, 2 to 128"
  pub some_nodes : 2 ≤ g.nodes
  pub few_nodes : g.nodes ≤ 128
  -- "the tree edges make node-disjoint trees": between nodes, one to a child, no cycle
  pub tree_within : (p c : ℕ) → TreeEdge g p c → (p < g.nodes) × (c < g.nodes)
  pub one_parent : single g.tree ≡ true
  pub no_tree_cycle : (v : ℕ) → Path (TreeEdge g) v v → ⊥
  -- "of height at least 1": each node is on a tree edge
  pub on_tree_edge : (v : ℕ) → v < g.nodes → (entered g.tree v || left g.tree v) ≡ true
  -- "Each dominance edge goes from a leaf to a root, of the same fragment or another."
  pub leaf_to_root : (l r : ℕ) → DominanceEdge g l r → (leaf g l ≡ true) × (root g r ≡ true)
  -- "There are at most 255 of them", and (02, One) "8 counts different edges"
  pub few_edges : different g.dominance ≤ 255

-- One-word fragments (02, Two; document 000, Theorem 4.7, second point).

-- "A node without tree edges"
unfoldable pub bare : Graph → ℕ → Bool
bare g v = not (entered g.tree v || left g.tree v)

-- "Added leaves are numbered from n upward, by ascending node": the number that v's leaf gets
unfoldable pub added_leaf : Graph → ℕ → ℕ
added_leaf g v = g.nodes + count v (bare g)

-- the tree edges, and one from each bare node below k to its leaf
unfoldable pub grown_tree : Graph → ℕ → List Edge
grown_tree g zero = g.tree
grown_tree g (suc k) = cond (bare g k) ((k, added_leaf g k) ∷ grown_tree g k) (grown_tree g k)

-- "A node without tree edges becomes a fragment whose root it is, with one leaf added"
abbrev pub grown : Graph → Graph
grown g = record { nodes = g.nodes + count g.nodes (bare g); tree = grown_tree g g.nodes; dominance = g.dominance }

-- A well-formed sheet, by the nodes and edges that it writes.
pub record WellWritten (g : Graph) : Type 0 where
  -- 02, Two: "n may be 1"
  pub some_nodes : 1 ≤ g.nodes
  -- "13 when the grown number exceeds 128", and "A sheet that gets 13 isn't well-formed"
  pub few_nodes : (grown g).nodes ≤ 128
  -- "the tree edges make node-disjoint trees"
  pub tree_within : (p c : ℕ) → TreeEdge g p c → (p < g.nodes) × (c < g.nodes)
  pub one_parent : single g.tree ≡ true
  pub no_tree_cycle : (v : ℕ) → Path (TreeEdge g) v v → ⊥
  -- "Each dominance edge goes from a leaf to a root", both written: a bare node is a root of its own and never a leaf, so "a dominance edge
  -- from such a node is still 6"
  pub dominance_within : (l r : ℕ) → DominanceEdge g l r → (l < g.nodes) × (r < g.nodes)
  pub leaf_to_root : (l r : ℕ) → DominanceEdge g l r → (leaf (grown g) l ≡ true) × (root (grown g) r ≡ true)
  -- "There are at most 255 of them", different ones
  pub few_edges : different g.dominance ≤ 255

-- "their nodes and edges agree"
pub record Agree (g h : Graph) : Type 0 where
  pub same_nodes : g.nodes ≡ h.nodes
  pub same_tree : (p c : ℕ) → among g.tree p c ≡ among h.tree p c
  pub same_dominance : (l r : ℕ) → among g.dominance l r ≡ among h.dominance l r
