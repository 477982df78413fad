-- The table of what stands above each node: below a leaf it has the roots hung there, and below no node the top roots.
use Prim.Native.Nat.{ℕ, ◌<◌}
use mathlib.Core.Path.{◌≡◌, sym, ap, ◌∙◌}
use mathlib.Core.List.{List}
use mathlib.Core.Bool.{true, false, not, ◌&&◌, true≢false}
use native.Mathlib.Omega.{arith}
use lib.Dec.{eqb, ltb}
use lib.ListN.{get_or, take}
use lib.Seq.{get_or-take}
use borrow.Author.Tests.{ne_eqb, lt-ltb, not-true}
use Rattle.base_finite.specs.Stores.{entry_is}
use Rattle.base_finite.proofs.Laws.{by_bool, and_both, and_false}
use Rattle.graph.specs.Graph.{Graph, entered, left, parent, root, leaf, none, TreeEdge}
use Rattle.graph.specs.Placing.{at, hangs}
use Rattle.theory_edges.proofs.Edges.{parent_among, left_of_among}
use Rattle.theory_forest.specs.Shape.{Shaped}
use Rattle.base_tables.specs.Trees.{TreeOf}
use Rattle.base_tables.proofs.TreeLaws.{parent_here, parentless}
use Rattle.show_term.specs.Terms.{above_in}

module _ (g : Graph) (shaped : Shaped g) (n : ℕ) (parents : List ℕ) (tree : TreeOf g n parents) (placing above : List ℕ) (is : (v : ℕ) → v < n → get_or above v 0 ≡ above_in parents placing v) where
  below_all : (r : ℕ) → r < n → r < g.nodes
  below_all r h = omega (arith, tree.nodes)

  root_above : (r : ℕ) → r < n → entered g.tree r ≡ false → get_or above r 0 ≡ at (take n placing) r
  root_above r h e = is r h ∙ rw (parentless shaped tree r h, e) (sym (get_or-take n placing r 0 h))

  child_above : (r : ℕ) → r < n → entered g.tree r ≡ true → get_or above r 0 ≡ parent g.tree r
  child_above r h e = is r h ∙ rw (parentless shaped tree r h, e) (parent_here shaped tree r h)

  -- which is the start of a tree edge
  child_edge : (r : ℕ) → entered g.tree r ≡ true → TreeEdge g (parent g.tree r) r
  child_edge r e = parent_among g.tree r e

  root_held : (r : ℕ) → r < n → root g r ≡ not (entered g.tree r)
  unfolding root
  root_held r h = rw (lt-ltb r g.nodes (below_all r h))

  -- no tree edge starts from a leaf
  leaf_free : (l : ℕ) → leaf g l ≡ true → left g.tree l ≡ false
  unfolding leaf
  leaf_free l h = not-true (left g.tree l) (and_both (ltb l g.nodes) (not (left g.tree l)) h).1

  pub below_leaf : (l r : ℕ) → leaf g l ≡ true → r < n → entry_is above l r ≡ hangs g (take n placing) l r
  unfolding hangs
  below_leaf l r hl h =
      by_bool (entered g.tree r)
      (λ (e : entered g.tree r ≡ true).
      let other : parent g.tree r ≡ l → ⊥ = λ q. true≢false (sym (left_of_among g.tree (parent g.tree r) r (child_edge r e)) ∙ ap (left g.tree) q ∙ leaf_free l hl) in
      rw (child_above r h e, ne_eqb (parent g.tree r) l other, root_held r h, e, and_false (leaf g l)))
      (λ (e : entered g.tree r ≡ false). rw (root_above r h e, hl, root_held r h, e))

  pub on_top : (r : ℕ) → r < n → entry_is above none r ≡ (root g r && eqb (at (take n placing) r) none)
  on_top r h =
      by_bool (entered g.tree r)
      (λ (e : entered g.tree r ≡ true).
      let node = (shaped.tree_within (parent g.tree r) r (child_edge r e)).0 in
      rw (child_above r h e, ne_eqb (parent g.tree r) none (λ q. omega (arith, node, shaped.few_nodes)), root_held r h, e))
      (λ (e : entered g.tree r ≡ false). rw (root_above r h e, root_held r h, e))
