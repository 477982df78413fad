-- What a table of parents says of a graph whose trees it holds: roots, inner nodes, leaves and the way up to a root.
use Prim.Native.Nat.{ℕ, zero, suc, ◌≤◌, ◌<◌}
use mathlib.Core.Path.{◌≡◌, refl, sym, ◌∙◌}
use mathlib.Core.List.{List}
use mathlib.Core.Bool.{true, false, not}
use native.Mathlib.Omega.{arith}
use lib.Dec.{eqb, ltb}
use lib.ListN.{get_or}
use borrow.Author.Tests.{lt-ltb, ltb-true, not-true, not-false, eq-eqb, ne_eqb}
use Rattle.base_finite.proofs.Laws.{by_bool, and_both}
use Rattle.base_nodeset.specs.Set.{mem, Difference}
use Rattle.base_nodeset.specs.declared.NodeSet.{NodeSet}
use Rattle.graph.specs.Graph.{Graph, entered, left, parent, top, root, leaf, own, none}
use Rattle.theory_edges.proofs.Edges.{parent_among}
use Rattle.theory_forest.specs.Shape.{Shaped}
use Rattle.theory_edges.specs.Edges.{Within}
use Rattle.base_tables.specs.Trees.{Parents, InnerSet, RootSet, inner_in, node_in, root_in, TreeOf, top_in}
use Rattle.base_tables.proofs.Parents as held
use Rattle.base_tables.proofs.Parents.{parents_held}
use Rattle.base_tables.specs.Tables.{Tables}

-- the tables of a sheet's graph hold its trees
pub tree_of : {g : Graph} {n : ℕ} {parents : List ℕ} {heads : List NodeSet} {edges : ℕ} → Tables g n parents heads edges → TreeOf g n parents
tree_of t = record { nodes = t.nodes; parent_is = t.holds.parent_is }

pub tables_parents : {g : Graph} {n : ℕ} {parents : List ℕ} {heads : List NodeSet} {edges : ℕ} → Tables g n parents heads edges → Parents n parents
tables_parents t = rw t.nodes (parents_held _ _ _ _ _ _ t.well_formed.few_nodes t.holds)

pub roots_within : (n : ℕ) (parents : List ℕ) (roots : NodeSet) → RootSet n parents roots → (v : ℕ) → mem roots v ≡ true → v < n
unfolding node_in
roots_within n parents roots is v m =
    ltb-true v n (and_both (ltb v n) (eqb (get_or parents v 0) none) (sym (is v) ∙ m)).0

pub leaves_within : (n : ℕ) (all inner r : NodeSet) → ((v : ℕ) → mem all v ≡ ltb v n) → Difference all inner r → (v : ℕ) → mem r v ≡ true → v < n
leaves_within n all inner r is_all is v m =
    ltb-true v n (sym (is_all v) ∙ (and_both (mem all v) (not (mem inner v)) (sym (is v) ∙ m)).0)

module _ {g : Graph} (s : Shaped g) {n : ℕ} {parents : List ℕ} (t : TreeOf g n parents) where
  pub few : n ≤ 128
  few = omega (arith, t.nodes, s.few_nodes)

  within : Within n g.tree
  within u v e =
      let b = s.tree_within u v e in
      (omega (arith, b.0, t.nodes), omega (arith, b.1, t.nodes))

  pub parent_here : (v : ℕ) → v < n → get_or parents v 0 ≡ parent g.tree v
  parent_here v h = t.parent_is v (omega (arith, few))

  pub parentless : (v : ℕ) → v < n → eqb (get_or parents v 0) none ≡ not (entered g.tree v)
  parentless = held.parentless n g.tree parents few within t.parent_is

  pub no_parent : (v : ℕ) → v < n → get_or parents v 0 ≡ none → entered g.tree v ≡ false
  no_parent v h e = not-true (entered g.tree v) (sym (parentless v h) ∙ eq-eqb (get_or parents v 0) none e)

  pub has_parent : (v : ℕ) → v < n → (get_or parents v 0 ≡ none → ⊥) → entered g.tree v ≡ true
  has_parent v h d = not-false (entered g.tree v) (sym (parentless v h) ∙ ne_eqb (get_or parents v 0) none d)

  pub root_is : (v : ℕ) → root_in n parents v ≡ root g v
  unfolding root
  root_is v = rw (← t.nodes) (held.root_held n g.tree parents few within t.parent_is v)

  pub roots_are : (roots : NodeSet) → RootSet n parents roots → (v : ℕ) → mem roots v ≡ root g v
  roots_are roots is v = is v ∙ root_is v

  pub inner_is : (v : ℕ) → v < n → inner_in n parents v ≡ left g.tree v
  inner_is = held.inner_held n g.tree parents few within t.parent_is s.one_parent

  -- a leaf is a node that is not inner
  pub leaf_is : (inner : NodeSet) → InnerSet n parents inner → (v : ℕ) → v < n → leaf g v ≡ not (mem inner v)
  unfolding leaf
  leaf_is inner is v h = rw (lt-ltb v g.nodes (omega (arith, t.nodes)), is v (omega (arith, few)), inner_is v h)

  top_held : (k v : ℕ) → v < n → top_in k parents v ≡ top k g.tree v
  unfolding top_in top
  top_held zero v h = refl
  top_held (suc k) v h =
      by_bool (entered g.tree v)
      (λ (e : entered g.tree v ≡ true).
      let up = within (parent g.tree v) v (parent_among g.tree v e) in
      rw (parentless v h, e, parent_here v h) (top_held k (parent g.tree v) up.0))
      (λ (e : entered g.tree v ≡ false). rw (parentless v h, e))

  pub own_is : (v : ℕ) → v < n → top_in n parents v ≡ own g v
  unfolding own
  own_is v h = rw (← t.nodes) (top_held n v h)

  -- the nodes that are no node's parent are the leaves
  pub leaves_of : (all inner r : NodeSet) → ((v : ℕ) → mem all v ≡ ltb v n) → InnerSet n parents inner → Difference all inner r → (v : ℕ) → mem r v ≡ leaf g v
  unfolding leaf
  leaves_of all inner r is_all is_inner is v =
      is v
      ∙ rw (is_all v, ← t.nodes)
      (by_bool (ltb v n)
      (λ (e : ltb v n ≡ true).
      let h : v < n = ltb-true v n e in
      rw (e, is_inner v (omega (arith, few)), inner_is v h))
      (λ (e : ltb v n ≡ false). rw e))
