-- The tables' edges are the graph's, and a placing's bytes are its hangings; so paths over rows that were given these edges are the
-- descent relation.
use Prim.Native.Nat.{ℕ, ◌≤◌, ◌<◌}
use mathlib.Core.Path.{◌≡◌, sym, ◌∙◌}
use mathlib.Core.List.{List}
use mathlib.Core.Bool.{Bool, true}
use mathlib.Core.Logic.{⊎_elim, ◌↔◌}
use native.Mathlib.Omega.{arith}
use lib.Dec.{ltb}
use lib.ListN.{get_or, take}
use lib.Seq.{get_or-take}
use borrow.Author.Tests.{lt-ltb}
use Rattle.base_finite.proofs.Laws.{and_both}
use Rattle.base_nodeset.specs.declared.NodeSet.{NodeSet}
use Rattle.graph.specs.Graph.{Graph, TreeEdge, DominanceEdge, Descent, Path, among, parent, none}
use Rattle.graph.specs.Placing.{placing, at, hangs, Below}
use Rattle.theory_edges.proofs.Edges.{parent_among, parent_only}
use Rattle.theory_edges.proofs.Ends.{leaf_below, root_below}
use Rattle.theory_forest.specs.Shape.{Shaped}
use Rattle.theory_forest.proofs.Shape.{well_formed_shaped}
use Rattle.theory_forest.proofs.Table.{or_holds, hangs_parts}
use Rattle.theory_forest.proofs.Forests.{placing_cases}
use Rattle.base_tables.specs.Trees.{Parents}
use Rattle.base_tables.specs.Rows.{in_row}
use Rattle.base_tables.specs.Tables.{Tables}
use Rattle.solve_descent.specs.Descent.{Edges}
use Rattle.base_tables.proofs.TreeLaws.{tree_of, tables_parents, parent_here, has_parent}
use Rattle.solve_closure.specs.Closing.{Links, link_in, head_in}
use Rattle.solve_closure.proofs.Laws.{path_iff}
use Rattle.solve_closure.proofs.Edges.{Edged, link_parts, link_intro}

-- what the callers' tables have

pub parents_links : {n : ℕ} {parents : List ℕ} → Parents n parents → Links n parents
parents_links p =
    let few = p.few in
    let long = p.long in
    record { long = omega arith; node_or_none = p.node_or_none }

-- a test that is another, which holds where R does
by_test : {R : Type 0} (a b : Bool) → a ≡ b → (b ≡ true) ↔ R → (a ≡ true) ↔ R
by_test a b same holds = (λ t. holds.0 (sym same ∙ t), λ r. same ∙ holds.1 r)

module _ {n : ℕ} {parents : List ℕ} {heads : List NodeSet} {edges : ℕ} (g : Graph) (t : Tables g n parents heads edges) where
  shaped : Shaped g
  shaped = well_formed_shaped t.well_formed

  few : n ≤ 128
  few = (tables_parents t).few

  tree_link : (u v : ℕ) → (link_in n parents u v ≡ true) ↔ TreeEdge g u v
  tree_link u v = (
    λ h.
        let x = link_parts n parents u v h in
        let is = parent_here shaped (tree_of t) v x.0 in
        let there : among g.tree (parent g.tree v) v ≡ true = parent_among g.tree v (has_parent shaped (tree_of t) v x.0 x.1) in
        rw (x.2, is) there,
    λ h.
        let same = t.nodes in
        let f = few in
        let b = t.well_formed.tree_within u v h in
        let below : v < n = omega (arith, b.1) in
        let is : u ≡ get_or parents v 0 = parent_only g.tree u v t.well_formed.one_parent h ∙ sym (parent_here shaped (tree_of t) v below) in
        link_intro n parents u v below (λ e. omega (arith, b.0)) is,
  )

  dominance_head : (u v : ℕ) → (head_in n heads u v ≡ true) ↔ DominanceEdge g u v
  dominance_head u v = (
    λ h. sym (t.holds.heads_are u v) ∙ (and_both (ltb u n) (in_row heads u v) h).1,
    λ h.
        let same = t.nodes in
        let b = t.holds.dominance_within u v h in
        rw (lt-ltb u n (omega (arith, b.0))) (t.holds.heads_are u v ∙ h),
  )

  -- paths over the rows that were given the tables' edges
  pub graph_paths : {edged : List NodeSet} → Edged (link_in n parents) (head_in n heads) edged → (u v : ℕ) → Path (Edges edged) u v ↔ Descent g u v
  graph_paths is = path_iff (λ u v. by_test _ _ (is.row_is u v) (or_holds (link_in n parents u v) (head_in n heads u v) (tree_link u v) (dominance_head u v)))

  module _ (bytes : List ℕ) (is_placing : placing g (take n bytes) ≡ true) where
    byte : (v : ℕ) → v < n → at (take n bytes) v ≡ get_or bytes v 0
    byte v h = get_or-take n bytes v 0 h

    node : (v : ℕ) → v < n → v < g.nodes
    node v h = let same = t.nodes in omega arith

    hanging_link : (u v : ℕ) → (link_in n bytes u v ≡ true) ↔ (hangs g (take n bytes) u v ≡ true)
    hanging_link u v = (
      λ h.
          let x = link_parts n bytes u v h in
          let is : u ≡ at (take n bytes) v = x.2 ∙ sym (byte v x.0) in
          ⊎_elim
          (λ (e : at (take n bytes) v ≡ none). absurd (x.1 (sym (byte v x.0) ∙ e)))
          (λ (k : hangs g (take n bytes) (at (take n bytes) v) v ≡ true). rw is k)
          (placing_cases g (take n bytes) v is_placing (node v x.0)),
      λ h.
          let same = t.nodes in
          let f = few in
          let b = hangs_parts g (take n bytes) u v h in
          let below : v < n = omega (arith, root_below g v b.1) in
          let is : u ≡ get_or bytes v 0 = sym b.2 ∙ byte v below in
          link_intro n bytes u v below (λ e. omega (arith, leaf_below g u b.0)) is,
    )

    pub placing_paths : {edged : List NodeSet} → Edged (link_in n parents) (link_in n bytes) edged → (u v : ℕ) → Path (Edges edged) u v ↔ Below g (take n bytes) u v
    placing_paths is = path_iff (λ u v. by_test _ _ (is.row_is u v) (or_holds (link_in n parents u v) (link_in n bytes u v) (tree_link u v) (hanging_link u v)))
