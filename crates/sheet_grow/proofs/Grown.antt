-- Tables that hold what a sheet writes hold the grown graph once the bare nodes are stored from n on.
use Prim.Native.Nat.{ℕ, zero, suc, ◌+◌, ◌≤◌, ◌<◌}
use mathlib.Core.Path.{◌≡◌, refl, sym, ap, subst, ◌∙◌}
use mathlib.Core.List.{List, [], ◌∷◌, append-nil}
use mathlib.Core.Bool.{true, false, not}
use native.Mathlib.Omega.{arith}
use lib.Dec.{eqb, ltb}
use lib.ListN.{length, get_or, set}
use lib.Seq.{sets}
use borrow.Author.Tests.{lt-ltb, ltb-true}
use Rattle.base_finite.specs.Below.{count, spread, select}
use Rattle.base_finite.specs.Stores.{Written}
use Rattle.base_finite.proofs.Laws.{by_bool, and_both, neither, count_ext}
use Rattle.base_finite.proofs.Bounds.{count_cut}
use Rattle.base_finite.proofs.Runs.{sets_append, select_length, select_ext, select_cut}
use Rattle.base_nodeset.specs.Set.{mem, Difference}
use Rattle.base_nodeset.specs.declared.NodeSet.{NodeSet}
use Rattle.base_tables.specs.Tables.{Holds}
use Rattle.base_tables.specs.Trees.{InnerSet, RootSet, inner_in, node_in}
use Rattle.base_tables.proofs.Held.{held_more, held_tree}
use Rattle.base_tables.proofs.Parents.{root_held, inner_held}
use Rattle.graph.specs.Graph.{Graph, entered, left, none, bare, added_leaf, grown_tree, grown}
use Rattle.theory_edges.proofs.Growing.{leaf_next, leaf_same, leaf_from, leaf_mono, tree_next, tree_same, unentered_beyond}
use Rattle.sheet_grow.specs.Grow.{BareSet, bare_in}

-- the set of them
pub bare_set : (n : ℕ) (parents : List ℕ) (inner roots r : NodeSet) → InnerSet n parents inner → RootSet n parents roots → Difference roots inner r → BareSet n parents r
unfolding bare_in
bare_set n parents inner roots r is_inner is_roots is v h = is v ∙ rw (is_roots v, is_inner v h)

module _ (n : ℕ) (parents : List ℕ) (s : NodeSet) (is : BareSet n parents s) where
  pub set_counted : count 128 (mem s) ≡ count 128 (bare_in n parents)
  set_counted = count_ext 128 (mem s) (bare_in n parents) is

  pub set_written : {old new : List ℕ} {at r : ℕ} → Written old at (select 128 (mem s)) new r → Written old at (select 128 (bare_in n parents)) new r
  set_written {old} {new} {at} {r} w = subst (λ (bs : List ℕ). Written old at bs new r) (select_ext 128 (mem s) (bare_in n parents) is) w

module _ (g : Graph) (few : g.nodes ≤ 128) (parents : List ℕ) (heads : List NodeSet) (edges : ℕ) (holds : Holds g.nodes g.tree g.dominance parents heads edges) where
  pub bare_held : (v : ℕ) → v < g.nodes → bare_in g.nodes parents v ≡ bare g v
  unfolding bare_in bare
  bare_held v h =
      rw (
        root_held g.nodes g.tree parents few holds.tree_within holds.parent_is v,
        inner_held g.nodes g.tree parents few holds.tree_within holds.parent_is holds.one_parent v h,
        lt-ltb v g.nodes h,
        neither (entered g.tree v) (left g.tree v),
      )

  bare_within : (v : ℕ) → bare_in g.nodes parents v ≡ true → v < g.nodes
  unfolding bare_in node_in
  bare_within v e =
      let is_root = (and_both (node_in g.nodes parents none v) (not (inner_in g.nodes parents v)) e).0 in
      ltb-true v g.nodes (and_both (ltb v g.nodes) (eqb (get_or parents v 0) none) is_root).0

  pub bare_counted : g.nodes + count 128 (bare_in g.nodes parents) ≡ (grown g).nodes
  bare_counted =
      ap (λ (k : ℕ). g.nodes + k)
      (count_cut 128 g.nodes (bare_in g.nodes parents) few (λ v _ e. bare_within v e) ∙ count_ext g.nodes (bare_in g.nodes parents) (bare g) bare_held)

  bare_selected : select 128 (bare_in g.nodes parents) ≡ select g.nodes (bare g)
  bare_selected = select_cut 128 g.nodes (bare_in g.nodes parents) few bare_within ∙ select_ext g.nodes (bare_in g.nodes parents) (bare g) bare_held

  -- one leaf more is one entry more
  select_next : (k : ℕ) → bare g k ≡ true → sets parents g.nodes (select (suc k) (bare g)) ≡ set (sets parents g.nodes (select k (bare g))) (added_leaf g k) k
  unfolding select spread added_leaf
  select_next k e =
      let place : g.nodes + length (select k (bare g)) ≡ g.nodes + count k (bare g) = ap (λ (m : ℕ). g.nodes + m) (select_length k (bare g)) in
      rw e (sym (sets_append (select k (bare g)) parents g.nodes (k ∷ [])) ∙ ap (λ (i : ℕ). set (sets parents g.nodes (select k (bare g))) i k) place)

  select_same : (k : ℕ) → bare g k ≡ false → select (suc k) (bare g) ≡ select k (bare g)
  unfolding select spread
  select_same k e = rw e (append-nil (select k (bare g)))

  start : Holds (added_leaf g 0) (grown_tree g 0) g.dominance (sets parents g.nodes (select 0 (bare g))) heads edges
  unfolding select spread grown_tree
  start = held_more g.nodes g.tree g.dominance parents heads edges holds (added_leaf g 0) (leaf_from g 0)

  module _ (most : (grown g).nodes ≤ 128) where
    -- the last number is the number of nodes
    all_leaves : added_leaf g g.nodes ≡ (grown g).nodes
    unfolding added_leaf
    all_leaves = refl

    -- with the leaves of the nodes below k
    stored_below : (k : ℕ) → k ≤ g.nodes → Holds (added_leaf g k) (grown_tree g k) g.dominance (sets parents g.nodes (select k (bare g))) heads edges
    stored_below zero h = start
    stored_below (suc k) h =
        by_bool (bare g k)
        (λ (e : bare g k ≡ true).
        let now_there : List ℕ = sets parents g.nodes (select k (bare g)) in
        let so_far : Holds (added_leaf g k) (grown_tree g k) g.dominance now_there heads edges = stored_below k (omega (arith, h)) in
        let wider : Holds (added_leaf g (suc k)) (grown_tree g k) g.dominance now_there heads edges =
        held_more (added_leaf g k) (grown_tree g k) g.dominance now_there heads edges so_far (added_leaf g (suc k)) (omega (arith, leaf_next g k e)) in
        rw (tree_next g k e, select_next k e)
        (held_tree (added_leaf g (suc k)) (grown_tree g k) g.dominance now_there heads edges wider (omega (arith, most, all_leaves, leaf_mono g (suc k) g.nodes h)) k (added_leaf g k)
        (omega (arith, h, leaf_from g (suc k)))
        (omega (arith, leaf_next g k e))
        (unentered_beyond (added_leaf g k) (grown_tree g k) (added_leaf g k) so_far.tree_within (omega arith))))
        (λ (e : bare g k ≡ false). rw (leaf_same g k e, tree_same g k e, select_same k e) (stored_below k (omega (arith, h))))

    pub grown_held : (new : List ℕ) (r : ℕ) → Written parents g.nodes (select 128 (bare_in g.nodes parents)) new r
        → (r ≡ (grown g).nodes) × Holds (grown g).nodes (grown g).tree g.dominance new heads edges
    grown_held new r w =
        let number : length (select 128 (bare_in g.nodes parents)) ≡ count 128 (bare_in g.nodes parents) = select_length 128 (bare_in g.nodes parents) in
        let same : new ≡ sets parents g.nodes (select g.nodes (bare g)) = w.stored ∙ ap (sets parents g.nodes) bare_selected in
        (omega (arith, w.after, number, bare_counted), subst (λ (l : List ℕ). Holds (grown g).nodes (grown g).tree g.dominance l heads edges) (sym same) (rw all_leaves at (stored_below g.nodes (omega arith))))
