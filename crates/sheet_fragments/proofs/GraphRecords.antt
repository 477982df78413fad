-- The records read off the tables are those of the graph that the tables hold.
use Prim.Native.Nat.{ℕ, ◌≤◌, ◌<◌}
use mathlib.Core.Path.{◌≡◌, refl, sym, ap, ◌∙◌}
use mathlib.Core.List.{List, [], ◌∷◌}
use mathlib.Core.Bool.{true, false, cond}
use native.Mathlib.Nat.{one-mul}
use native.Mathlib.Omega.{arith}
use lib.Dec.{ltb}
use lib.ListN.{length, get_or, take, length-take}
use borrow.Author.Tests.{ltb-true}
use Rattle.base_finite.specs.Below.{count, least}
use Rattle.base_finite.proofs.Laws.{by_bool, and_true, and_false, count_ext, spread_ext}
use Rattle.base_nodeset.specs.Set.{mem}
use Rattle.base_nodeset.specs.declared.NodeSet.{NodeSet}
use Rattle.base_finite.proofs.Bounds.{least_ext, count_cut, least_cut}
use Rattle.base_finite.proofs.Runs.{length_spread}
use Rattle.graph.specs.Graph.{Graph, left, root, leaf, leaf_of}
use Rattle.graph.specs.Rule1.{lowest_leaf_of}
use Rattle.graph.specs.Table.{fragment, fragments}
use Rattle.theory_edges.proofs.Ends.{root_below, leaf_below}
use Rattle.theory_forest.specs.Shape.{Shaped}
use Rattle.theory_forest.proofs.Shape.{well_formed_shaped}
use Rattle.theory_forest.proofs.Fragments.{root_leaf, leaf_of_parts}
use Rattle.base_tables.specs.Tables.{Tables}
use Rattle.base_tables.specs.Trees.{InnerSet, RootSet, TreeOf, top_in, Filled as Owned, node_in}
use Rattle.base_tables.proofs.TreeLaws.{tree_of, roots_are, inner_is, own_is}
use Rattle.sheet_fragments.specs.Owner.{leaf_in, fragment_in, records_in, records_below, RecordsOf}
use Rattle.sheet_fragments.specs.Records.{FragmentsOf, FragmentsIn}
use Rattle.sheet_fragments.specs.declared.records.Records.{Records}

-- as many records as roots
pub fragments_length : (g : Graph) → length (fragments g) ≡ count g.nodes (root g)
unfolding fragments
fragments_length g = length_spread 1 g.nodes (root g) (λ r. fragment g r ∷ []) (λ r. refl) ∙ one-mul (count g.nodes (root g))

pub roots_counted : {g : Graph} {n : ℕ} {parents : List ℕ} {heads : List NodeSet} {edges : ℕ} → Tables g n parents heads edges
    → (roots : NodeSet) → RootSet n parents roots → count 128 (mem roots) ≡ length (fragments g)
roots_counted {g} t roots is_roots =
    let shaped = well_formed_shaped t.well_formed in
    count_ext 128 (mem roots) (root g) (λ v _. roots_are shaped (tree_of t) roots is_roots v)
    ∙ count_cut 128 g.nodes (root g) shaped.few_nodes (λ v _ h. root_below g v h)
    ∙ sym (fragments_length g)

module _ (g : Graph) (parents : List ℕ) (shaped : Shaped g) (tree : TreeOf g g.nodes parents) where
  few : g.nodes ≤ 128
  few = shaped.few_nodes

  module _ (roots inner : NodeSet) (owner : List ℕ) (is_roots : RootSet g.nodes parents roots) (is_inner : InnerSet g.nodes parents inner)
      (is_owner : (v : ℕ) → v < g.nodes → get_or owner v 0 ≡ top_in g.nodes parents v) where
    root_mem : (v : ℕ) → mem roots v ≡ root g v
    root_mem = roots_are shaped tree roots is_roots

    leaf_held : (r v : ℕ) → leaf_in g.nodes owner inner r v ≡ leaf_of g r v
    unfolding leaf_in node_in leaf_of leaf
    leaf_held r v =
        by_bool (ltb v g.nodes)
        (λ (e : ltb v g.nodes ≡ true).
        let lt : v < g.nodes = ltb-true v g.nodes e in
        rw (e, is_owner v lt, own_is shaped tree v lt, is_inner v (omega (arith, few)), inner_is shaped tree v lt)
        (by_bool (left g.tree v) (λ f. rw (f, and_false)) (λ f. rw (f, and_true))))
        (λ (e : ltb v g.nodes ≡ false). rw e)

    lowest_held : (r : ℕ) → root g r ≡ true → least 128 (leaf_in g.nodes owner inner r) ≡ lowest_leaf_of g r
    unfolding lowest_leaf_of
    lowest_held r h =
        let x = root_leaf g shaped r h in
        least_ext 128 _ _ (λ v _. leaf_held r v)
        ∙ least_cut 128 g.nodes (leaf_of g r) x.0 few (leaf_below g x.0 (leaf_of_parts g r x.0 x.1).0) x.1

    count_held : (r : ℕ) → count 128 (leaf_in g.nodes owner inner r) ≡ count g.nodes (leaf_of g r)
    count_held r =
        count_ext 128 _ _ (λ v _. leaf_held r v)
        ∙ count_cut 128 g.nodes (leaf_of g r) few (λ v _ t. leaf_below g v (leaf_of_parts g r v t).0)

    record_held : (r : ℕ) → cond (mem roots r) (fragment_in g.nodes owner inner r ∷ []) [] ≡ cond (root g r) (fragment g r ∷ []) []
    unfolding fragment_in fragment
    record_held r =
        rw (root_mem r)
        (by_bool (root g r) (λ (t : root g r ≡ true). rw (t, lowest_held r t, count_held r)) (λ (t : root g r ≡ false). rw t))

    records_held : records_in g.nodes owner inner roots ≡ fragments g
    unfolding records_below fragments
    records_held = spread_ext g.nodes _ _ (λ r _. record_held r)

    fragments_of : (r : Records) → RecordsOf g.nodes owner inner roots r → FragmentsOf g r
    fragments_of r of =
        let are : take r.count r.fragments ≡ fragments g = of.are ∙ records_held in
        record {
          are = are;
          counted = omega (arith, length-take r.count r.fragments, ap length are, of.few, of.long, few);
          few = omega (arith, of.few, few);
        }

pub tabulated : (n : ℕ) (parents start owner : List ℕ) (roots inner : NodeSet) (r : Records) → RootSet n parents roots → InnerSet n parents inner
    → Owned n parents start owner n → RecordsOf n owner inner roots r → FragmentsIn n parents r
tabulated n parents start owner roots inner r is_roots is_inner is_owner of g heads edges t =
    let e = t.nodes in
    fragments_of g parents (well_formed_shaped t.well_formed) (rw e at (tree_of t)) roots inner owner (rw e at is_roots) (rw e at is_inner) (rw e at is_owner.top_is) r (rw e at of)
