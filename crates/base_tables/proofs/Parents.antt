-- A table of parents that holds tree edges: which nodes have a parent, are roots, are inner. Its roots and inner nodes, one
-- entry more.
use Prim.Native.Nat.{ℕ, ◌+◌, ◌≤◌, ◌<◌}
use mathlib.Core.Path.{◌≡◌, refl, sym, ◌∙◌}
use mathlib.Core.List.{List}
use mathlib.Core.Bool.{true, false, not, ◌||◌, ◌&&◌}
use native.Mathlib.Omega.{arith}
use lib.Dec.{eqb, ltb}
use lib.ListN.{get_or}
use borrow.Author.Tests.{eq-eqb, ne_eqb, eqb-true, eqb-false, lt-ltb, le-ltb, ltb-true, ltb-false}
use Rattle.base_finite.specs.Below.{any}
use Rattle.base_finite.proofs.Laws.{by_bool, test_ext, any_at, any_found, any_more, not_not}
use Rattle.base_nodeset.specs.declared.NodeSet.{NodeSet}
use Rattle.graph.specs.Graph.{Edge, entered, left, single, parent, none}
use Rattle.theory_edges.proofs.Edges.{parent_among, parent_unentered, parent_only, left_of_among, left_found}
use Rattle.theory_edges.specs.Edges.{Within}
use Rattle.base_tables.specs.Tables.{Holds}
use Rattle.base_tables.specs.Trees.{Parents, inner_in, node_in, root_in}

-- a parent table shows which nodes have one
pub parent_tells : (n : ℕ) (t : List Edge) (v : ℕ) → n ≤ 128 → Within n t → entered t v ≡ not (eqb (parent t v) none)
parent_tells n t v h w =
    by_bool (entered t v)
    (λ (e : entered t v ≡ true).
    let b = w (parent t v) v (parent_among t v e) in
    rw (e, ne_eqb (parent t v) none (λ q. omega (arith, b.0))))
    (λ (e : entered t v ≡ false). rw (e, eq-eqb (parent t v) none (parent_unentered t v e)))

module _ (n : ℕ) (t : List Edge) (parents : List ℕ) (few : n ≤ 128) (within : Within n t) (parent_is : (v : ℕ) → v < 128 → get_or parents v 0 ≡ parent t v) where
  pub parentless : (v : ℕ) → v < n → eqb (get_or parents v 0) none ≡ not (entered t v)
  parentless v h = rw (parent_is v (omega arith), parent_tells n t v few within, not_not)

  pub parent_node : (v : ℕ) → v < n → (get_or parents v 0 ≡ none → ⊥) → get_or parents v 0 < n
  parent_node v h some =
      by_bool (entered t v)
      (λ (e : entered t v ≡ true).
      let w = within (parent t v) v (parent_among t v e) in
      omega (arith, w.0, parent_is v (omega arith)))
      (λ (e : entered t v ≡ false). absurd (some (parent_is v (omega arith) ∙ parent_unentered t v e)))

  pub root_held : (v : ℕ) → root_in n parents v ≡ (ltb v n && not (entered t v))
  unfolding node_in
  root_held v =
      by_bool (ltb v n)
      (λ (e : ltb v n ≡ true). rw (e, parentless v (ltb-true v n e)))
      (λ (e : ltb v n ≡ false). rw e)

  pub inner_held : single t ≡ true → (v : ℕ) → v < n → inner_in n parents v ≡ left t v
  unfolding inner_in
  inner_held one_parent v h =
      test_ext (any n (λ c. eqb (get_or parents c 0) v)) (left t v)
      (λ e.
      let r = any_found n (λ c. eqb (get_or parents c 0) v) e in
      let is : parent t r.0 ≡ v = sym (parent_is r.0 (omega (arith, r.1))) ∙ eqb-true (get_or parents r.0 0) v r.2 in
      by_bool (entered t r.0)
      (λ (i : entered t r.0 ≡ true). left_of_among t v r.0 (rw is at (parent_among t r.0 i)))
      (λ (i : entered t r.0 ≡ false). absurd (omega (arith, parent_unentered t r.0 i))))
      (λ e.
      let r = left_found t v e in
      let w = within v r.0 r.1 in
      any_at n (λ c. eqb (get_or parents c 0) v) r.0 w.1
      (eq-eqb (get_or parents r.0 0) v (parent_is r.0 (omega (arith, w.1)) ∙ sym (parent_only t v r.0 one_parent r.1))))

pub parents_held : (n : ℕ) (t d : List Edge) (parents : List ℕ) (heads : List NodeSet) (edges : ℕ) → n ≤ 128 → Holds n t d parents heads edges → Parents n parents
parents_held n t d parents heads edges few h =
    record {
      few = few;
      long = h.parents_long;
      node_or_none = parent_node n t parents few h.tree_within h.parent_is;
    }

-- one entry more

pub inner_none : (parents : List ℕ) (u : ℕ) → inner_in 0 parents u ≡ false
unfolding inner_in any
inner_none parents u = refl

pub inner_more : (v : ℕ) (parents : List ℕ) (u : ℕ) → inner_in (v + 1) parents u ≡ (inner_in v parents u || eqb (get_or parents v 0) u)
unfolding inner_in
inner_more v parents u = any_more v (λ c. eqb (get_or parents c 0) u)

pub nodes_none : (table : List ℕ) (x u : ℕ) → node_in 0 table x u ≡ false
unfolding node_in
nodes_none table x u = rw (le-ltb u 0 (omega arith))

pub nodes_more : (v : ℕ) (table : List ℕ) (x u : ℕ) → node_in (v + 1) table x u ≡ (eqb u v && eqb (get_or table v 0) x || node_in v table x u)
unfolding node_in
nodes_more v table x u =
    by_bool (eqb u v)
    (λ (e : eqb u v ≡ true).
    let q : u ≡ v = eqb-true u v e in
    rw (e, q, lt-ltb v (v + 1) (omega arith), le-ltb v v (omega arith)) (by_bool (eqb (get_or table v 0) x) (λ f. rw f) (λ f. rw f)))
    (λ (e : eqb u v ≡ false).
    let other : u ≡ v → ⊥ = eqb-false u v e in
    rw e
    (by_bool (ltb u v)
    (λ (f : ltb u v ≡ true). rw (f, lt-ltb u (v + 1) (omega (arith, ltb-true u v f))))
    (λ (f : ltb u v ≡ false).
    rw (f, le-ltb u (v + 1) (omega (arith, ltb-false u v f))))))
