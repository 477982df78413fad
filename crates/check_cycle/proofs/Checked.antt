-- The tests on the tables are the definition. A cycle's nodes are ends of edges, so below n, and being all different they
-- are n at most. Two edges of a cycle whose nodes are all different join the same two nodes only where there are two
-- nodes. A dominance edge has one end that is a leaf, the one it starts from, for the other is a root.
use Prim.Native.Nat.{ℕ, ◌≤◌, ◌<◌, ◌%◌}
use mathlib.Core.Path.{◌≡◌, sym, ◌∙◌}
use mathlib.Core.List.{List}
use mathlib.Core.Bool.{Bool, true, false, not, ◌&&◌, ◌||◌, true≢false, false≢true}
use mathlib.Core.Logic.{inl, inr, ⊎_elim}
use native.Mathlib.Omega.{arith}
use lib.Dec.{eqb, ltb, leb}
use lib.ListN.{length, get_or}
use borrow.Author.Tests.{eqb-true, eqb-false, eq-eqb, ne_eqb, ltb-true, le-leb, leb-true, leb-false, not-true}
use Rattle.base_finite.specs.Below.{any, all, count}
use Rattle.base_finite.proofs.Laws.{by_bool, or_right, and_both, and_intro, any_at, any_found, any_none, any_false, all_at, all_every, not_holding, test_ext}
use Rattle.graph.specs.Graph.{Graph, among, entered, leaf, parent, DominanceEdge}
use Rattle.graph.specs.Cycle.{pairs, node, kind, next, joined, same_edge, cycle, dominance_at, hypernormal, hypernormal_cycle}
use Rattle.theory_edges.proofs.Edges.{parent_among, parent_only, parent_unentered}
use Rattle.base_finite.proofs.Counting.{count_one, all_apart}
use Rattle.theory_edges.proofs.Pigeonhole.{pigeonhole}
use Rattle.theory_forest.proofs.Shape.{well_formed_shaped}
use Rattle.theory_forest.proofs.Fragments.{leaf_not_root}
use Rattle.theory_refutes.proofs.Cycles.{SameEdge, same_edge_lem, Joined, joined_cases, joined_below, CycleFacts, cycle_facts, DominanceAt, dominance_at_lem, hypernormal_leaf}
use Rattle.base_nodeset.specs.declared.NodeSet.{NodeSet}
use Rattle.base_tables.specs.Rows.{in_row}
use Rattle.base_tables.specs.Tables.{Tables}
use Rattle.base_tables.specs.Trees.{tied_in}
use Rattle.check_cycle.specs.Check.{NodesBelow, sized, fresh, nodes_differ, dominance_joins, joined_in, all_joined, two_kinds, starts_from, starts_at, spare, leaves_differ, check_in}
use Rattle.theory_refutes.proofs.Places.{next_inner, next_last, next_below, edges_differ}
use Rattle.check_cycle.proofs.Scans.{seen_before, used_before, node_new, leaf_first, leaf_second}

-- the tests taken apart

pub sized_two : (n : ℕ) (bs : List ℕ) → sized n bs ≡ true → (length bs % 2 ≡ 0) × (2 ≤ pairs bs)
unfolding sized
sized_two n bs h =
    let a = and_both (eqb (length bs % 2) 0) (leb 2 (pairs bs) && leb (pairs bs) n) h in
    let b = and_both (leb 2 (pairs bs)) (leb (pairs bs) n) a.1 in
    (eqb-true (length bs % 2) 0 a.0, leb-true 2 (pairs bs) b.0)

module _ (n : ℕ) (bs : List ℕ) (h : nodes_differ n bs ≡ true) where
  fresh_at : (i : ℕ) → i < pairs bs → (node bs i < n) × (seen_before bs i (node bs i) ≡ false)
  unfolding nodes_differ fresh
  fresh_at i l =
      let b = and_both (ltb (node bs i) n) (not (seen_before bs i (node bs i))) (all_at (pairs bs) (fresh n bs) h i l) in
      (ltb-true (node bs i) n b.0, not-true (seen_before bs i (node bs i)) b.1)

  pub nodes_below : NodesBelow n bs
  nodes_below i l = (fresh_at i l).0

  different : (i j : ℕ) → i < pairs bs → j < i → node bs i ≡ node bs j → ⊥
  different i j l d = eqb-false (node bs i) (node bs j) (any_false i (λ j. eqb (node bs i) (node bs j)) (fresh_at i l).1 j d)

  -- one edge at two places: only the two edges of two nodes join the same ends, and those differ in kind
  edges_apart : two_kinds bs ≡ true → (i j : ℕ) → i < pairs bs → j < i → SameEdge bs i j → ⊥
  unfolding two_kinds
  edges_apart k =
      edges_differ bs different (λ two same.
      false≢true (rw (eq-eqb (pairs bs) 2 two, eq-eqb (kind bs 0) (kind bs 1) (sym same)) at k))

-- the definition taken apart, where no fact of `cycle_facts` says it

cycle_parts : (g : Graph) (bs : List ℕ) → cycle g bs ≡ true → (eqb (length bs % 2) 0 ≡ true) × (all (pairs bs) (λ i. joined g (kind bs i) (node bs i) (next bs i)) ≡ true)
unfolding cycle
cycle_parts g bs c =
    let even : Bool = eqb (length bs % 2) 0 in
    let two : Bool = leb 2 (pairs bs) in
    let nodes : Bool = all (pairs bs) (λ i. all i (λ j. not (eqb (node bs i) (node bs j)))) in
    let joints : Bool = all (pairs bs) (λ i. joined g (kind bs i) (node bs i) (next bs i)) in
    let edges : Bool = all (pairs bs) (λ i. all i (λ j. not (same_edge bs i j))) in
    let rest = and_both (even && two && nodes) joints (and_both (even && two && nodes && joints) edges c).0 in
    ((and_both even two (and_both (even && two) nodes rest.0).0).0, rest.1)

starts_kind : (heads : List NodeSet) (bs : List ℕ) (i x : ℕ) → starts_at heads bs i x ≡ true → kind bs i ≡ 3
unfolding starts_from
starts_kind heads bs i x s = eqb-true (kind bs i) 3 (and_both (eqb (kind bs i) 3) _ s).0

-- the edges of the tables

module _ (g : Graph) (n : ℕ) (parents : List ℕ) (heads : List NodeSet) (edges : ℕ) (t : Tables g n parents heads edges) where
  few : g.nodes ≤ 128
  few = t.well_formed.few_nodes

  tree_held : (u v : ℕ) → u < g.nodes → v < g.nodes → eqb (get_or parents v 0) u ≡ among g.tree u v
  tree_held u v hu hv =
      let is : get_or parents v 0 ≡ parent g.tree v = t.holds.parent_is v (omega (arith, few)) in
      test_ext (eqb (get_or parents v 0) u) (among g.tree u v)
      (λ e.
      let p : parent g.tree v ≡ u = sym is ∙ eqb-true (get_or parents v 0) u e in
      by_bool (entered g.tree v)
      (λ (i : entered g.tree v ≡ true). rw p at (parent_among g.tree v i))
      (λ (i : entered g.tree v ≡ false). absurd (omega (arith, few, parent_unentered g.tree v i))))
      (λ e. eq-eqb (get_or parents v 0) u (is ∙ sym (parent_only g.tree u v t.holds.one_parent e)))

  joined_held : (k u v : ℕ) → u < g.nodes → v < g.nodes → joined_in parents heads k u v ≡ joined g k u v
  unfolding joined_in joined tied_in dominance_joins
  joined_held k u v hu hv = rw (tree_held u v hu hv, tree_held v u hv hu, t.holds.heads_are u v, t.holds.heads_are v u)

  edge_leaf : (u v : ℕ) → DominanceEdge g u v → leaf g u ≡ true
  edge_leaf u v d = (t.well_formed.leaf_to_root u v d).0

  -- a leaf is not where a dominance edge goes
  not_head : (u v : ℕ) → leaf g v ≡ true → DominanceEdge g u v → ⊥
  not_head u v l d = leaf_not_root g (well_formed_shaped t.well_formed) v l (t.well_formed.leaf_to_root u v d).1

  -- a dominance edge between u and v that is not from u to v is from v to u
  turned : (k u v : ℕ) → k ≡ 3 → in_row heads u v ≡ false → Joined g k u v → DominanceEdge g v u
  turned k u v h e (inl (q, d)) = absurd (omega arith)
  turned k u v h e (inr (q, inl d)) = absurd (true≢false (sym d ∙ sym (t.holds.heads_are u v) ∙ e))
  turned k u v h e (inr (q, inr d)) = d

  -- the leaf of a dominance edge

  module _ (bs : List ℕ) (i : ℕ) (j : Joined g (kind bs i) (node bs i) (next bs i)) where
    starts_leaf : (x : ℕ) → starts_at heads bs i x ≡ true → (leaf g x ≡ true) × DominanceAt bs x i
    starts_leaf x s =
        let u : ℕ = node bs i in
        let v : ℕ = next bs i in
        let three : kind bs i ≡ 3 = starts_kind heads bs i x s in
        by_bool (in_row heads u v)
        (λ (e : in_row heads u v ≡ true).
        let q : x ≡ u = eqb-true x u (sym (leaf_first heads bs i three e x) ∙ s) in
        (rw q (edge_leaf u v (sym (t.holds.heads_are u v) ∙ e)), (three, inl (sym q))))
        (λ (e : in_row heads u v ≡ false).
        let q : x ≡ v = eqb-true x v (sym (leaf_second heads bs i three e x) ∙ s) in
        (rw q (edge_leaf v u (turned (kind bs i) u v three e j)), (three, inr (sym q))))

    leaf_starts : (x : ℕ) → leaf g x ≡ true → DominanceAt bs x i → starts_at heads bs i x ≡ true
    leaf_starts x l d =
        let u : ℕ = node bs i in
        let v : ℕ = next bs i in
        by_bool (in_row heads u v)
        (λ (e : in_row heads u v ≡ true).
        leaf_first heads bs i d.0 e x
        ∙ eq-eqb x u
        (⊎_elim
        (λ (q : u ≡ x). sym q)
        (λ (q : v ≡ x). absurd (not_head u v (rw q l) (sym (t.holds.heads_are u v) ∙ e)))
        d.1))
        (λ (e : in_row heads u v ≡ false).
        leaf_second heads bs i d.0 e x
        ∙ eq-eqb x v
        (⊎_elim
        (λ (q : u ≡ x). absurd (not_head v u (rw q l) (turned (kind bs i) u v d.0 e j)))
        (λ (q : v ≡ x). sym q)
        d.1))

  module _ (bs : List ℕ) where
    -- a cycle passes the tests

    module _ (c : cycle g bs ≡ true) (h : hypernormal g bs ≡ true) where
      facts : CycleFacts g bs
      facts = cycle_facts g bs c

      ends_below : NodesBelow g.nodes bs
      ends_below i l = joined_below g (well_formed_shaped t.well_formed) (kind bs i) (node bs i) (next bs i) (facts.joins i l)

      not_longer : pairs bs ≤ g.nodes
      not_longer =
          by_bool (leb (pairs bs) g.nodes)
          (λ (e : leb (pairs bs) g.nodes ≡ true). leb-true (pairs bs) g.nodes e)
          (λ (e : leb (pairs bs) g.nodes ≡ false).
          let more : g.nodes < pairs bs = leb-false (pairs bs) g.nodes e in
          let r = pigeonhole g.nodes (node bs) (λ i l. ends_below i (omega arith)) in
          let one : r.0 ≡ r.1 = facts.one_place r.0 r.1 (omega (arith, r.2, r.3)) (omega (arith, r.3)) r.4 in
          absurd (omega (arith, r.2, one)))

      passes_sized : sized n bs ≡ true
      unfolding sized
      passes_sized =
          let longest : pairs bs ≤ n = omega (arith, not_longer, t.nodes) in
          rw ((cycle_parts g bs c).0, le-leb 2 (pairs bs) facts.two, le-leb (pairs bs) n longest)

      passes_nodes : nodes_differ n bs ≡ true
      unfolding nodes_differ
      passes_nodes =
          all_every (pairs bs) (fresh n bs) (λ i l.
          node_new n bs i (omega (arith, ends_below i l, t.nodes))
          (any_none i (λ j. eqb (node bs i) (node bs j)) (λ j d.
          ne_eqb (node bs i) (node bs j) (λ e. omega (arith, facts.one_place i j l (omega arith) e)))))

      passes_joined : all_joined parents heads bs ≡ true
      unfolding all_joined
      passes_joined =
          all_every (pairs bs) (λ i. joined_in parents heads (kind bs i) (node bs i) (next bs i)) (λ i l.
          joined_held (kind bs i) (node bs i) (next bs i) (ends_below i l) (next_below bs g.nodes i ends_below l) ∙ all_at (pairs bs) (λ i. joined g (kind bs i) (node bs i) (next bs i)) (cycle_parts g bs c).1 i l)

      passes_kinds : two_kinds bs ≡ true
      unfolding two_kinds
      passes_kinds =
          let no : (eqb (pairs bs) 2 && eqb (kind bs 0) (kind bs 1)) ≡ false =
          not_holding (eqb (pairs bs) 2 && eqb (kind bs 0) (kind bs 1)) (λ b.
          let p = and_both (eqb (pairs bs) 2) (eqb (kind bs 0) (kind bs 1)) b in
          let two : pairs bs ≡ 2 = eqb-true (pairs bs) 2 p.0 in
          let same : SameEdge bs 1 0 = (
            sym (eqb-true (kind bs 0) (kind bs 1) p.1),
            inr (sym (next_inner bs 0 (omega arith)), next_last bs 1 (sym two)),
          ) in
          let one : 1 ≡ 0 = facts.one_edge 1 0 (omega arith) (omega arith) same in
          omega arith)
          in
          rw no

      passes_leaves : leaves_differ heads bs ≡ true
      unfolding leaves_differ spare
      passes_leaves =
          all_every (pairs bs) (spare heads bs) (λ i l.
          let no : any 128 (λ x. used_before heads bs i x && starts_at heads bs i x) ≡ false =
          any_none 128 (λ x. used_before heads bs i x && starts_at heads bs i x) (λ x few.
          not_holding (used_before heads bs i x && starts_at heads bs i x) (λ b.
          let p = and_both (used_before heads bs i x) (starts_at heads bs i x) b in
          let r = any_found i (λ j. starts_at heads bs j x) p.0 in
          let here = starts_leaf bs i (facts.joins i l) x p.1 in
          let there = starts_leaf bs r.0 (facts.joins r.0 (omega (arith, r.1))) x r.2 in
          let one : i ≡ r.0 = hypernormal_leaf g bs h x i r.0 here.0 l (omega (arith, r.1)) here.1 there.1 in
          omega (arith, r.1, one)))
          in
          rw no)

    -- what passes the tests is a cycle

    module _
        (s : sized n bs ≡ true)
        (d : nodes_differ n bs ≡ true)
        (j : all_joined parents heads bs ≡ true)
        (k : two_kinds bs ≡ true)
        (f : leaves_differ heads bs ≡ true) where
      below_n : NodesBelow g.nodes bs
      below_n i l = omega (arith, nodes_below n bs d i l, t.nodes)

      is_joined : (i : ℕ) → i < pairs bs → joined g (kind bs i) (node bs i) (next bs i) ≡ true
      unfolding all_joined
      is_joined i l =
          sym (joined_held (kind bs i) (node bs i) (next bs i) (below_n i l) (next_below bs g.nodes i below_n l))
          ∙ all_at (pairs bs) (λ i. joined_in parents heads (kind bs i) (node bs i) (next bs i)) j i l

      is_cycle : cycle g bs ≡ true
      unfolding cycle
      is_cycle =
          let two = sized_two n bs s in
          let nodes = all_apart (pairs bs) (λ i j. eqb (node bs i) (node bs j)) (λ i j l e q. different n bs d i j l e (eqb-true (node bs i) (node bs j) q)) in
          let joints = all_every (pairs bs) (λ i. joined g (kind bs i) (node bs i) (next bs i)) is_joined in
          let apart = all_apart (pairs bs) (same_edge bs) (λ i j l e q. edges_apart n bs d k i j l e ((same_edge_lem bs i j).0 q)) in
          rw (eq-eqb (length bs % 2) 0 two.0, le-leb 2 (pairs bs) two.1, nodes, joints, apart)

      starts_at_lem : (x i : ℕ) → leaf g x ≡ true → i < pairs bs → dominance_at bs x i ≡ true → starts_at heads bs i x ≡ true
      starts_at_lem x i l h e = leaf_starts bs i (joined_cases g (kind bs i) (node bs i) (next bs i) (is_joined i h)) x l ((dominance_at_lem bs x i).0 e)

      one_edge_each : (x : ℕ) → leaf g x ≡ true → x < 128 → (i j : ℕ) → i < pairs bs → j < i → dominance_at bs x i ≡ true → dominance_at bs x j ≡ true → ⊥
      unfolding leaves_differ spare
      one_edge_each x l b i j h e p q =
          let none = not-true (any 128 (λ x. used_before heads bs i x && starts_at heads bs i x)) (all_at (pairs bs) (spare heads bs) f i h) in
          let free = any_false 128 (λ x. used_before heads bs i x && starts_at heads bs i x) none x b in
          let used : used_before heads bs i x ≡ true = any_at i (λ j. starts_at heads bs j x) j e (starts_at_lem x j l (omega arith) q) in
          true≢false (sym (and_intro (used_before heads bs i x) (starts_at heads bs i x) used (starts_at_lem x i l h p)) ∙ free)

      is_hypernormal : hypernormal g bs ≡ true
      unfolding hypernormal
      is_hypernormal =
          all_every g.nodes (λ x. not (leaf g x) || leb (count (pairs bs) (dominance_at bs x)) 1) (λ x b.
          let c : ℕ = count (pairs bs) (dominance_at bs x) in
          by_bool (leaf g x)
          (λ (l : leaf g x ≡ true). or_right (not (leaf g x)) (leb c 1) (le-leb c 1 (count_one (pairs bs) (dominance_at bs x) (one_edge_each x l (omega (arith, few))))))
          (λ (l : leaf g x ≡ false). rw l))

    pub check_is : check_in n parents heads bs ≡ hypernormal_cycle g bs
    unfolding check_in hypernormal_cycle
    check_is =
        test_ext _ _
        (λ e.
        let a = and_both (sized n bs) _ e in
        let b = and_both (nodes_differ n bs) _ a.1 in
        let j = and_both (all_joined parents heads bs) _ b.1 in
        let k = and_both (two_kinds bs) (leaves_differ heads bs) j.1 in
        rw (is_cycle a.0 b.0 j.0 k.0 k.1, is_hypernormal a.0 b.0 j.0 k.0 k.1))
        (λ e.
        let b = and_both (cycle g bs) (hypernormal g bs) e in
        rw (passes_sized b.0 b.1, passes_nodes b.0 b.1, passes_joined b.0 b.1, passes_kinds b.0 b.1, passes_leaves b.0 b.1))
