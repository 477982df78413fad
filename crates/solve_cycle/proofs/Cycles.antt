-- The tables' edges are the graph's. So the search finds whatever is connected with the root, and its way back, closed by
-- the edge that was taken out of a minimal set, is a simple hypernormal cycle.
use Prim.Native.Nat.{ℕ, ◌+◌, ◌*◌, ◌≤◌, ◌<◌}
use mathlib.Core.Path.{◌≡◌, sym, ap, subst, ◌∙◌}
use mathlib.Core.List.{List}
use mathlib.Core.Bool.{Bool, true, false, ◌||◌, true≢false}
use mathlib.Core.Logic.{inl, inr, ⊎_elim}
use native.Mathlib.Omega.{arith}
use native.Mathlib.Nat.{eq-or-lt_of_le}
use lib.Dec.{eqb}
use lib.ListN.{length, get_or, set, take, length-set}
use lib.Seq.{get_or-set_same, get_or-set_other, drop-set-lt, length-take-le, get_or-take}
use borrow.Author.Tests.{eq-eqb, eqb-true}
use Rattle.base_finite.specs.Below.{any, least}
use Rattle.base_finite.proofs.Laws.{by_bool, or_left, or_right, or_cases, or_comm, any_at, any_found, least_at, least_holds}
use Rattle.graph.specs.Graph.{Graph, among, different, entered, parent, none, TreeEdge, DominanceEdge, GraphEdge}
use Rattle.graph.specs.Order.{without, removed}
use Rattle.graph.specs.Cycle.{pairs, node, kind, hypernormal_cycle}
use Rattle.theory_edges.proofs.Edges.{parent_among, parent_only, parent_unentered}
use Rattle.theory_forest.specs.Shape.{Shaped}
use Rattle.theory_forest.proofs.Shape.{well_formed_shaped}
use Rattle.theory_forest.proofs.Table.{graph_edge_within}
use Rattle.theory_forest.proofs.Fragments.{leaf_not_root}
use Rattle.theory_edges.specs.Edges.{over}
use Rattle.theory_cycle.specs.Connected.{Connected}
use Rattle.theory_cycle.proofs.Connected.{connected_carry}
use Rattle.theory_cycle.proofs.Trails.{EitherWay}
use Rattle.theory_cycle.proofs.Spelt.{Step, Spelt, spelt_hypernormal}
use Rattle.theory_cycle.proofs.Minimal.{Others, joined_without, minimal_sparse, some_edge}
use Rattle.base_tables.specs.Rows.{in_row}
use Rattle.base_nodeset.specs.declared.NodeSet.{NodeSet}
use Rattle.base_tables.specs.declared.Graph.{Graph as Value}
use Rattle.base_tables.specs.Tables.{Tables}
use Rattle.solve_cycle.specs.Thinning.{TakenOut, Thinned, before}
use Rattle.base_tables.specs.Trees.{tied_in}
use Rattle.solve_cycle.specs.Searching.{joined_in, seen_in, Queue, Searched}
use Rattle.solve_cycle.specs.Spelling.{kind_in, Back, WayBack, Linked, Ring}
use Rattle.solve_cycle.proofs.Thins.{removed_tables, row_within, thinned_minimal, thinned_shaped}
use Rattle.solve_cycle.proofs.Searches.{few_found, seen_other}
use Rattle.solve_cycle.proofs.Spells.{drop_more}

module _ (h : Graph) (n : ℕ) (parents : List ℕ) (heads : List NodeSet) (edges : ℕ) (t : Tables h n parents heads edges) where
  pub few_nodes : n ≤ 128
  few_nodes = omega (arith, t.nodes, t.well_formed.few_nodes)

  -- the tree edges

  parent_edge : (u v : ℕ) → u < n → v < n → get_or parents v 0 ≡ u → TreeEdge h u v
  parent_edge u v a b e =
      let f = few_nodes in
      let is : parent h.tree v ≡ u = sym (t.holds.parent_is v (omega arith)) ∙ e in
      by_bool (entered h.tree v)
      (λ (y : entered h.tree v ≡ true). subst (λ (x : ℕ). among h.tree x v ≡ true) is (parent_among h.tree v y))
      (λ (z : entered h.tree v ≡ false).
      let q : u ≡ none = sym is ∙ parent_unentered h.tree v z in
      absurd (omega arith))

  edge_parent : (u v : ℕ) → TreeEdge h u v → get_or parents v 0 ≡ u
  edge_parent u v e =
      let w = t.well_formed.tree_within u v e in
      t.holds.parent_is v (omega (arith, w.1, t.well_formed.few_nodes)) ∙ sym (parent_only h.tree u v t.well_formed.one_parent e)

  -- an edge joins its ends, either way

  joined_forth : (u v : ℕ) → GraphEdge h u v → joined_in parents heads u v ≡ true
  unfolding joined_in tied_in
  joined_forth u v (inl e) = rw (eq-eqb (get_or parents v 0) u (edge_parent u v e))
  joined_forth u v (inr e) =
      or_right (tied_in parents u v) (in_row heads u v || in_row heads v u) (or_left (in_row heads u v) (in_row heads v u) (t.holds.heads_are u v ∙ e))

  joined_back : (u v : ℕ) → GraphEdge h v u → joined_in parents heads u v ≡ true
  unfolding joined_in tied_in
  joined_back u v (inl e) =
      or_left (tied_in parents u v) (in_row heads u v || in_row heads v u)
      (or_right (eqb (get_or parents v 0) u) (eqb (get_or parents u 0) v) (eq-eqb (get_or parents u 0) v (edge_parent v u e)))
  joined_back u v (inr e) =
      or_right (tied_in parents u v) (in_row heads u v || in_row heads v u) (or_right (in_row heads u v) (in_row heads v u) (t.holds.heads_are v u ∙ e))

  tied_edge : (u v : ℕ) → u < n → v < n → tied_in parents u v ≡ true → EitherWay (TreeEdge h) u v
  unfolding tied_in
  tied_edge u v a b y =
      ⊎_elim
      (λ (e : eqb (get_or parents v 0) u ≡ true). inl (parent_edge u v a b (eqb-true (get_or parents v 0) u e)))
      (λ (e : eqb (get_or parents u 0) v ≡ true). inr (parent_edge v u b a (eqb-true (get_or parents u 0) v e)))
      (or_cases (eqb (get_or parents v 0) u) (eqb (get_or parents u 0) v) y)

  tied_swap : (u v : ℕ) → tied_in parents u v ≡ tied_in parents v u
  unfolding tied_in
  tied_swap u v = or_comm (eqb (get_or parents v 0) u) (eqb (get_or parents u 0) v)

  -- a joint is an edge of the kind that is spelled
  pub joined_step : (u v : ℕ) → u < n → v < n → joined_in parents heads v u ≡ true → Step h (DominanceEdge h) (kind_in parents u v) u v
  unfolding joined_in kind_in
  joined_step u v a b j =
      by_bool (tied_in parents u v)
      (λ (y : tied_in parents u v ≡ true). inl (rw y, tied_edge u v a b y))
      (λ (z : tied_in parents u v ≡ false).
      inr (
        rw z,
        ⊎_elim
            (λ (e : tied_in parents v u ≡ true). absurd (true≢false (sym e ∙ sym (tied_swap u v) ∙ z)))
            (λ (e : (in_row heads v u || in_row heads u v) ≡ true).
            ⊎_elim
            (λ (m : in_row heads v u ≡ true). inr (sym (t.holds.heads_are v u) ∙ m))
            (λ (m : in_row heads u v ≡ true). inl (sym (t.holds.heads_are u v) ∙ m))
            (or_cases (in_row heads v u) (in_row heads u v) e))
            (or_cases (tied_in parents v u) (in_row heads v u || in_row heads u v) j),
      ))

  -- what is connected with the root is found
  module _ (root : ℕ) (queue came place : List ℕ) (found : ℕ) (s : Searched n (joined_in parents heads) root found queue came place found) where
    Found : ℕ → Type 0
    Found v = (v < n) × (seen_in place v ≡ true)

    root_found : Found root
    unfolding Found
    root_found =
        let b = s.holds.node_at 0 s.holds.some in
        let at_root : ◌≡◌ {A = ℕ} (get_or place root 0) 0 = ap (λ (x : ℕ). get_or place x 0) (sym s.first) ∙ b.1 in
        (omega (arith, b.0, s.first), seen_other place root (λ e. omega (arith, e, at_root)))

    goes_on : (v w : ℕ) → w < n → joined_in parents heads v w ≡ true → Found v → Found w
    unfolding Found
    goes_on v w b j f =
        let p = s.holds.place_of v f.0 f.1 in
        (b, s.closed (get_or place v 0) w p.0 b (rw p.1 j))

    within : (u v : ℕ) → GraphEdge h u v → (u < n) × (v < n)
    within u v e =
        let w = graph_edge_within h (well_formed_shaped t.well_formed) u v e in
        (omega (arith, w.0, t.nodes), omega (arith, w.1, t.nodes))

    pub connected_found : (v : ℕ) → Connected (GraphEdge h) root v → (get_or place v 0 < found) × (get_or queue (get_or place v 0) 0 ≡ v)
    unfolding Found
    connected_found v c =
        let f = connected_carry Found
        (λ v w e. goes_on v w (within v w e).1 (joined_forth v w e))
        (λ v w e. goes_on v w (within w v e).0 (joined_back v w e)) c root_found in
        s.holds.place_of v f.0 f.1

-- the place of l
pub linked_found : (value : Value) (l r : ℕ) (k : Linked value l r) (queue came place : List ℕ) (found : ℕ) → Searched value.n (joined_in value.parent value.heads) r found queue came place found
    → (get_or place l 0 < found) × (get_or queue (get_or place l 0) 0 ≡ l) × (found ≤ value.n) × (value.n ≤ 128)
linked_found value l r k queue came place found s =
    let f = connected_found k.graph value.n value.parent value.heads k.edges k.tables r queue came place found s l k.connected in
    (f.0, f.1, few_found value.n (joined_in value.parent value.heads) queue came place found s.holds, few_nodes k.graph value.n value.parent value.heads k.edges k.tables)

-- the way back

module _ (n : ℕ) (joined : ℕ → ℕ → Bool) (queue came place : List ℕ) (found : ℕ) (few : n ≤ 128) (q : Queue n joined queue came place found) (at : ℕ) (here : at < found) where
  pub queue_back : Back queue came at
  queue_back =
      let some = few_found n joined queue came place found q in
      record {
        queue_long = q.queue_long;
        came_long = q.came_long;
        at_small = omega arith;
        small = λ k h. omega (arith, (q.node_at k (omega arith)).0);
        different = λ i j h l e.
            let same : i ≡ j = sym (q.node_at i (omega arith)).1 ∙ ap (λ (x : ℕ). get_or place x 0) e ∙ (q.node_at j (omega arith)).1 in
            omega arith;
        earlier = λ k p h. (q.came_from k p (omega arith)).0;
      }

module _
    (value : Value)
    (queue came place : List ℕ)
    (found : ℕ)
    (q : Queue value.n (joined_in value.parent value.heads) queue came place found)
    (at l r : ℕ)
    (here : at < found)
    (of_leaf : get_or queue at 0 ≡ l)
    (is_root : get_or queue 0 0 ≡ r)
    (old new : List ℕ)
    (c : ℕ)
    (long : 2 * value.n ≤ length old)
    (t : WayBack value.parent queue came at 0 old new c) where
  in_room : c + 1 ≤ value.n
  in_room = let some = few_found value.n (joined_in value.parent value.heads) queue came place found q in omega (arith, t.few)

  kept : (j : ℕ) → j < 2 * c + 1 → get_or (set new (2 * c + 1) 3) j 0 ≡ get_or new j 0
  kept j h = get_or-set_other new (2 * c + 1) j 3 0 (λ (e : j ≡ 2 * c + 1). omega arith)

  node_kept : (i : ℕ) → i < c + 1 → node (set new (2 * c + 1) 3) i ≡ node new i
  node_kept i h = kept (2 * i) (omega arith)

  joint : (i : ℕ) → i < c → joined_in value.parent value.heads (node new (i + 1)) (node new i) ≡ true
  joint i h =
      let p = t.steps i h in
      rw (p.3, p.4) (q.came_from p.0 p.1 (omega (arith, p.2))).1

  pub ring_built : Ring value l r old (set new (2 * c + 1) 3) (c + 1)
  ring_built =
      let room = in_room in
      record {
        some = omega arith;
        few = in_room;
        long = simp length-set t.long;
        first = node_kept 0 (omega arith) ∙ t.first ∙ of_leaf;
        last = λ i e.
            let z : i ≡ c = omega arith in
            rw z (node_kept c (omega arith) ∙ t.last ∙ is_root, get_or-set_same new (2 * c + 1) 3 0 (omega (arith, t.long)));
        within = λ i h.
            let p = t.places i (omega arith) in
            rw (node_kept i h, p.3) (q.node_at p.0 (omega (arith, p.2))).0;
        different = λ i j h d e. t.different i j (omega arith) d (sym (node_kept i h) ∙ e ∙ node_kept j (omega arith));
        steps = λ i h.
            rw (node_kept i (omega arith), node_kept (i + 1) (omega arith), kept (2 * i + 1) (omega arith))
            (joint i (omega arith), t.kinds i (omega arith));
        rest =
            let e : 2 * (c + 1) ≡ (2 * c + 1) + 1 = omega arith in
            drop-set-lt (2 * (c + 1)) new (2 * c + 1) 3 (omega arith) ∙ rw e (drop_more new old (2 * c + 1) 1 t.rest);
      }

-- the edge that closes the cycle

pub lowest_of_lem : (p : ℕ → Bool) (m k : ℕ) → any m p ≡ true → k ≡ least m p → (k < m) × (p k ≡ true)
lowest_of_lem p m k e i =
    let x = any_found m p e in
    let small : least m p < m = omega (arith, least_at m p x.0 x.1 x.2, x.1) in
    (omega arith, rw i (least_holds m p small))

module _ (g : Graph) (value : Value) (t : Thinned g value (before value.n)) where
  some_leaf : any value.n (λ l. any 128 (in_row value.heads l)) ≡ true
  some_leaf =
      let e = some_edge (over g t.kept) (thinned_shaped g value (before value.n) t) t.unsolvable in
      let there : in_row value.heads e.0 e.1 ≡ true = t.tables.holds.heads_are e.0 e.1 ∙ e.2 in
      let w = row_within g value (before value.n) t e.0 e.1 there in
      let few = few_nodes (over g t.kept) value.n value.parent value.heads (different t.kept) t.tables in
      any_at value.n (λ l. any 128 (in_row value.heads l)) e.0 w.0 (any_at 128 (in_row value.heads e.0) e.1 (omega (arith, w.1)) there)

  pub first_leaf_is : (l : ℕ) → l ≡ least value.n (λ x. any 128 (in_row value.heads x)) → (l < value.n) × (any 128 (in_row value.heads l) ≡ true)
  first_leaf_is l i = lowest_of_lem (λ x. any 128 (in_row value.heads x)) value.n l some_leaf i

  module _ (l r : ℕ) (edge : in_row value.heads l r ≡ true) (value' : Value) (o : TakenOut l r value value') where
    kept_edge : DominanceEdge (over g t.kept) l r
    kept_edge = sym (t.tables.holds.heads_are l r) ∙ edge

    rest_tables : Tables (removed (over g t.kept) l r) value'.n value'.parent value'.heads (different (without t.kept l r))
    rest_tables = removed_tables (over g t.kept) value (different t.kept) l r value' t.tables o

    pub linked : Linked value' l r
    unfolding removed
    linked =
        let w = row_within g value (before value.n) t l r edge in
        record {
          graph = removed (over g t.kept) l r;
          edges = different (without t.kept l r);
          tables = rest_tables;
          leaf_small = rw o.same.nodes w.0;
          root_small = rw o.same.nodes w.1;
          connected = joined_without (over g t.kept) (thinned_shaped g value (before value.n) t) (thinned_minimal g value t) l r kept_edge;
        }

    module _ (shaped : Shaped g) (old new : List ℕ) (c : ℕ) (long : 2 * value'.n ≤ length old) (ring : Ring value' l r old new c) where
      bytes : length (take (2 * c) new) ≡ 2 * c
      bytes = length-take-le (2 * c) new (omega (arith, ring.long, ring.few))

      size : pairs (take (2 * c) new) ≡ c
      unfolding pairs
      size = omega (arith, bytes)

      node_is : (i : ℕ) → i < c → node (take (2 * c) new) i ≡ node new i
      node_is i h = get_or-take (2 * c) new (2 * i) 0 (omega arith)

      kind_is : (i : ℕ) → i < c → kind (take (2 * c) new) i ≡ kind new i
      kind_is i h = get_or-take (2 * c) new (2 * i + 1) 0 (omega arith)

      ends_apart : l ≡ r → ⊥
      ends_apart e =
          let ends = shaped.leaf_to_root l r (t.inside l r kept_edge) in
          leaf_not_root g shaped r (rw e at ends.0) ends.1

      two_nodes : 2 ≤ c
      two_nodes =
          ⊎_elim
          (λ (e : 1 ≡ c). absurd (ends_apart (sym ring.first ∙ (ring.last 0 (omega arith)).0)))
          (λ (m : 1 < c). m)
          (eq-or-lt_of_le ring.some)

      step : (i : ℕ) → i + 1 < c → Step g (Others (over g t.kept) l r) (kind new i) (node new i) (node new (i + 1))
      unfolding removed
      step i h =
          let p = ring.steps i h in
          rw p.1
          (joined_step (removed (over g t.kept) l r) value'.n value'.parent value'.heads (different (without t.kept l r)) rest_tables
          (node new i) (node new (i + 1)) (ring.within i (omega arith)) (ring.within (i + 1) h) p.0)

      spelt : Spelt g (Others (over g t.kept) l r) l r (take (2 * c) new)
      spelt =
          let m = size in
          record {
            even = omega (arith, bytes);
            two = omega (arith, two_nodes);
            different = λ i j h d e. ring.different i j (omega arith) d (sym (node_is i (omega arith)) ∙ e ∙ node_is j (omega arith));
            steps = λ i h. rw (node_is i (omega arith), node_is (i + 1) (omega arith), kind_is i (omega arith)) (step i (omega arith));
            closing_kind = λ i e. kind_is i (omega arith) ∙ (ring.last i (omega arith)).1;
            closing = λ i e. inr (node_is 0 (omega (arith, ring.some)) ∙ ring.first, node_is i (omega arith) ∙ (ring.last i (omega arith)).0);
          }

      pub ring_cycle : hypernormal_cycle g (take (2 * c) new) ≡ true
      ring_cycle =
          spelt_hypernormal g shaped (Others (over g t.kept) l r) l r
          (minimal_sparse (over g t.kept) (thinned_shaped g value (before value.n) t) (thinned_minimal g value t) g t.inside l r kept_edge)
          (take (2 * c) new) spelt
