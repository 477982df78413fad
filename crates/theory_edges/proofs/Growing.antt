-- One-word fragments: what a well-formed sheet writes grows into a dominance graph, and nothing else changes. The edges to added leaves
-- are taken one after the other, as `grown_tree` has them: each goes from a node that was bare to a node that was none.
use Prim.Native.Nat.{ℕ, zero, suc, ◌+◌, ◌≤◌, ◌<◌}
use mathlib.Core.Path.{◌≡◌, refl, sym, ap, ap₂, subst, ◌∙◌}
use mathlib.Core.List.{List, ◌∷◌}
use mathlib.Core.Bool.{true, false, not, ◌||◌, true≢false}
use mathlib.Core.Logic.{◌⊎◌, inl, inr, ⊎_elim}
use native.Mathlib.Nat.{eq-or-lt_of_le}
use native.Mathlib.Omega.{arith}
use lib.Dec.{eqb, leb, ltb}
use borrow.Author.Tests.{eq-eqb, ne_eqb, lt-ltb, ltb-true, ltb-false, leb-true, leb-false, not-true, not-false}
use Rattle.base_finite.specs.Below.{count}
use Rattle.base_finite.proofs.Laws.{by_bool, last_or_below, not_holding, or_cases, or_none, or_right, or_false, count_ext, count_none}
use Rattle.graph.specs.Graph.{Edge, Graph, among, entered, left, single, parent, leaf, root, TreeEdge, Path, one, more, bare, added_leaf, grown_tree, grown, WellFormed, WellWritten, Agree}
use Rattle.theory_edges.specs.Edges.{Within}
use Rattle.theory_edges.proofs.Edges.{among_cases, among_first, among_rest, left_of_among, parent_among, left_found, within_more, entered_ext, left_ext, different_same}
use Rattle.theory_edges.proofs.Agreement.{agree_sym, leaf_agree, root_agree, tree_path_agree}

-- how the numbers of added leaves go up

pub leaf_none : (g : Graph) → added_leaf g 0 ≡ g.nodes
unfolding added_leaf count
leaf_none g = omega arith

pub leaf_next : (g : Graph) (k : ℕ) → bare g k ≡ true → added_leaf g (suc k) ≡ suc (added_leaf g k)
unfolding added_leaf count
leaf_next g k e = rw e (omega arith)

pub leaf_same : (g : Graph) (k : ℕ) → bare g k ≡ false → added_leaf g (suc k) ≡ added_leaf g k
unfolding added_leaf count
leaf_same g k e = rw e (omega arith)

pub leaf_from : (g : Graph) (k : ℕ) → g.nodes ≤ added_leaf g k
unfolding added_leaf
leaf_from g k = omega arith

pub leaf_mono : (g : Graph) (k m : ℕ) → k ≤ m → added_leaf g k ≤ added_leaf g m
leaf_mono g k zero h = let z : k ≡ zero = omega arith in rw z (omega arith)
leaf_mono g k (suc m) h =
    ⊎_elim
    (λ (e : k ≡ suc m). rw e (omega arith))
    (λ (l : k < suc m).
    by_bool (bare g m)
    (λ (b : bare g m ≡ true). omega (arith, leaf_mono g k m (omega arith), leaf_next g m b))
    (λ (b : bare g m ≡ false). omega (arith, leaf_mono g k m (omega arith), leaf_same g m b)))
    (eq-or-lt_of_le h)

-- the tree edges, one leaf more

pub tree_next : (g : Graph) (k : ℕ) → bare g k ≡ true → grown_tree g (suc k) ≡ (k, added_leaf g k) ∷ grown_tree g k
unfolding grown_tree
tree_next g k e = rw e

pub tree_same : (g : Graph) (k : ℕ) → bare g k ≡ false → grown_tree g (suc k) ≡ grown_tree g k
unfolding grown_tree
tree_same g k e = rw e

-- no edge goes past the nodes
pub unentered_beyond : (n : ℕ) (es : List Edge) (v : ℕ) → Within n es → n ≤ v → entered es v ≡ false
unentered_beyond n es v within h = not_holding (entered es v) (λ i. omega (arith, h, (within (parent es v) v (parent_among es v i)).1))

-- an edge to a number past the nodes, from one of them, makes no cycle
module _ (n : ℕ) (es : List Edge) (within : Within n es) (v : ℕ) (node : v < n) where
  abbrev Old : ℕ → ℕ → Type 0
  Old p c = among es p c ≡ true

  abbrev New : ℕ → ℕ → Type 0
  New p c = among ((v, n) ∷ es) p c ≡ true

  starts_old : {u w : ℕ} → Path New u w → u < n
  starts_old (one {u = u} {v = w} e) = ⊎_elim (λ (q : (v ≡ u) × (n ≡ w)). omega (arith, q.0)) (λ (h : among es u w ≡ true). (within u w h).0) (among_cases (v, n) es u w e)
  starts_old (more p e) = starts_old p

  ends_new : {u w : ℕ} → Path New u w → (w ≡ n) ⊎ Path Old u w
  ends_new (one {u = u} {v = w} e) = ⊎_elim (λ (q : (v ≡ u) × (n ≡ w)). inl (sym q.1)) (λ (h : among es u w ≡ true). inr (one h)) (among_cases (v, n) es u w e)
  ends_new (more {u = u} {v = x} {w = w} p e) =
      ⊎_elim
      (λ (q : (v ≡ x) × (n ≡ w)). inl (sym q.1))
      (λ (h : among es x w ≡ true).
      ⊎_elim (λ (z : x ≡ n). absurd (omega (arith, z, (within x w h).0))) (λ (o : Path Old u x). inr (more o h)) (ends_new p))
      (among_cases (v, n) es x w e)

  still_acyclic : ((u : ℕ) → Path Old u u → ⊥) → (u : ℕ) → Path New u u → ⊥
  still_acyclic none u p = ⊎_elim (λ (z : u ≡ n). omega (arith, z, starts_old p)) (none u) (ends_new p)

-- the ends of the edges

module _ (g : Graph) where
  pub entered_old : (k v : ℕ) → v < g.nodes → entered (grown_tree g k) v ≡ entered g.tree v
  unfolding grown_tree entered
  entered_old zero v h = refl
  entered_old (suc k) v h =
      by_bool (bare g k)
      (λ (e : bare g k ≡ true). rw (e, ne_eqb (added_leaf g k) v (λ q. omega (arith, q, leaf_from g k))) (entered_old k v h))
      (λ (e : bare g k ≡ false). rw e (entered_old k v h))

  pub entered_new : (k v : ℕ) → g.nodes ≤ v → v < added_leaf g k → entered (grown_tree g k) v ≡ true
  unfolding grown_tree entered
  entered_new zero v a b = absurd (omega (arith, leaf_none g))
  entered_new (suc k) v a b =
      by_bool (bare g k)
      (λ (e : bare g k ≡ true).
      ⊎_elim
      (λ (q : v ≡ added_leaf g k). rw (e, eq-eqb (added_leaf g k) v (sym q)))
      (λ (l : v < added_leaf g k). rw e (or_right (eqb (added_leaf g k) v) (entered (grown_tree g k) v) (entered_new k v a l)))
      (eq-or-lt_of_le (omega (arith, b, leaf_next g k e))))
      (λ (e : bare g k ≡ false). rw e (entered_new k v a (omega (arith, b, leaf_same g k e))))

  pub left_old : (k v : ℕ) → bare g v ≡ false → left (grown_tree g k) v ≡ left g.tree v
  unfolding grown_tree left
  left_old zero v f = refl
  left_old (suc k) v f =
      by_bool (bare g k)
      (λ (e : bare g k ≡ true). rw (e, ne_eqb k v (λ q. true≢false (sym (rw q at e) ∙ f))) (left_old k v f))
      (λ (e : bare g k ≡ false). rw e (left_old k v f))

  pub left_bare : (k v : ℕ) → v < k → bare g v ≡ true → left (grown_tree g k) v ≡ true
  unfolding grown_tree left
  left_bare zero v h e = absurd (omega arith)
  left_bare (suc k) v h e =
      ⊎_elim
      (λ (q : v ≡ k). rw (← q, e, eq-eqb v v refl))
      (λ (l : v < k).
      by_bool (bare g k)
      (λ (b : bare g k ≡ true). rw b (or_right (eqb k v) (left (grown_tree g k) v) (left_bare k v l e)))
      (λ (b : bare g k ≡ false). rw b (left_bare k v l e)))
      (last_or_below h)

  -- the edges of a bare node, and of its leaf

  pub added_edge : (k v : ℕ) → v < k → bare g v ≡ true → among (grown_tree g k) v (added_leaf g v) ≡ true
  added_edge zero v h e = absurd (omega arith)
  added_edge (suc k) v h e =
      ⊎_elim
      (λ (q : v ≡ k). rw (← q, tree_next g v e) (among_first (v, added_leaf g v) (grown_tree g v) v (added_leaf g v) refl refl))
      (λ (l : v < k).
      by_bool (bare g k)
      (λ (b : bare g k ≡ true). rw (tree_next g k b) (among_rest (k, added_leaf g k) (grown_tree g k) v (added_leaf g v) (added_edge k v l e)))
      (λ (b : bare g k ≡ false). rw (tree_same g k b) (added_edge k v l e)))
      (last_or_below h)

  edge_cases : (k u c : ℕ) → among (grown_tree g (suc k)) u c ≡ true → ((k ≡ u) × (added_leaf g k ≡ c)) ⊎ (among (grown_tree g k) u c ≡ true)
  edge_cases k u c h =
      by_bool (bare g k)
      (λ (b : bare g k ≡ true). among_cases (k, added_leaf g k) (grown_tree g k) u c (rw (tree_next g k b) at h))
      (λ (b : bare g k ≡ false). inr (rw (tree_same g k b) at h))

  written_edge : (u c : ℕ) → among (grown_tree g 0) u c ≡ true → TreeEdge g u c
  unfolding grown_tree
  written_edge u c h = h

  childless : (v c : ℕ) → bare g v ≡ true → TreeEdge g v c → ⊥
  unfolding bare
  childless v c e h =
      true≢false (sym (left_of_among g.tree v c h) ∙ (or_none (entered g.tree v) (left g.tree v) (not-true (entered g.tree v || left g.tree v) e)).1)

  pub only_added : (k v c : ℕ) → bare g v ≡ true → among (grown_tree g k) v c ≡ true → c ≡ added_leaf g v
  only_added zero v c e h = absurd (childless v c e (written_edge v c h))
  only_added (suc k) v c e h = ⊎_elim (λ (q : (k ≡ v) × (added_leaf g k ≡ c)). sym q.1 ∙ ap (added_leaf g) q.0) (λ (r : among (grown_tree g k) v c ≡ true). only_added k v c e r) (edge_cases k v c h)

  pub added_childless : Within g.nodes g.tree → (k v c : ℕ) → k ≤ g.nodes → g.nodes ≤ v → among (grown_tree g k) v c ≡ true → ⊥
  added_childless within zero v c few h e = omega (arith, h, (within v c (written_edge v c e)).0)
  added_childless within (suc k) v c few h e =
      ⊎_elim (λ (q : (k ≡ v) × (added_leaf g k ≡ c)). omega (arith, few, h, q.0)) (λ (r : among (grown_tree g k) v c ≡ true). added_childless within k v c (omega (arith, few)) h r) (edge_cases k v c e)

  -- a bare node has a leaf now, and the others are what they were

  pub leaf_grown : (v : ℕ) → v < g.nodes → leaf (grown g) v ≡ not (left g.tree v || bare g v)
  unfolding leaf
  leaf_grown v h =
      rw (lt-ltb v (grown g).nodes (omega (arith, h)))
      (by_bool (bare g v)
      (λ (e : bare g v ≡ true). rw (e, left_bare g.nodes v h e, or_right (left g.tree v) true refl))
      (λ (e : bare g v ≡ false). rw (e, left_old g.nodes v e, or_false)))

  pub root_grown : (v : ℕ) → v < g.nodes → root (grown g) v ≡ not (entered g.tree v)
  unfolding root
  root_grown v h = rw (lt-ltb v (grown g).nodes (omega (arith, h)), entered_old g.nodes v h)

  on_edge : (v : ℕ) → bare g v ≡ false → (entered g.tree v || left g.tree v) ≡ true
  unfolding bare
  on_edge v b = not-false (entered g.tree v || left g.tree v) b

  on_grown_edge : (v : ℕ) → v < (grown g).nodes → (entered (grown_tree g g.nodes) v || left (grown_tree g g.nodes) v) ≡ true
  unfolding added_leaf
  on_grown_edge v h =
      by_bool (ltb v g.nodes)
      (λ (e : ltb v g.nodes ≡ true).
      let node : v < g.nodes = ltb-true v g.nodes e in
      by_bool (bare g v)
      (λ (b : bare g v ≡ true). or_right (entered (grown_tree g g.nodes) v) (left (grown_tree g g.nodes) v) (left_bare g.nodes v node b))
      (λ (b : bare g v ≡ false). rw (entered_old g.nodes v node, left_old g.nodes v b) (on_edge v b)))
      (λ (e : ltb v g.nodes ≡ false). rw (entered_new g.nodes v (ltb-false v g.nodes e) h))

  module _ (within : Within g.nodes g.tree) where
    pub within_grown : (k : ℕ) → k ≤ g.nodes → Within (added_leaf g k) (grown_tree g k)
    unfolding grown_tree
    within_grown zero h = λ u v e. let b = within u v e in (omega (arith, b.0, leaf_none g), omega (arith, b.1, leaf_none g))
    within_grown (suc k) h =
        by_bool (bare g k)
        (λ (e : bare g k ≡ true).
        rw e
        (within_more (added_leaf g (suc k)) k (added_leaf g k) (grown_tree g k) (omega (arith, h, leaf_from g (suc k))) (omega (arith, leaf_next g k e))
        (λ u v m. let b = within_grown k (omega (arith, h)) u v m in (omega (arith, b.0, leaf_next g k e), omega (arith, b.1, leaf_next g k e)))))
        (λ (e : bare g k ≡ false).
        rw e (λ u v m. let b = within_grown k (omega (arith, h)) u v m in (omega (arith, b.0, leaf_same g k e), omega (arith, b.1, leaf_same g k e))))

    pub single_grown : single g.tree ≡ true → (k : ℕ) → k ≤ g.nodes → single (grown_tree g k) ≡ true
    unfolding grown_tree single
    single_grown s zero h = s
    single_grown s (suc k) h =
        by_bool (bare g k)
        (λ (e : bare g k ≡ true).
        let fresh : entered (grown_tree g k) (added_leaf g k) ≡ false = unentered_beyond (added_leaf g k) (grown_tree g k) (added_leaf g k) (within_grown k (omega (arith, h))) (omega arith) in
        rw (e, fresh) (single_grown s k (omega (arith, h))))
        (λ (e : bare g k ≡ false). rw e (single_grown s k (omega (arith, h))))

    acyclic_grown : ((v : ℕ) → Path (TreeEdge g) v v → ⊥) → (k : ℕ) → k ≤ g.nodes → (v : ℕ) → Path (λ p c. among (grown_tree g k) p c ≡ true) v v → ⊥
    unfolding grown_tree
    acyclic_grown none zero h = none
    acyclic_grown none (suc k) h =
        by_bool (bare g k)
        (λ (e : bare g k ≡ true).
        rw e (still_acyclic (added_leaf g k) (grown_tree g k) (within_grown k (omega (arith, h))) k (omega (arith, h, leaf_from g k)) (acyclic_grown none k (omega (arith, h)))))
        (λ (e : bare g k ≡ false). rw e (acyclic_grown none k (omega (arith, h))))

-- the theorem

module _ (g : Graph) (w : WellWritten g) where
  pub few_written : g.nodes ≤ 128
  few_written = omega (arith, w.few_nodes)

  within : Within (grown g).nodes (grown g).tree
  unfolding added_leaf
  within = within_grown g w.tree_within g.nodes (omega arith)

  acyclic : (v : ℕ) → Path (TreeEdge (grown g)) v v → ⊥
  acyclic = acyclic_grown g w.tree_within w.no_tree_cycle g.nodes (omega arith)

  -- an edge has two ends
  two_ends : (u v : ℕ) → TreeEdge (grown g) u v → 2 ≤ (grown g).nodes
  two_ends u v e =
      let b = within u v e in
      let apart : u ≡ v → ⊥ = λ q. acyclic u (one (subst (TreeEdge (grown g) u) (sym q) e)) in
      by_bool (leb 2 (grown g).nodes)
      (λ (l : leb 2 (grown g).nodes ≡ true). leb-true 2 (grown g).nodes l)
      (λ (l : leb 2 (grown g).nodes ≡ false). absurd (apart (omega (arith, b.0, b.1, leb-false 2 (grown g).nodes l))))

  two_nodes : 2 ≤ (grown g).nodes
  two_nodes =
      let tree : List Edge = (grown g).tree in
      ⊎_elim
      (λ (e : entered tree 0 ≡ true). two_ends (parent tree 0) 0 (parent_among tree 0 e))
      (λ (e : left tree 0 ≡ true). let r = left_found tree 0 e in two_ends 0 r.0 r.1)
      (or_cases (entered tree 0) (left tree 0) (on_grown_edge g 0 (omega (arith, w.some_nodes))))

  pub grown_well_formed : WellFormed (grown g)
  grown_well_formed =
      record {
        some_nodes = two_nodes;
        few_nodes = w.few_nodes;
        tree_within = within;
        one_parent = single_grown g w.tree_within w.one_parent g.nodes (omega arith);
        no_tree_cycle = acyclic;
        on_tree_edge = on_grown_edge g;
        leaf_to_root = w.leaf_to_root;
        few_edges = w.few_edges;
      }

-- where every node is on a tree edge, nothing is added

module _ (g : Graph) (none : (v : ℕ) → v < g.nodes → bare g v ≡ false) where
  no_edge : (k : ℕ) → k ≤ g.nodes → grown_tree g k ≡ g.tree
  unfolding grown_tree
  no_edge zero h = refl
  no_edge (suc k) h = rw (none k h) (no_edge k (omega arith))

  no_leaf : g.nodes + count g.nodes (bare g) ≡ g.nodes
  no_leaf = omega (arith, count_none g.nodes (bare g) none)

  pub nothing_added : grown g ≡ g
  nothing_added = λ i. record { nodes = no_leaf i; tree = no_edge g.nodes (omega arith) i; dominance = g.dominance }

-- graphs that agree grow alike

module _ (g h : Graph) (k : Agree g h) where
  bare_agree : (v : ℕ) → bare g v ≡ bare h v
  unfolding bare
  bare_agree v = rw (entered_ext g.tree h.tree k.same_tree v, left_ext g.tree h.tree k.same_tree v)

  leaf_number_agree : (v : ℕ) → added_leaf g v ≡ added_leaf h v
  unfolding added_leaf
  leaf_number_agree v = ap₂ ◌+◌ k.same_nodes (count_ext v (bare g) (bare h) (λ j _. bare_agree j))

  tree_agree : (m p c : ℕ) → among (grown_tree g m) p c ≡ among (grown_tree h m) p c
  unfolding grown_tree among
  tree_agree zero p c = k.same_tree p c
  tree_agree (suc m) p c =
      by_bool (bare h m)
      (λ (e : bare h m ≡ true). rw (bare_agree m, e, leaf_number_agree m, tree_agree m p c))
      (λ (e : bare h m ≡ false). rw (bare_agree m, e, tree_agree m p c))

  pub grown_agree : Agree (grown g) (grown h)
  grown_agree =
      record {
        same_nodes = ap₂ ◌+◌ k.same_nodes (count_ext g.nodes (bare g) (bare h) (λ v _. bare_agree v) ∙ ap (λ (m : ℕ). count m (bare h)) k.same_nodes);
        same_tree = λ p c. tree_agree g.nodes p c ∙ ap (λ (m : ℕ). among (grown_tree h m) p c) k.same_nodes;
        same_dominance = k.same_dominance;
      }

  pub well_written_agree : WellWritten g → single h.tree ≡ true → WellWritten h
  well_written_agree w s =
      record {
        some_nodes = subst (λ (n : ℕ). 1 ≤ n) k.same_nodes w.some_nodes;
        few_nodes = subst (λ (n : ℕ). n ≤ 128) grown_agree.same_nodes w.few_nodes;
        tree_within = λ p c e. subst (λ (n : ℕ). (p < n) × (c < n)) k.same_nodes (w.tree_within p c (k.same_tree p c ∙ e));
        one_parent = s;
        no_tree_cycle = λ v c. w.no_tree_cycle v (tree_path_agree h g (agree_sym g h k) c);
        dominance_within = λ l r e. subst (λ (n : ℕ). (l < n) × (r < n)) k.same_nodes (w.dominance_within l r (k.same_dominance l r ∙ e));
        leaf_to_root = λ l r e.
            let b = w.leaf_to_root l r (k.same_dominance l r ∙ e) in
            (sym (leaf_agree (grown g) (grown h) grown_agree l) ∙ b.0, sym (root_agree (grown g) (grown h) grown_agree r) ∙ b.1);
        few_edges = subst (λ (m : ℕ). m ≤ 255) (different_same g.nodes g.dominance h.dominance w.dominance_within k.same_dominance) w.few_edges;
      }
