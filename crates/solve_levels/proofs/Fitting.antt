-- The tables fit the graph at the decisions as they fit the sheet's, and an edge added to its reduced form makes that of the half.
use Prim.Native.Nat.{ℕ, ◌+◌, ◌*◌, ◌≤◌, ◌<◌}
use mathlib.Core.Path.{◌≡◌, sym, subst, ◌∙◌}
use mathlib.Core.List.{List}
use mathlib.Core.Bool.{true, false}
use native.Mathlib.Omega.{arith}
use lib.Dec.{ltb}
use lib.ListN.{length, get_or}
use Rattle.base_finite.proofs.Laws.{by_bool}
use Rattle.base_nodeset.specs.declared.NodeSet.{NodeSet}
use Rattle.graph.specs.Graph.{Graph, own}
use Rattle.graph.specs.Order.{Choice, adding}
use Rattle.theory_edges.proofs.Ends.{leaf_below}
use Rattle.theory_forest.specs.Shape.{Shaped}
use Rattle.theory_list.proofs.Choosing.{lower_leaf, upper_leaf}
use Rattle.theory_list.specs.Redundancy.{Loopless}
use Rattle.theory_list.specs.Keeping.{Fresh}
use Rattle.theory_list.proofs.Keeping.{first_fresh, second_fresh}
use Rattle.base_tables.specs.Trees.{Fits}
use Rattle.base_tables.specs.declared.trees.Trees.{Trees}
use Rattle.solve_reduce.specs.Reduced.{Reduced}
use Rattle.theory_walk.specs.Walk.{Decision, first, graph_at, Valid}
use Rattle.theory_walk.proofs.Decisions.{graph_nodes, graph_own, graph_root, graph_leaf, graph_shaped, few_decisions, Last, valid_popped}
use Rattle.solve_levels.specs.Decisions.{Trail, upper_at, lower_at, decision, decisions, reached, Noted, Room}
use Rattle.solve_levels.specs.Levels.{Reduction}
use Rattle.solve_levels.proofs.Tables.{decision_first, decisions_more, decisions_length, graph_more, valid_fewer}

pub choice_below : {g : Graph} {v a b : ℕ} → Shaped g → Choice g v a b → (a < g.nodes) × (b < g.nodes)
choice_below {g} {v} {a} {b} s c = (leaf_below g a (lower_leaf g s c), leaf_below g b (upper_leaf g s c))

-- the reduced form, with as many nodes as the code counts
pub reduction_at : {g : Graph} {n : ℕ} {sets : List NodeSet} → n ≡ g.nodes → Reduction g sets → Reduced g n sets
reduction_at {g} {n} {sets} e r = subst (λ (m : ℕ). Reduced g m sets) (sym e) r

pub at_reduction : {g : Graph} {n : ℕ} {sets : List NodeSet} → n ≡ g.nodes → Reduced g n sets → Reduction g sets
at_reduction {g} {n} {sets} e r = subst (λ (m : ℕ). Reduced g m sets) e r

-- an edge added

pub edge_added : {g : Graph} (t : Trees) (upper lower : ℕ) {sets sets' : List NodeSet} → Fits g t → lower < t.n → Fresh g upper (own g lower)
    → (Fits g t → Fresh g upper (get_or t.owner lower 0) → Reduced g t.n sets → Reduced (adding g upper (get_or t.owner lower 0)) t.n sets')
    → Reduction g sets → Reduction (adding g upper (own g lower)) sets'
unfolding adding
edge_added {g} t upper lower {sets} {sets'} f hl new step r =
    let is : get_or t.owner lower 0 ≡ own g lower = f.owners_are lower hl in
    let x : Reduced (adding g upper (get_or t.owner lower 0)) t.n sets' = step f (subst (λ (z : ℕ). Fresh g upper z) (sym is) new) (reduction_at f.trees.nodes r) in
    at_reduction f.trees.nodes (subst (λ (z : ℕ). Reduced (adding g upper z) t.n sets') is x)

-- the graph at the decisions

pub fits_in : {g : Graph} (ds : List Decision) (t : Trees) → Shaped (graph_at g ds) → Fits g t → Fits (graph_at g ds) t
fits_in {g} ds t s f =
    record {
      shaped = s;
      trees = record {
        nodes = f.trees.nodes ∙ sym (graph_nodes g ds);
        leaves_are = λ x. f.trees.leaves_are x ∙ sym (graph_leaf g ds x);
        roots_are = λ x. f.trees.roots_are x ∙ sym (graph_root g ds x);
      };
      owners_are = λ x h. f.owners_are x h ∙ sym (graph_own g ds x);
    }

-- the edge of a decision is one that its leaf did not lead to
half_fresh : (h : Graph) → Shaped h → {v : ℕ} (u l : ℕ) → Choice h v (decision u l).0 (decision u l).1 → Fresh h u (own h l)
unfolding decision
half_fresh h s {v} u l c =
    by_bool (ltb u l)
    (λ (t : ltb u l ≡ true). first_fresh h s {v = v} (rw t at c))
    (λ (t : ltb u l ≡ false). second_fresh h s {v = v} (rw t at c))

module _ (g : Graph) (t : Trees) (trail : Trail) (f : Fits g t) where
  pub same_nodes : (k : ℕ) → t.n ≡ (reached g trail k).nodes
  same_nodes k = f.trees.nodes ∙ sym (graph_nodes g (decisions trail k))

  -- one edge more
  pub edge_taken : (k : ℕ) {sets sets' : List NodeSet} → Shaped (reached g trail k) → lower_at trail k < t.n → Fresh (reached g trail k) (upper_at trail k) (own (reached g trail k) (lower_at trail k))
      → (Fits (reached g trail k) t → Fresh (reached g trail k) (upper_at trail k) (get_or t.owner (lower_at trail k) 0) → Reduced (reached g trail k) t.n sets
      → Reduced (adding (reached g trail k) (upper_at trail k) (get_or t.owner (lower_at trail k) 0)) t.n sets')
      → Reduction (reached g trail k) sets → Reduction (reached g trail (k + 1)) sets'
  edge_taken k s hl new step r =
      rw (graph_more trail g k) (edge_added t (upper_at trail k) (lower_at trail k) (fits_in (decisions trail k) t s f) hl new step r)

  decision_below : (k : ℕ) → Valid g (decisions trail (k + 1)) → (upper_at trail k < t.n) × (lower_at trail k < t.n)
  unfolding decision
  decision_below k x =
      let u = upper_at trail k in
      let l = lower_at trail k in
      let ds = decisions trail k in
      let p : Last g ds (decision u l) = valid_popped g ds (decision u l) (rw (decisions_more trail k) at x) in
      let b = choice_below (graph_shaped f.shaped p.before) p.choice in
      let e = same_nodes k in
      by_bool (ltb u l)
      (λ (z : ltb u l ≡ true).
      let c = rw z at b in
      (omega (arith, c.0), omega (arith, c.1)))
      (λ (z : ltb u l ≡ false).
      let c = rw z at b in
      (omega (arith, c.1), omega (arith, c.0)))

  pub few : (k : ℕ) → Valid g (decisions trail k) → k ≤ t.n * t.n
  few k x =
      let most : length (decisions trail k) ≤ g.nodes * g.nodes = few_decisions f.shaped x in
      subst (λ (m : ℕ). k ≤ m * m) (sym f.trees.nodes) (rw (decisions_length trail k) at most)

  -- the decisions are there
  pub valid_noted : (k : ℕ) → Room t.n trail → Valid g (decisions trail k) → (i : ℕ) → i < k → Noted t.n trail i
  valid_noted k room x i h =
      let most = few k x in
      let b = decision_below i (valid_fewer trail g (i + 1) k (omega arith) x) in
      record { long = omega (arith, room); upper = b.0; lower = b.1 }

  -- the choice of the last decision, where that is a first half
  pub last_choice : (k : ℕ) → Valid g (decisions trail (k + 1)) → upper_at trail k < lower_at trail k → (v : ℕ) × Choice (reached g trail k) v (upper_at trail k) (lower_at trail k)
  last_choice k x h =
      let ds = decisions trail k in
      let p : Last g ds (first (upper_at trail k) (lower_at trail k)) = valid_popped g ds (first (upper_at trail k) (lower_at trail k)) (rw (decisions_more trail k, decision_first (upper_at trail k) (lower_at trail k) h) at x) in
      (p.choice_root, p.choice)

  pub decision_fresh : (i k : ℕ) → i < k → Valid g (decisions trail k) → Fresh (reached g trail i) (upper_at trail i) (own (reached g trail i) (lower_at trail i))
  decision_fresh i k h x =
      let ds = decisions trail i in
      let y = valid_fewer trail g (i + 1) k (omega arith) x in
      let p : Last g ds (decision (upper_at trail i) (lower_at trail i)) = valid_popped g ds (decision (upper_at trail i) (lower_at trail i)) (rw (decisions_more trail i) at y) in
      half_fresh (graph_at g ds) (graph_shaped f.shaped p.before) (upper_at trail i) (lower_at trail i) p.choice

  pub decision_loopless : (i k : ℕ) → i < k → Valid g (decisions trail k) → Loopless (reached g trail i)
  decision_loopless i k h x =
      let ds = decisions trail i in
      let y = valid_fewer trail g (i + 1) k (omega arith) x in
      (valid_popped g ds (decision (upper_at trail i) (lower_at trail i)) (rw (decisions_more trail i) at y)).loopless

  pub valid_shaped : (i k : ℕ) → i ≤ k → Valid g (decisions trail k) → Shaped (reached g trail i)
  valid_shaped i k h x = graph_shaped f.shaped (valid_fewer trail g i k h x)
