-- Redundant edges (document 000, Section 4, and Rule 2). In a graph without a cycle a dominance edge from l to r is
-- redundant where some node lies between l and r in the descent relation: a path that passes a node between them cannot
-- use the edge itself, which would close a cycle. So which edges stay is a matter of the descent relation alone.
-- The test for it reads the table of the descent relation, and its results are a table too, so that each is made once.
use Prim.Native.Nat.{ℕ, ◌<◌}
use mathlib.Core.Path.{◌≡◌, sym, subst, ◌∙◌}
use mathlib.Core.List.{List, [], ◌∷◌}
use mathlib.Core.Bool.{true, false, not, ◌&&◌, true≢false}
use mathlib.Core.Logic.{inl, inr, ⊎_elim, ◌↔◌}
use lib.Dec.{eqb}
use borrow.Author.Tests.{eqb-true, eq-eqb, not-true}
use Rattle.base_finite.proofs.Laws.{by_bool, and_both, and_intro, any_at, any_found, not_holding}
use Rattle.graph.specs.Graph.{Edge, Graph, among, TreeEdge, DominanceEdge, GraphEdge, Descent, one, more}
use Rattle.graph.specs.Order.{without, removed, Kept}
use Rattle.theory_edges.proofs.Edges.{among_cases, among_first, among_rest, among_none}
use Rattle.theory_edges.proofs.Ends.{leaf_below, root_below}
use Rattle.theory_forest.specs.Shape.{Shaped}
use Rattle.theory_forest.proofs.Closure.{path_trans, path_cons, path_first, descent_removed}
use Rattle.theory_forest.specs.Table.{descent_table, descends}
use Rattle.theory_forest.proofs.Table.{look_tabulate, tabulate_within, descends_iff, descent_within}
use Rattle.theory_forest.proofs.Fragments.{root_parentless}
use Rattle.theory_list.specs.Redundancy.{Loopless, NoneBetween, between, kept_by, kept_table, kept}

-- a descent between two different nodes, as it has no loop
pub descent_apart : (g : Graph) → Loopless g → {u v : ℕ} → Descent g u v → u ≡ v → ⊥
descent_apart g n {u} {v} d i = n u (subst (λ (z : ℕ). Descent g u z) (sym i) d)

-- the edge taken out is out

pub without_lacks : (es : List Edge) (l r : ℕ) → among (without es l r) l r ≡ true → ⊥
unfolding without
without_lacks [] l r = among_none l r
without_lacks (e ∷ es) l r =
    by_bool (eqb e.0 l && eqb e.1 r)
    (λ b. rw b (without_lacks es l r))
    (λ b.
    rw b (λ m.
    ⊎_elim
    (λ (q : (e.0 ≡ l) × (e.1 ≡ r)).
    true≢false (sym (and_intro (eqb e.0 l) (eqb e.1 r) (eq-eqb e.0 l q.0) (eq-eqb e.1 r q.1)) ∙ b))
    (λ (k : among (without es l r) l r ≡ true). without_lacks es l r k)
    (among_cases e (without es l r) l r m)))

-- every other edge stays
pub without_keeps : (es : List Edge) (l r u v : ℕ) → ((u ≡ l) × (v ≡ r) → ⊥) → among es u v ≡ true → among (without es l r) u v ≡ true
unfolding without
without_keeps [] l r u v apart m = m
without_keeps (e ∷ es) l r u v apart m =
    by_bool (eqb e.0 l && eqb e.1 r)
    (λ b.
    let c = and_both (eqb e.0 l) (eqb e.1 r) b in
    rw b (⊎_elim
    (λ (q : (e.0 ≡ u) × (e.1 ≡ v)).
    absurd (apart (sym q.0 ∙ eqb-true e.0 l c.0, sym q.1 ∙ eqb-true e.1 r c.1)))
    (λ (k : among es u v ≡ true). without_keeps es l r u v apart k)
    (among_cases e es u v m)))
    (λ b.
    rw b (⊎_elim
    (λ (q : (e.0 ≡ u) × (e.1 ≡ v)). among_first e (without es l r) u v q.0 q.1)
    (λ (k : among es u v ≡ true). among_rest e (without es l r) u v (without_keeps es l r u v apart k))
    (among_cases e es u v m)))

pub edge_kept : (g : Graph) (l r u v : ℕ) → ((u ≡ l) × (v ≡ r) → ⊥) → GraphEdge g u v → GraphEdge (removed g l r) u v
unfolding removed
edge_kept g l r u v apart =
    ⊎_elim (λ (t : TreeEdge g u v). inl t) (λ (d : DominanceEdge g u v). inr (without_keeps g.dominance l r u v apart d))

module _ (g : Graph) (n : Loopless g) (l r : ℕ) where
  -- what leads to a node above r does not use an edge to r
  avoids_end : {u x : ℕ} → Descent g x r → Descent g u x → Descent (removed g l r) u x
  avoids_end d (one {u = u} {v = x} e) = one (edge_kept g l r u x (λ q. descent_apart g n d q.1) e)
  avoids_end d (more {v = v} {w = x} p e) =
      more (avoids_end (path_cons e d) p) (edge_kept g l r v x (λ q. descent_apart g n d q.1) e)

  -- what a node below l leads to does not use an edge from l
  avoids_start : {x w : ℕ} → Descent g l x → Descent g x w → Descent (removed g l r) x w
  avoids_start d (one {u = x} {v = w} e) = one (edge_kept g l r x w (λ q. descent_apart g n d (sym q.0)) e)
  avoids_start d (more {v = v} {w = w} p e) =
      more (avoids_start d p) (edge_kept g l r v w (λ q. descent_apart g n (path_trans d p) (sym q.0)) e)

-- an edge of the smaller graph from l to r is neither a tree edge, as r is a root, nor the edge taken out
no_other_edge : (g : Graph) → Shaped g → (l r : ℕ) → DominanceEdge g l r → GraphEdge (removed g l r) l r → ⊥
unfolding removed
no_other_edge g s l r d =
    ⊎_elim (λ (t : TreeEdge g l r). root_parentless g l r (s.leaf_to_root l r d).1 t) (λ m. without_lacks g.dominance l r m)

pub kept_iff : (g : Graph) → Shaped g → Loopless g → (l r : ℕ) → Kept g l r ↔ (DominanceEdge g l r × ((x : ℕ) → Descent g l x → Descent g x r → ⊥))
kept_iff g s n l r = (
  λ k. (k.0, λ x a b. k.1 (k.0, path_trans (avoids_end g n l r b a) (avoids_start g n l r a b))),
  λ k. (
    k.0,
    λ red.
        ⊎_elim
        (λ (e : GraphEdge (removed g l r) l r). no_other_edge g s l r k.0 e)
        (λ (x : (v : ℕ) × GraphEdge (removed g l r) l v × Descent (removed g l r) v r).
        k.1 x.0 (descent_removed g l r (one x.1)) (descent_removed g l r x.2))
        (path_first red.1),
  ),
)

-- the test, over the table of the descent relation

pub between_iff : (g : Graph) → Shaped g → (u v : ℕ) → (between g.nodes (descent_table g) u v ≡ true) ↔ ((x : ℕ) × Descent g u x × Descent g x v)
unfolding between descends
between_iff g s u v = (
  λ h.
      let f = any_found g.nodes (λ x. descends g u x && descends g x v) h in
      let b = and_both (descends g u f.0) (descends g f.0 v) f.2 in
      (f.0, (descends_iff g s u f.0).0 b.0, (descends_iff g s f.0 v).0 b.1),
  λ f.
      any_at g.nodes (λ x. descends g u x && descends g x v) f.0 (descent_within g s f.1).1
      (and_intro (descends g u f.0) (descends g f.0 v) ((descends_iff g s u f.0).1 f.1) ((descends_iff g s f.0 v).1 f.2)),
)

kept_by_iff : (g : Graph) → Shaped g → (l r : ℕ) → (kept_by g (descent_table g) l r ≡ true) ↔ (DominanceEdge g l r × NoneBetween g l r)
unfolding kept_by
kept_by_iff g s l r = (
  λ h.
      let b = and_both (among g.dominance l r) (not (between g.nodes (descent_table g) l r)) h in
      (b.0, λ x p q. true≢false (sym ((between_iff g s l r).1 (x, p, q)) ∙ not-true (between g.nodes (descent_table g) l r) b.1)),
  λ k.
      let free : between g.nodes (descent_table g) l r ≡ false = not_holding (between g.nodes (descent_table g) l r) (λ t. let f = (between_iff g s l r).0 t in k.1 f.0 f.1 f.2) in
      rw (k.0, free),
)

-- a kept edge goes from a node to a node
pub kept_within : (g : Graph) → Shaped g → (l r : ℕ) → Kept g l r → (l < g.nodes) × (r < g.nodes)
kept_within g s l r k =
    let b = s.leaf_to_root l r k.0 in
    (leaf_below g l b.0, root_below g r b.1)

pub kept_holds : (g : Graph) → Shaped g → Loopless g → (l r : ℕ) → (kept g l r ≡ true) ↔ Kept g l r
unfolding kept kept_table
kept_holds g s n l r = (
  λ h.
      let b = tabulate_within g.nodes (kept_by g (descent_table g)) l r h in
      let same = look_tabulate g.nodes (kept_by g (descent_table g)) l r b.0 b.1 in
      (kept_iff g s n l r).1 ((kept_by_iff g s l r).0 (sym same ∙ h)),
  λ k.
      let b = kept_within g s l r k in
      look_tabulate g.nodes (kept_by g (descent_table g)) l r b.0 b.1 ∙ (kept_by_iff g s l r).1 ((kept_iff g s n l r).0 k),
)
