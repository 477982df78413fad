-- Laws of the transitive closure `Path`: it is transitive, follows its relation, can be taken apart at its first edge.
-- The law of adding one edge from a to r: what is newly reached is what a's edge leads to, from what leads to a. It
-- holds of any relation, cyclic ones included; the tables of the next file and every step of Rule 3 rest on it.
use Prim.Native.Nat.{ℕ, ◌<◌}
use mathlib.Core.Path.{◌≡◌, refl, sym, subst}
use mathlib.Core.Logic.{◌⊎◌, inl, inr, ⊎_elim, ◌↔◌}
use Rattle.graph.specs.Graph.{Graph, TreeEdge, DominanceEdge, GraphEdge, Descent, Path, one, more}
use Rattle.graph.specs.Order.{adding, removed}
use Rattle.theory_edges.proofs.Edges.{among_cases, among_first, among_rest}
use Rattle.theory_forest.proofs.Shape.{without_among}

pub path_trans : {E : ℕ → ℕ → Type 0} {u v w : ℕ} → Path E u v → Path E v w → Path E u w
path_trans p (one e) = more p e
path_trans p (more q e) = more (path_trans p q) e

pub path_cons : {E : ℕ → ℕ → Type 0} {u v w : ℕ} → E u v → Path E v w → Path E u w
path_cons e p = path_trans (one e) p

-- every edge of E is a path of F
pub path_lift : {E F : ℕ → ℕ → Type 0} → ((u v : ℕ) → E u v → Path F u v) → {u v : ℕ} → Path E u v → Path F u v
path_lift f (one {u = u} {v = v} e) = f u v e
path_lift f (more {v = v} {w = w} p e) = path_trans (path_lift f p) (f v w e)

pub path_map : {E F : ℕ → ℕ → Type 0} → ((u v : ℕ) → E u v → F u v) → {u v : ℕ} → Path E u v → Path F u v
path_map f p = path_lift (λ u v e. one (f u v e)) p

pub path_first : {E : ℕ → ℕ → Type 0} {u w : ℕ} → Path E u w → E u w ⊎ ((v : ℕ) × E u v × Path E v w)
path_first (one e) = inl e
path_first {E} (more {u = u} {v = v} {w = w} p e) =
    ⊎_elim
    (λ (d : E u v). inr (v, d, one e))
    (λ (r : (x : ℕ) × E u x × Path E x v). inr (r.0, r.1, more r.2 e))
    (path_first p)

-- the last edge
pub path_last : {E : ℕ → ℕ → Type 0} {u w : ℕ} → Path E u w → E u w ⊎ ((v : ℕ) × Path E u v × E v w)
path_last (one e) = inl e
path_last (more {v = v} p e) = inr (v, p, e)

-- both ends of a path lie where the edges do
pub path_within : {E : ℕ → ℕ → Type 0} (n : ℕ) → ((u v : ℕ) → E u v → (u < n) × (v < n)) → {u v : ℕ} → Path E u v → (u < n) × (v < n)
path_within n w (one {u = u} {v = v} e) = w u v e
path_within n w (more {v = u} {w = v} p e) = ((path_within n w p).0, (w u v e).1)

-- E and the edge from a to r
abbrev pub Adding : (ℕ → ℕ → Type 0) → ℕ → ℕ → ℕ → ℕ → Type 0
Adding E a r u v = E u v ⊎ ((u ≡ a) × (v ≡ r))

-- what the law says of the closure with that edge
abbrev pub Reached : (ℕ → ℕ → Type 0) → ℕ → ℕ → ℕ → ℕ → Type 0
Reached E a r x v = Path E x v ⊎ (((x ≡ a) ⊎ Path E x a) × ((v ≡ r) ⊎ Path E r v))

reached_more : (E : ℕ → ℕ → Type 0) (a r x v w : ℕ) → Reached E a r x v → Adding E a r v w → Reached E a r x w
reached_more E a r x v w (inl p) (inl e) = inl (more p e)
reached_more E a r x v w (inl p) (inr q) = inr (inr (subst (λ (z : ℕ). Path E x z) q.0 p), inl q.1)
reached_more E a r x v w (inr s) (inr q) = inr (s.0, inl q.1)
reached_more E a r x v w (inr s) (inl e) =
    inr
    (s.0, ⊎_elim (λ (i : v ≡ r). inr (one (subst (λ (z : ℕ). E z w) i e))) (λ (p : Path E r v). inr (more p e)) s.1)

pub adding_reached : {E : ℕ → ℕ → Type 0} {a r x v : ℕ} → Path (Adding E a r) x v → Reached E a r x v
adding_reached (one (inl e)) = inl (one e)
adding_reached (one (inr q)) = inr (inl q.0, inl q.1)
adding_reached {E} {a} {r} (more {u = x} {v = v} {w = w} p e) = reached_more E a r x v w (adding_reached p) e

pub reached_adding : {E : ℕ → ℕ → Type 0} {a r x v : ℕ} → Reached E a r x v → Path (Adding E a r) x v
reached_adding (inl p) = path_map (λ u v e. inl e) p
reached_adding {E} {a} {r} {x} {v} (inr s) =
    let edge : Path (Adding E a r) a r = one (inr (refl, refl)) in
    let from : Path (Adding E a r) x r = ⊎_elim (λ (i : x ≡ a). rw i edge) (λ (p : Path E x a). path_trans (path_map (λ u v e. inl e) p) edge) s.0 in
    ⊎_elim (λ (i : v ≡ r). rw i from) (λ (p : Path E r v). path_trans from (path_map (λ u v e. inl e) p)) s.1

pub adding_closure : (E : ℕ → ℕ → Type 0) (a r x v : ℕ) → Path (Adding E a r) x v ↔ (Path E x v ⊎ (((x ≡ a) ⊎ Path E x a) × ((v ≡ r) ⊎ Path E r v)))
adding_closure E a r x v = (adding_reached, reached_adding)

-- the edges of a graph with one edge more

pub graph_edge_added : (g : Graph) (a r u v : ℕ) → GraphEdge (adding g a r) u v ↔ Adding (GraphEdge g) a r u v
unfolding adding
graph_edge_added g a r u v = (
  ⊎_elim
      (λ (t : TreeEdge g u v). inl (inl t))
      (λ m.
      ⊎_elim
      (λ (q : (a ≡ u) × (r ≡ v)). inr (sym q.0, sym q.1))
      (λ (d : DominanceEdge g u v). inl (inr d))
      (among_cases (a, r) g.dominance u v m)),
  ⊎_elim
      (⊎_elim (λ (t : TreeEdge g u v). inl t) (λ (d : DominanceEdge g u v). inr (among_rest (a, r) g.dominance u v d)))
      (λ (q : (u ≡ a) × (v ≡ r)). inr (among_first (a, r) g.dominance u v (sym q.0) (sym q.1))),
)

pub descent_adding : (g : Graph) (a r x v : ℕ) → Descent (adding g a r) x v ↔ (Descent g x v ⊎ (((x ≡ a) ⊎ Descent g x a) × ((v ≡ r) ⊎ Descent g r v)))
descent_adding g a r x v = (
  λ p. adding_reached (path_map (λ y z. (graph_edge_added g a r y z).0) p),
  λ s. path_map (λ y z. (graph_edge_added g a r y z).1) (reached_adding s),
)

pub descent_added : (g : Graph) (a r : ℕ) {x v : ℕ} → Descent g x v → Descent (adding g a r) x v
descent_added g a r {x} {v} p = (descent_adding g a r x v).1 (inl p)

-- the new edge itself
pub added_edge : (g : Graph) (a r : ℕ) → Descent (adding g a r) a r
added_edge g a r = (descent_adding g a r a r).1 (inr (inl refl, inl refl))

pub descent_removed : (g : Graph) (l r : ℕ) {x v : ℕ} → Descent (removed g l r) x v → Descent g x v
unfolding removed
descent_removed g l r p =
    path_map (λ x v. ⊎_elim (λ (t : TreeEdge g x v). inl t) (λ d. inr (without_among g.dominance l r x v d))) p
