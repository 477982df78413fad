-- The order of the readings, with the redundant edges removed before each choice as the requirements have it
-- (`BeforeReduced`), is `Before`, which only leaves them out of account (`before_reduced`).
-- Graphs are alike that have the same nodes, tree edges and descents. A graph without a cycle is alike to what Rule 2
-- leaves of it, as a descent with a node between is two with fewer nodes between. Which edges stay, the choice, and what
-- lies below what in a placing are the same in alike graphs; and alike graphs with one edge added are alike.
use Prim.Native.Nat.{ℕ}
use mathlib.Core.Path.{◌≡◌, refl, sym, subst, subst₂, ◌∙◌}
use mathlib.Core.List.{List}
use mathlib.Core.Bool.{true}
use mathlib.Core.Logic.{◌⊎◌, inl, inr, ⊎_elim, ◌↔◌}
use Rattle.graph.specs.Graph.{Edge, Graph, among, root, leaf, own, TreeEdge, DominanceEdge, GraphEdge, Descent, one}
use Rattle.graph.specs.Order.{Kept, Choice, adding, Before, halves, within_first, within_second}
use Rattle.graph.specs.Placing.{hangs, Below, SolvedForm}
use Rattle.theory_edges.specs.Edges.{over}
use Rattle.theory_edges.proofs.Tables.{table, among_table, table_among}
use Rattle.theory_forest.specs.Shape.{Shaped}
use Rattle.theory_forest.proofs.Shape.{same_trees}
use Rattle.theory_forest.proofs.Closure.{path_trans, path_map, path_first, descent_adding}
use Rattle.theory_forest.proofs.Fragments.{leaf_childless}
use Rattle.theory_forest.proofs.Forests.{solved_adding}
use Rattle.theory_list.specs.Redundancy.{Loopless, NoneBetween, kept}
use Rattle.theory_list.proofs.Redundancy.{kept_iff, kept_holds, kept_within}
use Rattle.theory_list.proofs.Choosing.{first_shaped, second_shaped}
use Rattle.theory_list.proofs.Between.{descent_by_edges}
use Rattle.theory_list.proofs.Guided.{solved_loopless}

-- "Remove redundant dominance edges (Rule 2)": h is g without them
pub record Reduced (g h : Graph) : Type 0 where
  pub same_nodes : g.nodes ≡ h.nodes
  pub same_tree : g.tree ≡ h.tree
  pub kept_edges : (l r : ℕ) → DominanceEdge h l r ↔ Kept g l r

-- "Take the lowest root .. All readings with a above b's root come before all with b above a's root. Add that edge and go
-- on within each half (Rule 3)." The choice is made in the graph without redundant edges, and the edge is added to it.
pub data BeforeReduced : Graph → List ℕ → List ℕ → Type 0 where
  reduced_halves : {g : Graph} {p q : List ℕ} (h : Graph) → Reduced g h → (v a b : ℕ) → Choice h v a b → Below h p a (own h b) → Below h q b (own h a) → BeforeReduced g p q
  reduced_first : {g : Graph} {p q : List ℕ} (h : Graph) → Reduced g h → (v a b : ℕ) → Choice h v a b → Below h p a (own h b) → Below h q a (own h b) → BeforeReduced (adding h a (own h b)) p q → BeforeReduced g p q
  reduced_second : {g : Graph} {p q : List ℕ} (h : Graph) → Reduced g h → (v a b : ℕ) → Choice h v a b → Below h p b (own h a) → Below h q b (own h a) → BeforeReduced (adding h b (own h a)) p q → BeforeReduced g p q

-- graphs with the same nodes and tree edges

over_same : (g h : Graph) → g.nodes ≡ h.nodes → g.tree ≡ h.tree → over g h.dominance ≡ h
over_same g h n t = λ i. record { nodes = n i; tree = t i; dominance = h.dominance }

same_below : (g h : Graph) → g.nodes ≡ h.nodes → g.tree ≡ h.tree → (p : List ℕ) (u v : ℕ) → Below g p u v ↔ Below h p u v
unfolding hangs root leaf
same_below g h n t p u v = subst (λ (z : Graph). Below g p u v ↔ Below z p u v) (over_same g h n t) (λ b. b, λ b. b)

same_own : (g h : Graph) → g.nodes ≡ h.nodes → g.tree ≡ h.tree → (v : ℕ) → own g v ≡ own h v
unfolding own
same_own g h n t v = rw (n, t)

same_leaf : (g h : Graph) → g.nodes ≡ h.nodes → g.tree ≡ h.tree → (v : ℕ) → leaf g v ≡ leaf h v
unfolding leaf
same_leaf g h n t v = rw (n, t)

same_root : (g h : Graph) → g.nodes ≡ h.nodes → g.tree ≡ h.tree → (v : ℕ) → root g v ≡ root h v
unfolding root
same_root g h n t v = rw (n, t)

-- alike graphs

record Alike (g h : Graph) : Type 0 where
  same_nodes : g.nodes ≡ h.nodes
  same_tree : g.tree ≡ h.tree
  same_descent : (u v : ℕ) → Descent g u v ↔ Descent h u v

alike_itself : (g : Graph) → Alike g g
alike_itself g = record { same_nodes = refl; same_tree = refl; same_descent = λ u v. (λ d. d, λ d. d) }

alike_sym : {g h : Graph} → Alike g h → Alike h g
alike_sym x =
    record {
      same_nodes = sym x.same_nodes;
      same_tree = sym x.same_tree;
      same_descent = λ u v. ((x.same_descent u v).1, (x.same_descent u v).0);
    }

alike_trans : {g h k : Graph} → Alike g h → Alike h k → Alike g k
alike_trans x y =
    record {
      same_nodes = x.same_nodes ∙ y.same_nodes;
      same_tree = x.same_tree ∙ y.same_tree;
      same_descent = λ u v.
          (λ d. (y.same_descent u v).0 ((x.same_descent u v).0 d), λ d. (x.same_descent u v).1 ((y.same_descent u v).1 d));
    }

alike_loopless : {g h : Graph} → Alike g h → Loopless g → Loopless h
alike_loopless x n u d = n u ((x.same_descent u u).1 d)

-- what is newly reached is reached by way of the same descents
adding_descent : {g h : Graph} → Alike g h → (a r u v : ℕ) → Descent (adding g a r) u v → Descent (adding h a r) u v
adding_descent {g} {h} x a r u v d =
    let to : (y z : ℕ) → Descent g y z → Descent h y z = λ y z. (x.same_descent y z).0 in
    (descent_adding h a r u v).1
    (⊎_elim
    (λ (e : Descent g u v). inl (to u v e))
    (λ (s : ((u ≡ a) ⊎ Descent g u a) × ((v ≡ r) ⊎ Descent g r v)).
    inr (
      ⊎_elim (λ (i : u ≡ a). inl i) (λ (e : Descent g u a). inr (to u a e)) s.0,
      ⊎_elim (λ (i : v ≡ r). inl i) (λ (e : Descent g r v). inr (to r v e)) s.1,
    ))
    ((descent_adding g a r u v).0 d))

adding_alike : {g h : Graph} → Alike g h → (a r : ℕ) → Alike (adding g a r) (adding h a r)
unfolding adding
adding_alike x a r =
    record {
      same_nodes = x.same_nodes;
      same_tree = x.same_tree;
      same_descent = λ u v. (adding_descent x a r u v, adding_descent (alike_sym x) a r u v);
    }

-- Rule 3's edge from a to b's root
own_alike : {g h : Graph} → Alike g h → (a b : ℕ) → Alike (adding g a (own g b)) (adding h a (own h b))
own_alike {g} {h} x a b =
    subst (λ (r : ℕ). Alike (adding g a (own g b)) (adding h a r)) (same_own g h x.same_nodes x.same_tree b) (adding_alike x a (own g b))

own_below : {g h : Graph} → Alike g h → (p : List ℕ) (a b : ℕ) → Below g p a (own g b) → Below h p a (own h b)
own_below {g} {h} x p a b d =
    subst (λ (r : ℕ). Below h p a r) (same_own g h x.same_nodes x.same_tree b)
    ((same_below g h x.same_nodes x.same_tree p a (own g b)).0 d)

-- which edges stay, by the descent relation alone: from a leaf to a root below it, with no node between
kept_by_descent : (g : Graph) → Shaped g → Loopless g → (l r : ℕ) → Kept g l r ↔ ((leaf g l ≡ true) × (root g r ≡ true) × Descent g l r × NoneBetween g l r)
kept_by_descent g s n l r = (
  λ k.
      let d = (kept_iff g s n l r).0 k in
      let e = s.leaf_to_root l r d.0 in
      (e.0, e.1, one (inr d.0), d.1),
  λ k.
      (kept_iff g s n l r).1 (
        ⊎_elim
            (⊎_elim (λ (t : TreeEdge g l r). absurd (leaf_childless g l r k.0 t)) (λ (d : DominanceEdge g l r). d))
            (λ (x : (v : ℕ) × GraphEdge g l v × Descent g v r). absurd (k.3 x.0 (one x.1) x.2))
            (path_first k.2),
        k.3,
      ),
)

module _ (g h : Graph) (s : Shaped g) (t : Shaped h) (x : Alike g h) (n : Loopless g) where
  alike_kept : (l r : ℕ) → Kept g l r → Kept h l r
  alike_kept l r k =
      let d = (kept_by_descent g s n l r).0 k in
      (kept_by_descent h t (alike_loopless x n) l r).1 (
        sym (same_leaf g h x.same_nodes x.same_tree l) ∙ d.0,
        sym (same_root g h x.same_nodes x.same_tree r) ∙ d.1,
        (x.same_descent l r).0 d.2,
        λ y a b. d.3 y ((x.same_descent l y).1 a) ((x.same_descent y r).1 b),
      )

alike_choice : (g h : Graph) → Shaped g → Shaped h → Alike g h → Loopless g → {v a b : ℕ} → Choice g v a b → Choice h v a b
alike_choice g h s t x n {v} {a} {b} c =
    let to : (l r : ℕ) → Kept g l r → Kept h l r = alike_kept g h s t x n in
    let back : (l r : ℕ) → Kept h l r → Kept g l r = alike_kept h g t s (alike_sym x) (alike_loopless x n) in
    record {
      first = to a v c.first;
      second = to b v c.second;
      lower = c.lower;
      lowest_leaves = λ l k. c.lowest_leaves l (back l v k);
      lowest_root = λ w l m lt k j. c.lowest_root w l m lt (back l w k) (back m w j);
    }

-- what Rule 2 leaves

-- there is such a graph: its dominance edges are read off the table of the edges that stay
pub left_over : Graph → Graph
left_over g = over g (table g.nodes (kept g) (λ l r. (l, r)))

pub left_over_reduced : (g : Graph) → Shaped g → Loopless g → Reduced g (left_over g)
unfolding left_over
left_over_reduced g s n =
    record {
      same_nodes = refl;
      same_tree = refl;
      kept_edges = λ l r. (
        λ m.
            let f = among_table g.nodes (kept g) (λ l r. (l, r)) l r m in
            subst₂ (λ (y z : ℕ). Kept g y z) f.5 f.6 ((kept_holds g s n f.0 f.1).0 f.4),
        λ k.
            let w = kept_within g s l r k in
            table_among g.nodes (kept g) (λ l r. (l, r)) l r w.0 w.1 ((kept_holds g s n l r).1 k),
      );
    }

reduced_shaped : {g h : Graph} → Reduced g h → Shaped g → Shaped h
reduced_shaped {g} {h} x s =
    subst Shaped (over_same g h x.same_nodes x.same_tree)
    (same_trees g h.dominance s (λ l r d. s.leaf_to_root l r ((x.kept_edges l r).0 d).0))

module _ {g h : Graph} (y : Reduced g h) (s : Shaped g) (n : Loopless g) where
  reduced_edge : (u v : ℕ) → GraphEdge h u v → GraphEdge g u v
  reduced_edge u v =
      ⊎_elim
      (λ (t : TreeEdge h u v). inl (subst (λ (z : List Edge). among z u v ≡ true) (sym y.same_tree) t))
      (λ (d : DominanceEdge h u v). inr ((y.kept_edges u v).0 d).0)

  -- an edge with nothing between its ends stays
  direct_edge : (u v : ℕ) → NoneBetween g u v → GraphEdge g u v → GraphEdge h u v
  direct_edge u v free =
      ⊎_elim
      (λ (t : TreeEdge g u v). inl (subst (λ (z : List Edge). among z u v ≡ true) y.same_tree t))
      (λ (d : DominanceEdge g u v). inr ((y.kept_edges u v).1 ((kept_iff g s n u v).1 (d, free))))

  reduced_alike : Alike g h
  reduced_alike =
      record {
        same_nodes = y.same_nodes;
        same_tree = y.same_tree;
        same_descent = λ u v. (
          descent_by_edges g s n (Descent h) (λ u x v. path_trans) (λ u v free e. one (direct_edge u v free e)) u v,
          path_map reduced_edge,
        );
      }

-- what Rule 2 leaves of a graph is alike to what that graph is alike to
alike_reduced : {g k h : Graph} → Alike g k → Shaped k → Loopless g → Reduced k h → Alike g h
alike_reduced x t n y = alike_trans x (reduced_alike y t (alike_loopless x n))

-- the theorem, for a graph g and a graph k alike to it

-- at each choice of g, what Rule 2 leaves of k has the same choice, and its half is alike to g's half
before_to_reduced : {g : Graph} {p q : List ℕ} → Before g p q → (k : Graph) → Alike g k → Shaped g → Shaped k → SolvedForm g p → SolvedForm g q → BeforeReduced k p q
before_to_reduced (halves {g = g} {p = p} {q = q} v a b c up down) k x s t fp fq =
    let n : Loopless g = solved_loopless fp in
    let h : Graph = left_over k in
    let y : Reduced k h = left_over_reduced k t (alike_loopless x n) in
    let z : Alike g h = alike_reduced x t n y in
    reduced_halves h y v a b (alike_choice g h s (reduced_shaped y t) z n c) (own_below z p a b up) (own_below z q b a down)
before_to_reduced (within_first {g = g} {p = p} {q = q} v a b c up down r) k x s t fp fq =
    let n : Loopless g = solved_loopless fp in
    let h : Graph = left_over k in
    let y : Reduced k h = left_over_reduced k t (alike_loopless x n) in
    let z : Alike g h = alike_reduced x t n y in
    let d : Choice h v a b = alike_choice g h s (reduced_shaped y t) z n c in
    reduced_first h y v a b d (own_below z p a b up) (own_below z q a b down)
    (before_to_reduced r (adding h a (own h b)) (own_alike z a b) (first_shaped g s c) (first_shaped h (reduced_shaped y t) d)
    ((solved_adding g a (own g b) p).1 (fp, up)) ((solved_adding g a (own g b) q).1 (fq, down)))
before_to_reduced (within_second {g = g} {p = p} {q = q} v a b c up down r) k x s t fp fq =
    let n : Loopless g = solved_loopless fp in
    let h : Graph = left_over k in
    let y : Reduced k h = left_over_reduced k t (alike_loopless x n) in
    let z : Alike g h = alike_reduced x t n y in
    let d : Choice h v a b = alike_choice g h s (reduced_shaped y t) z n c in
    reduced_second h y v a b d (own_below z p b a up) (own_below z q b a down)
    (before_to_reduced r (adding h b (own h a)) (own_alike z b a) (second_shaped g s c) (second_shaped h (reduced_shaped y t) d)
    ((solved_adding g b (own g a) p).1 (fp, up)) ((solved_adding g b (own g a) q).1 (fq, down)))

-- and the choice of whatever graph Rule 2 leaves of k is g's
before_from_reduced : {k : Graph} {p q : List ℕ} → BeforeReduced k p q → (g : Graph) → Alike g k → Shaped g → Shaped k → SolvedForm g p → SolvedForm g q → Before g p q
before_from_reduced (reduced_halves {p = p} {q = q} h y v a b c up down) g x s t fp fq =
    let n : Loopless g = solved_loopless fp in
    let z : Alike g h = alike_reduced x t n y in
    let w : Alike h g = alike_sym z in
    halves v a b (alike_choice h g (reduced_shaped y t) s w (alike_loopless z n) c) (own_below w p a b up) (own_below w q b a down)
before_from_reduced (reduced_first {p = p} {q = q} h y v a b c up down r) g x s t fp fq =
    let n : Loopless g = solved_loopless fp in
    let z : Alike g h = alike_reduced x t n y in
    let w : Alike h g = alike_sym z in
    let d : Choice g v a b = alike_choice h g (reduced_shaped y t) s w (alike_loopless z n) c in
    let pa : Below g p a (own g b) = own_below w p a b up in
    let qa : Below g q a (own g b) = own_below w q a b down in
    within_first v a b d pa qa
    (before_from_reduced r (adding g a (own g b)) (own_alike z a b) (first_shaped g s d) (first_shaped h (reduced_shaped y t) c)
    ((solved_adding g a (own g b) p).1 (fp, pa)) ((solved_adding g a (own g b) q).1 (fq, qa)))
before_from_reduced (reduced_second {p = p} {q = q} h y v a b c up down r) g x s t fp fq =
    let n : Loopless g = solved_loopless fp in
    let z : Alike g h = alike_reduced x t n y in
    let w : Alike h g = alike_sym z in
    let d : Choice g v a b = alike_choice h g (reduced_shaped y t) s w (alike_loopless z n) c in
    let pb : Below g p b (own g a) = own_below w p b a up in
    let qb : Below g q b (own g a) = own_below w q b a down in
    within_second v a b d pb qb
    (before_from_reduced r (adding g b (own g a)) (own_alike z b a) (second_shaped g s d) (second_shaped h (reduced_shaped y t) c)
    ((solved_adding g b (own g a) p).1 (fp, pb)) ((solved_adding g b (own g a) q).1 (fq, qb)))

pub before_reduced : (g : Graph) → Shaped g → (p q : List ℕ) → SolvedForm g p → SolvedForm g q → Before g p q ↔ BeforeReduced g p q
before_reduced g s p q fp fq = (
  λ r. before_to_reduced r g (alike_itself g) s s fp fq,
  λ r. before_from_reduced r g (alike_itself g) s s fp fq,
)
