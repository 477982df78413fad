-- Where no cycle and no choice is left: `settled` hangs each root under the leaf of its one edge that stays, and leaves
-- the others on top. What lies below what in it is the descent relation: a hanging is a dominance edge, and a descent
-- with a node between is two with fewer nodes between, and one with none between is a tree edge or an edge that stays.
-- So it is a solved form, and every solved form contains it.
use Prim.Native.Nat.{ℕ, zero, suc, ◌≤◌, ◌<◌}
use mathlib.Core.Path.{◌≡◌, refl, sym, ap, subst, ◌∙◌}
use mathlib.Core.List.{List}
use mathlib.Core.Bool.{true, false, ◌&&◌, ◌||◌}
use mathlib.Core.Logic.{◌⊎◌, inl, inr, ⊎_elim}
use native.Mathlib.Nat.{le_of_suc-le-suc}
use native.Mathlib.Omega.{arith}
use lib.Dec.{eqb, ltb}
use lib.ListN.{length, get_or}
use borrow.Author.Tests.{ltb-true, lt-ltb, eq-eqb}
use Rattle.base_finite.specs.Below.{all}
use Rattle.base_finite.proofs.Laws.{by_bool, or_left, or_right, and_intro, all_every, least_at, least_holds}
use Rattle.graph.specs.Graph.{Graph, root, leaf, none, TreeEdge, DominanceEdge, GraphEdge, Descent, one}
use Rattle.graph.specs.Order.{Kept}
use Rattle.graph.specs.Placing.{at, placing, hangs, Below, Contains, SolvedForm}
use Rattle.theory_edges.proofs.Ends.{leaf_below, root_below}
use Rattle.theory_forest.specs.Shape.{Shaped}
use Rattle.theory_forest.proofs.Closure.{path_trans, path_map}
use Rattle.theory_forest.specs.Table.{listed as row}
use Rattle.theory_forest.proofs.Table.{hangs_parts, hangs_intro}
use Rattle.theory_forest.proofs.Forests.{acyclic_forest}
use Rattle.theory_list.specs.Redundancy.{Loopless, NoneBetween, kept_table, kept}
use Rattle.theory_list.proofs.Redundancy.{kept_iff, kept_holds, kept_within}
use Rattle.theory_list.specs.Choosing.{lowest_above, Unforked}
use Rattle.theory_list.proofs.Between.{descent_by_edges}
use Rattle.theory_list.specs.Settled.{within, settled_by, settled}

-- what stands in it

get_or_row : (n : ℕ) (f : ℕ → ℕ) (k : ℕ) → k < n → get_or (row n f) k 0 ≡ f k
unfolding row
get_or_row zero f k h = absurd (omega arith)
get_or_row (suc n) f zero h = refl
get_or_row (suc n) f (suc k) h = get_or_row n (λ k. f (suc k)) k (le_of_suc-le-suc h)

length_row : (n : ℕ) (f : ℕ → ℕ) → length (row n f) ≡ n
unfolding row
length_row zero f = refl
length_row (suc n) f = ap suc (length_row n (λ k. f (suc k)))

pub settled_length : (g : Graph) → length (settled g) ≡ g.nodes
unfolding settled settled_by
settled_length g = length_row g.nodes (λ r. within g.nodes (lowest_above g.nodes (kept_table g) r))

pub settled_at : (g : Graph) (r : ℕ) → r < g.nodes → at (settled g) r ≡ within g.nodes (lowest_above g.nodes (kept_table g) r)
unfolding settled settled_by
settled_at g r h = get_or_row g.nodes (λ r. within g.nodes (lowest_above g.nodes (kept_table g) r)) r h

module _ (g : Graph) (s : Shaped g) (n : Loopless g) where
  -- at each node stands `none`, or a leaf with an edge that stays to it
  settled_cases : (r : ℕ) → r < g.nodes → (at (settled g) r ≡ none) ⊎ Kept g (at (settled g) r) r
  unfolding within lowest_above kept
  settled_cases r h =
      let low : ℕ = lowest_above g.nodes (kept_table g) r in
      by_bool (ltb low g.nodes)
      (λ (t : ltb low g.nodes ≡ true).
      let e : at (settled g) r ≡ low = settled_at g r h ∙ rw t in
      inr (subst (λ (z : ℕ). Kept g z r) (sym e) ((kept_holds g s n low r).0 (least_holds g.nodes (λ l. kept g l r) (ltb-true low g.nodes t)))))
      (λ (t : ltb low g.nodes ≡ false). inl (settled_at g r h ∙ rw t))

  pub settled_placing : placing g (settled g) ≡ true
  unfolding placing
  settled_placing =
      let p : List ℕ = settled g in
      and_intro (eqb (length p) g.nodes) (all g.nodes (λ v. eqb (at p v) none || root g v && leaf g (at p v)))
      (eq-eqb (length p) g.nodes (settled_length g))
      (all_every g.nodes (λ v. eqb (at p v) none || root g v && leaf g (at p v)) (λ v h.
      ⊎_elim
      (λ (i : at p v ≡ none). or_left (eqb (at p v) none) (root g v && leaf g (at p v)) (eq-eqb (at p v) none i))
      (λ (k : Kept g (at p v) v).
      let b = s.leaf_to_root (at p v) v k.0 in
      or_right (eqb (at p v) none) (root g v && leaf g (at p v)) (and_intro (root g v) (leaf g (at p v)) b.1 b.0))
      (settled_cases v h)))

  -- what hangs there hangs by an edge that stays
  hangs_kept : (l r : ℕ) → hangs g (settled g) l r ≡ true → Kept g l r
  hangs_kept l r h =
      let b = hangs_parts g (settled g) l r h in
      let few : g.nodes ≤ 128 = s.few_nodes in
      let small : l < g.nodes = leaf_below g l b.0 in
      let e : at (settled g) r ≡ l = b.2 in
      ⊎_elim
      (λ (i : at (settled g) r ≡ none). absurd (omega arith))
      (λ (k : Kept g (at (settled g) r) r). subst (λ (z : ℕ). Kept g z r) e k)
      (settled_cases r (root_below g r b.1))

  pub settled_descent : {u v : ℕ} → Below g (settled g) u v → Descent g u v
  settled_descent b =
      path_map (λ x y. ⊎_elim (λ (t : TreeEdge g x y). inl t) (λ (h : hangs g (settled g) x y ≡ true). inr (hangs_kept x y h).0)) b

  module _ (one_each : Unforked g) where
    kept_hangs : (l r : ℕ) → Kept g l r → hangs g (settled g) l r ≡ true
    unfolding within lowest_above kept
    kept_hangs l r k =
        let b = s.leaf_to_root l r k.0 in
        let w = kept_within g s l r k in
        let low : ℕ = lowest_above g.nodes (kept_table g) r in
        let small : low < g.nodes = omega (arith, least_at g.nodes (λ l. kept g l r) l w.0 ((kept_holds g s n l r).1 k), w.0) in
        let lowest : Kept g low r = (kept_holds g s n low r).0 (least_holds g.nodes (λ l. kept g l r) small) in
        let e : at (settled g) r ≡ low = settled_at g r w.1 ∙ rw (lt-ltb low g.nodes small) in
        hangs_intro g (settled g) l r b.0 b.1 (e ∙ one_each r low l lowest k)

    -- an edge with nothing between its ends
    edge_settled : (u v : ℕ) → NoneBetween g u v → GraphEdge g u v → Below g (settled g) u v
    edge_settled u v none_there =
        ⊎_elim
        (λ (t : TreeEdge g u v). one (inl t))
        (λ (d : DominanceEdge g u v). one (inr (kept_hangs u v ((kept_iff g s n u v).1 (d, none_there)))))

    pub descent_settled : Contains (Below g (settled g)) (Descent g)
    descent_settled = descent_by_edges g s n (Below g (settled g)) (λ u x v. path_trans) edge_settled

    pub settled_solved : SolvedForm g (settled g)
    settled_solved =
        record {
          is_placing = settled_placing;
          is_forest = acyclic_forest g (settled g) s (λ u b. n u (settled_descent b));
          contains = descent_settled;
        }
