-- The theorem: a graph has a solved form if and only if free fragments can be taken out until none is left.
-- What the elimination builds is a function from fragments to leaves. Spelt as a list it is a placing; it is a forest,
-- because along a path that leaves its fragment the rank goes up; and its dominance edges run downward.
use Prim.Native.Nat.{ℕ, zero, suc, ◌<◌}
use mathlib.Core.Path.{◌≡◌, refl, sym, ap, subst, ◌∙◌}
use mathlib.Core.List.{List, [], ◌∷◌}
use mathlib.Core.Bool.{true, ◌&&◌, ◌||◌}
use mathlib.Core.Logic.{◌⊎◌, inl, inr, ⊎_elim, ◌↔◌}
use native.Mathlib.Omega.{arith}
use native.Mathlib.Nat.{le_of_suc-le-suc}
use lib.Dec.{eqb}
use lib.ListN.{length}
use borrow.Author.Tests.{eq-eqb}
use Rattle.base_finite.specs.Below.{all}
use Rattle.base_finite.proofs.Laws.{or_left, or_right, and_intro, all_every}
use Rattle.graph.specs.Graph.{Graph, TreeEdge, Path, one, more, root, leaf, own, none}
use Rattle.graph.specs.Placing.{at, placing, hangs, PlacingEdge, Below, Forest, Solvable, Hanging}
use Rattle.theory_edges.proofs.Ends.{leaf_below, root_below}
use Rattle.theory_forest.specs.Shape.{Shaped}
use Rattle.theory_forest.proofs.Closure.{path_map}
use Rattle.theory_forest.proofs.Table.{hangs_parts, hangs_intro}
use Rattle.theory_forest.proofs.Fragments.{own_edge, own_path, own_root, own_of_root}
use Rattle.theory_forest.proofs.Forests.{acyclic_forest, hanging_solved}
use Rattle.theory_solvable.proofs.Free.{Eliminates}
use Rattle.theory_solvable.proofs.Topmost.{solvable_eliminates}
use Rattle.theory_solvable.proofs.Raised.{HungEdge, Under, Solves, set_solved, none_no_leaf}

-- the list of a function's first n values
values : (n : ℕ) (q : ℕ → ℕ) → (p : List ℕ) × (length p ≡ n) × ((v : ℕ) → v < n → at p v ≡ q v)
values zero q = ([], refl, λ v h. absurd (omega arith))
values (suc n) q =
    let x = values n (λ k. q (suc k)) in
    (q 0 ∷ x.0, ap suc x.1, elim [ zero ↦ λ h. refl | suc v ↦ λ h. x.2 v (le_of_suc-le-suc h) ])

module _ (g : Graph) (s : Shaped g) (q rank : ℕ → ℕ) (x : Solves g (root g) q rank)
    (p : List ℕ) (long : length p ≡ g.nodes) (spelt : (v : ℕ) → v < g.nodes → at p v ≡ q v) where
  values_placing : placing g p ≡ true
  unfolding placing
  values_placing =
      and_intro (eqb (length p) g.nodes) (all g.nodes (λ v. eqb (at p v) none || root g v && leaf g (at p v)))
      (eq-eqb (length p) g.nodes long)
      (all_every g.nodes (λ v. eqb (at p v) none || root g v && leaf g (at p v)) (λ v h.
      ⊎_elim
      (λ (e : q v ≡ none). or_left (eqb (at p v) none) (root g v && leaf g (at p v)) (eq-eqb (at p v) none (spelt v h ∙ e)))
      (λ (u : Under g (root g) rank v (q v)).
      or_right (eqb (at p v) none) (root g v && leaf g (at p v)) (and_intro (root g v) (leaf g (at p v)) u.0 (rw (spelt v h) u.1)))
      (x.hung v)))

  -- a root that hangs does so as the ranks demand
  hung_under : (u v : ℕ) → leaf g u ≡ true → q v ≡ u → Under g (root g) rank v u
  hung_under u v h e =
      ⊎_elim
      (λ (i : q v ≡ none). absurd (none_no_leaf g s u h (sym e ∙ i)))
      (λ (w : Under g (root g) rank v (q v)). subst (λ (z : ℕ). Under g (root g) rank v z) e w)
      (x.hung v)

  -- a hung root is of higher rank
  hanging_rises : (u v : ℕ) → hangs g p u v ≡ true → rank (own g u) < rank (own g v)
  hanging_rises u v h =
      let b = hangs_parts g p u v h in
      let w = hung_under u v b.0 (sym (spelt v (root_below g v b.1)) ∙ b.2) in
      rw (own_of_root g v b.1) w.3

  -- a path stays in its fragment, or goes to a fragment of higher rank
  path_rises : {u v : ℕ} → Below g p u v → Path (TreeEdge g) u v ⊎ (rank (own g u) < rank (own g v))
  path_rises (one (inl t)) = inl (one t)
  path_rises (one {u = u} {v = v} (inr h)) = inr (hanging_rises u v h)
  path_rises (more {u = u} {v = v} {w = w} d (inl t)) =
      ⊎_elim
      (λ (c : Path (TreeEdge g) u v). inl (more c t))
      (λ (c : rank (own g u) < rank (own g v)). inr (rw (own_edge g s v w t) c))
      (path_rises d)
  path_rises (more {u = u} {v = v} {w = w} d (inr h)) =
      let up : rank (own g v) < rank (own g w) = hanging_rises v w h in
      ⊎_elim
      (λ (c : Path (TreeEdge g) u v). inr (rw (own_path g s c) at up))
      (λ (c : rank (own g u) < rank (own g v)). inr (omega arith))
      (path_rises d)

  values_forest : Forest (PlacingEdge g p)
  values_forest = acyclic_forest g p s (λ u d.
      ⊎_elim
      (λ (c : Path (TreeEdge g) u u). s.no_tree_cycle u c)
      (λ (c : rank (own g u) < rank (own g u)). omega arith)
      (path_rises d))

  hung_edge : (u v : ℕ) → HungEdge g q u v → PlacingEdge g p u v
  hung_edge u v =
      ⊎_elim
      (λ (t : TreeEdge g u v). inl t)
      (λ (h : (leaf g u ≡ true) × (q v ≡ u)).
      let w = hung_under u v h.0 h.1 in
      inr (hangs_intro g p u v h.0 w.0 (spelt v (root_below g v w.0) ∙ h.1)))

  values_hanging : Hanging g p
  values_hanging =
      record {
        is_placing = values_placing;
        is_forest = values_forest;
        downward = λ l r d.
            let b = s.leaf_to_root l r d in
            path_map hung_edge (x.downward l r b.0 (own_root g s l (leaf_below g l b.0)) b.1 (one (inr d)));
      }

pub eliminates_solvable : (g : Graph) → Shaped g → Eliminates g (root g) → Solvable g
eliminates_solvable g s e =
    let x = set_solved g s (λ r h. h) e in
    let p = values g.nodes x.0 in
    (p.0, (hanging_solved g p.0).0 (values_hanging g s x.0 x.1 x.2 p.0 p.1 p.2))

pub eliminates_iff : (g : Graph) → Shaped g → Eliminates g (root g) ↔ Solvable g
eliminates_iff g s = (eliminates_solvable g s, solvable_eliminates g s)
