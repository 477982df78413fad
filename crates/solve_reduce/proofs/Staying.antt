-- Rule 2 by the rows: an edge stays from a leaf to a root below it with no node between. A path from a leaf enters each
-- fragment at its root, so that it is enough to look for roots between.
use Prim.Native.Nat.{ℕ, ◌<◌}
use mathlib.Core.Path.{◌≡◌, refl, sym, subst, ◌∙◌}
use mathlib.Core.List.{List}
use mathlib.Core.Bool.{Bool, true, false, not, ◌&&◌, true≢false}
use mathlib.Core.Logic.{◌⊎◌, inl, inr, ⊎_elim, ◌↔◌}
use native.Mathlib.Omega.{arith}
use borrow.Author.Tests.{not-true}
use Rattle.base_finite.specs.Below.{any}
use Rattle.base_finite.proofs.Laws.{and_both, and_intro, any_at, any_none, not_holding, test_ext}
use Rattle.base_nodeset.specs.Set.{mem, Intersection}
use Rattle.base_nodeset.specs.declared.NodeSet.{NodeSet}
use Rattle.base_nodeset.proofs.Members.{Small}
use Rattle.graph.specs.Graph.{Graph, root, leaf, Descent, one, more}
use Rattle.graph.specs.Order.{Kept}
use Rattle.theory_edges.proofs.Ends.{root_below}
use Rattle.theory_forest.specs.Shape.{Shaped}
use Rattle.theory_forest.proofs.Closure.{path_trans}
use Rattle.theory_forest.proofs.Fragments.{leaf_childless}
use Rattle.theory_list.specs.Redundancy.{Loopless}
use Rattle.theory_list.proofs.Keeping.{kept_rows_lem}
use Rattle.base_tables.specs.Rows.{in_row, Rows, IsRow, Tops}
use Rattle.base_tables.specs.Trees.{TreesOf}
use Rattle.base_tables.specs.declared.trees.Trees.{Trees}
use Rattle.solve_reduce.specs.Staying.{head_of, Heads}

-- where a path from a leaf comes to is a root, or below a root that the path comes to
enters : (g : Graph) → Shaped g → {l x : ℕ} → leaf g l ≡ true → Descent g l x → (y : ℕ) × (root g y ≡ true) × Descent g l y × ((y ≡ x) ⊎ Descent g y x)
enters g s h (one {u = l} {v = x} (inl t)) = absurd (leaf_childless g l x h t)
enters g s h (one {u = l} {v = x} (inr d)) = (x, (s.leaf_to_root l x d).1, one (inr d), inl refl)
enters g s h (more {v = v} {w = x} p (inr d)) = (x, (s.leaf_to_root v x d).1, more p (inr d), inl refl)
enters g s h (more {v = v} {w = x} p (inl t)) =
    let e = enters g s h p in (
      e.0,
      e.1,
      e.2,
      inr
          (⊎_elim
          (λ (q : e.0 ≡ v). subst (λ (z : ℕ). Descent g z x) (sym q) (one (inl t)))
          (λ (d : Descent g e.0 v). more d (inl t))
          e.3),
    )

module _ (g : Graph) (s : Shaped g) (t : Trees) (sets : List NodeSet) (ends : TreesOf g t) (rows : Rows (Descent g) sets) where
  -- an edge stays just where the row of its leaf says so
  pub head_kept : Loopless g → (l v : ℕ) → ((mem t.leaves l && head_of t.roots sets l v) ≡ true) ↔ Kept g l v
  unfolding head_of
  head_kept free l v = (
    λ h.
        let a = and_both (mem t.leaves l) ((in_row sets l v && mem t.roots v) && not (any 128 between)) h in
        let b = and_both (in_row sets l v && mem t.roots v) (not (any 128 between)) a.1 in
        let c = and_both (in_row sets l v) (mem t.roots v) b.0 in
        let is_leaf : leaf g l ≡ true = sym (ends.leaves_are l) ∙ a.0 in
        (kept_rows_lem g s free l v).1 (
          is_leaf,
          sym (ends.roots_are v) ∙ c.1,
          (rows.row_is l v).0 c.0,
          λ x p q.
              let e = enters g s is_leaf p in
              let y : ℕ = e.0 in
              let down : Descent g y v = ⊎_elim (λ (i : y ≡ x). subst (λ (z : ℕ). Descent g z v) (sym i) q) (λ (d : Descent g y x). path_trans d q) e.3 in
              let in_row_lem : (in_row sets l y && mem t.roots y) ≡ true =
              and_intro (in_row sets l y) (mem t.roots y) ((rows.row_is l y).1 e.2) (ends.roots_are y ∙ e.1) in
              let small : y < 128 = omega (arith, root_below g y e.1, s.few_nodes) in
              true≢false
              (sym (any_at 128 between y small (and_intro (in_row sets l y && mem t.roots y) (in_row sets y v) in_row_lem ((rows.row_is y v).1 down)))
              ∙ not-true (any 128 between) b.1),
        ),
    λ k.
        let d = (kept_rows_lem g s free l v).0 k in
        let none : any 128 between ≡ false =
        any_none 128 between (λ x h.
        not_holding ((in_row sets l x && mem t.roots x) && in_row sets x v) (λ e.
        let b = and_both (in_row sets l x && mem t.roots x) (in_row sets x v) e in
        let c = and_both (in_row sets l x) (mem t.roots x) b.0 in
        d.3 x ((rows.row_is l x).0 c.0) ((rows.row_is x v).0 b.1))) in
        rw (ends.leaves_are l, d.0, (rows.row_is l v).1 d.2, ends.roots_are v, d.1, none),
  )
    where
      between : ℕ → Bool
      between x = (in_row sets l x && mem t.roots x) && in_row sets x v

-- the roots in a row, and the tops of them
pub heads_row : (roots : NodeSet) (sets : List NodeSet) (l : ℕ) (row set r : NodeSet) → Small roots → IsRow (in_row sets) l row → Intersection row roots set → Tops (in_row sets) set r
    → Heads roots sets l r
unfolding head_of
heads_row roots sets l row set r small is_row is_set tops =
    record {
      of_roots = λ v m. in_roots v (tops.of_set v m);
      exact = λ closed v.
          let between : ℕ → Bool = λ x. (in_row sets l x && mem roots x) && in_row sets x v in
          test_ext (mem r v) ((in_row sets l v && mem roots v) && not (any 128 between))
          (λ (t : mem r v ≡ true).
          let p = (tops.exact closed v).0 t in
          let none : any 128 between ≡ false =
          any_none 128 between (λ x h.
          not_holding ((in_row sets l x && mem roots x) && in_row sets x v) (λ e.
          let b = and_both (in_row sets l x && mem roots x) (in_row sets x v) e in
          p.1 x (set_is x ∙ b.0) b.1)) in
          rw (sym (set_is v) ∙ p.0, none))
          (λ (t : ((in_row sets l v && mem roots v) && not (any 128 between)) ≡ true).
          let b = and_both (in_row sets l v && mem roots v) (not (any 128 between)) t in
          (tops.exact closed v).1 (
            set_is v ∙ b.0,
            λ x h e.
                true≢false
                (sym (any_at 128 between x (small x (in_roots x h)) (and_intro (in_row sets l x && mem roots x) (in_row sets x v) (sym (set_is x) ∙ h) e))
                ∙ not-true (any 128 between) b.1),
          ));
    }
  where
    set_is : (x : ℕ) → mem set x ≡ (in_row sets l x && mem roots x)
    set_is x = is_set x ∙ rw (is_row x)

    in_roots : (x : ℕ) → mem set x ≡ true → mem roots x ≡ true
    in_roots x h = (and_both (mem row x) (mem roots x) (sym (is_set x) ∙ h)).1
