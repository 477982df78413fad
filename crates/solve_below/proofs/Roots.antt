-- Below a root are the other nodes of its fragment, and what is below its leaves: a path leaves a fragment at a leaf.
use Prim.Native.Nat.{ℕ, ◌+◌, ◌≤◌, ◌<◌}
use mathlib.Core.Path.{◌≡◌, refl, sym, subst, ◌∙◌}
use mathlib.Core.List.{List, ◌++◌}
use mathlib.Core.Bool.{true, false, ◌&&◌, true≢false}
use mathlib.Core.Logic.{◌⊎◌, inl, inr, ⊎_elim, ◌↔◌}
use native.Mathlib.Omega.{arith}
use lib.Dec.{eqb, ltb}
use lib.ListN.{get_or, replicate, length-replicate, get_or-append}
use Rattle.std.proofs.lemmas.List.{get_or-replicate}
use borrow.Author.Tests.{eq-eqb, ne_eqb, eqb-true, eqb-false, lt-ltb, le-ltb, ltb-true, ltb-false}
use Rattle.base_finite.proofs.Laws.{by_bool, and_both, or_left, or_right, or_cases}
use Rattle.base_nodeset.specs.Set.{mem, Empty, Inserted, Removed, Union, Intersection, Lowest}
use Rattle.base_nodeset.specs.declared.NodeSet.{NodeSet}
use Rattle.base_nodeset.proofs.Members.{removed_member, removed_other, removed_gone}
use Rattle.graph.specs.Graph.{Graph, TreeEdge, Path, Descent, one, more, root, leaf, own}
use Rattle.theory_edges.proofs.Ends.{leaf_below, root_below}
use Rattle.theory_forest.specs.Shape.{Shaped}
use Rattle.theory_forest.proofs.Closure.{path_map, path_trans}
use Rattle.theory_forest.proofs.Fragments.{leaf_not_root, root_parentless, own_above, own_of_root, own_edge, leaf_below_own}
use Rattle.base_tables.specs.Rows.{nothing, in_row, RowPut}
use Rattle.base_tables.specs.Trees.{TreesOf, Fits}
use Rattle.base_tables.specs.declared.trees.Trees.{Trees}
use Rattle.solve_below.specs.Below.{Under, Blank, Fragments, Gathered, UnderRoot, BelowRoot}

-- the paths from a root

module _ (g : Graph) (s : Shaped g) (r : ℕ) (is : root g r ≡ true) where
  abbrev Inside : ℕ → Type 0
  Inside v = (v < g.nodes) × (own g v ≡ r)

  abbrev Outside : ℕ → Type 0
  Outside v = (l : ℕ) × (leaf g l ≡ true) × (own g l ≡ r) × Descent g l v

  -- a tree edge leads to no root
  by_tree : (u v : ℕ) → own g u ≡ r → TreeEdge g u v → Inside v × (v ≡ r → ⊥)
  by_tree u v o t = (
    ((s.tree_within u v t).1, own_edge g s u v t ∙ o),
    λ e. root_parentless g u r is (subst (λ (z : ℕ). TreeEdge g u z) e t),
  )

  pub falls : {v : ℕ} → Descent g r v → (Inside v × (v ≡ r → ⊥)) ⊎ Outside v
  falls (one {v = v} (inl t)) = inl (by_tree r v (own_of_root g r is) t)
  falls (one {v = v} (inr d)) = absurd (leaf_not_root g s r (s.leaf_to_root r v d).0 is)
  falls (more {v = u} {w = v} p (inl t)) =
      ⊎_elim
      (λ (i : Inside u × (u ≡ r → ⊥)). inl (by_tree u v i.0.1 t))
      (λ (o : Outside u). inr (o.0, o.1, o.2, more o.3 (inl t)))
      (falls p)
  falls (more {v = u} {w = v} p (inr d)) =
      ⊎_elim
      (λ (i : Inside u × (u ≡ r → ⊥)). inr (u, (s.leaf_to_root u v d).0, i.0.1, one (inr d)))
      (λ (o : Outside u). inr (o.0, o.1, o.2, more o.3 (inr d)))
      (falls p)

  inside_falls : (v : ℕ) → own g v ≡ r → (v ≡ r) ⊎ Descent g r v
  inside_falls v o =
      ⊎_elim
      (λ (e : own g v ≡ v). inl (sym e ∙ o))
      (λ (p : Path (TreeEdge g) (own g v) v). inr (subst (λ (z : ℕ). Descent g z v) o (path_map (λ u w t. inl t) p)))
      (own_above g v)

  outside_falls : {v : ℕ} → Outside v → Descent g r v
  outside_falls o = path_trans (subst (λ (z : ℕ). Descent g z o.0) o.2 (path_map (λ u w t. inl t) (leaf_below_own g s o.0 o.1))) o.3

  -- by the tables

  module _ (t : Trees) (ends : TreesOf g t) (table sets : List NodeSet) (of : Fragments t.n (own g) table) (are : Under g sets)
      (nodes leaves : NodeSet) (is_nodes : (v : ℕ) → mem nodes v ≡ in_row table r v) (is_leaves : Intersection nodes t.leaves leaves) where
    small : r < t.n
    small = omega (arith, root_below g r is, ends.nodes)

    node_inside : (v : ℕ) → mem nodes v ≡ true → Inside v
    node_inside v m =
        let b = and_both (ltb v t.n) (eqb (own g v) r) (sym (of.row_is r v small) ∙ sym (is_nodes v) ∙ m) in
        (omega (arith, ltb-true v t.n b.0, ends.nodes), eqb-true (own g v) r b.1)

    inside_node : (v : ℕ) → Inside v → mem nodes v ≡ true
    inside_node v i =
        let less : v < t.n = omega (arith, i.0, ends.nodes) in
        is_nodes v ∙ of.row_is r v small ∙ rw (lt-ltb v t.n less, i.1, eq-eqb r r refl)

    leaf_outside : (v : ℕ) → ((l : ℕ) × (mem leaves l ≡ true) × (in_row sets l v ≡ true)) → Outside v
    leaf_outside v (l, m, e) =
        let b = and_both (mem nodes l) (mem t.leaves l) (sym (is_leaves l) ∙ m) in
        let is_leaf : leaf g l ≡ true = sym (ends.leaves_are l) ∙ b.1 in
        (l, is_leaf, (node_inside l b.0).1, (are l v is_leaf).0 e)

    outside_leaf : (v : ℕ) → Outside v → (l : ℕ) × (mem leaves l ≡ true) × (in_row sets l v ≡ true)
    outside_leaf v (l, is_leaf, o, d) = (
      l,
      is_leaves l ∙ rw (inside_node l (leaf_below g l is_leaf, o), ends.leaves_are l, is_leaf),
      (are l v is_leaf).1 d,
    )

    pub below_is : (r' : NodeSet) → Gathered sets nodes leaves r' → BelowRoot g r r'
    below_is r' all v = (
      λ m.
          ⊎_elim
          (λ (n : mem nodes v ≡ true). inside_falls v (node_inside v n).1)
          (λ (x : (l : ℕ) × (mem leaves l ≡ true) × (in_row sets l v ≡ true)). inr (outside_falls (leaf_outside v x)))
          ((all v).0 m),
      λ p.
          (all v).1
          (⊎_elim
          (λ (e : v ≡ r). inl (inside_node v (omega (arith, root_below g r is), subst (λ (z : ℕ). own g z ≡ r) (sym e) (own_of_root g r is))))
          (λ (d : Descent g r v).
          ⊎_elim
          (λ (i : Inside v × (v ≡ r → ⊥)). inl (inside_node v i.0))
          (λ (o : Outside v). inr (outside_leaf v o))
          (falls d))
          p),
    )

    pub under_is : (others r' : NodeSet) → Removed nodes r others → Gathered sets others leaves r' → UnderRoot g r r'
    under_is others r' gone all v = (
      λ m.
          ⊎_elim
          (λ (n : mem others v ≡ true).
          let b = removed_member nodes r others gone v n in
          ⊎_elim (λ (e : v ≡ r). absurd (b.1 e)) (λ (d : Descent g r v). d) (inside_falls v (node_inside v b.0).1))
          (λ (x : (l : ℕ) × (mem leaves l ≡ true) × (in_row sets l v ≡ true)). outside_falls (leaf_outside v x))
          ((all v).0 m),
      λ d.
          (all v).1
          (⊎_elim
          (λ (i : Inside v × (v ≡ r → ⊥)). inl (removed_other nodes r others gone v i.1 ∙ inside_node v i.0))
          (λ (o : Outside v). inr (outside_leaf v o))
          (falls d)),
    )

-- the same owners, the same fragments
pub fragments_same : (n : ℕ) (owner owner' : ℕ → ℕ) (sets : List NodeSet) → ((v : ℕ) → v < n → owner' v ≡ owner v) → Fragments n owner sets → Fragments n owner' sets
fragments_same n owner owner' sets same of =
    record {
      row_is = λ r v h.
          of.row_is r v h
          ∙ by_bool (ltb v n)
          (λ (t : ltb v n ≡ true). rw (t, same v (ltb-true v n t)))
          (λ (t : ltb v n ≡ false). rw t);
    }

pub fragments_own : (g : Graph) {t : Trees} (sets : List NodeSet) → Fits g t → Fragments t.n (λ v. get_or t.owner v 0) sets → Fragments t.n (own g) sets
fragments_own g {t} sets fits of = fragments_same t.n (λ v. get_or t.owner v 0) (own g) sets (λ v h. sym (fits.owners_are v h)) of

-- the rows of the leaves passed gathered

pub record GatheredSo (sets : List NodeSet) (set leaves left all : NodeSet) : Type 0 where
  pub of_leaves : (l : ℕ) → mem left l ≡ true → mem leaves l ≡ true
  pub all_is : (v : ℕ) → (mem all v ≡ true) ↔ ((mem set v ≡ true) ⊎ ((l : ℕ) × (mem leaves l ≡ true) × (mem left l ≡ false) × (in_row sets l v ≡ true)))

pub gather_start : (sets : List NodeSet) (set leaves : NodeSet) → GatheredSo sets set leaves leaves set
gather_start sets set leaves =
    record {
      of_leaves = λ l h. h;
      all_is = λ v. (
        λ m. inl m,
        ⊎_elim
            (λ (m : mem set v ≡ true). m)
            (λ (x : (l : ℕ) × (mem leaves l ≡ true) × (mem leaves l ≡ false) × (in_row sets l v ≡ true)). absurd (true≢false (sym x.1 ∙ x.2))),
      );
    }

pub gather_more : (sets : List NodeSet) (set leaves left all left' row all' : NodeSet) (l : ℕ) → Lowest left l left' → ((v : ℕ) → mem row v ≡ in_row sets l v) → Union all row all'
    → GatheredSo sets set leaves left all → GatheredSo sets set leaves left' all'
gather_more sets set leaves left all left' row all' l first is_row union so =
    record {
      of_leaves = λ k m. so.of_leaves k (removed_member left l left' first.others k m).0;
      all_is = λ v. (
        λ m.
            ⊎_elim
            (λ (e : mem all v ≡ true).
            ⊎_elim
            (λ (n : mem set v ≡ true). inl n)
            (λ (x : (k : ℕ) × (mem leaves k ≡ true) × (mem left k ≡ false) × (in_row sets k v ≡ true)).
            inr (x.0, x.1, still_out x.0 x.2, x.3))
            ((so.all_is v).0 e))
            (λ (e : mem row v ≡ true). inr (l, so.of_leaves l first.in_set, removed_gone left l left' first.others, sym (is_row v) ∙ e))
            (or_cases (mem all v) (mem row v) (sym (union v) ∙ m)),
        ⊎_elim
            (λ (n : mem set v ≡ true). union v ∙ or_left (mem all v) (mem row v) ((so.all_is v).1 (inl n)))
            (λ (x : (k : ℕ) × (mem leaves k ≡ true) × (mem left' k ≡ false) × (in_row sets k v ≡ true)).
            union v
            ∙ by_bool (eqb x.0 l)
            (λ (e : eqb x.0 l ≡ true).
            or_right (mem all v) (mem row v) (is_row v ∙ subst (λ (z : ℕ). in_row sets z v ≡ true) (eqb-true x.0 l e) x.3))
            (λ (e : eqb x.0 l ≡ false).
            or_left (mem all v) (mem row v)
            ((so.all_is v).1 (inr (x.0, x.1, sym (removed_other left l left' first.others x.0 (eqb-false x.0 l e)) ∙ x.2, x.3))))),
      );
    }
  where
    still_out : (k : ℕ) → mem left k ≡ false → mem left' k ≡ false
    still_out k e =
        by_bool (mem left' k)
        (λ (t : mem left' k ≡ true). absurd (true≢false (sym (removed_member left l left' first.others k t).0 ∙ e)))
        (λ t. t)

pub gather_end : (sets : List NodeSet) (set leaves left all : NodeSet) → Empty left → GatheredSo sets set leaves left all → Gathered sets set leaves all
gather_end sets set leaves left all none so v = (
  λ m.
      ⊎_elim
      (λ (n : mem set v ≡ true). inl n)
      (λ (x : (l : ℕ) × (mem leaves l ≡ true) × (mem left l ≡ false) × (in_row sets l v ≡ true)). inr (x.0, x.1, x.3))
      ((so.all_is v).0 m),
  ⊎_elim
      (λ (n : mem set v ≡ true). (so.all_is v).1 (inl n))
      (λ (x : (l : ℕ) × (mem leaves l ≡ true) × (in_row sets l v ≡ true)). (so.all_is v).1 (inr (x.0, x.1, none x.0, x.2))),
)

-- sets cleared

pub blank_filled : (n k : ℕ) (z : NodeSet) (filled rest : List NodeSet) → n ≤ k → Empty z → filled ≡ replicate k z → Blank n (filled ++ rest)
blank_filled n k z filled rest fits empty is =
    record {
      nothing = λ u v h. rw (is, row u (omega arith)) (empty v);
    }
  where
    row : (j : ℕ) → j < k → get_or (replicate k z ++ rest) j nothing ≡ z
    row j h = get_or-append (replicate k z) rest nothing j (omega (arith, length-replicate k z)) ∙ get_or-replicate k j z nothing h

-- the nodes before k in the fragments

abbrev pub FragmentsSo : ℕ → List ℕ → ℕ → List NodeSet → Type 0
FragmentsSo n owners k sets = (r v : ℕ) → r < n → in_row sets r v ≡ (ltb v k && eqb (get_or owners v 0) r)

pub fragments_start : (n : ℕ) (owners : List ℕ) (sets : List NodeSet) → Blank n sets → FragmentsSo n owners 0 sets
fragments_start n owners sets blank r v h = blank.nothing r v h ∙ sym (rw (le-ltb v 0 (omega arith)))

pub fragments_more : (n : ℕ) (owners : List ℕ) (k : ℕ) (sets sets' : List NodeSet) (at : ℕ) (old new : NodeSet) → get_or owners k 0 ≡ at → ((v : ℕ) → mem old v ≡ in_row sets at v) → Inserted old k new
    → RowPut at new sets sets' → at < n → FragmentsSo n owners k sets → FragmentsSo n owners (k + 1) sets'
fragments_more n owners k sets sets' at old new is are inserted put within so r v h =
    put.row_is r v
    ∙ by_bool (eqb v k)
    (λ (e : eqb v k ≡ true).
    let i : v ≡ k = eqb-true v k e in
    by_bool (eqb r at)
    (λ (f : eqb r at ≡ true).
    rw (f, i) (inserted k ∙ rw (eq-eqb k k refl) (sym (rw (lt-ltb k (k + 1) (omega arith), is, eqb-true r at f) (eq-eqb at at refl)))))
    (λ (f : eqb r at ≡ false).
    let other : at ≡ r → ⊥ = λ q. eqb-false r at f (sym q) in
    rw (f, i) (so r k h ∙ rw (le-ltb k k (omega arith)) (sym (rw (lt-ltb k (k + 1) (omega arith), is) (ne_eqb at r other))))))
    (λ (e : eqb v k ≡ false).
    let later : ltb v (k + 1) ≡ ltb v k = next_test v (eqb-false v k e) in
    rw later
    (by_bool (eqb r at)
    (λ (f : eqb r at ≡ true). rw f (inserted v ∙ rw e (are v ∙ so at v within ∙ rw (eqb-true r at f))))
    (λ (f : eqb r at ≡ false). rw f (so r v h))))
  where
    next_test : (v : ℕ) → (v ≡ k → ⊥) → ltb v (k + 1) ≡ ltb v k
    next_test v other =
        by_bool (ltb v k)
        (λ (t : ltb v k ≡ true). rw t (lt-ltb v (k + 1) (omega (arith, ltb-true v k t))))
        (λ (t : ltb v k ≡ false).
        let above : k ≤ v = ltb-false v k t in
        rw t (le-ltb v (k + 1) (omega arith)))
