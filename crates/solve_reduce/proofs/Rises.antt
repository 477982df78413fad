-- The leaves above a leaf, by the edges that stay: a descent is a path of tree edges and of these, and it enters a fragment at its
-- root.
use Prim.Native.Nat.{ℕ}
use mathlib.Core.Path.{◌≡◌, refl, sym, ap, subst, ◌∙◌}
use mathlib.Core.List.{List}
use mathlib.Core.Bool.{true, false, not, ◌||◌, true≢false}
use mathlib.Core.Logic.{◌⊎◌, inl, inr, ⊎_elim}
use native.Mathlib.Omega.{arith}
use lib.Dec.{eqb}
use borrow.Author.Tests.{eqb-true, eqb-false, eq-eqb, lt-ltb}
use Rattle.base_finite.proofs.Laws.{by_bool, and_true, and_both, and_intro, or_left, or_right, or_cases}
use Rattle.base_nodeset.specs.Set.{mem, Empty, Only, Inserted, Union, Intersection, Difference, Lowest}
use Rattle.base_nodeset.specs.declared.NodeSet.{NodeSet}
use Rattle.base_nodeset.proofs.Members.{removed_member, removed_other}
use Rattle.graph.specs.Graph.{Graph, TreeEdge, DominanceEdge, Path, Descent, one, more, root, leaf, own}
use Rattle.graph.specs.Order.{Kept}
use Rattle.theory_edges.proofs.Ends.{leaf_below}
use Rattle.theory_forest.specs.Shape.{Shaped}
use Rattle.theory_forest.proofs.Closure.{path_map, path_trans}
use Rattle.theory_forest.proofs.Fragments.{leaf_childless, own_root, own_of_root, own_edge, leaf_below_own}
use Rattle.theory_forest.proofs.Table.{or_holds, eqb_holds}
use Rattle.theory_list.specs.Redundancy.{Loopless}
use Rattle.theory_list.proofs.Redundancy.{kept_iff}
use Rattle.theory_list.proofs.Between.{descent_by_edges}
use Rattle.base_tables.specs.Trees.{TreesOf}
use Rattle.base_tables.specs.declared.trees.Trees.{Trees}
use Rattle.base_tables.specs.Rows.{in_row}
use Rattle.solve_closure.specs.Closing.{Rising}
use Rattle.solve_reduce.specs.Reduced.{OverLeaf, Reduced}

-- by the rows
pub over_rows : (g : Graph) {t : Trees} → TreesOf g t → {sets : List NodeSet} → Reduced g t.n sets → (a : ℕ) (up r : NodeSet) → Rising t.n a sets up → Intersection up t.leaves r → OverLeaf g a r
over_rows g {t} ends {sets} form a up r is_up is_r l =
    let here : leaf g l ≡ true → (mem r l ≡ (eqb l a || in_row sets l a)) = λ h.
    is_r l ∙ rw (is_up l, ends.leaves_are l, h, lt-ltb l t.n (omega (arith, leaf_below g l h, ends.nodes))) (and_true (eqb l a || in_row sets l a)) in (
      λ m.
          let h : leaf g l ≡ true = sym (ends.leaves_are l) ∙ (and_both (mem up l) (mem t.leaves l) (sym (is_r l) ∙ m)).1 in
          (h, (or_holds (eqb l a) (in_row sets l a) (eqb_holds l a) (form.under l a h)).0 (sym (here h) ∙ m)),
      λ (h, p). here h ∙ (or_holds (eqb l a) (in_row sets l a) (eqb_holds l a) (form.under l a h)).1 p,
    )

-- by the edges

-- tree edges and edges that stay
abbrev Step : Graph → ℕ → ℕ → Type 0
Step g u v = TreeEdge g u v ⊎ Kept g u v

descent_steps : (g : Graph) → Shaped g → Loopless g → (u v : ℕ) → Descent g u v → Path (Step g) u v
descent_steps g s free u v d =
    descent_by_edges g s free (Path (Step g)) (λ u x v. path_trans)
    (λ u v none.
    ⊎_elim
    (λ (t : TreeEdge g u v). one (inl t))
    (λ (e : DominanceEdge g u v). one (inr ((kept_iff g s free u v).1 (e, none)))))
    u v d

-- the leaves looked for already, and those that are to be
pub record Climbed (g : Graph) (a : ℕ) (over left : NodeSet) : Type 0 where
  pub start : mem over a ≡ true
  pub sound : (l : ℕ) → mem over l ≡ true → (leaf g l ≡ true) × ((l ≡ a) ⊎ Descent g l a)
  pub above : (l : ℕ) → mem left l ≡ true → (leaf g l ≡ true) × Descent g l a
  pub closed : (x : ℕ) → mem over x ≡ true → (k : ℕ) → Kept g k (own g x) → (mem over k ≡ true) ⊎ (mem left k ≡ true)

-- from a leaf with an edge to the fragment of another
rise : (g : Graph) → Shaped g → {l x : ℕ} → Kept g l (own g x) → leaf g x ≡ true → (leaf g l ≡ true) × Descent g l x
rise g s {l} {x} k h = (
  (s.leaf_to_root l (own g x) k.0).0,
  path_trans (one (inr k.0)) (path_map (λ u w t. inl t) (leaf_below_own g s x h)),
)

module _ (g : Graph) (s : Shaped g) {t : Trees} (ends : TreesOf g t) (free : Loopless g) (sets : List NodeSet) (form : Reduced g t.n sets) where
  -- the edges that stay, as the code takes them off the table
  module _ (x at : ℕ) (h : leaf g x ≡ true) (is : at ≡ own g x) (row cut : NodeSet) (is_row : (l : ℕ) → mem row l ≡ in_row sets at l) (is_cut : Intersection row t.leaves cut) where
    at_root : root g at ≡ true
    at_root = ap (root g) is ∙ own_root g s x (leaf_below g x h)

    cut_kept : (l : ℕ) → mem cut l ≡ true → Kept g l (own g x)
    cut_kept l m =
        let b = and_both (mem row l) (mem t.leaves l) (sym (is_cut l) ∙ m) in
        subst (λ (z : ℕ). Kept g l z) is ((form.edges free at l at_root).0 (sym (is_row l) ∙ b.0))

    kept_cut : (l : ℕ) → Kept g l (own g x) → mem cut l ≡ true
    kept_cut l k =
        is_cut l
        ∙ and_intro (mem row l) (mem t.leaves l) (is_row l ∙ (form.edges free at l at_root).1 (subst (λ (z : ℕ). Kept g l z) (sym is) k))
        (ends.leaves_are l ∙ (s.leaf_to_root l (own g x) k.0).0)

  pub climb_start : (a at : ℕ) → leaf g a ≡ true → at ≡ own g a → (over row left : NodeSet) → Only a over → ((l : ℕ) → mem row l ≡ in_row sets at l) → Intersection row t.leaves left → Climbed g a over left
  climb_start a at h is over row left is_over is_row is_left =
      record {
        start = is_over a ∙ eq-eqb a a refl;
        sound = λ l m. let i : l ≡ a = eqb-true l a (sym (is_over l) ∙ m) in (subst (λ (z : ℕ). leaf g z ≡ true) (sym i) h, inl i);
        above = λ l m. rise g s (cut_kept a at h is row left is_row is_left l m) h;
        closed = λ x m k kept.
            let i : x ≡ a = eqb-true x a (sym (is_over x) ∙ m) in
            inr (kept_cut a at h is row left is_row is_left k (subst (λ (z : ℕ). Kept g k (own g z)) i kept));
      }

  pub climb_more : (a l at : ℕ) (over left rest over' row wave all left' : NodeSet) → at ≡ own g l → Lowest left l rest → Inserted over l over' → ((k : ℕ) → mem row k ≡ in_row sets at k) → Intersection row t.leaves wave
      → Union rest wave all → Difference all over' left' → Climbed g a over left → Climbed g a over' left'
  climb_more a l at over left rest over' row wave all left' is first is_over is_row is_wave is_all is_left so =
      let l_above = so.above l first.in_set in
      let h : leaf g l ≡ true = l_above.0 in
      let stays : (x : ℕ) → mem over x ≡ true → mem over' x ≡ true = λ x m. is_over x ∙ or_right (eqb x l) (mem over x) m in
      let here : mem over' l ≡ true = is_over l ∙ or_left (eqb l l) (mem over l) (eq-eqb l l refl) in
      let later : (k : ℕ) → mem all k ≡ true → (mem over' k ≡ true) ⊎ (mem left' k ≡ true) = λ k m.
      by_bool (mem over' k)
      (λ (e : mem over' k ≡ true). inl e)
      (λ (e : mem over' k ≡ false). inr (is_left k ∙ rw (m, e))) in
      record {
        start = stays a so.start;
        sound = λ x m.
            ⊎_elim
            (λ (e : eqb x l ≡ true).
            let i : x ≡ l = eqb-true x l e in
            (subst (λ (z : ℕ). leaf g z ≡ true) (sym i) h, inr (subst (λ (z : ℕ). Descent g z a) (sym i) l_above.1)))
            (λ (e : mem over x ≡ true). so.sound x e)
            (or_cases (eqb x l) (mem over x) (sym (is_over x) ∙ m));
        above = λ k m.
            let b = and_both (mem all k) (not (mem over' k)) (sym (is_left k) ∙ m) in
            ⊎_elim
            (λ (e : mem rest k ≡ true). so.above k (removed_member left l rest first.others k e).0)
            (λ (e : mem wave k ≡ true).
            let up = rise g s (cut_kept l at h is row wave is_row is_wave k e) h in
            (up.0, path_trans up.1 l_above.1))
            (or_cases (mem rest k) (mem wave k) (sym (is_all k) ∙ b.0));
        closed = λ x m k kept.
            ⊎_elim
            (λ (e : eqb x l ≡ true).
            let i : x ≡ l = eqb-true x l e in
            later k (is_all k ∙ or_right (mem rest k) (mem wave k) (kept_cut l at h is row wave is_row is_wave k (subst (λ (z : ℕ). Kept g k (own g z)) i kept))))
            (λ (e : mem over x ≡ true).
            ⊎_elim
            (λ (y : mem over k ≡ true). inl (stays k y))
            (λ (y : mem left k ≡ true).
            by_bool (eqb k l)
            (λ (q : eqb k l ≡ true). inl (subst (λ (z : ℕ). mem over' z ≡ true) (sym (eqb-true k l q)) here))
            (λ (q : eqb k l ≡ false). later k (is_all k ∙ or_left (mem rest k) (mem wave k) (removed_other left l rest first.others k (eqb-false k l q) ∙ y))))
            (so.closed x e k kept))
            (or_cases (eqb x l) (mem over x) (sym (is_over x) ∙ m));
      }

  pub climb_end : (a : ℕ) (over left : NodeSet) → Empty left → Climbed g a over left → OverLeaf g a over
  climb_end a over left none so l = (
    so.sound l,
    λ (h, p).
        ⊎_elim
        (λ (i : l ≡ a). subst (λ (z : ℕ). mem over z ≡ true) (sym i) so.start)
        (λ (d : Descent g l a). reaches h a refl so.start (descent_steps g s free l a d))
        p,
  )
    where
      in_over : (x : ℕ) → mem over x ≡ true → (k : ℕ) → Kept g k (own g x) → mem over k ≡ true
      in_over x m k kept = ⊎_elim (λ (y : mem over k ≡ true). y) (λ (y : mem left k ≡ true). absurd (true≢false (sym y ∙ none k))) (so.closed x m k kept)

      to_root : {u v : ℕ} → Kept g u v → v ≡ own g v
      to_root {u} {v} k = sym (own_of_root g v (s.leaf_to_root u v k.0).1)

      -- a path to the fragment of a leaf that is in the set
      reaches : {l v : ℕ} → leaf g l ≡ true → (x : ℕ) → own g v ≡ own g x → mem over x ≡ true → Path (Step g) l v → mem over l ≡ true
      reaches {l} {v} h x o m (one (inl e)) = absurd (leaf_childless g l v h e)
      reaches {l} {v} h x o m (one (inr k)) = in_over x m l (subst (λ (z : ℕ). Kept g l z) (to_root k ∙ o) k)
      reaches {l} h x o m (more {v = u} {w = v} p (inl e)) = reaches h x (sym (own_edge g s u v e) ∙ o) m p
      reaches {l} h x o m (more {v = u} {w = v} p (inr k)) = reaches h u refl (in_over x m u (subst (λ (z : ℕ). Kept g u z) (to_root k ∙ o) k)) p
