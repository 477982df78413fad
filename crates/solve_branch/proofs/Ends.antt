-- The rows of roots and leaves, from a state; and what shows at a leaf that there is no solved form.
use Prim.Native.Nat.{ℕ, ◌+◌, ◌≤◌, ◌<◌}
use mathlib.Core.Path.{◌≡◌, refl, sym, subst, ◌∙◌}
use mathlib.Core.List.{List}
use mathlib.Core.Bool.{Bool, true, false, not, true≢false, false≢true}
use mathlib.Core.Logic.{inl, inr, ⊎_elim, ◌↔◌}
use native.Mathlib.Omega.{arith}
use lib.Dec.{eqb, ltb}
use lib.ListN.{get_or}
use borrow.Author.Tests.{eqb-true, eqb-false, ltb-true, ltb-false}
use Rattle.base_finite.specs.Below.{any}
use Rattle.base_finite.proofs.Laws.{by_bool, and_both, and_intro, any_found}
use Rattle.base_nodeset.specs.Set.{mem, Empty, Intersection, Removed, Lowest}
use Rattle.base_nodeset.specs.declared.NodeSet.{NodeSet}
use Rattle.base_nodeset.proofs.Members.{Small, some_member, no_member, removed_member, removed_other}
use Rattle.graph.specs.Graph.{Graph, Descent, root, leaf, own}
use Rattle.graph.specs.Placing.{Unsolvable}
use Rattle.theory_edges.proofs.Ends.{leaf_below, root_below}
use Rattle.theory_forest.proofs.Closure.{path_trans}
use Rattle.theory_forest.proofs.Fragments.{own_within}
use Rattle.theory_walk.proofs.Halves.{solvable_loopless, torn}
use Rattle.base_tables.specs.Rows.{in_row, RowPut, Closed}
use Rattle.base_tables.specs.Trees.{TreesOf, Fits}
use Rattle.base_tables.specs.declared.trees.Trees.{Trees}
use Rattle.solve_below.specs.Below.{Fragments, UnderRoot, Under}
use Rattle.solve_test.specs.Tables.{End, EndRows, Blank}
use Rattle.solve_branch.specs.Dives.{EndRow}
use Rattle.solve_branch.specs.Dead.{Meets, Dead}

-- one row

module _ {g : Graph} {t : Trees} (ends : TreesOf g t) (u : ℕ) {r : NodeSet} where
  pub row_of_leaf : (sets : List NodeSet) → Under g sets → mem t.leaves u ≡ true → ((v : ℕ) → mem r v ≡ in_row sets u v) → EndRow g u r
  row_of_leaf sets are h is =
      let is_leaf : leaf g u ≡ true = sym (ends.leaves_are u) ∙ h in
      record {
        end = λ _ v. (λ m. (are u v is_leaf).0 (sym (is v) ∙ m), λ d. is v ∙ (are u v is_leaf).1 d);
        inner = λ no v. absurd (no (inr is_leaf));
      }

  pub row_of_root : mem t.roots u ≡ true → UnderRoot g u r → EndRow g u r
  row_of_root h is = record { end = λ _ v. is v; inner = λ no v. absurd (no (inl (sym (ends.roots_are u) ∙ h))) }

  pub row_of_inner : mem t.leaves u ≡ false → mem t.roots u ≡ false → Empty r → EndRow g u r
  row_of_inner l h none =
      record {
        end = λ e v. absurd (⊎_elim (λ (x : root g u ≡ true). true≢false (sym x ∙ sym (ends.roots_are u) ∙ h)) (λ (x : leaf g u ≡ true). true≢false (sym x ∙ sym (ends.leaves_are u) ∙ l)) e);
        inner = λ _ v. none v;
      }

-- the rows before k

pub record EndsSo (g : Graph) (k : ℕ) (rows : List NodeSet) : Type 0 where
  pub end : (u v : ℕ) → u < k → End g u → (in_row rows u v ≡ true) ↔ Descent g u v
  pub inner : (u v : ℕ) → u < k → (End g u → ⊥) → in_row rows u v ≡ false

pub record AfterBlank (k : ℕ) (rows : List NodeSet) : Type 0 where
  pub nothing : (u v : ℕ) → k ≤ u → in_row rows u v ≡ false

pub ends_none : (g : Graph) (rows : List NodeSet) → EndsSo g 0 rows
ends_none g rows = record { end = λ u v h. absurd (omega arith); inner = λ u v h. absurd (omega arith) }

pub ends_more : (g : Graph) (k : ℕ) {rows rows' : List NodeSet} (r : NodeSet) → EndRow g k r → RowPut k r rows rows' → EndsSo g k rows → EndsSo g (k + 1) rows'
ends_more g k {rows} {rows'} r is p so =
    record {
      end = λ u v h e.
          by_bool (eqb u k)
          (λ (t : eqb u k ≡ true).
          let i : u ≡ k = eqb-true u k t in
          let same : in_row rows' u v ≡ mem r v = p.row_is u v ∙ rw t in
          let law = is.end (subst (End g) i e) v in
          (λ m. subst (λ (z : ℕ). Descent g z v) (sym i) (law.0 (sym same ∙ m)), λ d. same ∙ law.1 (subst (λ (z : ℕ). Descent g z v) i d)))
          (λ (t : eqb u k ≡ false).
          let other : u ≡ k → ⊥ = eqb-false u k t in
          let same : in_row rows' u v ≡ in_row rows u v = p.row_is u v ∙ rw t in
          let law = so.end u v (omega arith) e in
          (λ m. law.0 (sym same ∙ m), λ d. same ∙ law.1 d));
      inner = λ u v h no.
          p.row_is u v
          ∙ by_bool (eqb u k)
          (λ (t : eqb u k ≡ true).
          let i : u ≡ k = eqb-true u k t in
          rw t (is.inner (λ e. no (subst (End g) (sym i) e)) v))
          (λ (t : eqb u k ≡ false).
          let other : u ≡ k → ⊥ = eqb-false u k t in
          rw t (so.inner u v (omega arith) no));
    }

pub blank_after : (rows : List NodeSet) → Blank rows → AfterBlank 0 rows
blank_after rows blank = record { nothing = λ u v h. blank.nothing u v }

pub blank_more : (k : ℕ) {rows rows' : List NodeSet} {r : NodeSet} → RowPut k r rows rows' → AfterBlank k rows → AfterBlank (k + 1) rows'
blank_more k p so =
    record {
      nothing = λ u v h.
          p.row_is u v
          ∙ by_bool (eqb u k)
          (λ (t : eqb u k ≡ true). absurd (omega (arith, eqb-true u k t)))
          (λ (t : eqb u k ≡ false). rw t (so.nothing u v (omega arith)));
    }

pub ends_all : (g : Graph) (n k : ℕ) (rows : List NodeSet) → n ≡ g.nodes → n ≤ k → EndsSo g k rows → AfterBlank k rows → EndRows g rows
ends_all g n k rows nodes all so blank = record { closed = closed; row_is = λ u v e. so.end u v (small u e) e }
  where
    small : (u : ℕ) → End g u → u < k
    small u e = ⊎_elim (λ (x : root g u ≡ true). omega (arith, root_below g u x)) (λ (x : leaf g u ≡ true). omega (arith, leaf_below g u x)) e

    -- only such a node has something in its row
    some : (u v : ℕ) → in_row rows u v ≡ true → End g u
    some u v m =
        by_bool (root g u)
        (λ (a : root g u ≡ true). inl a)
        (λ (a : root g u ≡ false).
        by_bool (leaf g u)
        (λ (b : leaf g u ≡ true). inr b)
        (λ (b : leaf g u ≡ false).
        let no : End g u → ⊥ = ⊎_elim (λ (x : root g u ≡ true). true≢false (sym x ∙ a)) (λ (x : leaf g u ≡ true). true≢false (sym x ∙ b)) in
        absurd
        (by_bool (ltb u k)
        (λ (t : ltb u k ≡ true). true≢false (sym m ∙ so.inner u v (ltb-true u k t) no))
        (λ (t : ltb u k ≡ false). true≢false (sym m ∙ blank.nothing u v (ltb-false u k t))))))

    closed : Closed (in_row rows)
    closed u v w p q =
        let eu : End g u = some u v p in
        let ev : End g v = some v w q in
        (so.end u w (small u eu) eu).1 (path_trans ((so.end u v (small u eu) eu).0 p) ((so.end v w (small v ev) ev).0 q))

-- one of the nodes below one of the leaves

pub record MeetsSo (sets : List NodeSet) (nodes leaves left : NodeSet) : Type 0 where
  pub of_leaves : (l : ℕ) → mem left l ≡ true → mem leaves l ≡ true
  pub none : (l v : ℕ) → mem leaves l ≡ true → mem left l ≡ false → mem nodes v ≡ true → in_row sets l v ≡ true → ⊥

pub meets_start : (sets : List NodeSet) (nodes leaves : NodeSet) → MeetsSo sets nodes leaves leaves
meets_start sets nodes leaves = record { of_leaves = λ l h. h; none = λ l v m out. absurd (true≢false (sym m ∙ out)) }

module _ {sets : List NodeSet} {nodes leaves left left' : NodeSet} (row both : NodeSet) {l : ℕ} (first : Lowest left l left') (so : MeetsSo sets nodes leaves left)
    (is_row : (v : ℕ) → mem row v ≡ in_row sets l v) (is_both : Intersection row nodes both) (b : Bool) (is : b ≡ not (any 128 (mem both))) where
  pub meets_found : not b ≡ true → Meets sets nodes leaves true
  meets_found e =
      let x = any_found 128 (mem both) (some_member both b is e) in
      let p = and_both (mem row x.0) (mem nodes x.0) (sym (is_both x.0) ∙ x.2) in
      (λ t. (l, x.0, so.of_leaves l first.in_set, p.1, sym (is_row x.0) ∙ p.0), λ t. refl)

  pub meets_more : Small nodes → not b ≡ false → MeetsSo sets nodes leaves left'
  meets_more small e =
      record {
        of_leaves = λ k m. so.of_leaves k (removed_member left l left' first.others k m).0;
        none = λ k v m out in_set inside_row.
            by_bool (eqb k l)
            (λ (t : eqb k l ≡ true).
            let here : mem row v ≡ true = is_row v ∙ subst (λ (z : ℕ). in_row sets z v ≡ true) (eqb-true k l t) inside_row in
            true≢false (sym (is_both v ∙ and_intro (mem row v) (mem nodes v) here in_set) ∙ no_member both b is e v (small v in_set)))
            (λ (t : eqb k l ≡ false). so.none k v m (sym (removed_other left l left' first.others k (eqb-false k l t)) ∙ out) in_set inside_row);
      }

pub meets_none : (sets : List NodeSet) (nodes leaves left : NodeSet) → Empty left → MeetsSo sets nodes leaves left → Meets sets nodes leaves false
meets_none sets nodes leaves left none so = (λ e. absurd (false≢true e), λ (l, v, m, s, e). absurd (so.none l v m (none l) s e))

-- what shows at a leaf

module _ (g : Graph) (t : Trees) (f : Fits g t) (sets : List NodeSet) (are : Under g sets) (a : ℕ) (is_leaf : leaf g a ≡ true) (row : NodeSet) (is_row : (v : ℕ) → mem row v ≡ in_row sets a v) where
  pub dead_cycle : mem row a ≡ true → Unsolvable g
  dead_cycle m s = solvable_loopless s a ((are a a is_leaf).0 (sym (is_row a) ∙ m))

  pub dead_torn : (table : List NodeSet) → Fragments t.n (own g) table → (nodes cut others : NodeSet) → ((v : ℕ) → mem nodes v ≡ in_row table (get_or t.owner a 0) v) → Intersection nodes t.leaves cut → Removed cut a others
      → (r : Bool) → mem row a ≡ false → Meets sets row others r → Dead g a r
  dead_torn table of nodes cut others is_nodes is_cut gone true free meets =
      let x = meets.0 refl in
      let l : ℕ = x.0 in
      let b = removed_member cut a others gone l x.2 in
      let p = and_both (mem nodes l) (mem t.leaves l) (sym (is_cut l) ∙ b.0) in
      let small : a < t.n = omega (arith, leaf_below g a is_leaf, f.trees.nodes) in
      let at : get_or t.owner a 0 < t.n = omega (arith, f.owners_are a small, own_within g f.shaped a (leaf_below g a is_leaf), f.trees.nodes) in
      let q = and_both (ltb l t.n) (eqb (own g l) (get_or t.owner a 0)) (sym (of.row_is (get_or t.owner a 0) l at) ∙ sym (is_nodes l) ∙ p.0) in
      let same : own g a ≡ own g l = sym (f.owners_are a small) ∙ sym (eqb-true (own g l) (get_or t.owner a 0) q.1) in
      let l_leaf : leaf g l ≡ true = sym (f.trees.leaves_are l) ∙ p.1 in
      torn g f.shaped is_leaf l_leaf same (λ e. b.1 (sym e)) ((are a x.1 is_leaf).0 (sym (is_row x.1) ∙ x.3)) ((are l x.1 l_leaf).0 x.4)
  dead_torn table of nodes cut others is_nodes is_cut gone false free meets = λ d. true≢false (sym (is_row a ∙ (are a a is_leaf).1 d) ∙ free)
