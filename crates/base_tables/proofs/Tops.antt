-- The members of a set that are in no member's row, found one member after the other. What goes out of `top` is in some
-- member's row; what goes out of `left` has nothing in its row that is still in `top`, as rows are closed.
use Prim.Native.Nat.{ℕ, ◌<◌}
use mathlib.Core.Path.{◌≡◌, refl, sym, ◌∙◌}
use mathlib.Core.List.{List}
use mathlib.Core.Bool.{Bool, true, false, not, true≢false}
use lib.Dec.{eqb}
use borrow.Author.Tests.{eq-eqb, eqb-true}
use Rattle.base_finite.specs.Below.{count}
use Rattle.base_finite.proofs.Laws.{by_bool, and_both, and_false}
use Rattle.base_finite.proofs.Counting.{count_grows}
use Rattle.base_nodeset.specs.Set.{mem, Empty, Difference, Lowest}
use Rattle.base_nodeset.specs.declared.NodeSet.{NodeSet}
use Rattle.base_nodeset.proofs.Members.{difference_out}
use Rattle.graph.specs.Graph.{Graph, Descent}
use Rattle.theory_forest.proofs.Closure.{path_trans}
use Rattle.base_tables.specs.Rows.{in_row, Rows, IsRow, Closed, Tops}

pub descent_closed : (g : Graph) {table : List NodeSet} → Rows (Descent g) table → Closed (in_row table)
descent_closed g rows u v w p q = (rows.row_is u w).1 (path_trans ((rows.row_is u v).0 p) ((rows.row_is v w).0 q))

pub record TopsSo (rows : ℕ → ℕ → Bool) (set top left : NodeSet) : Type 0 where
  pub top_of : (v : ℕ) → mem top v ≡ true → mem set v ≡ true
  pub left_of_lem : (v : ℕ) → mem left v ≡ true → mem set v ≡ true
  pub out : (v : ℕ) → mem set v ≡ true → mem top v ≡ false → (x : ℕ) × (mem set x ≡ true) × (rows x v ≡ true)
  pub passed : Closed rows → (x : ℕ) → mem set x ≡ true → mem left x ≡ false → (v : ℕ) → rows x v ≡ true → mem top v ≡ false

pub tops_start : (rows : ℕ → ℕ → Bool) (set : NodeSet) → TopsSo rows set set set
tops_start rows set =
    record {
      top_of = λ v h. h;
      left_of_lem = λ v h. h;
      out = λ v h f. absurd (true≢false (sym h ∙ f));
      passed = λ c x h f. absurd (true≢false (sym h ∙ f));
    }

module _
    (rows : ℕ → ℕ → Bool)
    (set top left : NodeSet)
    (x : ℕ)
    (under top' mid left' : NodeSet)
    (so : TopsSo rows set top left)
    (first : Lowest left x mid)
    (is_row : IsRow rows x under)
    (is_top : Difference top under top')
    (is_left : Difference mid under left') where
  left_parts : (k : ℕ) → mem left' k ≡ true → mem left k ≡ true
  left_parts k m =
      let a = and_both (mem mid k) (not (mem under k)) (sym (is_left k) ∙ m) in
      (and_both (not (eqb k x)) (mem left k) (sym (first.others k) ∙ a.0)).1

  left_gone : mem left' x ≡ false
  left_gone = is_left x ∙ rw (first.others x, eq-eqb x x refl)

  pub tops_less : count 128 (mem left') < count 128 (mem left)
  tops_less = count_grows 128 (mem left') (mem left) x (λ k _. left_parts k) first.below left_gone first.in_set

  -- what row x has is out
  row_out : (v : ℕ) → rows x v ≡ true → mem top' v ≡ false
  row_out v h = is_top v ∙ rw (is_row v, h) (and_false (mem top v))

  out_now : (v : ℕ) → mem set v ≡ true → mem top' v ≡ false → (y : ℕ) × (mem set y ≡ true) × (rows y v ≡ true)
  out_now v h f =
      by_bool (mem top v)
      (λ (e : mem top v ≡ true).
      by_bool (mem under v)
      (λ (u : mem under v ≡ true). (x, so.left_of_lem x first.in_set, sym (is_row v) ∙ u))
      (λ (u : mem under v ≡ false). absurd (true≢false (sym (is_top v ∙ rw (e, u)) ∙ f))))
      (λ (e : mem top v ≡ false). so.out v h e)

  passed_now : Closed rows → (y : ℕ) → mem set y ≡ true → mem left' y ≡ false → (v : ℕ) → rows y v ≡ true → mem top' v ≡ false
  passed_now closed y h f v e =
      by_bool (mem left y)
      (λ (l : mem left y ≡ true).
      by_bool (mem under y)
      (λ (u : mem under y ≡ true). row_out v (closed x y v (sym (is_row y) ∙ u) e))
      (λ (u : mem under y ≡ false).
      by_bool (eqb y x)
      (λ (q : eqb y x ≡ true).
      let i : y ≡ x = eqb-true y x q in
      row_out v (rw i at e))
      (λ (q : eqb y x ≡ false). absurd (true≢false (sym (is_left y ∙ rw (first.others y, q, l, u)) ∙ f)))))
      (λ (l : mem left y ≡ false). difference_out top under top' is_top v (so.passed closed y h l v e))

  pub tops_more : TopsSo rows set top' left'
  tops_more =
      record {
        top_of = λ v m. so.top_of v (and_both (mem top v) (not (mem under v)) (sym (is_top v) ∙ m)).0;
        left_of_lem = λ v m. so.left_of_lem v (left_parts v m);
        out = out_now;
        passed = passed_now;
      }

pub tops_end : (rows : ℕ → ℕ → Bool) (set top left : NodeSet) → TopsSo rows set top left → Empty left → Tops rows set top
tops_end rows set top left so none =
    record {
      of_set = so.top_of;
      exact = λ closed v. (
        λ t. (so.top_of v t, λ x h e. true≢false (sym t ∙ so.passed closed x h (none x) v e)),
        λ p.
            by_bool (mem top v)
            (λ e. e)
            (λ e. let y = so.out v p.0 e in absurd (p.1 y.0 y.1 y.2)),
      );
    }
