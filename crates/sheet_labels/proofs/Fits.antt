-- The tests of labels on tables that hold a sheet's edges and its labels are those of the definitions.
use Prim.Native.Nat.{ℕ, ◌+◌, ◌≤◌, ◌<◌}
use mathlib.Core.Path.{◌≡◌, refl, sym, ap, ap₂, ◌∙◌}
use mathlib.Core.List.{List, [], ◌∷◌}
use mathlib.Core.Bool.{Bool, true, false, cond, not}
use native.Mathlib.Omega.{arith}
use native.Mathlib.Nat.{add-zero}
use lib.Dec.{eqb, ltb}
use lib.ListN.{length, get_or, length-append}
use borrow.Author.Tests.{eqb-true, eq-eqb, ne_eqb}
use Rattle.std.specs.Prelude.{MatchBool}
use Rattle.base_finite.specs.Below.{any, count}
use Rattle.base_finite.proofs.Laws.{by_bool, test_ext, any_ext, any_at, any_none, any_found, count_ext, count_none, count_one_more}
use Rattle.base_nodeset.specs.Set.{mem}
use Rattle.base_nodeset.specs.declared.NodeSet.{NodeSet}
use Rattle.graph.specs.Graph.{Edge, left, parent, none, bare, single}
use Rattle.graph.specs.Constraint.{arity}
use Rattle.theory_edges.specs.Edges.{Within, graph_with}
use Rattle.theory_edges.proofs.Edges.{within_cons, single_cons, parent_unentered, left_of_among, left_found}
use Rattle.format.specs.Sheet as spec
use Rattle.base_tables.specs.Rows.{in_row}
use Rattle.base_tables.specs.Tables.{Holds}
use Rattle.sheet_grow.specs.Grow.{BareSet}
use Rattle.sheet_grow.proofs.Grown.{bare_held}
use Rattle.sheet_labels.specs.Keep.{Keeps}
use Rattle.sheet_labels.specs.Fit.{children_in, taken_in, unfit_in, hole_in}
use Rattle.sheet_labels.specs.declared.table.Labels.{Labels}

-- what an iterator says of the numbers below n, or of the first n entries

pub any_decided : (n : ℕ) (p : ℕ → Bool) (r : Bool) → MatchBool r ((k : ℕ) × (k < n) × (true ≡ p k)) ((k : ℕ) → k < n → false ≡ p k) → r ≡ any n p
any_decided n p true h = sym (any_at n p h.0 h.1 (sym h.2))
any_decided n p false h = sym (any_none n p (λ k l. sym (h k l)))

-- as many nodes have v for their parent as v has children in the list
parents_counted : (n : ℕ) (t : List Edge) (v : ℕ) → Within n t → single t ≡ true → v < none → count n (λ c. eqb (parent t c) v) ≡ length (spec.children t v)
unfolding spec.children parent
parents_counted n [] v w s h = count_none n (λ c. eqb none v) (λ k _. ne_eqb none v (λ e. omega arith))
parents_counted n (e ∷ t) v w s h =
    let b = within_cons n e t w in
    let one = single_cons e t s in
    let before : count n (λ c. eqb (parent t c) v) ≡ length (spec.children t v) = parents_counted n t v b.2 one.1 h in
    let rootless : eqb (parent t e.1) v ≡ false = ne_eqb (parent t e.1) v (λ q. omega (arith, q, parent_unentered t e.1 one.0)) in
    by_bool (eqb e.0 v)
    (λ (z : eqb e.0 v ≡ true).
    rw (z, length-append)
    (count_one_more n (λ c. eqb (parent t c) v) (λ c. eqb (cond (eqb e.1 c) e.0 (parent t c)) v) e.1 b.1 rootless (rw (eq-eqb e.1 e.1 refl) z)
    (λ j apart. rw (ne_eqb e.1 j (λ q. apart (sym q))))
    ∙ ap (λ (k : ℕ). k + 1) before))
    (λ (z : eqb e.0 v ≡ false).
    rw (z, length-append, add-zero)
    (count_ext n (λ c. eqb (cond (eqb e.1 c) e.0 (parent t c)) v) (λ c. eqb (parent t c) v)
    (λ k _. by_bool (eqb e.1 k) (λ (q : eqb e.1 k ≡ true). let same : e.1 ≡ k = eqb-true e.1 k q in rw (q, z, ← same) (sym rootless)) (λ (q : eqb e.1 k ≡ false). rw q))
    ∙ before))

module _ {n : ℕ} {t d : List Edge} {parents : List ℕ} {heads : List NodeSet} {edges : ℕ} (few : n ≤ 128) (holds : Holds n t d parents heads edges) where
  children_held : (v : ℕ) → v < n → children_in n parents v ≡ length (spec.children t v)
  unfolding children_in
  children_held v h =
      count_ext n (λ c. eqb (get_or parents c 0) v) (λ c. eqb (parent t c) v) (λ c l. ap (λ (p : ℕ). eqb p v) (holds.parent_is c (omega arith)))
      ∙ parents_counted n t v holds.tree_within holds.one_parent (omega arith)

  module _ {m : spec.Labels} {r : Labels} (keeps : Keeps m r) where
    taken_held : (v : ℕ) → v < n → taken_in r v ≡ cond (spec.labelled m.symbols v) (arity (spec.symbol m.symbols v)) 0
    taken_held v h = rw (keeps.labelled_are v, keeps.symbol_is v (omega arith))

    -- 14
    pub mislabelled_twice : r.twice ≡ true → true ≡ spec.mislabelled (graph_with n t d) m.symbols
    unfolding spec.mislabelled
    mislabelled_twice e = let twice : spec.twice m.symbols ≡ true = sym keeps.twice_is ∙ e in rw twice

    pub mislabelled_held : r.twice ≡ false → any n (unfit_in r n parents) ≡ spec.mislabelled (graph_with n t d) m.symbols
    unfolding spec.mislabelled
    mislabelled_held e =
        let once : spec.twice m.symbols ≡ false = sym keeps.twice_is ∙ e in
        rw once (any_ext n (unfit_in r n parents) (spec.misfit (graph_with n t d) m.symbols) (λ v h. ap₂ (λ (a b : ℕ). not (eqb a b)) (children_held v h) (taken_held v h)))

    -- 16
    pub holed_held : (alone : NodeSet) → BareSet n parents alone → any n (hole_in r.labelled alone heads) ≡ spec.holed (graph_with n t d) m.symbols
    unfolding spec.holed
    holed_held alone is =
        any_ext n (hole_in r.labelled alone heads) (λ v. cond (spec.labelled m.symbols v) (left d v) (bare (graph_with n t d) v))
        (λ v h. rw (keeps.labelled_are v) (ap₂ (λ (a b : Bool). cond (spec.labelled m.symbols v) a b) (heads_held v h) (is v (omega arith) ∙ bare_held (graph_with n t d) few parents heads edges holds v h)))
      where
        heads_held : (v : ℕ) → v < n → any 128 (in_row heads v) ≡ left d v
        heads_held v h =
            test_ext (any 128 (in_row heads v)) (left d v)
            (λ e. let f = any_found 128 (in_row heads v) e in left_of_among d v f.0 (sym (holds.heads_are v f.0) ∙ f.2))
            (λ e. let f = left_found d v e in let b = holds.dominance_within v f.0 f.1 in any_at 128 (in_row heads v) f.0 (omega (arith, b.1)) (holds.heads_are v f.0 ∙ f.1))

-- 15
module _ {m : spec.Labels} {r : Labels} (keeps : Keeps m r) (n : ℕ) (t d : List Edge) where
  pub overlapping_differ : r.differ ≡ true → false ≡ spec.overlapping (graph_with n t d) m
  unfolding spec.overlapping
  overlapping_differ e = let differ : m.differ ≡ true = sym keeps.differ_is ∙ e in rw differ

  pub overlapping_held : r.differ ≡ false → ltb 1 (count n (mem r.labelled)) ≡ spec.overlapping (graph_with n t d) m
  unfolding spec.overlapping
  overlapping_held e =
      let differ : m.differ ≡ false = sym keeps.differ_is ∙ e in
      rw differ (ap (ltb 1) (count_ext n (mem r.labelled) (spec.labelled m.symbols) (λ v _. keeps.labelled_are v)))
