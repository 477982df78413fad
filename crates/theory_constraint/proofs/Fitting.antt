-- A labelled sheet whose constraint is normal (document 000, Definition 3.3) with acyclic fragments writes well-formed edges and passes the tests
-- 14, 15 and 16: the way back from `Normality`. The graph of the constraint agrees with the one that the sheet writes, and is well
-- written by Lemma 4.5; so the other is, too. Each test fails by the condition that it stands for.
use Prim.Native.Nat.{ℕ, ◌≤◌, ◌<◌}
use mathlib.Core.Path.{◌≡◌, refl, sym, ap, subst, ◌∙◌}
use mathlib.Core.List.{List, [], ◌∷◌}
use mathlib.Core.Bool.{true, false, cond, true≢false, false≢true}
use mathlib.Core.Logic.{inl}
use native.Mathlib.Omega.{arith}
use lib.Dec.{eqb}
use lib.ListN.{length}
use borrow.Author.Tests.{eqb-true, eq-eqb, le-ltb, not-true}
use Rattle.base_finite.specs.Below.{count}
use Rattle.base_finite.proofs.Laws.{by_bool, not_holding, test_ext, and_false, any_none}
use Rattle.base_finite.proofs.Counting.{count_one}
use Rattle.graph.specs.Graph.{Edge, Graph, among, different, left, single, bare, grown, WellWritten, Agree}
use Rattle.graph.specs.Constraint.{arity, Literal, dominates, labels, In, Constraint, graph_of}
use Rattle.format.specs.Sheet.{Labels, accepted, says, children, labelled, symbol, twice, misfit, mislabelled, overlapping, holed, fitted}
use Rattle.format.specs.Labelled.{constraint, NormalSheet}
use Rattle.theory_edges.specs.Edges.{Within}
use Rattle.theory_edges.proofs.Edges.{among_first, among_rest, entered_of_among, left_found, different_same}
use Rattle.theory_edges.proofs.Growing.{grown_agree, well_written_agree}
use Rattle.theory_constraint.proofs.Graphs.{child_edge, dominance_edge, well_written}
use Rattle.theory_constraint.proofs.Literals.{in_children, has_dominates, has_labels, has_differs, is_labelled, is_child}
use Rattle.theory_constraint.proofs.Once.{positions_of_labels, parents_of_labels, single_parents, single_tree}

-- the graph of the constraint

pub graph_agrees : (g : Graph) (m : Labels) → NormalSheet g m → Agree (graph_of (constraint g m)) g
graph_agrees g m k =
    record {
      same_nodes = refl;
      same_tree = λ p c.
          test_ext (among (graph_of (constraint g m)).tree p c) (among g.tree p c)
          (λ h. ((is_child g m p c).0 ((child_edge (constraint g m) p c).1 h)).1)
          (λ h. (child_edge (constraint g m) p c).0 ((is_child g m p c).1 ((is_labelled g m p).0 (k.from_labelled p c h), h)));
      same_dominance = λ l r.
          test_ext (among (graph_of (constraint g m)).dominance l r) (among g.dominance l r)
          (λ h. (has_dominates g m l r).0 ((dominance_edge (constraint g m) l r).1 h))
          (λ h. (dominance_edge (constraint g m) l r).0 ((has_dominates g m l r).1 h));
    }

-- a symbol, and no entry

symbol_among : (ls : List Edge) (v : ℕ) → labelled ls v ≡ true → among ls v (symbol ls v) ≡ true
unfolding left symbol
symbol_among [] v h = absurd (false≢true h)
symbol_among (e ∷ ls) v h =
    by_bool (eqb e.0 v)
    (λ (q : eqb e.0 v ≡ true). rw q (among_first e ls v e.1 (eqb-true e.0 v q) refl))
    (λ (q : eqb e.0 v ≡ false). rw q (among_rest e ls v (symbol ls v) (symbol_among ls v (rw q at h))))

no_members : (ys : List ℕ) → ((y : ℕ) → In y ys → ⊥) → length ys ≡ 0
no_members [] none = refl
no_members (y ∷ ys) none = absurd (none y (inl refl))

-- the edges, and the tests

module _ (g : Graph) (m : Labels) (k : NormalSheet g m) where
  symbols_within : (p s : ℕ) → among m.symbols p s ≡ true → p < g.nodes
  symbols_within p s h = (k.proper (labels p s (children g.tree p)) ((has_labels g m p s (children g.tree p)).1 (h, refl))).0

  one_tree_parent : single g.tree ≡ true
  one_tree_parent =
      single_tree g.tree m.symbols (sym (ap single (positions_of_labels g m)) ∙ k.normal.once_child) (λ p c e. (is_labelled g m p).0 (k.from_labelled p c e))

  normal_well_written : WellWritten g
  normal_well_written =
      let φ : Constraint = constraint g m in
      let a : Agree (graph_of φ) g = graph_agrees g m k in
      let within : Within g.nodes (graph_of φ).dominance = λ x y h. k.proper (dominates x y) ((dominance_edge φ x y).1 h) in
      let few : different (graph_of φ).dominance ≤ 255 = subst (λ (c : ℕ). c ≤ 255) (sym (different_same g.nodes (graph_of φ).dominance g.dominance within a.same_dominance)) k.few_edges in
      let nodes : (grown (graph_of φ)).nodes ≤ 128 = subst (λ (c : ℕ). c ≤ 128) (sym (grown_agree (graph_of φ) g a).same_nodes) k.few_nodes in
      well_written_agree (graph_of φ) g a (well_written φ k.normal k.proper k.acyclic k.some_nodes few nodes) one_tree_parent

  labelled_fit : (v : ℕ) → labelled m.symbols v ≡ true → length (children g.tree v) ≡ arity (symbol m.symbols v)
  labelled_fit v h =
      let l : Literal = labels v (symbol m.symbols v) (children g.tree v) in
      (k.proper l ((has_labels g m v (symbol m.symbols v) (children g.tree v)).1 (symbol_among m.symbols v h, refl))).2

  unlabelled_childless : (v : ℕ) → labelled m.symbols v ≡ false → length (children g.tree v) ≡ 0
  unlabelled_childless v f =
      no_members (children g.tree v) (λ y i. true≢false (sym ((is_labelled g m v).0 (k.from_labelled v y ((in_children g.tree v y).0 i))) ∙ f))

  none_misfit : (v : ℕ) → misfit g m.symbols v ≡ false
  none_misfit v =
      by_bool (labelled m.symbols v)
      (λ (h : labelled m.symbols v ≡ true). rw (h, eq-eqb (length (children g.tree v)) (arity (symbol m.symbols v)) (labelled_fit v h)))
      (λ (h : labelled m.symbols v ≡ false). rw (h, eq-eqb (length (children g.tree v)) 0 (unlabelled_childless v h)))

  -- 14
  not_mislabelled : mislabelled g m.symbols ≡ false
  unfolding mislabelled
  not_mislabelled =
      let once : twice m.symbols ≡ false = not-true (twice m.symbols) (sym (single_parents g.tree m.symbols) ∙ sym (ap single (parents_of_labels g m)) ∙ k.normal.once_parent) in
      rw (once, any_none g.nodes (misfit g m.symbols) (λ v _. none_misfit v))

  two_differ : (x y : ℕ) → (x ≡ y → ⊥) → labelled m.symbols x ≡ true → labelled m.symbols y ≡ true → m.differ ≡ true
  two_differ x y apart a b = ((has_differs g m x y).0 (k.normal.no_overlap x y apart ((is_labelled g m x).1 a) ((is_labelled g m y).1 b))).0

  -- 15
  not_overlapping : overlapping g m ≡ false
  unfolding overlapping
  not_overlapping =
      by_bool m.differ
      (λ (d : m.differ ≡ true). rw d)
      (λ (d : m.differ ≡ false).
      let few : count g.nodes (labelled m.symbols) ≤ 1 = count_one g.nodes (labelled m.symbols) (λ i j h l a b. true≢false (sym (two_differ i j (λ e. omega arith) a b) ∙ d)) in
      rw (d, le-ltb 1 (count g.nodes (labelled m.symbols)) few))

  hole_not_bare : (v : ℕ) → v < g.nodes → labelled m.symbols v ≡ false → bare g v ≡ false
  unfolding bare
  hole_not_bare v l f =
      let c = k.normal.no_empty_fragment v l (λ h. true≢false (sym ((is_labelled g m v).0 h) ∙ f)) in
      rw (entered_of_among g.tree c.0 v ((is_child g m c.0 v).0 c.1).1)

  labelled_no_edge : (v : ℕ) → labelled m.symbols v ≡ true → left g.dominance v ≡ false
  labelled_no_edge v h =
      not_holding (left g.dominance v) (λ e.
      let r = left_found g.dominance v e in
      (k.normal.hole_to_root v r.0 ((has_dominates g m v r.0).1 r.1)).0 ((is_labelled g m v).1 h))

  -- 16
  not_holed : holed g m.symbols ≡ false
  unfolding holed
  not_holed =
      any_none g.nodes (λ v. cond (labelled m.symbols v) (left g.dominance v) (bare g v)) (λ v l.
      by_bool (labelled m.symbols v)
      (λ (h : labelled m.symbols v ≡ true). rw h (labelled_no_edge v h))
      (λ (h : labelled m.symbols v ≡ false). rw h (hole_not_bare v l h)))

  all_fitted : fitted g m ≡ accepted (says g m)
  unfolding fitted
  all_fitted = rw (not_mislabelled, not_overlapping, not_holed, and_false)

pub normal_fits : (g : Graph) (m : Labels) → NormalSheet g m → WellWritten g × ((p s : ℕ) → among m.symbols p s ≡ true → p < g.nodes) × (fitted g m ≡ accepted (says g m))
normal_fits g m k = (normal_well_written g m k, symbols_within g m k, all_fitted g m k)
