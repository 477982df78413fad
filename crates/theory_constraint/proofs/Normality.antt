-- A labelled sheet whose edges are well-formed and that passes the tests 14, 15 and 16 has a normal constraint (document 000, Definition 3.3)
-- with acyclic fragments. 14 gives condition 2 and that children fit their symbols, 15 condition 1, and 16 with the ends of the dominance edges
-- conditions 3 and 4. That it passes them where its constraint is normal is in `Fitting`.
use Prim.Native.Nat.{ℕ, ◌≤◌, ◌<◌}
use mathlib.Core.Path.{◌≡◌, refl, sym, ap, ◌∙◌}
use mathlib.Core.List.{List, [], ◌∷◌}
use mathlib.Core.Bool.{Bool, true, false, cond, not, ◌&&◌, ◌||◌, true≢false, false≢true}
use mathlib.Core.Logic.{⊎_elim}
use native.Mathlib.Omega.{arith}
use lib.Dec.{eqb}
use lib.ListN.{length}
use borrow.Author.Tests.{eqb-true, eq-eqb, ne_eqb, ltb-false, not-true, not-false}
use Rattle.base_finite.specs.Below.{any, count}
use Rattle.base_finite.proofs.Laws.{by_bool, not_holding, or_cases, or_none, any_false}
use Rattle.base_finite.proofs.Bounds.{count_without}
use Rattle.base_finite.proofs.Counting.{count_grows}
use Rattle.graph.specs.Graph.{Edge, Graph, among, entered, left, single, parent, TreeEdge, bare, WellWritten}
use Rattle.graph.specs.Constraint.{arity, Literal, differs, In, Has, Labelled, Child, Dominates, Proper, Normal}
use Rattle.format.specs.Sheet.{Labels, Content, refused, accepted, says, takes_labels, children, labelled, symbol, twice, misfit, mislabelled, overlapping, holed, fitted}
use Rattle.format.specs.Labelled.{constraint, NormalSheet}
use Rattle.format.specs.declared.Form.TheVariants.{Labelled as LabelledForm}
use Rattle.format.specs.declared.Refusal.TheVariants.{Label, Overlap, Hole}
use Rattle.theory_edges.proofs.Edges.{among_cases, among_none, entered_of_among, left_of_among, left_found, parent_among}
use Rattle.theory_edges.proofs.Growing.{root_grown}
use Rattle.theory_forest.proofs.Closure.{path_map}
use Rattle.theory_constraint.proofs.Literals.{in_children, LiteralOf, a_label, a_dominance, an_inequality, literal_of, has_dominates, has_differs, is_labelled, is_child}
use Rattle.theory_constraint.proofs.Once.{positions_of_labels, parents_of_labels, single_parents, single_positions}

-- one symbol, no entry, two that count

pub symbol_only : (ls : List Edge) (v f : ℕ) → twice ls ≡ false → among ls v f ≡ true → symbol ls v ≡ f
unfolding twice symbol
symbol_only [] v f n h = absurd (among_none v f h)
symbol_only (e ∷ ls) v f n h =
    let b = or_none (labelled ls e.0) (twice ls) n in
    ⊎_elim
    (λ (q : (e.0 ≡ v) × (e.1 ≡ f)). rw (eq-eqb e.0 v q.0) q.1)
    (λ (t : among ls v f ≡ true).
    let other : eqb e.0 v ≡ false = ne_eqb e.0 v (λ q. true≢false (sym (left_of_among ls v f t) ∙ (rw q at b.0))) in
    rw other (symbol_only ls v f b.1 t))
    (among_cases e ls v f h)

no_member : (ys : List ℕ) (y : ℕ) → length ys ≡ 0 → In y ys → ⊥
no_member [] y e h = h
no_member (z ∷ ys) y e h = omega arith

two_counted : (n : ℕ) (p : ℕ → Bool) (i j : ℕ) → i < n → j < n → p i ≡ true → p j ≡ true → (j ≡ i → ⊥) → 1 < count n p
two_counted n p i j h k a b apart =
    let rest : ℕ → Bool = λ k. p k && not (eqb k i) in
    let other : rest j ≡ true = rw (b, ne_eqb j i apart) in
    omega (arith, count_without n p i h a, count_grows n (λ k. false) rest j (λ k l f. absurd (false≢true f)) k refl other)

-- what the tests say

all_passed : (a b c : Bool) (s : Content) → cond a (refused Label) (cond b (refused Overlap) (cond c (refused Hole) (accepted s))) ≡ accepted s → (a ≡ false) × (b ≡ false) × (c ≡ false)
all_passed true b c s e = let z : ◌≡◌ {A = ℕ} 0 1 = cc in absurd (omega arith)
all_passed false true c s e = let z : ◌≡◌ {A = ℕ} 0 1 = cc in absurd (omega arith)
all_passed false false true s e = let z : ◌≡◌ {A = ℕ} 0 1 = cc in absurd (omega arith)
all_passed false false false s e = (refl, refl, refl)

pub tests_failed : (g : Graph) (m : Labels) → m.form ≡ LabelledForm → fitted g m ≡ accepted (says g m) → (mislabelled g m.symbols ≡ false) × (overlapping g m ≡ false) × (holed g m.symbols ≡ false)
unfolding fitted
tests_failed g m form e =
    let takes : takes_labels m.form ≡ true = ap takes_labels form in
    let b =
    all_passed (takes_labels m.form && mislabelled g m.symbols) (takes_labels m.form && overlapping g m) (takes_labels m.form && holed g m.symbols) (says g m) e
    in
    (rw takes at b.0, rw takes at b.1, rw takes at b.2)

-- from the tests to the constraint

module _ (g : Graph) (m : Labels) (w : WellWritten g) (below : (p s : ℕ) → among m.symbols p s ≡ true → p < g.nodes) where
  labelled_below : (x : ℕ) → labelled m.symbols x ≡ true → x < g.nodes
  labelled_below x h = let r = left_found m.symbols x h in below x r.0 r.1

  -- 14

  module _ (fit : mislabelled g m.symbols ≡ false) where
    not_twice : twice m.symbols ≡ false
    unfolding mislabelled
    not_twice = (or_none (twice m.symbols) (any g.nodes (misfit g m.symbols)) fit).0

    fits_at : (v : ℕ) → v < g.nodes → length (children g.tree v) ≡ cond (labelled m.symbols v) (arity (symbol m.symbols v)) 0
    unfolding mislabelled
    fits_at v l =
        let taken : ℕ = cond (labelled m.symbols v) (arity (symbol m.symbols v)) 0 in
        let none = any_false g.nodes (misfit g m.symbols) (or_none (twice m.symbols) (any g.nodes (misfit g m.symbols)) fit).1 v l in
        eqb-true (length (children g.tree v)) taken (not-false (eqb (length (children g.tree v)) taken) none)

    parent_labelled : (p c : ℕ) → TreeEdge g p c → labelled m.symbols p ≡ true
    parent_labelled p c e =
        by_bool (labelled m.symbols p)
        (λ (k : labelled m.symbols p ≡ true). k)
        (λ (k : labelled m.symbols p ≡ false). absurd (no_member (children g.tree p) c (rw k at (fits_at p (w.tree_within p c e).0)) ((in_children g.tree p c).1 e)))

    from_parent : (p c : ℕ) → TreeEdge g p c → Labelled (constraint g m) p
    from_parent p c e = (is_labelled g m p).1 (parent_labelled p c e)

    children_fit : (x f : ℕ) → among m.symbols x f ≡ true → length (children g.tree x) ≡ arity f
    children_fit x f h =
        let own : cond (labelled m.symbols x) (arity (symbol m.symbols x)) 0 ≡ arity f = rw (left_of_among m.symbols x f h) (ap arity (symbol_only m.symbols x f not_twice h)) in
        fits_at x (below x f h) ∙ own

    proper_literal : {l : Literal} → LiteralOf g m l → Proper g.nodes l
    proper_literal (a_label {x = x} {f = f} h) = (below x f h, λ y i. (w.tree_within x y ((in_children g.tree x y).0 i)).1, children_fit x f h)
    proper_literal (a_dominance {x = x} {y = y} h) = w.dominance_within x y h
    proper_literal (an_inequality h d) = (d.first_node, d.second_node)

    -- 15

    -- two labelled nodes count two, so that the sheet says that they differ
    no_overlap : overlapping g m ≡ false → (x y : ℕ) → (x ≡ y → ⊥) → Labelled (constraint g m) x → Labelled (constraint g m) y → Has (constraint g m) (differs x y)
    unfolding overlapping
    no_overlap e x y apart k l =
        let a : labelled m.symbols x ≡ true = (is_labelled g m x).0 k in
        let b : labelled m.symbols y ≡ true = (is_labelled g m y).0 l in
        let i : x < g.nodes = labelled_below x a in
        let j : y < g.nodes = labelled_below y b in
        by_bool m.differ
        (λ (d : m.differ ≡ true). (has_differs g m x y).1 (d, record { first_node = i; second_node = j; first_labelled = a; second_labelled = b; apart = apart }))
        (λ (d : m.differ ≡ false).
        let few : count g.nodes (labelled m.symbols) ≤ 1 = ltb-false 1 (count g.nodes (labelled m.symbols)) (rw d at e) in
        absurd (omega (arith, few, two_counted g.nodes (labelled m.symbols) y x j i b a apart)))

    -- 16

    module _ (whole : holed g m.symbols ≡ false) where
      labelled_not_left : (x : ℕ) → labelled m.symbols x ≡ true → x < g.nodes → left g.dominance x ≡ false
      unfolding holed
      labelled_not_left x k l = rw k at (any_false g.nodes (λ v. cond (labelled m.symbols v) (left g.dominance v) (bare g v)) whole x l)

      hole_on_edge : (x : ℕ) → labelled m.symbols x ≡ false → x < g.nodes → (entered g.tree x || left g.tree x) ≡ true
      unfolding holed bare
      hole_on_edge x k l =
          not-false (entered g.tree x || left g.tree x)
          (rw k at (any_false g.nodes (λ v. cond (labelled m.symbols v) (left g.dominance v) (bare g v)) whole x l))

      hole_entered : (x : ℕ) → labelled m.symbols x ≡ false → x < g.nodes → entered g.tree x ≡ true
      hole_entered x k l =
          ⊎_elim
          (λ (e : entered g.tree x ≡ true). e)
          (λ (e : left g.tree x ≡ true). let r = left_found g.tree x e in absurd (true≢false (sym (parent_labelled x r.0 r.1) ∙ k)))
          (or_cases (entered g.tree x) (left g.tree x) (hole_on_edge x k l))

      no_empty_fragment : (x : ℕ) → x < g.nodes → (Labelled (constraint g m) x → ⊥) → Child (constraint g m) x
      no_empty_fragment x l u =
          let k : labelled m.symbols x ≡ false = not_holding (labelled m.symbols x) (λ h. u ((is_labelled g m x).1 h)) in
          let p : ℕ = parent g.tree x in
          let e : TreeEdge g p x = parent_among g.tree x (hole_entered x k l) in
          (p, (is_child g m p x).1 (parent_labelled p x e, e))

      root_labelled : (x : ℕ) → x < g.nodes → entered g.tree x ≡ false → labelled m.symbols x ≡ true
      root_labelled x l f =
          by_bool (labelled m.symbols x)
          (λ (k : labelled m.symbols x ≡ true). k)
          (λ (k : labelled m.symbols x ≡ false). absurd (true≢false (sym (hole_entered x k l) ∙ f)))

      hole_to_root : (x y : ℕ) → Dominates (constraint g m) x y → (Labelled (constraint g m) x → ⊥) × Labelled (constraint g m) y × (Child (constraint g m) y → ⊥)
      hole_to_root x y d =
          let e = (has_dominates g m x y).0 d in
          let b = w.dominance_within x y e in
          let free : entered g.tree y ≡ false = not-true (entered g.tree y) (sym (root_grown g y b.1) ∙ (w.leaf_to_root x y e).1) in (
            λ k. true≢false (sym (left_of_among g.dominance x y e) ∙ labelled_not_left x ((is_labelled g m x).0 k) b.0),
            (is_labelled g m y).1 (root_labelled y b.1 free),
            λ c. true≢false (sym (entered_of_among g.tree c.0 y ((is_child g m c.0 y).0 c.1).1) ∙ free),
          )

      normal : overlapping g m ≡ false → Normal (constraint g m)
      normal e =
          record {
            no_overlap = no_overlap e;
            once_parent = ap single (parents_of_labels g m) ∙ single_parents g.tree m.symbols ∙ ap not not_twice;
            once_child = ap single (positions_of_labels g m) ∙ single_positions g.tree m.symbols w.one_parent not_twice;
            hole_to_root = hole_to_root;
            no_empty_fragment = no_empty_fragment;
          }

pub fits_normal : (g : Graph) (m : Labels) → m.form ≡ LabelledForm → WellWritten g → ((p s : ℕ) → among m.symbols p s ≡ true → p < g.nodes) → fitted g m ≡ accepted (says g m) → NormalSheet g m
fits_normal g m form w below e =
    let b = tests_failed g m form e in
    record {
      some_nodes = w.some_nodes;
      few_nodes = w.few_nodes;
      few_edges = w.few_edges;
      from_labelled = from_parent g m w below b.0;
      proper = λ l h. proper_literal g m w below b.0 (literal_of g m l h);
      normal = normal g m w below b.0 b.2 b.1;
      acyclic = λ x p. w.no_tree_cycle x (path_map (λ u v c. ((is_child g m u v).0 c).1) p);
    }
