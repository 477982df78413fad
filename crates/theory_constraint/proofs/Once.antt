-- Definition 3.3, condition 2, of a labelled sheet's constraint: no node is a parent twice exactly where none is labelled twice; and then, where
-- each tree edge starts from a labelled node, no node is a child twice exactly where no two tree edges go to one node.
-- The child positions of the constraint are, label after label, the edges from its node to each of its children.
use Prim.Native.Nat.{ℕ}
use mathlib.Core.Path.{◌≡◌, refl, sym, ap, subst, ◌∙◌}
use mathlib.Core.List.{List, [], ◌∷◌, ◌++◌, map-append}
use mathlib.Core.Bool.{Bool, true, false, cond, not, true≢false, false≢true}
use mathlib.Core.Logic.{inl, inr, ⊎_elim}
use lib.Dec.{eqb}
use borrow.Author.Tests.{eq-eqb, eqb-true}
use Rattle.base_finite.proofs.Laws.{not_holding, neither, or_cases, or_none, or_left, or_right}
use Rattle.graph.specs.Graph.{Edge, Graph, among, entered, left, single, parent}
use Rattle.graph.specs.Constraint.{Literal, dominates, differs, labels, In, positions_of, positions, parents_of, parents}
use Rattle.format.specs.Sheet.{Labels, children, labelled, twice}
use Rattle.format.specs.Labelled.{label_literals, inequalities, constraint}
use Rattle.theory_edges.specs.Edges.{distinct}
use Rattle.theory_edges.proofs.Edges.{entered_of_among, left_of_among, left_found, parent_among, single_cons, one_parent}
use Rattle.theory_edges.proofs.Tables.{single_of_distinct}
use Rattle.theory_constraint.proofs.Members.{in_one, in_if, fan, among_fan, fan_among, single_append, single_parts}
use Rattle.theory_constraint.proofs.Graphs.{position_edge, edge_position}
use Rattle.theory_constraint.proofs.Literals.{in_children, label_written, label_in, dominance_written, inequality_written, label_part, edge_part, unequal_part}

-- child positions and parents come from the labels alone

module _ (of : Literal → List Edge) where
  gathered : List Literal → List Edge
  gathered [] = []
  gathered (x ∷ xs) = of x ++ gathered xs

  gathered_none : (xs : List Literal) → ((l : Literal) → In l xs → of l ≡ []) → gathered xs ≡ []
  unfolding gathered
  gathered_none [] none = refl
  gathered_none (x ∷ xs) none = rw (none x (inl refl), gathered_none xs (λ l i. none l (inr i)))

  gathered_first : (xs ys : List Literal) → ((l : Literal) → In l ys → of l ≡ []) → gathered (xs ++ ys) ≡ gathered xs
  unfolding gathered
  gathered_first [] ys none = gathered_none ys none
  gathered_first (x ∷ xs) ys none = rw (gathered_first xs ys none)

gathered_positions : (xs : List Literal) → positions xs ≡ gathered positions_of xs
unfolding positions gathered
gathered_positions [] = refl
gathered_positions (x ∷ xs) = rw (gathered_positions xs)

gathered_parents : (xs : List Literal) → parents xs ≡ gathered parents_of xs
unfolding parents gathered
gathered_parents [] = refl
gathered_parents (x ∷ xs) = rw (gathered_parents xs)

module _ (g : Graph) (m : Labels) where
  from_labels : (of : Literal → List Edge) → ((x y : ℕ) → of (dominates x y) ≡ []) → ((x y : ℕ) → of (differs x y) ≡ []) → gathered of (constraint g m).literals ≡ gathered of (label_part g m)
  from_labels of edges unequal =
      gathered_first of (label_part g m ++ edge_part g) (unequal_part g m)
      (λ l i.
      let r = inequality_written g.nodes m.symbols l (in_if m.differ l (inequalities g.nodes m.symbols) i).1 in
      ap of r.3 ∙ unequal r.0 r.1)
      ∙ gathered_first of (label_part g m) (edge_part g) (λ l i. let r = dominance_written g.dominance l i in ap of r.3 ∙ edges r.0 r.1)

  pub positions_of_labels : positions (constraint g m).literals ≡ positions (label_part g m)
  positions_of_labels = gathered_positions (constraint g m).literals ∙ from_labels positions_of (λ x y. refl) (λ x y. refl) ∙ sym (gathered_positions (label_part g m))

  pub parents_of_labels : parents (constraint g m).literals ≡ parents (label_part g m)
  parents_of_labels = gathered_parents (constraint g m).literals ∙ from_labels parents_of (λ x y. refl) (λ x y. refl) ∙ sym (gathered_parents (label_part g m))

-- parents

entered_parents : (t ls : List Edge) (v : ℕ) → entered (parents (label_literals t ls)) v ≡ labelled ls v
unfolding entered parents label_literals left
entered_parents t [] v = refl
entered_parents t (e ∷ ls) v = rw (entered_parents t ls v)

pub single_parents : (t ls : List Edge) → single (parents (label_literals t ls)) ≡ not (twice ls)
unfolding single parents label_literals twice
single_parents t [] = refl
single_parents t (e ∷ ls) = rw (entered_parents t ls e.0, single_parents t ls) (sym (neither (labelled ls e.0) (twice ls)))

-- children

entered_fan : (x : ℕ) (ys : List ℕ) (v : ℕ) → entered (fan x ys) v ≡ true → In v ys
entered_fan x ys v h = (among_fan x ys (parent (fan x ys) v) v (parent_among (fan x ys) v h)).1

fan_entered : (x : ℕ) (ys : List ℕ) (v : ℕ) → In v ys → entered (fan x ys) v ≡ true
fan_entered x ys v h = entered_of_among (fan x ys) x v (fan_among x ys v h)

abbrev last : Edge → ℕ → List ℕ
last e x = cond (eqb e.0 x) (e.1 ∷ []) []

children_more : (e : Edge) (t : List Edge) (x : ℕ) → fan x (children (e ∷ t) x) ≡ fan x (children t x) ++ fan x (last e x)
unfolding children
children_more e t x = map-append (λ (y : ℕ). (x, y)) (children t x) (last e x)

single_last : (b : Bool) (x y : ℕ) → single (fan x (cond b (y ∷ []) [])) ≡ true
unfolding single entered
single_last true x y = refl
single_last false x y = refl

single_children : (t : List Edge) (x : ℕ) → single t ≡ true → single (fan x (children t x)) ≡ true
unfolding children
single_children [] x s = s
single_children (e ∷ t) x s =
    let b = single_cons e t s in
    ap single (children_more e t x)
    ∙ single_append (fan x (children t x)) (fan x (last e x)) (single_children t x b.1) (single_last (eqb e.0 x) x e.1) (λ v h k.
    let is_last : v ≡ e.1 = in_one v e.1 (in_if (eqb e.0 x) v (e.1 ∷ []) (entered_fan x (last e x) v k)).1 in
    let there : among t x v ≡ true = (in_children t x v).0 (entered_fan x (children t x) v h) in
    true≢false (sym (entered_of_among t x v there) ∙ ap (entered t) is_last ∙ b.0))

position_tree : (t ls : List Edge) (x y : ℕ) → among (positions (label_literals t ls)) x y ≡ true → (labelled ls x ≡ true) × (among t x y ≡ true)
position_tree t ls x y h =
    let p = edge_position (label_literals t ls) x y h in
    let r = label_written t ls (labels x p.0 p.1) p.2 in
    label_same t ls x y p.0 p.1 r.0 r.1 r.2 r.3 p.3
  where
    label_same : (t ls : List Edge) (x y f : ℕ) (ys : List ℕ) (z k : ℕ) → among ls z k ≡ true → labels x f ys ≡ labels z k (children t z) → In y ys → (labelled ls x ≡ true) × (among t x y ≡ true)
    label_same t ls x y f ys z k h e i =
        let same : z ≡ x = cc in
        let all : ys ≡ children t z = cc in
        (subst (λ (v : ℕ). labelled ls v ≡ true) same (left_of_among ls z k h), subst (λ (v : ℕ). among t v y ≡ true) same ((in_children t z y).0 (subst (In y) all i)))

tree_position : (t ls : List Edge) (x y : ℕ) → labelled ls x ≡ true → among t x y ≡ true → among (positions (label_literals t ls)) x y ≡ true
tree_position t ls x y k h =
    let r = left_found ls x k in
    position_edge (label_literals t ls) x y r.0 (children t x) (label_in t ls x r.0 r.1) ((in_children t x y).1 h)

pub single_positions : (t ls : List Edge) → single t ≡ true → twice ls ≡ false → single (positions (label_literals t ls)) ≡ true
unfolding positions label_literals twice single
single_positions t [] s n = refl
single_positions t (e ∷ ls) s n =
    let b = or_none (labelled ls e.0) (twice ls) n in
    let others : List Edge = positions (label_literals t ls) in
    single_append (fan e.0 (children t e.0)) others (single_children t e.0 s) (single_positions t ls s b.1) (λ v h k.
    let x : ℕ = parent others v in
    let p = position_tree t ls x v (parent_among others v k) in
    let same : x ≡ e.0 = one_parent t x e.0 v s p.1 ((in_children t e.0 v).0 (entered_fan e.0 (children t e.0) v h)) in
    true≢false (sym p.0 ∙ ap (labelled ls) same ∙ b.0))

-- back: no node is a child twice, so no tree edge stands twice, and no two go to one node

single_part : (t ls : List Edge) (x : ℕ) → single (positions (label_literals t ls)) ≡ true → labelled ls x ≡ true → single (fan x (children t x)) ≡ true
unfolding positions label_literals left
single_part t [] x s h = absurd (false≢true h)
single_part t (e ∷ ls) x s h =
    let b = single_parts (fan e.0 (children t e.0)) (positions (label_literals t ls)) s in
    ⊎_elim
    (λ (q : eqb e.0 x ≡ true). subst (λ (z : ℕ). single (fan z (children t z)) ≡ true) (eqb-true e.0 x q) b.0)
    (λ (k : labelled ls x ≡ true). single_part t ls x b.1 k)
    (or_cases (eqb e.0 x) (labelled ls x) h)

-- an edge that stands twice would give its start a child twice
distinct_of_children : (t : List Edge) → ((x : ℕ) → left t x ≡ true → single (fan x (children t x)) ≡ true) → distinct t ≡ true
unfolding distinct left
distinct_of_children [] s = refl
distinct_of_children (e ∷ t) s =
    let parts : (x : ℕ) → left (e ∷ t) x ≡ true → single (fan x (children t x) ++ fan x (last e x)) ≡ true = λ x h. sym (ap single (children_more e t x)) ∙ s x h in
    let here : eqb e.0 e.0 ≡ true = eq-eqb e.0 e.0 refl in
    let p = single_parts (fan e.0 (children t e.0)) (fan e.0 (last e e.0)) (parts e.0 (or_left (eqb e.0 e.0) (left t e.0) here)) in
    let fresh : among t e.0 e.1 ≡ false = not_holding (among t e.0 e.1) (λ h.
    p.2 e.1 (fan_entered e.0 (children t e.0) e.1 ((in_children t e.0 e.1).1 h)) (fan_entered e.0 (last e e.0) e.1 (rw here (inl refl)))) in
    let rest : distinct t ≡ true = distinct_of_children t (λ x h. (single_parts (fan x (children t x)) (fan x (last e x)) (parts x (or_right (eqb e.0 x) (left t x) h))).0) in
    rw (fresh, rest)

pub single_tree : (t ls : List Edge) → single (positions (label_literals t ls)) ≡ true → ((p c : ℕ) → among t p c ≡ true → labelled ls p ≡ true) → single t ≡ true
single_tree t ls s from =
    single_of_distinct t
    (distinct_of_children t (λ x h. let r = left_found t x h in single_part t ls x s (from x r.0 r.1)))
    (λ p q c h k. one_parent (positions (label_literals t ls)) p q c s (tree_position t ls p c (from p c h) h) (tree_position t ls q c (from q c k) k))
