-- Which literals the constraint of a labelled sheet has: a labeling literal for each label, with the children of its node, a dominance
-- literal for each dominance edge, and, where the sheet says so, an inequality for each two labelled nodes. `LiteralOf` has the three cases;
-- to match on it tells them apart, and the laws of each kind of literal follow.
use Prim.Native.Nat.{ℕ, ◌<◌}
use mathlib.Core.Path.{◌≡◌, refl, sym, subst}
use mathlib.Core.List.{List, [], ◌∷◌, ◌++◌}
use mathlib.Core.Bool.{true, cond, not, ◌&&◌}
use mathlib.Core.Logic.{inl, inr, ⊎_elim, ◌↔◌}
use lib.Dec.{eqb}
use borrow.Author.Tests.{eqb-true, eqb-false, eq-eqb, ne_eqb, not-true}
use Rattle.base_finite.specs.Below.{spread}
use Rattle.base_finite.proofs.Laws.{and_both}
use Rattle.graph.specs.Graph.{Edge, Graph, among, TreeEdge}
use Rattle.graph.specs.Constraint.{Literal, dominates, differs, labels, In, Has, Labelled, ChildOf}
use Rattle.format.specs.Sheet.{Labels, children, labelled}
use Rattle.format.specs.Labelled.{label_literals, dominance_literals, inequalities, constraint}
use Rattle.theory_edges.proofs.Edges.{among_cases, among_first, among_rest, among_none, left_of_among, left_found}
use Rattle.theory_constraint.proofs.Members.{in_left, in_right, in_cases, in_one, in_if, in_spread, spread_found}

-- children

child_among : (t : List Edge) (x y : ℕ) → In y (children t x) → among t x y ≡ true
unfolding children
child_among [] x y h = absurd h
child_among (e ∷ t) x y h =
    ⊎_elim
    (λ (l : In y (children t x)). among_rest e t x y (child_among t x y l))
    (λ (i : In y (cond (eqb e.0 x) (e.1 ∷ []) [])).
    let b = in_if (eqb e.0 x) y (e.1 ∷ []) i in
    among_first e t x y (eqb-true e.0 x b.0) (sym (in_one y e.1 b.1)))
    (in_cases y (children t x) (cond (eqb e.0 x) (e.1 ∷ []) []) h)

among_child : (t : List Edge) (x y : ℕ) → among t x y ≡ true → In y (children t x)
unfolding children
among_child [] x y h = absurd (among_none x y h)
among_child (e ∷ t) x y h =
    ⊎_elim
    (λ (q : (e.0 ≡ x) × (e.1 ≡ y)). in_right y (children t x) (cond (eqb e.0 x) (e.1 ∷ []) []) (rw (eq-eqb e.0 x q.0) (inl (sym q.1))))
    (λ (r : among t x y ≡ true). in_left y (children t x) (cond (eqb e.0 x) (e.1 ∷ []) []) (among_child t x y r))
    (among_cases e t x y h)

pub in_children : (t : List Edge) (x y : ℕ) → In y (children t x) ↔ (among t x y ≡ true)
in_children t x y = (child_among t x y, among_child t x y)

-- the three parts of the constraint

pub label_written : (t ls : List Edge) (l : Literal) → In l (label_literals t ls) → (x : ℕ) × (f : ℕ) × (among ls x f ≡ true) × (l ≡ labels x f (children t x))
unfolding label_literals
label_written t [] l h = absurd h
label_written t (e ∷ ls) l h =
    ⊎_elim
    (λ (q : l ≡ labels e.0 e.1 (children t e.0)). (e.0, e.1, among_first e ls e.0 e.1 refl refl, q))
    (λ (i : In l (label_literals t ls)). let r = label_written t ls l i in (r.0, r.1, among_rest e ls r.0 r.1 r.2, r.3))
    h

pub label_in : (t ls : List Edge) (x f : ℕ) → among ls x f ≡ true → In (labels x f (children t x)) (label_literals t ls)
unfolding label_literals
label_in t [] x f h = absurd (among_none x f h)
label_in t (e ∷ ls) x f h =
    ⊎_elim
    (λ (q : (e.0 ≡ x) × (e.1 ≡ f)). let p : e.0 ≡ x = q.0 in let r : e.1 ≡ f = q.1 in inl (cc))
    (λ (r : among ls x f ≡ true). inr (label_in t ls x f r))
    (among_cases e ls x f h)

pub dominance_written : (d : List Edge) (l : Literal) → In l (dominance_literals d) → (x : ℕ) × (y : ℕ) × (among d x y ≡ true) × (l ≡ dominates x y)
unfolding dominance_literals
dominance_written [] l h = absurd h
dominance_written (e ∷ d) l h =
    ⊎_elim
    (λ (q : l ≡ dominates e.0 e.1). (e.0, e.1, among_first e d e.0 e.1 refl refl, q))
    (λ (i : In l (dominance_literals d)). let r = dominance_written d l i in (r.0, r.1, among_rest e d r.0 r.1 r.2, r.3))
    h

dominance_in : (d : List Edge) (x y : ℕ) → among d x y ≡ true → In (dominates x y) (dominance_literals d)
unfolding dominance_literals
dominance_in [] x y h = absurd (among_none x y h)
dominance_in (e ∷ d) x y h =
    ⊎_elim
    (λ (q : (e.0 ≡ x) × (e.1 ≡ y)). let p : e.0 ≡ x = q.0 in let r : e.1 ≡ y = q.1 in inl (cc))
    (λ (r : among d x y ≡ true). inr (dominance_in d x y r))
    (among_cases e d x y h)

-- x and y are different nodes below n with labels
pub record Distinct (n : ℕ) (ls : List Edge) (x y : ℕ) : Type 0 where
  pub first_node : x < n
  pub second_node : y < n
  pub first_labelled : labelled ls x ≡ true
  pub second_labelled : labelled ls y ≡ true
  pub apart : x ≡ y → ⊥

abbrev cell : List Edge → ℕ → ℕ → List Literal
cell ls x y = cond (labelled ls x && labelled ls y && not (eqb x y)) (differs x y ∷ []) []

-- it stands in one cell of the table, whose three tests hold
pub inequality_written : (n : ℕ) (ls : List Edge) (l : Literal) → In l (inequalities n ls) → (x : ℕ) × (y : ℕ) × Distinct n ls x y × (l ≡ differs x y)
unfolding inequalities
inequality_written n ls l h =
    let r = spread_found l n (λ x. spread n (cell ls x)) h in
    let s = spread_found l n (cell ls r.0) r.2 in
    let x : ℕ = r.0 in
    let y : ℕ = s.0 in
    let c = in_if (labelled ls x && labelled ls y && not (eqb x y)) l (differs x y ∷ []) s.2 in
    let a = and_both (labelled ls x && labelled ls y) (not (eqb x y)) c.0 in
    let b = and_both (labelled ls x) (labelled ls y) a.0 in (
      x,
      y,
      record {
        first_node = r.1;
        second_node = s.1;
        first_labelled = b.0;
        second_labelled = b.1;
        apart = eqb-false x y (not-true (eqb x y) a.1);
      },
      in_one l (differs x y) c.1,
    )

inequality_in : (n : ℕ) (ls : List Edge) (x y : ℕ) → Distinct n ls x y → In (differs x y) (inequalities n ls)
unfolding inequalities
inequality_in n ls x y d =
    in_spread (differs x y) n (λ x. spread n (cell ls x)) x d.first_node
    (in_spread (differs x y) n (cell ls x) y d.second_node
    (rw (d.first_labelled, d.second_labelled, ne_eqb x y d.apart) (inl refl)))

-- the literals of a sheet's constraint

abbrev pub label_part : Graph → Labels → List Literal
label_part g m = label_literals g.tree m.symbols

abbrev pub edge_part : Graph → List Literal
edge_part g = dominance_literals g.dominance

abbrev pub unequal_part : Graph → Labels → List Literal
unequal_part g m = cond m.differ (inequalities g.nodes m.symbols) []

pub data LiteralOf (g : Graph) (m : Labels) : Literal → Type 0 where
  a_label : {x f : ℕ} → among m.symbols x f ≡ true → LiteralOf g m (labels x f (children g.tree x))
  a_dominance : {x y : ℕ} → among g.dominance x y ≡ true → LiteralOf g m (dominates x y)
  an_inequality : {x y : ℕ} → m.differ ≡ true → Distinct g.nodes m.symbols x y → LiteralOf g m (differs x y)

module _ (g : Graph) (m : Labels) where
  -- in one of the three parts
  pub literal_of : (l : Literal) → Has (constraint g m) l → LiteralOf g m l
  literal_of l h =
      ⊎_elim
      (λ (i : In l (label_part g m ++ edge_part g)).
      ⊎_elim
      (λ (k : In l (label_part g m)). let r = label_written g.tree m.symbols l k in subst (LiteralOf g m) (sym r.3) (a_label r.2))
      (λ (k : In l (edge_part g)). let r = dominance_written g.dominance l k in subst (LiteralOf g m) (sym r.3) (a_dominance r.2))
      (in_cases l (label_part g m) (edge_part g) i))
      (λ (i : In l (unequal_part g m)).
      let k = in_if m.differ l (inequalities g.nodes m.symbols) i in
      let r = inequality_written g.nodes m.symbols l k.1 in
      subst (LiteralOf g m) (sym r.3) (an_inequality k.0 r.2))
      (in_cases l (label_part g m ++ edge_part g) (unequal_part g m) h)

  pub literal_in : {l : Literal} → LiteralOf g m l → Has (constraint g m) l
  literal_in (a_label {x = x} {f = f} h) =
      let l : Literal = labels x f (children g.tree x) in
      in_left l (label_part g m ++ edge_part g) (unequal_part g m) (in_left l (label_part g m) (edge_part g) (label_in g.tree m.symbols x f h))
  literal_in (a_dominance {x = x} {y = y} h) =
      let l : Literal = dominates x y in
      in_left l (label_part g m ++ edge_part g) (unequal_part g m) (in_right l (label_part g m) (edge_part g) (dominance_in g.dominance x y h))
  literal_in (an_inequality {x = x} {y = y} h d) = in_right (differs x y) (label_part g m ++ edge_part g) (unequal_part g m) (rw h (inequality_in g.nodes m.symbols x y d))

  -- each kind

  dominance_of : (x y : ℕ) → LiteralOf g m (dominates x y) → among g.dominance x y ≡ true
  dominance_of x y (a_dominance h) = h

  label_of : (x f : ℕ) (ys : List ℕ) → LiteralOf g m (labels x f ys) → (among m.symbols x f ≡ true) × (ys ≡ children g.tree x)
  label_of x f ys (a_label h) = (h, refl)

  inequality_of : (x y : ℕ) → LiteralOf g m (differs x y) → (m.differ ≡ true) × Distinct g.nodes m.symbols x y
  inequality_of x y (an_inequality h d) = (h, d)

  pub has_dominates : (x y : ℕ) → Has (constraint g m) (dominates x y) ↔ (among g.dominance x y ≡ true)
  has_dominates x y = (λ h. dominance_of x y (literal_of (dominates x y) h), λ h. literal_in (a_dominance h))

  pub has_labels : (x f : ℕ) (ys : List ℕ) → Has (constraint g m) (labels x f ys) ↔ ((among m.symbols x f ≡ true) × (ys ≡ children g.tree x))
  has_labels x f ys =
      (λ h. label_of x f ys (literal_of (labels x f ys) h), λ b. subst (λ (zs : List ℕ). Has (constraint g m) (labels x f zs)) (sym b.1) (literal_in (a_label b.0)))

  pub has_differs : (x y : ℕ) → Has (constraint g m) (differs x y) ↔ ((m.differ ≡ true) × Distinct g.nodes m.symbols x y)
  has_differs x y = (λ h. inequality_of x y (literal_of (differs x y) h), λ b. literal_in (an_inequality b.0 b.1))

  -- labelled nodes, and children

  pub is_labelled : (x : ℕ) → Labelled (constraint g m) x ↔ (labelled m.symbols x ≡ true)
  is_labelled x = (
    λ k. left_of_among m.symbols x k.0 ((has_labels x k.0 k.1).0 k.2).0,
    λ h. let r = left_found m.symbols x h in (r.0, children g.tree x, literal_in (a_label r.1)),
  )

  pub is_child : (x y : ℕ) → ChildOf (constraint g m) x y ↔ ((labelled m.symbols x ≡ true) × TreeEdge g x y)
  is_child x y = (
    λ c.
        let k = (has_labels x c.0 c.1).0 c.2 in
        (left_of_among m.symbols x c.0 k.0, (in_children g.tree x y).0 (subst (In y) k.1 c.3)),
    λ b. let r = (is_labelled x).1 b.0 in (r.0, children g.tree x, literal_in (a_label ((has_labels x r.0 r.1).0 r.2).0), (in_children g.tree x y).1 b.1),
  )
