-- Lemma 4.5 of document 000: the graph of a normal constraint with acyclic fragments is a dominance graph, its reachability relation is that of
-- the constraint, and it is in solved form exactly when the constraint is; so solved forms of the one are solved forms of the other.
-- Everything rests on two laws: the tree edges of the graph are the child positions of the constraint, and its dominance edges the
-- dominance literals. The document asks that no root be labelled by a constant. Grown, the graph is a dominance graph without that, too.
use Prim.Native.Nat.{ℕ, ◌≤◌, ◌<◌}
use mathlib.Core.Path.{◌≡◌, refl, sym, ap, subst, ◌∙◌}
use mathlib.Core.List.{List, [], ◌∷◌}
use mathlib.Core.Bool.{true, false, ◌||◌, true≢false}
use mathlib.Core.Logic.{◌⊎◌, inl, inr, ⊎_elim, ◌↔◌}
use lib.Dec.{eqb}
use borrow.Author.Tests.{eqb-true, eqb-false, not-true, lt-ltb}
use Rattle.base_finite.proofs.Laws.{by_bool, not_holding, or_left, or_right, or_cases, or_none}
use Rattle.graph.specs.Graph.{Graph, among, different, entered, left, parent, leaf, root, TreeEdge, DominanceEdge, GraphEdge, Descent, bare, grown, WellFormed, WellWritten}
use Rattle.graph.specs.Placing.{Forest}
use Rattle.graph.specs.Constraint.{Literal, dominates, differs, labels, In, Constraint, Has, Labelled, ChildOf, Child, Dominates, Proper, positions_of, positions, dominances_of, dominances, Normal, Acyclic, Reaches, Solved, SolvedFormOf, graph_of, InSolvedForm, SolvedGraphOf}
use Rattle.theory_edges.specs.Edges.{Within}
use Rattle.theory_edges.proofs.Edges.{among_cases, among_first, among_none, entered_of_among, left_of_among, left_found, parent_among, one_parent}
use Rattle.theory_edges.proofs.Tables.{among_append}
use Rattle.theory_edges.proofs.Growing.{leaf_grown, root_grown, grown_well_formed, nothing_added}
use Rattle.theory_forest.proofs.Closure.{path_map}
use Rattle.theory_constraint.proofs.Members.{fan, among_fan, fan_among}

-- the edges of the graph

pub position_edge : (xs : List Literal) (x y f : ℕ) (ys : List ℕ) → In (labels x f ys) xs → In y ys → among (positions xs) x y ≡ true
unfolding positions
position_edge [] x y f ys h i = absurd h
position_edge (l ∷ xs) x y f ys h i =
    among_append (positions_of l) (positions xs) x y ∙
    ⊎_elim
    (λ (e : labels x f ys ≡ l). or_left (among (positions_of l) x y) (among (positions xs) x y) (subst (λ (k : Literal). among (positions_of k) x y ≡ true) e (fan_among x ys y i)))
    (λ (t : In (labels x f ys) xs). or_right (among (positions_of l) x y) (among (positions xs) x y) (position_edge xs x y f ys t i))
    h

pub edge_position : (xs : List Literal) (x y : ℕ) → among (positions xs) x y ≡ true → (f : ℕ) × (ys : List ℕ) × In (labels x f ys) xs × In y ys
unfolding positions
edge_position [] x y h = absurd (among_none x y h)
edge_position (dominates a b ∷ xs) x y h = let r = edge_position xs x y h in (r.0, r.1, inr r.2, r.3)
edge_position (differs a b ∷ xs) x y h = let r = edge_position xs x y h in (r.0, r.1, inr r.2, r.3)
edge_position (labels a f ys ∷ xs) x y h =
    ⊎_elim
    (λ (t : among (fan a ys) x y ≡ true). let r = among_fan a ys x y t in (f, ys, inl (ap (λ (z : ℕ). labels z f ys) (sym r.0)), r.1))
    (λ (t : among (positions xs) x y ≡ true). let r = edge_position xs x y t in (r.0, r.1, inr r.2, r.3))
    (or_cases (among (fan a ys) x y) (among (positions xs) x y) (sym (among_append (fan a ys) (positions xs) x y) ∙ h))

literal_edge : (xs : List Literal) (x y : ℕ) → In (dominates x y) xs → among (dominances xs) x y ≡ true
unfolding dominances
literal_edge [] x y h = absurd h
literal_edge (l ∷ xs) x y h =
    among_append (dominances_of l) (dominances xs) x y ∙
    ⊎_elim
    (λ (e : dominates x y ≡ l).
    or_left (among (dominances_of l) x y) (among (dominances xs) x y) (subst (λ (k : Literal). among (dominances_of k) x y ≡ true) e (among_first (x, y) [] x y refl refl)))
    (λ (t : In (dominates x y) xs). or_right (among (dominances_of l) x y) (among (dominances xs) x y) (literal_edge xs x y t))
    h

edge_literal : (xs : List Literal) (x y : ℕ) → among (dominances xs) x y ≡ true → In (dominates x y) xs
unfolding dominances
edge_literal [] x y h = absurd (among_none x y h)
edge_literal (dominates a b ∷ xs) x y h =
    ⊎_elim
    (λ (q : (a ≡ x) × (b ≡ y)). let e : a ≡ x = q.0 in let i : b ≡ y = q.1 in inl (cc))
    (λ (t : among (dominances xs) x y ≡ true). inr (edge_literal xs x y t))
    (among_cases (a, b) (dominances xs) x y h)
edge_literal (differs a b ∷ xs) x y h = inr (edge_literal xs x y h)
edge_literal (labels a f ys ∷ xs) x y h = inr (edge_literal xs x y h)

pub child_edge : (φ : Constraint) (x y : ℕ) → ChildOf φ x y ↔ TreeEdge (graph_of φ) x y
child_edge φ x y = (λ c. position_edge φ.literals x y c.0 c.1 c.2 c.3, edge_position φ.literals x y)

pub dominance_edge : (φ : Constraint) (x y : ℕ) → Dominates φ x y ↔ DominanceEdge (graph_of φ) x y
dominance_edge φ x y = (literal_edge φ.literals x y, edge_literal φ.literals x y)

-- 2. reachability

module _ (φ : Constraint) where
  reaches_edge : (x y : ℕ) → ChildOf φ x y ⊎ Dominates φ x y → GraphEdge (graph_of φ) x y
  reaches_edge x y (inl c) = inl ((child_edge φ x y).0 c)
  reaches_edge x y (inr d) = inr ((dominance_edge φ x y).0 d)

  edge_reaches : (x y : ℕ) → GraphEdge (graph_of φ) x y → ChildOf φ x y ⊎ Dominates φ x y
  edge_reaches x y (inl c) = inl ((child_edge φ x y).1 c)
  edge_reaches x y (inr d) = inr ((dominance_edge φ x y).1 d)

  pub same_reach : (u v : ℕ) → Reaches φ u v ↔ Descent (graph_of φ) u v
  same_reach u v = (λ p. path_map reaches_edge p, λ p. path_map edge_reaches p)

-- 1. a dominance graph

module _ (φ : Constraint) where
  entered_child : (y : ℕ) → entered (graph_of φ).tree y ≡ true → Child φ y
  entered_child y h = let x : ℕ = parent (graph_of φ).tree y in (x, (child_edge φ x y).1 (parent_among (graph_of φ).tree y h))

  child_entered : (y : ℕ) → Child φ y → entered (graph_of φ).tree y ≡ true
  child_entered y c = entered_of_among (graph_of φ).tree c.0 y ((child_edge φ c.0 y).0 c.1)

  left_labelled : (x : ℕ) → left (graph_of φ).tree x ≡ true → Labelled φ x
  left_labelled x h =
      let r = left_found (graph_of φ).tree x h in
      let c = (child_edge φ x r.0).1 r.1 in
      (c.0, c.1, c.2)

  module _ (n : Normal φ) (proper : (x : Literal) → Has φ x → Proper φ.variables x) where
    children_within : Within φ.variables (graph_of φ).tree
    children_within x y h =
        let c = (child_edge φ x y).1 h in
        let b = proper (labels x c.0 c.1) c.2 in
        (b.0, b.1 y c.3)

    dominance_within : Within φ.variables (graph_of φ).dominance
    dominance_within x y h = proper (dominates x y) ((dominance_edge φ x y).1 h)

    -- a hole is a child, and so not bare, and has no child
    hole_leaf : (x : ℕ) → x < φ.variables → (Labelled φ x → ⊥) → leaf (grown (graph_of φ)) x ≡ true
    unfolding bare
    hole_leaf x l u =
        let none : left (graph_of φ).tree x ≡ false = not_holding (left (graph_of φ).tree x) (λ h. u (left_labelled x h)) in
        leaf_grown (graph_of φ) x l ∙ (rw (none, child_entered x (n.no_empty_fragment x l u)))

    unentered_root : (x : ℕ) → x < φ.variables → (Child φ x → ⊥) → root (grown (graph_of φ)) x ≡ true
    unentered_root x l u =
        let none : entered (graph_of φ).tree x ≡ false = not_holding (entered (graph_of φ).tree x) (λ h. u (entered_child x h)) in
        root_grown (graph_of φ) x l ∙ (rw none)

    hole_to_root : (x y : ℕ) → DominanceEdge (graph_of φ) x y → (leaf (grown (graph_of φ)) x ≡ true) × (root (grown (graph_of φ)) y ≡ true)
    hole_to_root x y h =
        let b = dominance_within x y h in
        let k = n.hole_to_root x y ((dominance_edge φ x y).1 h) in
        (hole_leaf x b.0 k.0, unentered_root y b.1 k.2)

    module _ (acyclic : Acyclic φ) (some : 1 ≤ φ.variables) (few : different (graph_of φ).dominance ≤ 255) where
      pub well_written : (grown (graph_of φ)).nodes ≤ 128 → WellWritten (graph_of φ)
      well_written nodes =
          record {
            some_nodes = some;
            few_nodes = nodes;
            tree_within = children_within;
            one_parent = n.once_child;
            no_tree_cycle = λ v c. acyclic v (path_map (λ x y. (child_edge φ x y).1) c);
            dominance_within = dominance_within;
            leaf_to_root = hole_to_root;
            few_edges = few;
          }

    module _ (constants : (x f : ℕ) → (Child φ x → ⊥) → Has φ (labels x f []) → ⊥) where
      -- a node that is labelled and bare is a root labelled by a constant
      no_bare_label : (x : ℕ) → (Child φ x → ⊥) → left (graph_of φ).tree x ≡ false → (f : ℕ) (ys : List ℕ) → Has φ (labels x f ys) → ⊥
      no_bare_label x top e f [] h = constants x f top h
      no_bare_label x top e f (y ∷ ys) h = true≢false (sym (left_of_among (graph_of φ).tree x y ((child_edge φ x y).0 (f, y ∷ ys, h, inl refl))) ∙ e)

      no_bare : (x : ℕ) → x < φ.variables → bare (graph_of φ) x ≡ false
      unfolding bare
      no_bare x l =
          not_holding (bare (graph_of φ) x) (λ b.
          let e = or_none (entered (graph_of φ).tree x) (left (graph_of φ).tree x) (not-true (entered (graph_of φ).tree x || left (graph_of φ).tree x) b) in
          let top : Child φ x → ⊥ = λ c. true≢false (sym (child_entered x c) ∙ e.0) in
          top (n.no_empty_fragment x l (λ k. no_bare_label x top e.1 k.0 k.1 k.2)))

pub dominance_graph : (φ : Constraint) → Normal φ → ((x : Literal) → Has φ x → Proper φ.variables x) → Acyclic φ → 1 ≤ φ.variables → (grown (graph_of φ)).nodes ≤ 128 → different (graph_of φ).dominance ≤ 255 → WellFormed (grown (graph_of φ))
dominance_graph φ n proper acyclic some nodes few = grown_well_formed (graph_of φ) (well_written φ n proper acyclic some few nodes)

-- "none of its roots is labelled by a constant": as the document has it
pub dominance_graph_as_is : (φ : Constraint) → Normal φ → ((x : Literal) → Has φ x → Proper φ.variables x) → Acyclic φ → 1 ≤ φ.variables → φ.variables ≤ 128 → ((x f : ℕ) → (Child φ x → ⊥) → Has φ (labels x f []) → ⊥) → different (graph_of φ).dominance ≤ 255 → WellFormed (graph_of φ)
dominance_graph_as_is φ n proper acyclic some nodes constants few =
    let same : grown (graph_of φ) ≡ graph_of φ = nothing_added (graph_of φ) (no_bare φ n proper constants) in
    subst WellFormed same (dominance_graph φ n proper acyclic some (subst (λ (g : Graph). g.nodes ≤ 128) (sym same) nodes) few)

-- 3. solved forms

-- no node is both a child and dominated, none is a child twice, and none dominated twice
one_incoming : (φ : Constraint) → Normal φ → Solved φ → (u v w : ℕ) → GraphEdge (graph_of φ) u w → GraphEdge (graph_of φ) v w → u ≡ v
one_incoming φ n s u v w (inl c) (inl d) = one_parent (graph_of φ).tree u v w n.once_child c d
one_incoming φ n s u v w (inl c) (inr d) = absurd ((n.hole_to_root v w ((dominance_edge φ v w).1 d)).2 (u, (child_edge φ u w).1 c))
one_incoming φ n s u v w (inr c) (inl d) = absurd ((n.hole_to_root u w ((dominance_edge φ u w).1 c)).2 (v, (child_edge φ v w).1 d))
one_incoming φ n s u v w (inr c) (inr d) =
    by_bool (eqb u v)
    (λ (e : eqb u v ≡ true). eqb-true u v e)
    (λ (e : eqb u v ≡ false). absurd (s.no_branch u v w (eqb-false u v e) ((dominance_edge φ u w).1 c) ((dominance_edge φ v w).1 d)))

pub solved_exactly : (φ : Constraint) → Normal φ → Solved φ ↔ InSolvedForm (graph_of φ)
solved_exactly φ n = (
  λ (s : Solved φ).
      record {
        one_incoming = one_incoming φ n s;
        no_loop = λ u p. s.no_loop u ((same_reach φ u u).1 p);
      },
  λ (f : Forest (GraphEdge (graph_of φ))).
      record {
        no_branch = λ x y z apart c d. apart (f.one_incoming x y z (inr ((dominance_edge φ x z).0 c)) (inr ((dominance_edge φ y z).0 d)));
        no_loop = λ x p. f.no_loop x ((same_reach φ x x).0 p);
      },
)

-- 4. solved forms of a constraint and of its graph

same_children : (φ ψ : Constraint) → ((x f : ℕ) (ys : List ℕ) → Has φ (labels x f ys) → Has ψ (labels x f ys)) → (p c : ℕ) → TreeEdge (graph_of φ) p c → TreeEdge (graph_of ψ) p c
same_children φ ψ same p c e = let k = (child_edge φ p c).1 e in (child_edge ψ p c).0 (k.0, k.1, same p k.0 k.1 k.2, k.3)

-- the ends of dominance literals, before anything is grown
module _ (ψ : Constraint) (n : Normal ψ) (proper : (x : Literal) → Has ψ x → Proper ψ.variables x) where
  leaf_to_root : (x y : ℕ) → DominanceEdge (graph_of ψ) x y → (leaf (graph_of ψ) x ≡ true) × (root (graph_of ψ) y ≡ true)
  unfolding leaf root
  leaf_to_root x y h =
      let b = dominance_within ψ n proper x y h in
      let k = n.hole_to_root x y ((dominance_edge ψ x y).1 h) in
      let childless : left (graph_of ψ).tree x ≡ false = not_holding (left (graph_of ψ).tree x) (λ e. k.0 (left_labelled ψ x e)) in
      let parentless : entered (graph_of ψ).tree y ≡ false = not_holding (entered (graph_of ψ).tree y) (λ e. k.2 (entered_child ψ y e)) in
      (rw (lt-ltb x ψ.variables b.0, childless), rw (lt-ltb y ψ.variables b.1, parentless))

pub solved_form_graph : (φ ψ : Constraint) → SolvedFormOf φ ψ → SolvedGraphOf (graph_of φ) (graph_of ψ)
solved_form_graph φ ψ s =
    record {
      same_nodes = s.same_variables;
      same_tree = λ p c. (same_children φ ψ (λ x f ys. (s.same_labels x f ys).0) p c, same_children ψ φ (λ x f ys. (s.same_labels x f ys).1) p c);
      leaf_to_root = leaf_to_root ψ s.normal s.proper;
      solved = (solved_exactly ψ s.normal).0 s.solved;
      stronger = λ u v p. (same_reach ψ u v).0 (s.stronger u v ((same_reach φ u v).1 p));
    }

pub graph_solved_form : (φ ψ : Constraint) → Normal ψ → ((x : Literal) → Has ψ x → Proper ψ.variables x) → ψ.variables ≡ φ.variables → ((x f : ℕ) (ys : List ℕ) → Has φ (labels x f ys) ↔ Has ψ (labels x f ys)) → SolvedGraphOf (graph_of φ) (graph_of ψ) → SolvedFormOf φ ψ
graph_solved_form φ ψ n proper variables same s =
    record {
      same_variables = variables;
      proper = proper;
      normal = n;
      solved = (solved_exactly ψ n).1 s.solved;
      same_labels = same;
      stronger = λ u v p. (same_reach ψ u v).1 (s.stronger u v ((same_reach φ u v).0 p));
    }
