-- Labelled sheets (02, Three): the constraint that a labelled sheet writes, and which bytes spell a normal one (document 000, Definition
-- 3.3) with acyclic fragments.
use Rattle.std.specs.Prelude.{ℕ, ◌≤◌, ◌≡◌, List, [], ◌∷◌, ◌++◌, cond, not, ◌&&◌, eqb, length}
use Rattle.base_finite.specs.Below.{spread}
use Rattle.graph.specs.Graph.{Edge, Graph, TreeEdge, different, grown}
use Rattle.graph.specs.Constraint.{Literal, dominates, differs, labels, Constraint, Has, Labelled, Proper, Normal, Acyclic}
use Rattle.format.specs.Sheet.{Labels, unlabelled, children, labelled, SheetCommand, sheet, spells, labels_of, longest}
use Rattle.format.specs.declared.Form.TheVariants.{Labelled as LabelledForm}

-- a labeling literal for each label: the node, its symbol, and its children in order
unfoldable pub label_literals : List Edge → List Edge → List Literal
label_literals t [] = []
label_literals t (e ∷ ls) = labels e.0 e.1 (children t e.0) ∷ label_literals t ls

-- a dominance literal for each dominance edge
unfoldable pub dominance_literals : List Edge → List Literal
dominance_literals [] = []
dominance_literals (e ∷ d) = dominates e.0 e.1 ∷ dominance_literals d

-- "all labelled nodes differ"
unfoldable pub inequalities : ℕ → List Edge → List Literal
inequalities n ls = spread n (λ x. spread n (λ y. cond (labelled ls x && labelled ls y && not (eqb x y)) (differs x y ∷ []) []))

-- The constraint of a sheet that writes the graph g and says m of labels.
abbrev pub constraint : Graph → Labels → Constraint
constraint g m =
    record {
      variables = g.nodes;
      literals = label_literals g.tree m.symbols ++ dominance_literals g.dominance ++ cond m.differ (inequalities g.nodes m.symbols) [];
    }

-- It is a normal constraint with acyclic fragments, within the limits.
pub record NormalSheet (g : Graph) (m : Labels) : Type 0 where
  -- 01, "The sheet", and 02, One and Two: 1 to 128 nodes, with the added leaves, and at most 255 different dominance edges
  pub some_nodes : 1 ≤ g.nodes
  pub few_nodes : (grown g).nodes ≤ 128
  pub few_edges : different g.dominance ≤ 255
  -- "unlabelled nodes having none": each tree edge belongs to a labeling literal
  pub from_labelled : (p c : ℕ) → TreeEdge g p c → Labelled (constraint g m) p
  pub proper : (x : Literal) → Has (constraint g m) x → Proper g.nodes x
  -- Definition 3.3, and Lemma 4.5: "all its fragments are acyclic"
  pub normal : Normal (constraint g m)
  pub acyclic : Acyclic (constraint g m)

-- The bytes spell such a constraint.
abbrev pub LabelledSheet : List ℕ → Type 0
LabelledSheet bs =
    (n : ℕ) × (cs : List SheetCommand) × (bs ≡ sheet n cs) × NormalSheet (spells n cs) (labels_of (unlabelled LabelledForm) cs) × (length bs ≤ longest)
