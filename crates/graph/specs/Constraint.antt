-- Dominance constraints (document 000, Section 3): literals, normal constraints, their solved forms, and the dominance graph of a
-- constraint (Section 4.2).
use Rattle.std.specs.Prelude.{ℕ, ◌<◌, ◌≡◌, List, [], ◌∷◌, ◌++◌, map, true, cond, ◌⊎◌, ◌↔◌, ltb, length}
use Rattle.graph.specs.Graph.{Edge, Graph, Path, GraphEdge, Descent, TreeEdge, DominanceEdge, single, leaf, root}
use Rattle.graph.specs.Placing.{Forest, Contains}

-- 3.1: "function symbols f, g, .. each of which is equipped with an arity". 02, Three: "Symbols 0 to 63 take no children, 64 to 127 one,
-- 128 to 191 two, 192 to 255 three."
unfoldable pub arity : ℕ → ℕ
arity f = cond (ltb f 64) 0 (cond (ltb f 128) 1 (cond (ltb f 192) 2 3))

-- 3.2: "dominance, inequality, and labeling literals". Variables and symbols are numbers.
pub data Literal : Type 0 where
  -- X ◁* Y
  dominates : ℕ → ℕ → Literal
  -- X ≠ Y
  differs : ℕ → ℕ → Literal
  -- X : f(X1, .., Xk)
  labels : ℕ → ℕ → List ℕ → Literal

-- a is in the list
abbrev pub In : {A : Type 0} → A → List A → Type 0
In a [] = ⊥
In a (b ∷ bs) = (a ≡ b) ⊎ In a bs

-- A conjunction of literals, whose variables are the numbers below `variables`. A literal may stand in the list more than once.
pub record Constraint : Type 0 where
  pub variables : ℕ
  pub literals : List Literal

-- the literal is in φ
abbrev pub Has : Constraint → Literal → Type 0
Has φ x = In x φ.literals

-- "A variable X labeled in a constraint φ if there exists a literal X:f(...) in φ"
abbrev pub Labelled : Constraint → ℕ → Type 0
Labelled φ x = (f : ℕ) × (ys : List ℕ) × Has φ (labels x f ys)

-- X:f(.. Y ..) is in φ
abbrev pub ChildOf : Constraint → ℕ → ℕ → Type 0
ChildOf φ x y = (f : ℕ) × (ys : List ℕ) × Has φ (labels x f ys) × In y ys

-- Y occurs in child position
abbrev pub Child : Constraint → ℕ → Type 0
Child φ y = (x : ℕ) × ChildOf φ x y

-- X ◁* Y is in φ
abbrev pub Dominates : Constraint → ℕ → ℕ → Type 0
Dominates φ x y = Has φ (dominates x y)

-- the variables of a literal are below n, and the children of a label are as many as its symbol takes: "where ar(f) = n"
abbrev pub Proper : ℕ → Literal → Type 0
Proper n (dominates x y) = (x < n) × (y < n)
Proper n (differs x y) = (x < n) × (y < n)
Proper n (labels x f ys) = (x < n) × ((y : ℕ) → In y ys → y < n) × (length ys ≡ arity f)

-- each child position of a label, with the parent
abbrev pub positions_of : Literal → List Edge
positions_of (dominates x y) = []
positions_of (differs x y) = []
positions_of (labels x f ys) = map (λ y. (x, y)) ys

unfoldable pub positions : List Literal → List Edge
positions [] = []
positions (x ∷ xs) = positions_of x ++ positions xs

-- each parent of a labeling literal, with its symbol before it
abbrev pub parents_of : Literal → List Edge
parents_of (dominates x y) = []
parents_of (differs x y) = []
parents_of (labels x f ys) = (f, x) ∷ []

unfoldable pub parents : List Literal → List Edge
parents [] = []
parents (x ∷ xs) = parents_of x ++ parents xs

-- each dominance literal
abbrev pub dominances_of : Literal → List Edge
dominances_of (dominates x y) = (x, y) ∷ []
dominances_of (differs x y) = []
dominances_of (labels x f ys) = []

unfoldable pub dominances : List Literal → List Edge
dominances [] = []
dominances (x ∷ xs) = dominances_of x ++ dominances xs

-- Definition 3.3
pub record Normal (φ : Constraint) : Type 0 where
  -- 1. "X ≠ Y in φ if X and Y are distinct variables that are labeled in φ"
  pub no_overlap : (x y : ℕ) → (x ≡ y → ⊥) → Labelled φ x → Labelled φ y → Has φ (differs x y)
  -- 2. "every variable in φ appears at most once as a parent and at most once as a child in a labeling literal of φ"
  pub once_parent : single (parents φ.literals) ≡ true
  pub once_child : single (positions φ.literals) ≡ true
  -- 3. "if X ◁* Y in φ then X is unlabeled in φ whereas Y is labeled but does not occur in child position in φ"
  pub hole_to_root : (x y : ℕ) → Dominates φ x y → (Labelled φ x → ⊥) × Labelled φ y × (Child φ y → ⊥)
  -- 4. "every hole of φ occurs in some child position"; "A hole of a fragment is a variable in φ that is unlabeled in φ"
  pub no_empty_fragment : (x : ℕ) → x < φ.variables → (Labelled φ x → ⊥) → Child φ x

-- "all its fragments are acyclic" (Lemma 4.5)
abbrev pub Acyclic : Constraint → Type 0
Acyclic φ = (x : ℕ) → Path (ChildOf φ) x x → ⊥

-- 3.6: the reachability relation is the transitive closure of "{(X,Y) | X:f(...,Y,...) ∈ φ or X ◁* Y ∈ φ}"
abbrev pub Reaches : Constraint → ℕ → ℕ → Type 0
Reaches φ = Path (λ x y. ChildOf φ x y ⊎ Dominates φ x y)

-- Definition 3.5, of a normal constraint
pub record Solved (φ : Constraint) : Type 0 where
  -- 1. "if X and Y are distinct then not both X ◁* Z in φ and Y ◁* Z in φ"
  pub no_branch : (x y z : ℕ) → (x ≡ y → ⊥) → Dominates φ x z → Dominates φ y z → ⊥
  -- 2. "(X, X) ∉ R_φ"
  pub no_loop : (x : ℕ) → Reaches φ x x → ⊥

-- "A solved form of a normal constraint φ is a normal constraint φ' that is in solved form, contains the same labeling literals as φ,
-- and has a stronger reachability relation"
pub record SolvedFormOf (φ ψ : Constraint) : Type 0 where
  pub same_variables : ψ.variables ≡ φ.variables
  pub proper : (x : Literal) → Has ψ x → Proper ψ.variables x
  pub normal : Normal ψ
  pub solved : Solved ψ
  pub same_labels : (x f : ℕ) (ys : List ℕ) → Has φ (labels x f ys) ↔ Has ψ (labels x f ys)
  pub stronger : Contains (Reaches ψ) (Reaches φ)

-- Section 4.2: the graph G(φ)
abbrev pub graph_of : Constraint → Graph
graph_of φ = record { nodes = φ.variables; tree = positions φ.literals; dominance = dominances φ.literals }

-- Definition 4.3: "A dominance graph G is in solved form iff it is a forest."
abbrev pub InSolvedForm : Graph → Type 0
InSolvedForm g = Forest (GraphEdge g)

-- "a dominance graph G' is a solved form of G iff V = V', E = E', G' is a solved form and R_G ⊆ R_G'". With the trees of G it is a
-- dominance graph (Definition 4.1) where "Each edge in D goes from a leaf .. to the root of some tree".
pub record SolvedGraphOf (g h : Graph) : Type 0 where
  pub same_nodes : h.nodes ≡ g.nodes
  pub same_tree : (p c : ℕ) → TreeEdge g p c ↔ TreeEdge h p c
  pub leaf_to_root : (l r : ℕ) → DominanceEdge h l r → (leaf h l ≡ true) × (root h r ≡ true)
  pub solved : InSolvedForm h
  pub stronger : Contains (Descent h) (Descent g)
