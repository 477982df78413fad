-- Constructor trees, and what it means that one satisfies a constraint (document 000, Sections 3.1 and 3.2).
use Rattle.std.specs.Prelude.{ℕ, suc, ◌<◌, ◌≡◌, List, [], ◌∷◌, ◌++◌, map, length}
use Rattle.graph.specs.Constraint.{arity, Literal, dominates, differs, labels, Constraint, Has}

-- A term: a symbol, and the terms below it in order. "A constructor tree can be defined either as a term or equivalently on the basis of
-- directed graphs."
mutual
  pub data Term : Type 0 where
    node : ℕ → Terms → Term

  pub data Terms : Type 0 where
    nil : Terms
    cons : Term → Terms → Terms

-- a term without terms below it
abbrev pub constant : ℕ → Term
constant f = node f nil

-- how many terms there are
unfoldable pub size : Terms → ℕ
size nil = 0
size (cons t ts) = suc (size ts)

-- t is the i-th of the terms, counted from 0
pub data Nth : Terms → ℕ → Term → Type 0 where
  first : {t : Term} {ts : Terms} → Nth (cons t ts) 0 t
  later : {i : ℕ} {t u : Term} {ts : Terms} → Nth ts i t → Nth (cons u ts) (suc i) t

-- The nodes of a constructor tree are positions: the numbers of the children on the way down from the root ("The edge labels in a
-- constructor tree determine the order of the children of a node"). At t u s: the node u of t has the subtree s.
pub data At : Term → List ℕ → Term → Type 0 where
  here : {t : Term} → At t [] t
  below : {f i : ℕ} {ts : Terms} {t s : Term} {u : List ℕ} → Nth ts i t → At t u s → At (node f ts) (i ∷ u) s

-- u ∈ V
abbrev pub NodeOf : Term → List ℕ → Type 0
NodeOf t u = (s : Term) × At t u s

-- the children of the node u, in order, from the i-th on, where the terms ts are below it
unfoldable pub children_of : List ℕ → ℕ → Terms → List (List ℕ)
children_of u i nil = []
children_of u i (cons t ts) = (u ++ i ∷ []) ∷ children_of u (suc i) ts

-- "for each node u ∈ V and each natural number 1 ≤ k ≤ ar(L(u)), there is exactly one edge (u, v) ∈ E with L((u, v)) = k"
abbrev pub ConstructorTree : Term → Type 0
ConstructorTree t = (u : List ℕ) (f : ℕ) (ts : Terms) → At t u (node f ts) → size ts ≡ arity f

-- 3.2: "The dominance relation u ◁* v holds in τ iff there is a path from u to v", of any length, none included
abbrev pub Dominance : List ℕ → List ℕ → Type 0
Dominance u v = (w : List ℕ) × (v ≡ u ++ w)

-- "the labeling relation u: f(v1, ..., vn) holds in τ iff u is labeled by the n-ary symbol f and has the children v1, ..., vn in this
-- order"
abbrev pub Labeling : Term → List ℕ → ℕ → List (List ℕ) → Type 0
Labeling t u f vs = (ts : Terms) × At t u (node f ts) × (vs ≡ children_of u 0 ts) × (length vs ≡ arity f)

-- what a literal says of a tree, where the variables are assigned to its nodes
abbrev pub Satisfied : Term → (ℕ → List ℕ) → Literal → Type 0
Satisfied t α (dominates x y) = Dominance (α x) (α y)
Satisfied t α (differs x y) = α x ≡ α y → ⊥
Satisfied t α (labels x f ys) = Labeling t (α x) f (map α ys)

-- "A pair of a tree structure τ with node set V and a variable assignment α : Var(φ) → V satisfies φ iff it satisfies all its literal in
-- the obvious way. We say that (τ, α) is a solution of φ in this case"
pub record Solution (φ : Constraint) (t : Term) (α : ℕ → List ℕ) : Type 0 where
  pub constructor_tree : ConstructorTree t
  pub assigned : (x : ℕ) → x < φ.variables → NodeOf t (α x)
  pub satisfied : (x : Literal) → Has φ x → Satisfied t α x
