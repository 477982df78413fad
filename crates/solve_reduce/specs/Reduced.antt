-- What the tables hold: a graph's reduced form, after Rule 2, as n + 1 sets.
use Rattle.std.specs.Prelude.{ℕ, ◌+◌, ◌≤◌, ◌<◌, ◌≡◌, List, Bool, true, cond, not, ◌&&◌, ◌||◌, ◌⊎◌, ◌↔◌, eqb, ltb, length}
use Rattle.base_finite.specs.Below.{least}
use Rattle.base_nodeset.specs.Set.{mem}
use Rattle.base_nodeset.specs.declared.NodeSet.{NodeSet}
use Rattle.graph.specs.Graph.{Graph, Descent, root, leaf}
use Rattle.graph.specs.Order.{Kept}
use Rattle.theory_forest.specs.Shape.{Shaped}
use Rattle.theory_list.specs.Redundancy.{Loopless}
use Rattle.base_tables.specs.Rows.{in_row}
use Rattle.solve_below.specs.Below.{Under}

-- the lowest but one of the numbers with p, and 128 where there are no two
abbrev pub second_lowest : (ℕ → Bool) → ℕ
second_lowest p = least 128 (λ (k : ℕ). not (eqb k (least 128 p)) && p k)

abbrev pub several : (ℕ → Bool) → Bool
several p = ltb (second_lowest p) 128

-- the set has the roots that several of the leaves in the table have edges to
abbrev pub Forks : NodeSet → List NodeSet → NodeSet → Type 0
Forks roots sets s = (v : ℕ) → mem s v ≡ (mem roots v && several (λ (l : ℕ). in_row sets v l))

-- the sets of a graph with n nodes
abbrev pub wide : ℕ → ℕ
wide n = n + 1

-- there is room for them
abbrev pub Wide : ℕ → List NodeSet → Type 0
Wide n sets = wide n ≤ length sets

-- Of each leaf the nodes under it, of each root the leaves whose edges to it stay, and last the roots that several of them have
-- edges to. With a cycle in the graph what stays is of no use, and nothing is said of it.
pub record Reduced (g : Graph) (n : ℕ) (sets : List NodeSet) : Type 0 where
  pub wide : Wide n sets
  pub under : Under g sets
  pub edges : Loopless g → (v l : ℕ) → root g v ≡ true → (in_row sets v l ≡ true) ↔ Kept g l v
  pub forks : (v : ℕ) → in_row sets n v ≡ (root g v && several (λ (l : ℕ). in_row sets v l))

pub record LooplessForm (g : Graph) (n : ℕ) (sets : List NodeSet) : Type 0 where
  pub shaped : Shaped g
  pub loopless : Loopless g
  pub nodes : n ≡ g.nodes
  pub reduced : Reduced g n sets

-- a leaf, and the leaves above it
abbrev pub OverLeaf : Graph → ℕ → NodeSet → Type 0
OverLeaf g a s = (l : ℕ) → (mem s l ≡ true) ↔ ((leaf g l ≡ true) × ((l ≡ a) ⊎ Descent g l a))

-- What the parts do to the table.

-- of each of the first n nodes that is a leaf its row, and else nothing
pub record Laid (n : ℕ) (leaves : NodeSet) (rows sets : List NodeSet) : Type 0 where
  pub row_is : (u v : ℕ) → u < n → in_row sets u v ≡ (mem leaves u && in_row rows u v)

-- edges from the leaves `less` to the root x go, and edges from the leaves `more` to it come
pub record RevisedAt (x : ℕ) (less more : NodeSet) (sets sets' : List NodeSet) : Type 0 where
  pub row_is : (u l : ℕ) → in_row sets' u l ≡ cond (eqb u x) (in_row sets x l && not (mem less l) || mem more l) (in_row sets u l)

-- the same of each member of the set
pub record Revised (set less more : NodeSet) (sets sets' : List NodeSet) : Type 0 where
  pub row_is : (u l : ℕ) → in_row sets' u l ≡ cond (mem set u) (in_row sets u l && not (mem less l) || mem more l) (in_row sets u l)

-- v is a member where the set has several, and else is not
abbrev pub Noted : NodeSet → ℕ → NodeSet → NodeSet → Type 0
Noted forks v set r = (w : ℕ) → mem r w ≡ cond (eqb w v) (several (mem set)) (mem forks w)
