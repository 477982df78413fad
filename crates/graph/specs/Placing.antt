-- Placings and what they can be to a graph: solved form, configuration, reading (document 000, Definitions 4.2 and 4.3
-- and Section 5; document 01, "Readings").
use Rattle.std.specs.Prelude.{ℕ, ◌≡◌, List, Bool, true, ◌&&◌, ◌||◌, ◌⊎◌, eqb, length, get_or}
use Rattle.base_finite.specs.Below.{all}
use Rattle.graph.specs.Graph.{Graph, TreeEdge, DominanceEdge, Descent, Path, root, leaf, none}

-- what stands at v in a list of bytes
abbrev pub at : List ℕ → ℕ → ℕ
at p v = get_or p v 0

-- "A placing gives each root the leaf that it hangs under, or top. It is n bytes, one per node: the leaf's number, and 255
-- for a top root or a node that isn't a root." (The mission calls it a hanging.)
unfoldable pub placing : Graph → List ℕ → Bool
placing g p = eqb (length p) g.nodes && all g.nodes (λ v. eqb (at p v) none || root g v && leaf g (at p v))

-- the root r hangs under the leaf l
unfoldable pub hangs : Graph → List ℕ → ℕ → ℕ → Bool
hangs g p l r = leaf g l && root g r && eqb (at p r) l

-- "Its descent relation is taken over the tree edges and an edge from each leaf to each root hung under it."
abbrev pub PlacingEdge : Graph → List ℕ → ℕ → ℕ → Type 0
PlacingEdge g p u v = TreeEdge g u v ⊎ (hangs g p u v ≡ true)

abbrev pub Below : Graph → List ℕ → ℕ → ℕ → Type 0
Below g p = Path (PlacingEdge g p)

-- "A forest has at most one incoming edge at each node and no pair (u, u) in its descent relation."
pub record Forest (E : ℕ → ℕ → Type 0) : Type 0 where
  pub one_incoming : (u v w : ℕ) → E u w → E v w → u ≡ v
  pub no_loop : (u : ℕ) → Path E u u → ⊥

-- one relation holds wherever the other does
abbrev pub Contains : (ℕ → ℕ → Type 0) → (ℕ → ℕ → Type 0) → Type 0
Contains big small = (u v : ℕ) → small u v → big u v

-- "A placing is a solved form of the sheet if fragments and placing together are a forest whose descent relation contains
-- the sheet's (Definition 4.3)."
pub record SolvedForm (g : Graph) (p : List ℕ) : Type 0 where
  pub is_placing : placing g p ≡ true
  pub is_forest : Forest (PlacingEdge g p)
  pub contains : Contains (Below g p) (Descent g)

-- "A dominance edge runs downward in a placing if its leaf and root, in this order, are a pair of the placing's descent
-- relation."
abbrev pub RunsDownward : Graph → List ℕ → ℕ → ℕ → Type 0
RunsDownward g p l r = Below g p l r

-- The third demand: a "hanging of its roots under its leaves, some left on top", which "is a forest in which each
-- dominance edge runs downward".
pub record Hanging (g : Graph) (p : List ℕ) : Type 0 where
  pub is_placing : placing g p ≡ true
  pub is_forest : Forest (PlacingEdge g p)
  pub downward : (l r : ℕ) → DominanceEdge g l r → RunsDownward g p l r

-- "It is a configuration if, besides, no leaf carries two roots (Definition 4.2)."
pub record Configuration (g : Graph) (p : List ℕ) : Type 0 where
  pub solved : SolvedForm g p
  pub one_root : (l r s : ℕ) → hangs g p l r ≡ true → hangs g p l s ≡ true → r ≡ s

-- the first relation is strictly smaller than the second
abbrev pub StrictlySmaller : (ℕ → ℕ → Type 0) → (ℕ → ℕ → Type 0) → Type 0
StrictlySmaller small big = Contains big small × (Contains small big → ⊥)

-- "It is a reading if it is a solved form and no solved form has a strictly smaller descent relation (Section 5)."
pub record Reading (g : Graph) (p : List ℕ) : Type 0 where
  pub solved : SolvedForm g p
  pub minimal : (q : List ℕ) → SolvedForm g q → StrictlySmaller (Below g q) (Below g p) → ⊥

abbrev pub Solvable : Graph → Type 0
Solvable g = (p : List ℕ) × SolvedForm g p

-- "no solved form exists": the refusal as having no reading (9)
abbrev pub Unsolvable : Graph → Type 0
Unsolvable g = Solvable g → ⊥
