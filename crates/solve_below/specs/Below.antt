-- Which nodes a root's fragment has, and which are below it.
use Rattle.std.specs.Prelude.{ℕ, ◌<◌, ◌≡◌, List, true, false, ◌&&◌, ◌⊎◌, ◌↔◌, eqb, ltb}
use Rattle.base_nodeset.specs.Set.{mem}
use Rattle.base_nodeset.specs.declared.NodeSet.{NodeSet}
use Rattle.graph.specs.Graph.{Graph, Descent, leaf}
use Rattle.base_tables.specs.Rows.{in_row}

-- the row of each leaf has the nodes under it
abbrev pub Under : Graph → List NodeSet → Type 0
Under g sets = (l v : ℕ) → leaf g l ≡ true → (in_row sets l v ≡ true) ↔ Descent g l v

-- nothing is in the first n sets
pub record Blank (n : ℕ) (sets : List NodeSet) : Type 0 where
  pub nothing : (u v : ℕ) → u < n → in_row sets u v ≡ false

-- of each root the nodes that it owns
pub record Fragments (n : ℕ) (owner : ℕ → ℕ) (sets : List NodeSet) : Type 0 where
  pub row_is : (r v : ℕ) → r < n → in_row sets r v ≡ (ltb v n && eqb (owner v) r)

-- the set, and what is in the rows of the leaves
abbrev pub Gathered : List NodeSet → NodeSet → NodeSet → NodeSet → Type 0
Gathered sets set leaves r =
    (v : ℕ) → (mem r v ≡ true) ↔ ((mem set v ≡ true) ⊎ ((l : ℕ) × (mem leaves l ≡ true) × (in_row sets l v ≡ true)))

abbrev pub UnderRoot : Graph → ℕ → NodeSet → Type 0
UnderRoot g r s = (v : ℕ) → (mem s v ≡ true) ↔ Descent g r v

-- and the root itself
abbrev pub BelowRoot : Graph → ℕ → NodeSet → Type 0
BelowRoot g r s = (v : ℕ) → (mem s v ≡ true) ↔ ((v ≡ r) ⊎ Descent g r v)
