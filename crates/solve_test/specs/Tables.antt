-- The tables that the test looks up.
use Rattle.std.specs.Prelude.{ℕ, ◌<◌, ◌≡◌, List, Bool, true, false, ◌&&◌, ◌||◌, ◌⊎◌, ◌↔◌, eqb, length, get_or}
use Rattle.base_nodeset.specs.Set.{mem}
use Rattle.base_nodeset.specs.declared.NodeSet.{NodeSet}
use Rattle.graph.specs.Graph.{Graph, Descent, root, leaf}
use Rattle.base_tables.specs.Rows.{Long, in_row, Closed}

-- rows with nothing in them
pub record Blank (rows : List NodeSet) : Type 0 where
  pub long : Long rows
  pub nothing : (u v : ℕ) → in_row rows u v ≡ false

-- the rows `old` with the set put into row u
pub record Put (old : ℕ → ℕ → Bool) (u : ℕ) (set : NodeSet) (rows : List NodeSet) : Type 0 where
  pub long : Long rows
  pub row_is : (a b : ℕ) → in_row rows a b ≡ (eqb a u && mem set b || old a b)

-- the rows `old` with f put into the row of each member of the set
pub record PutAll (old : ℕ → ℕ → Bool) (set : NodeSet) (f : ℕ) (rows : List NodeSet) : Type 0 where
  pub long : Long rows
  pub row_is : (a b : ℕ) → in_row rows a b ≡ (mem set a && eqb b f || old a b)

-- the table gives each leaf a number of a row
abbrev pub Owned : (ℕ → Bool) → List ℕ → Type 0
Owned leaves owners = (l : ℕ) → leaves l ≡ true → (l < length owners) × (get_or owners l 0 < 128)

-- in the row of each root the leaves that it owns
pub record LeafRows (leaves : ℕ → Bool) (owners : List ℕ) (rows : List NodeSet) : Type 0 where
  pub long : Long rows
  pub row_is : (r x : ℕ) → in_row rows r x ≡ (leaves x && eqb (get_or owners x 0) r)

-- two roots of which one stands above the other
abbrev pub Near : (ℕ → ℕ → Bool) → (ℕ → Bool) → ℕ → ℕ → Type 0
Near below roots f h = (roots f ≡ true) × (roots h ≡ true) × ((below f h ≡ true) ⊎ (below h f ≡ true))

pub record NearRows (below : ℕ → ℕ → Bool) (roots : ℕ → Bool) (rows : List NodeSet) : Type 0 where
  pub long : Long rows
  pub near_is : (f h : ℕ) → (in_row rows f h ≡ true) ↔ Near below roots f h

abbrev pub Symmetric : (ℕ → ℕ → Bool) → Type 0
Symmetric near = (f h : ℕ) → near f h ≡ true → near h f ≡ true

-- a root or a leaf
abbrev pub End : Graph → ℕ → Type 0
End g u = (root g u ≡ true) ⊎ (leaf g u ≡ true)

-- closed rows that hold the descent relation at the roots and the leaves; of inner nodes they may say less
pub record EndRows (g : Graph) (rows : List NodeSet) : Type 0 where
  pub closed : Closed (in_row rows)
  pub row_is : (u v : ℕ) → End g u → (in_row rows u v ≡ true) ↔ Descent g u v
