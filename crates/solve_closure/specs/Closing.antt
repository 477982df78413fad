-- Edges in rows, and what is joined to closed ones. Relations are tests here, since a contract cannot speak of all relations.
use Rattle.std.specs.Prelude.{ℕ, ◌≤◌, ◌<◌, ◌≡◌, List, Bool, cond, not, ◌&&◌, ◌||◌, eqb, ltb, length, get_or}
use Rattle.base_nodeset.specs.Set.{mem}
use Rattle.base_nodeset.specs.declared.NodeSet.{NodeSet}
use Rattle.graph.specs.Graph.{none}
use Rattle.base_tables.specs.Rows.{in_row}

-- one of the two words of a set
abbrev pub word_of : Bool → NodeSet → ℕ
word_of high s = cond high s.high s.low

-- a and the nodes below n whose rows have a
abbrev pub Rising : ℕ → ℕ → List NodeSet → NodeSet → Type 0
Rising n a rows r = (x : ℕ) → mem r x ≡ (ltb x n && (eqb x a || in_row rows x a))

-- Each row that `over` holds of was joined with what `more` holds of; every other row is as it was.
pub record Joined (over more : ℕ → Bool) (rows rows' : List NodeSet) : Type 0 where
  pub long : length rows' ≡ length rows
  pub row_is : (u v : ℕ) → in_row rows' u v ≡ (in_row rows u v || over u && more v)

-- A table that gives each node a node above it, or `none`.
pub record Links (n : ℕ) (links : List ℕ) : Type 0 where
  pub long : n ≤ length links
  pub node_or_none : (v : ℕ) → v < n → (get_or links v 0 ≡ none → ⊥) → get_or links v 0 < n

-- the edge from `above` to w, where `above` is a node
abbrev pub link_to : ℕ → ℕ → ℕ → ℕ → Bool
link_to above w u v = eqb v w && (not (eqb above none) && eqb u above)

-- the edges to the nodes below n from those that the table gives
abbrev pub link_in : ℕ → List ℕ → ℕ → ℕ → Bool
link_in n links u v = ltb v n && (not (eqb (get_or links v 0) none) && eqb u (get_or links v 0))

-- the edges from the nodes below n to the members of their rows
abbrev pub head_in : ℕ → List NodeSet → ℕ → ℕ → Bool
head_in n heads u v = ltb u n && in_row heads u v

-- the rows have the edges of f, besides what they had
pub record Adds (f : ℕ → ℕ → Bool) (rows rows' : List NodeSet) : Type 0 where
  pub long : length rows' ≡ length rows
  pub row_is : (u v : ℕ) → in_row rows' u v ≡ (in_row rows u v || f u v)
