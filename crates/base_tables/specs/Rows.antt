-- Tables of sets, 128 of them or more: a sheet's heads, and the rows that the solver works on; and what is said of any rows.
use Rattle.std.specs.Prelude.{ℕ, ◌≡◌, List, Bool, true, cond, ◌↔◌, eqb, length, get_or}
use Rattle.base_nodeset.specs.Set.{mem}
use Rattle.base_nodeset.specs.declared.NodeSet.{NodeSet}

-- the set of no node
abbrev pub nothing : NodeSet
nothing = record { low = 0; high = 0 }

-- a table of rows has 128
abbrev pub Long : List NodeSet → Type 0
Long rows = length rows ≡ 128

-- v is in row u
abbrev pub in_row : List NodeSet → ℕ → ℕ → Bool
in_row rows u v = mem (get_or rows u nothing) v

-- the set r is row u
abbrev pub IsRow : (ℕ → ℕ → Bool) → ℕ → NodeSet → Type 0
IsRow rows u r = (v : ℕ) → mem r v ≡ rows u v

-- the set s stands at i, and the others are as they were
pub record RowPut (i : ℕ) (s : NodeSet) (rows rows' : List NodeSet) : Type 0 where
  pub long : length rows' ≡ length rows
  pub row_is : (u v : ℕ) → in_row rows' u v ≡ cond (eqb u i) (mem s v) (in_row rows u v)

-- the rows hold the relation R
pub record Rows (R : ℕ → ℕ → Type 0) (rows : List NodeSet) : Type 0 where
  pub long : Long rows
  pub row_is : (u v : ℕ) → (in_row rows u v ≡ true) ↔ R u v

-- a row has with v all that row v has
abbrev pub Closed : (ℕ → ℕ → Bool) → Type 0
Closed rows = (u v w : ℕ) → rows u v ≡ true → rows v w ≡ true → rows u w ≡ true

-- v is in no member's row
abbrev pub NoneAbove : (ℕ → ℕ → Bool) → (ℕ → Bool) → ℕ → Type 0
NoneAbove rows set v = (x : ℕ) → set x ≡ true → rows x v ≡ true → ⊥

-- The members of the set that are in no member's row. Of rows that are not closed only a bound is said.
pub record Tops (rows : ℕ → ℕ → Bool) (set r : NodeSet) : Type 0 where
  pub of_set : (v : ℕ) → mem r v ≡ true → mem set v ≡ true
  pub exact : Closed rows → (v : ℕ) → (mem r v ≡ true) ↔ ((mem set v ≡ true) × NoneAbove rows (mem set) v)
