-- The tests that the code makes, on bytes, sets and rows.
use Rattle.std.specs.Prelude.{ℕ, ◌<◌, ◌≡◌, List, Bool, true, get_or, not, ◌&&◌, ◌||◌, eqb, ltb}
use Rattle.base_finite.specs.Below.{any, all}
use Rattle.base_nodeset.specs.Set.{mem}
use Rattle.base_nodeset.specs.declared.NodeSet.{NodeSet}
use Rattle.graph.specs.Graph.{none}
use Rattle.graph.specs.Placing.{at}
use Rattle.base_tables.specs.Rows.{in_row}
use Rattle.base_tables.specs.declared.trees.Trees.{Trees}

-- what stands at v in a placing: nothing, or at a root a leaf
unfoldable pub fits : Trees → ℕ → ℕ → Bool
fits t v byte = eqb byte none || ltb byte t.n && (mem t.roots v && mem t.leaves byte)

-- each byte fits
abbrev pub AllFit : Trees → List ℕ → Type 0
AllFit t bytes = (v : ℕ) → v < t.n → fits t v (get_or bytes v 0) ≡ true

unfoldable pub placing_in : Trees → List ℕ → Bool
placing_in t bytes = all t.n (λ v. fits t v (at bytes v))

-- v is in the first table's row l and not in the second's
abbrev pub outside : List NodeSet → List NodeSet → ℕ → ℕ → Bool
outside heads rows l v = in_row heads l v && not (in_row rows l v)

unfoldable pub downward_in : ℕ → List NodeSet → List NodeSet → Bool
downward_in n heads rows = all n (λ l. not (any 128 (outside heads rows l)))

-- u hangs under the leaf x
abbrev pub carried : List ℕ → ℕ → ℕ → Bool
carried bytes x u = eqb x (at bytes u) && ltb (at bytes u) 128

-- v hangs under a leaf that an earlier node hangs under
abbrev pub again : List ℕ → ℕ → Bool
again bytes v = any v (carried bytes (at bytes v))

unfoldable pub single_in : ℕ → List ℕ → Bool
single_in n bytes = all n (λ v. not (again bytes v))
