-- What tidying answers and leaves in the lent bytes.
use Rattle.std.specs.Prelude.{ℕ, ◌≡◌, List, [], ◌∷◌, ◌++◌, cond, not, eqb, ltb, length, get_or, drop, Result, Ok, Err}
use Rattle.base_finite.specs.Below.{count, spread}
use Rattle.base_nodeset.specs.Set.{mem}
use Rattle.base_nodeset.specs.declared.NodeSet.{NodeSet}
use Rattle.graph.specs.Graph as spec
use Rattle.format.specs.Sheet.{Outcome, refused, accepted, tidy}
use Rattle.format.specs.declared.Refusal.TheVariants.{SmallBuffer}
use Rattle.format.specs.declared.Refusal.{Refusal}
use Rattle.base_tables.specs.Rows.{nothing}
use Rattle.base_tables.specs.Tables.{Holds}
use Rattle.base_tables.specs.declared.Graph.{Graph}

-- the command of c's tree edge, where c has a parent
abbrev pub tree_bytes : ℕ → ℕ → List ℕ
tree_bytes p c = cond (eqb p spec.none) [] (2 ∷ p ∷ c ∷ [])

-- the commands of all tree edges, by ascending child
unfoldable pub tree_part : ℕ → List ℕ → List ℕ
tree_part n parents = spread n (λ c. tree_bytes (get_or parents c 0) c)

-- the command of the dominance edge from l to r, where r is in the row
abbrev pub row_command : ℕ → NodeSet → ℕ → List ℕ
row_command l row r = cond (mem row r) (3 ∷ l ∷ r ∷ []) []

-- the commands of the dominance edges from l to the members of the row, by ascending root
abbrev pub row_bytes : ℕ → NodeSet → List ℕ
row_bytes l row = spread 128 (row_command l row)

-- the commands of all dominance edges, by ascending leaf and then root
unfoldable pub dominance_part : ℕ → List NodeSet → List ℕ
dominance_part n heads = spread n (λ l. row_bytes l (get_or heads l nothing))

-- how many nodes have a parent
unfoldable pub trees_in : ℕ → List ℕ → ℕ
trees_in n parents = count n (λ c. not (eqb (get_or parents c 0) spec.none))

-- the value of what a well-formed sheet writes
pub record TidyTables (v : Graph) : Type 0 where
  pub graph : spec.Graph
  pub well_written : spec.WellWritten graph
  pub nodes : v.n ≡ graph.nodes
  pub holds : Holds graph.nodes graph.tree graph.dominance v.parent v.heads v.edges

-- "tidying and drawing the length they hand back. Bytes past a result stay unwritten"; 10 where the tidy length doesn't fit
abbrev pub TidiesTo : spec.Graph → Result ℕ Refusal → List ℕ → List ℕ → Type 0
TidiesTo g r old new =
    (r ≡ cond (ltb (length old) (length (tidy g))) (Err SmallBuffer) (Ok (length (tidy g))))
    × (new ≡ cond (ltb (length old) (length (tidy g))) old (tidy g ++ drop (length (tidy g)) old))

-- The answer, and the lent bytes afterwards, for a sheet with the outcome o: 10 comes after the sheet's own refusals; "All
-- other refusals write nothing."
abbrev pub Tidies : Outcome → Result ℕ Refusal → List ℕ → List ℕ → Type 0
Tidies (refused why) r old new = (r ≡ Err why) × (new ≡ old)
Tidies (accepted s) r old new = TidiesTo s.written r old new
