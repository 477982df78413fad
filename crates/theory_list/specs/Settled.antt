-- The placing where no choice is left: each root under the leaf of its one edge that stays.
use Rattle.std.specs.Prelude.{ℕ, List, Bool, cond, ltb}
use Rattle.graph.specs.Graph.{Graph, none}
use Rattle.theory_forest.specs.Table.{listed as row}
use Rattle.theory_list.specs.Redundancy.{kept_table}
use Rattle.theory_list.specs.Choosing.{lowest_above}

-- a number below n, and `none` for what is not
unfoldable pub within : ℕ → ℕ → ℕ
within n l = cond (ltb l n) l none

unfoldable pub settled_by : ℕ → List (List Bool) → List ℕ
unfolding row within lowest_above
settled_by n m = row n (λ r. within n (lowest_above n m r))

unfoldable pub settled : Graph → List ℕ
unfolding settled_by kept_table
settled g = settled_by g.nodes (kept_table g)
