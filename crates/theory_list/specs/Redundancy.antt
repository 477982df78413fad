-- Rule 2, worked out: an edge stays in a graph without a cycle where no node lies between its ends.
use Rattle.std.specs.Prelude.{ℕ, List, Bool, not, ◌&&◌}
use Rattle.base_finite.specs.Below.{any}
use Rattle.graph.specs.Graph.{Graph, among, Descent}
use Rattle.theory_forest.specs.Table.{tabulate, look, descent_table}

-- no node descends to itself
abbrev pub Loopless : Graph → Type 0
Loopless g = (u : ℕ) → Descent g u u → ⊥

-- no node lies between l and r
abbrev pub NoneBetween : Graph → ℕ → ℕ → Type 0
NoneBetween g l r = (x : ℕ) → Descent g l x → Descent g x r → ⊥

unfoldable pub between : ℕ → List (List Bool) → ℕ → ℕ → Bool
unfolding any look
between n m u v = any n (λ x. look m u x && look m x v)

unfoldable pub kept_by : Graph → List (List Bool) → ℕ → ℕ → Bool
unfolding between among
kept_by g m l r = among g.dominance l r && not (between g.nodes m l r)

-- the table of the edges that stay
unfoldable pub kept_table : Graph → List (List Bool)
unfolding tabulate kept_by descent_table
kept_table g = kept_rows g (descent_table g)
  where
    kept_rows : Graph → List (List Bool) → List (List Bool)
    kept_rows g m = tabulate g.nodes (kept_by g m)

unfoldable pub kept : Graph → ℕ → ℕ → Bool
unfolding kept_table look
kept g l r = look (kept_table g) l r
