-- The decisions of a walk as a table: the edge that a decision adds goes from its upper leaf to the root of its lower leaf. Of the
-- two leaves of a choice a is the lower number, so the numbers tell which half it is.
use Rattle.std.specs.Prelude.{ℕ, zero, suc, ◌+◌, ◌*◌, ◌≤◌, ◌<◌, ◌≡◌, List, [], ◌∷◌, ◌++◌, cond, ltb, length, get_or, set}
use Rattle.graph.specs.Graph.{Graph}
use Rattle.theory_walk.specs.Walk.{Decision, first, second, graph_at}
use Rattle.solve_levels.specs.declared.Decision.{Decision as Entry}

abbrev pub Trail : Type 0
Trail = List Entry

-- an entry for no decision
abbrev pub untaken : Entry
untaken = record { upper = 0; lower = 0 }

unfoldable pub decision : ℕ → ℕ → Decision
decision upper lower = cond (ltb upper lower) (first upper lower) (second lower upper)

-- the leaf that the edge starts from (in a cycle's bytes `node` stands there)
abbrev pub upper_at : Trail → ℕ → ℕ
upper_at trail i = (get_or trail i untaken).upper

-- the leaf whose root it goes to (in a cycle's bytes `kind`)
abbrev pub lower_at : Trail → ℕ → ℕ
lower_at trail i = (get_or trail i untaken).lower

-- the first of them
unfoldable pub decisions : Trail → ℕ → List Decision
decisions trail zero = []
decisions trail (suc k) = decisions trail k ++ (decision (upper_at trail k) (lower_at trail k) ∷ [])

-- how many of the first k decisions are first halves
unfoldable pub opens : Trail → ℕ → ℕ
opens trail zero = 0
opens trail (suc k) = opens trail k + cond (ltb (upper_at trail k) (lower_at trail k)) 1 0

-- the graph where they have led
abbrev pub reached : Graph → Trail → ℕ → Graph
reached g trail k = graph_at g (decisions trail k)

-- decision i is there, between nodes
pub record Noted (n : ℕ) (trail : Trail) (i : ℕ) : Type 0 where
  pub long : i < length trail
  pub upper : upper_at trail i < n
  pub lower : lower_at trail i < n

-- the table has an entry for each pair of nodes, more than there can be decisions
abbrev pub Room : ℕ → Trail → Type 0
Room n trail = n * n ≤ length trail

-- the first decisions are the same
pub record Kept (depth : ℕ) (trail trail' : Trail) : Type 0 where
  pub same : (i : ℕ) → i < depth → get_or trail' i untaken ≡ get_or trail i untaken

-- decision i, written and turned
abbrev pub written : ℕ → ℕ → ℕ → Trail → Trail
written i upper lower trail = set trail i (record { upper = upper; lower = lower })

abbrev pub turned : ℕ → Trail → Trail
turned i trail = written i (lower_at trail i) (upper_at trail i) trail
