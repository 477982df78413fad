-- Edges between the nodes of a graph.
use Rattle.std.specs.Prelude.{ℕ, ◌<◌, zero, suc, ◌+◌, ◌≡◌, List, [], ◌∷◌, Bool, true, not, ◌&&◌}
use Rattle.graph.specs.Graph.{Edge, Graph, among}
use Rattle.base_finite.specs.Below.{count}

-- the edges are between numbers below n
abbrev pub Within : ℕ → List Edge → Type 0
Within n es = (u v : ℕ) → among es u v ≡ true → (u < n) × (v < n)

-- no edge stands in the list twice
unfoldable pub distinct : List Edge → Bool
distinct [] = true
distinct (e ∷ es) = not (among es e.0 e.1) && distinct es

-- f 0 + f 1 + .. + f (n - 1)
unfoldable pub sum : ℕ → (ℕ → ℕ) → ℕ
sum zero f = 0
sum (suc n) f = sum n f + f n

-- how many pairs of numbers below n are among the edges
unfoldable pub total : ℕ → List Edge → ℕ
total n es = sum n (λ u. count n (among es u))

-- the graph with n nodes, the tree edges t and the dominance edges d
abbrev pub graph_with : ℕ → List Edge → List Edge → Graph
graph_with n t d = record { nodes = n; tree = t; dominance = d }

-- the trees of a graph with these dominance edges alone
abbrev pub over : Graph → List Edge → Graph
over g es = record { nodes = g.nodes; tree = g.tree; dominance = es }
