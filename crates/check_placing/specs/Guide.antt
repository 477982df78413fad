-- Where the guided descent stands: at a graph that the choices so far lead to, with its reduced form.
use Rattle.std.specs.Prelude.{ℕ, ◌+◌, ◌*◌, ◌<◌, ◌≡◌, List, ◌⊎◌}
use Rattle.base_nodeset.specs.declared.NodeSet.{NodeSet}
use Rattle.graph.specs.Graph.{Graph, own}
use Rattle.graph.specs.Placing.{Below, SolvedForm}
use Rattle.theory_list.specs.Choosing.{pairs}
use Rattle.theory_list.specs.Guided.{Leads}
use Rattle.theory_list.specs.Settled.{settled}
use Rattle.base_tables.specs.Rows.{Rows}
use Rattle.base_tables.specs.Trees.{TreesOf, Fits}
use Rattle.base_tables.specs.declared.trees.Trees.{Trees}
use Rattle.solve_reduce.specs.Reduced.{LooplessForm}
use Rattle.check_placing.specs.declared.guide.Edge.{Edge}

-- both ends are nodes
abbrev pub Within : ℕ → Edge → Type 0
Within n r = (r.leaf < n) × (r.root < n)

-- the edge (l, r) leads from the choice between a and b into the half that p is in
abbrev pub Into : Graph → List ℕ → ℕ → ℕ → ℕ → ℕ → Type 0
Into g p a b l r = (l ≡ a) × (r ≡ own g b) × Below g p l r

abbrev pub HalfOf : Graph → List ℕ → ℕ → ℕ → Edge → Type 0
HalfOf g p a b e = Into g p a b e.leaf e.root ⊎ Into g p b a e.leaf e.root

-- From g the choices lead to a graph with this reduced form. With the turns left its descent relation can outgrow all
-- pairs, so they are enough.
pub record Standing (g : Graph) (p : List ℕ) (t : Trees) (under : List NodeSet) (turns : ℕ) (sets : List NodeSet) : Type 0 where
  pub graph : Graph
  pub given : LooplessForm graph t.n sets
  pub fits : Fits graph t
  pub solved : SolvedForm graph p
  pub under_is : Rows (Below graph p) under
  pub leads : (q : List ℕ) → Leads graph p q → Leads g p q
  pub enough : t.n * t.n < turns + pairs graph

-- No choice is left.
pub record Arrived (g : Graph) (p : List ℕ) (t : Trees) (sets : List NodeSet) : Type 0 where
  pub graph : Graph
  pub given : LooplessForm graph t.n sets
  pub trees : TreesOf graph t
  pub leads : Leads g p (settled graph)
