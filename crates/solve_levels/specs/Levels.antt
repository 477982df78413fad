-- The stack of states: the reduced forms of the graphs where the walk stands and where a choice is open, level i where i decisions
-- have led. A choice is open while the walk is in its first half, and a level has as its number how many are open there. The last
-- 32 numbers are kept, the level with the number o at slot o % 32; slot 32 has the state of the walk's graph, and slot 33 the nodes
-- of each fragment. A slot is as wide as a state of a graph with n nodes.
use Rattle.std.specs.Prelude.{ℕ, ◌+◌, ◌*◌, ◌%◌, ◌≤◌, ◌<◌, ◌≡◌, List, ◌⊎◌, length, take, drop}
use Rattle.base_nodeset.specs.declared.NodeSet.{NodeSet}
use Rattle.graph.specs.Graph.{Graph, own}
use Rattle.solve_below.specs.Below.{Fragments}
use Rattle.solve_reduce.specs.Reduced.{wide, Reduced}
use Rattle.solve_levels.specs.Decisions.{Trail, upper_at, lower_at, opens, reached}
use Rattle.solve_levels.specs.declared.Level.{Level}

-- the reduced form of g
abbrev pub Reduction : Graph → List NodeSet → Type 0
Reduction g sets = Reduced g g.nodes sets

-- there is room for 34 slots
abbrev pub Stack : ℕ → List NodeSet → Type 0
Stack n states = wide n * 34 ≤ length states

-- slot i
abbrev pub state : ℕ → ℕ → List NodeSet → List NodeSet
state n i states = take (wide n) (drop (wide n * i) states)

-- The states match the walk of g: each level that the walk may turn at and the deepest, from the lowest number kept on, have the
-- reduced form of their graph. A walk that goes back further than that is replayed.
pub record Matches (g : Graph) (trail : Trail) (states : List NodeSet) (at : Level) : Type 0 where
  pub long : Stack g.nodes states
  pub outset : Reduction g (state g.nodes 32 states)
  pub fragments : Fragments g.nodes (own g) (state g.nodes 33 states)
  pub open_is : at.opened ≡ opens trail at.depth
  pub near : at.opened < at.kept + 32
  pub level : (i : ℕ) → i ≤ at.depth → ((i ≡ at.depth) ⊎ (upper_at trail i < lower_at trail i)) → at.kept ≤ opens trail i → Reduction (reached g trail i) (state g.nodes (opens trail i % 32) states)

-- They are ready for the next decision: its level's slot has the state of this one, and the levels that the walk may turn at are as
-- they were.
pub record Ready (g : Graph) (trail : Trail) (states : List NodeSet) (at next : Level) : Type 0 where
  pub long : Stack g.nodes states
  pub outset : Reduction g (state g.nodes 32 states)
  pub fragments : Fragments g.nodes (own g) (state g.nodes 33 states)
  pub open_is : next.opened ≡ opens trail next.depth
  pub near : next.opened < next.kept + 32
  pub here : Reduction (reached g trail at.depth) (state g.nodes (next.opened % 32) states)
  pub level : (i : ℕ) → i ≤ at.depth → upper_at trail i < lower_at trail i → next.kept ≤ opens trail i → Reduction (reached g trail i) (state g.nodes (opens trail i % 32) states)
