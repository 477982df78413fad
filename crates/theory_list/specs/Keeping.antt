-- An edge that Rule 3 adds.
use Rattle.std.specs.Prelude.{ℕ, ◌≡◌, true}
use Rattle.graph.specs.Graph.{Graph, root, leaf, Descent}
use Rattle.graph.specs.Order.{adding}
use Rattle.theory_list.specs.Redundancy.{Loopless}

-- an edge from a leaf to a root; where it closes no cycle, it is one that the leaf did not lead to
pub record Fresh (g : Graph) (a r : ℕ) : Type 0 where
  pub from_leaf : leaf g a ≡ true
  pub to_root : root g r ≡ true
  pub apart : Loopless (adding g a r) → Descent g a r → ⊥
