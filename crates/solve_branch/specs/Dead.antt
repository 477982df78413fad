-- What shows at a leaf that a graph has no solved form.
use Rattle.std.specs.Prelude.{ℕ, ◌≡◌, List, Bool, true, false, ◌↔◌}
use Rattle.base_nodeset.specs.Set.{mem}
use Rattle.base_nodeset.specs.declared.NodeSet.{NodeSet}
use Rattle.graph.specs.Graph.{Graph, Descent}
use Rattle.graph.specs.Placing.{Unsolvable}
use Rattle.base_tables.specs.Rows.{in_row}

-- one of the leaves is above one of the nodes
abbrev pub Meets : List NodeSet → NodeSet → NodeSet → Bool → Type 0
Meets sets nodes leaves r =
    (r ≡ true) ↔ ((l : ℕ) × (v : ℕ) × (mem leaves l ≡ true) × (mem nodes v ≡ true) × (in_row sets l v ≡ true))

-- true: there is none; false: there may be one, and no cycle goes through the leaf
abbrev pub Dead : Graph → ℕ → Bool → Type 0
Dead g leaf true = Unsolvable g
Dead g leaf false = Descent g leaf leaf → ⊥
