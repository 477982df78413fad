-- The lines of a page.
use Rattle.std.specs.Prelude.{ℕ, suc, ◌-◌, ◌≤◌, ◌≡◌, List, ◌++◌, length, take, drop}
use Rattle.graph.specs.Graph.{Graph}
use Rattle.format.specs.Text.{numbered}
use Rattle.theory_forest.specs.Shape.{Shaped}
use Rattle.theory_list.specs.Readings.{listed}
use Rattle.base_finite.specs.Stores.{joined}
use Rattle.base_tables.specs.Trees.{TreesOf}
use Rattle.base_tables.specs.declared.trees.Trees.{Trees}
use Rattle.solve_stretch.specs.Stretch.{placings}

-- the lines of the readings after the first `passed`, up to the number `last`
abbrev pub lines : Graph → ℕ → ℕ → List ℕ
lines g passed last = joined (numbered g (suc passed) (take (last - passed) (drop passed (listed g))))

-- a graph with these trees, and the placings of its readings after the first `passed`, up to the number `last`, come first in the
-- bytes
pub record Held (t : Trees) (passed last : ℕ) (bytes : List ℕ) : Type 0 where
  pub graph : Graph
  pub shaped : Shaped graph
  pub trees : TreesOf graph t
  pub within : last ≤ length (listed graph)
  pub rest : List ℕ
  pub placed : bytes ≡ placings (listed graph) passed last ++ rest
