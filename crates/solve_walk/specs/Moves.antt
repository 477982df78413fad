-- Where a step of the walk leads, with the readings that are then passed.
use Rattle.std.specs.Prelude.{ℕ, ◌≡◌, List, length, Option, Some, None}
use Rattle.base_nodeset.specs.declared.NodeSet.{NodeSet}
use Rattle.graph.specs.Graph.{Graph}
use Rattle.theory_list.specs.Readings.{listed}
use Rattle.solve_levels.specs.Decisions.{Trail}
use Rattle.solve_levels.specs.declared.Level.{Level}
use Rattle.solve_branch.specs.States.{Stands}

-- to a reading, or past the last
abbrev pub Moves : Graph → Trail → List NodeSet → ℕ → Option Level → Type 0
Moves g trail states k (Some at) = Stands g trail states at k
Moves g trail states k None = length (listed g) ≡ k
