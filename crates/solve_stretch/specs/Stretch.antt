-- Readings one after the other in the lent bytes.
use Rattle.std.specs.Prelude.{ℕ, ◌+◌, ◌-◌, ◌≤◌, ◌<◌, min, ◌≡◌, List, ◌++◌, ◌⊎◌, length, take, drop, Some, None}
use Rattle.base_nodeset.specs.declared.NodeSet.{NodeSet}
use Rattle.graph.specs.Graph.{Graph}
use Rattle.graph.specs.Order.{limit}
use Rattle.theory_list.specs.Readings.{listed}
use Rattle.base_finite.specs.Stores.{joined}
use Rattle.solve_branch.specs.States.{Stands}
use Rattle.solve_levels.specs.declared.Level.{Level}
use Rattle.solve_stretch.specs.declared.Stop.{Stop}
use Rattle.solve_levels.specs.Decisions.{Trail}

-- the placings that come after the first `passed`, up to the number `last`
abbrev pub placings : List (List ℕ) → ℕ → ℕ → List ℕ
placings ps passed last = joined (take (last - passed) (drop passed ps))

-- the walk stands at the next reading, or the last one passed is the last with a number
pub record Goes (g : Graph) (trail : Trail) (states : List NodeSet) (r : Stop) : Type 0 where
  pub on : (at : Level) → r.next ≡ Some at → Stands g trail states at r.last
  pub ended : r.next ≡ None → r.last ≡ min (length (listed g)) limit

-- Those are written, one at least, and no more are left or there is no place for one more.
pub record Filled (g : Graph) (passed : ℕ) (old : List ℕ) (last : ℕ) (new : List ℕ) : Type 0 where
  pub some : passed < last
  pub within : last ≤ min (length (listed g)) limit
  pub fits : length (placings (listed g) passed last) ≤ length old
  pub bytes : new ≡ placings (listed g) passed last ++ drop (length (placings (listed g) passed last)) old
  pub full : (last ≡ min (length (listed g)) limit) ⊎ (length old < length (placings (listed g) passed last) + g.nodes)

-- or there is none after the first `passed`, and nothing is written
abbrev pub StretchOf : Graph → ℕ → List ℕ → ℕ → List ℕ → Type 0
StretchOf g passed old last new = ((min (length (listed g)) limit ≤ passed) × (last ≡ passed) × (new ≡ old)) ⊎ Filled g passed old last new
