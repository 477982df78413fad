-- What a way says, by its answer.
use Prim.Native.Nat.{ℕ, ◌≤◌, ◌<◌}
use mathlib.Core.Path.{◌≡◌}
use mathlib.Core.List.{List}
use Rattle.base_nodeset.specs.declared.NodeSet.{NodeSet}
use Rattle.graph.specs.Graph.{Graph}
use Rattle.graph.specs.Placing.{Solvable}
use Rattle.solve_levels.specs.Decisions.{Trail, reached}
use Rattle.solve_branch.specs.States.{Enters, Stands, Leaves}
use Rattle.solve_branch.specs.Dives.{Reaches, Deeper, Opens, Arrives}
use Rattle.solve_levels.specs.declared.Level.{Level}
use Rattle.std.specs.Prelude.{Result, Ok, Err}
use Rattle.solve_branch.specs.declared.dive.Stuck.{Stuck}

pub stuck_deeper : (depth : ℕ) {r : Result Level Stuck} {stuck : Stuck} → r ≡ Err stuck → Deeper depth r → depth ≤ stuck.at.depth
stuck_deeper depth e x = rw e at x

module _ (g : Graph) (trail : Trail) (states : List NodeSet) (k : ℕ) {r : Result Level Stuck} where
  pub reached_stuck : {stuck : Stuck} → r ≡ Err stuck → Reaches g trail states k r → Leaves g trail states stuck.at stuck.at.depth k
  reached_stuck e x = rw e at x

  pub opened_to : (base : ℕ) {at : Level} → r ≡ Ok at → Opens g trail states base k r → Enters g trail states at k × Solvable (reached g trail at.depth) × (base < at.depth)
  opened_to base e x = rw e at x

  pub opened_stuck : (base : ℕ) {stuck : Stuck} → r ≡ Err stuck → Opens g trail states base k r → Leaves g trail states stuck.at base k
  opened_stuck base e x = rw e at x

  pub arrived_to : (base : ℕ) {at : Level} → r ≡ Ok at → Arrives g trail states base k r → Stands g trail states at k
  arrived_to base e x = rw e at x

  pub arrived_stuck : (base : ℕ) {stuck : Stuck} → r ≡ Err stuck → Arrives g trail states base k r → Leaves g trail states stuck.at base k
  arrived_stuck base e x = rw e at x

-- out of the graph at one level, and so out of that at another
pub arrives_up : (g : Graph) (trail : Trail) (states : List NodeSet) (base up k : ℕ) (r : Result Level Stuck) → ((at : Level) → Leaves g trail states at base k → Leaves g trail states at up k) → Arrives g trail states base k r → Arrives g trail states up k r
arrives_up g trail states base up k (Ok at) f x = x
arrives_up g trail states base up k (Err stuck) f x = f stuck.at x
