-- What the choice found says, by its answer.
use Prim.Native.Nat.{ℕ, ◌<◌}
use mathlib.Core.Path.{◌≡◌}
use Rattle.std.specs.Prelude.{Option, None, Some}
use Rattle.graph.specs.Graph.{Graph}
use Rattle.graph.specs.Order.{Choice}
use Rattle.theory_list.specs.Choosing.{Unforked}
use Rattle.solve_reduce.specs.Chosen.{Bounded, Chosen}
use Rattle.solve_reduce.specs.declared.choose.Fork.{Fork}

pub chosen_none : (g : Graph) {r : Option Fork} → Chosen g r → r ≡ None → Unforked g
chosen_none g x is = rw is at x

pub chosen_choice : (g : Graph) {r : Option Fork} {fork : Fork} → Chosen g r → r ≡ Some fork → Choice g fork.root fork.first fork.second
chosen_choice g x is = rw is at x

pub found_bounds : {r : Option Fork} {n : ℕ} {fork : Fork} → r ≡ Some fork → Bounded n r → (fork.root < n) × (fork.first < n) × (fork.second < n)
found_bounds is w = rw is at w
