-- What the answer of the search for the choice says.
use Rattle.std.specs.Prelude.{ℕ, ◌<◌, Option, None, Some}
use Rattle.graph.specs.Graph.{Graph}
use Rattle.graph.specs.Order.{Choice}
use Rattle.theory_list.specs.Choosing.{Unforked}
use Rattle.solve_reduce.specs.declared.choose.Fork.{Fork}

abbrev pub Bounded : ℕ → Option Fork → Type 0
Bounded n None = Unit {0}
Bounded n (Some fork) = (fork.root < n) × (fork.first < n) × (fork.second < n)

abbrev pub Chosen : Graph → Option Fork → Type 0
Chosen g None = Unforked g
Chosen g (Some fork) = Choice g fork.root fork.first fork.second
