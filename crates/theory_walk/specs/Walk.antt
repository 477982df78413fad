-- The walk through the readings in order. It keeps the decisions taken so far, one for each choice of Rule 3: the leaves a
-- and b of the choice, and which half was entered. The graph at a list of decisions is the graph with one edge added for
-- each; the readings of that graph come next in the list, and after them those that `after` gives.
-- The walk is in one of three states: it enters a graph whose readings, if it has some, come next (`Entering`), it stands at
-- a reading (`At`), or it leaves the half that it was in, all of whose readings it has passed (`Leaving`). A half is entered
-- where its choice is, in a graph with no cycle; whether the half has a solved form need not be known.
use Rattle.std.specs.Prelude.{ℕ, ◌≤◌, ◌≡◌, List, [], ◌∷◌, ◌++◌, Bool, true, false, cond, length, drop}
use Rattle.graph.specs.Graph.{Graph, own}
use Rattle.graph.specs.Order.{Choice, adding}
use Rattle.theory_list.specs.Redundancy.{Loopless}
use Rattle.theory_list.specs.Choosing.{Unforked}
use Rattle.theory_list.specs.Settled.{settled}
use Rattle.theory_list.specs.Readings.{listed}

-- the leaves a and b of a choice, and `true` for the half with a above b's root, `false` for that with b above a's root
abbrev pub Decision : Type 0
Decision = ℕ × ℕ × Bool

abbrev pub first : ℕ → ℕ → Decision
first a b = (a, b, true)

abbrev pub second : ℕ → ℕ → Decision
second a b = (a, b, false)

-- the half of the graph that the decision enters
abbrev pub half : Graph → Decision → Graph
half g d = cond d.2 (adding g d.0 (own g d.1)) (adding g d.1 (own g d.0))

-- the graph where the decisions, the head of the list first, have led
unfoldable pub graph_at : Graph → List Decision → Graph
graph_at g [] = g
graph_at g (d ∷ ds) = graph_at (half g d) ds

-- each decision is about the choice of the graph where it is taken, and that graph has no cycle
pub data Valid : Graph → List Decision → Type 0 where
  outset : {g : Graph} → Valid g []
  taken : {g : Graph} {ds : List Decision} (v : ℕ) (d : Decision) → Choice g v d.0 d.1 → Loopless g → Valid (half g d) ds → Valid g (d ∷ ds)

-- the readings of the other half, where it comes after the one entered
abbrev pub other_after : Graph → Decision → List (List ℕ)
other_after g d = cond d.2 (listed (half g (second d.0 d.1))) []

-- the readings that come after those of the graph at the decisions
unfoldable pub after : Graph → List Decision → List (List ℕ)
after g [] = []
after g (d ∷ ds) = after (half g d) ds ++ other_after g d

-- k readings are passed, and those of `rest` are left
pub record Remaining (g : Graph) (k : ℕ) (rest : List (List ℕ)) : Type 0 where
  pub within : k ≤ length (listed g)
  pub rest_is : drop k (listed g) ≡ rest

-- the next readings are those of the graph at the decisions, if it has some
pub record Entering (g : Graph) (ds : List Decision) (k : ℕ) : Type 0 where
  pub valid : Valid g ds
  pub remaining : Remaining g k (listed (graph_at g ds) ++ after g ds)

-- the next reading is the settled placing of the graph at the decisions, where no choice is left
pub record At (g : Graph) (ds : List Decision) (k : ℕ) : Type 0 where
  pub valid : Valid g ds
  pub loopless : Loopless (graph_at g ds)
  pub unforked : Unforked (graph_at g ds)
  pub remaining : Remaining g k (settled (graph_at g ds) ∷ after g ds)

-- the readings of the graph at the decisions are passed
pub record Leaving (g : Graph) (ds : List Decision) (k : ℕ) : Type 0 where
  pub valid : Valid g ds
  pub remaining : Remaining g k (after g ds)
