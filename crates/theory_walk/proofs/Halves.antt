-- One graph: what its list of readings is, seen from its choice. The settled placing alone where no choice is left, the
-- readings of the first half and then those of the second where there is one, none where there is no solved form. And
-- one decision: the half that it enters is a dominance graph with more descents.
use Prim.Native.Nat.{ℕ, ◌<◌}
use mathlib.Core.Path.{◌≡◌, refl}
use mathlib.Core.List.{[], ◌∷◌, ◌++◌}
use mathlib.Core.Bool.{Bool, true, false}
use Rattle.graph.specs.Graph.{Graph, Descent, leaf, own}
use Rattle.graph.specs.Order.{Choice, adding}
use Rattle.graph.specs.Placing.{Solvable, Unsolvable}
use Rattle.theory_forest.specs.Shape.{Shaped}
use Rattle.theory_forest.proofs.Forests.{one_leaf_above}
use Rattle.theory_list.specs.Redundancy.{Loopless}
use Rattle.theory_list.specs.Choosing.{Unforked, pairs}
use Rattle.theory_list.proofs.Choosing.{first_shaped, second_shaped, first_grows, second_grows}
use Rattle.theory_list.specs.Settled.{settled}
use Rattle.theory_list.specs.Readings.{listed}
use Rattle.theory_list.proofs.Readings.{alone, split, listed_lists, lists_listing, listing_exists, listing_unique, unsolvable_empty}
use Rattle.theory_list.proofs.Guided.{solved_loopless}
use Rattle.theory_walk.specs.Walk.{Decision, half, first, second}

pub solvable_loopless : {g : Graph} → Solvable g → Loopless g
solvable_loopless f = solved_loopless f.1

-- no solved form: two leaves of one fragment lead to one node, and a forest has at most one of them above it
pub torn : (g : Graph) → Shaped g → {a b v : ℕ} → leaf g a ≡ true → leaf g b ≡ true → own g a ≡ own g b → (a ≡ b → ⊥) → Descent g a v → Descent g b v → Unsolvable g
torn g s {a} {b} {v} ha hb same apart x y f = apart (one_leaf_above g f.0 s f.1.is_forest ha hb same (f.1.contains a v x) (f.1.contains b v y))

-- the list of a graph

pub listed_empty : (g : Graph) → Shaped g → Unsolvable g → listed g ≡ []
listed_empty g s n = (unsolvable_empty g s).0 n

pub listed_settled : (g : Graph) → Shaped g → Loopless g → Unforked g → listed g ≡ settled g ∷ []
listed_settled g s n u = listing_unique g s (listing_exists g s) (lists_listing (alone n u) s)

pub listed_split : (g : Graph) → Shaped g → Loopless g → {v a b : ℕ} → Choice g v a b → listed g ≡ listed (half g (first a b)) ++ listed (half g (second a b))
listed_split g s n {v} {a} {b} c =
    listing_unique g s (listing_exists g s)
    (lists_listing (split v a b n c
    (listed_lists (adding g a (own g b)) (first_shaped g s c))
    (listed_lists (adding g b (own g a)) (second_shaped g s c))) s)

-- the half that a decision enters

-- the graphs have the same nodes and tree edges, so the same leaves, roots and fragments
pub half_nodes : (g : Graph) (d : Decision) → (half g d).nodes ≡ g.nodes
unfolding adding
half_nodes g d = go d.2
  where
    go : (side : Bool) → (half g (d.0, d.1, side)).nodes ≡ g.nodes
    go true = refl
    go false = refl

pub half_tree : (g : Graph) (d : Decision) → (half g d).tree ≡ g.tree
unfolding adding
half_tree g d = go d.2
  where
    go : (side : Bool) → (half g (d.0, d.1, side)).tree ≡ g.tree
    go true = refl
    go false = refl

module _ (g : Graph) (s : Shaped g) {v : ℕ} (d : Decision) (c : Choice g v d.0 d.1) where
  pub half_shaped : Shaped (half g d)
  half_shaped = go d.2
    where
      go : (side : Bool) → Shaped (half g (d.0, d.1, side))
      go true = first_shaped g s c
      go false = second_shaped g s c

  pub half_grows : Loopless g → pairs g < pairs (half g d)
  half_grows n = go d.2
    where
      go : (side : Bool) → pairs g < pairs (half g (d.0, d.1, side))
      go true = first_grows g s n c
      go false = second_grows g s n c
