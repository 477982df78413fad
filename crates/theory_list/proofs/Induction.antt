-- Induction on the recursion of Rule 3, over the graphs without a solved form. Where a choice is left, neither half has
-- one, as a solved form of a half is one of the graph. Where no choice is left there is a cycle, as otherwise the settled
-- placing would be a solved form. So what holds of every graph with a cycle, and of every graph with a choice if it holds
-- of both halves, holds of every graph without a solved form.
use Prim.Native.Nat.{ℕ}
use mathlib.Core.List.{List}
use Rattle.graph.specs.Graph.{Graph, own, Descent}
use Rattle.graph.specs.Order.{Choice, adding}
use Rattle.theory_forest.specs.Shape.{Shaped}
use Rattle.theory_forest.proofs.Forests.{solved_adding}
use Rattle.theory_list.specs.Redundancy.{Loopless}
use Rattle.theory_list.proofs.Choosing.{first_shaped, second_shaped}
use Rattle.theory_list.specs.Settled.{settled}
use Rattle.theory_list.proofs.Settled.{settled_solved}
use Rattle.theory_list.proofs.Readings.{Lists, looped, alone, split, listed_lists}
use Rattle.graph.specs.Placing.{Unsolvable}

-- nor does it with an edge more
pub unsolvable_adding : (g : Graph) (a r : ℕ) → Unsolvable g → Unsolvable (adding g a r)
unsolvable_adding g a r n f = n (f.0, ((solved_adding g a r f.0).0 f.1).0)

module _ (P : Graph → Type 0)
    (cycle : (g : Graph) → Shaped g → (u : ℕ) → Descent g u u → P g)
    (choice : (g : Graph) → Shaped g → Loopless g → (v a b : ℕ) → Choice g v a b → Unsolvable (adding g a (own g b)) → Unsolvable (adding g b (own g a)) → P (adding g a (own g b)) → P (adding g b (own g a)) → P g) where
  by_lists : {g : Graph} {ps : List (List ℕ)} → Lists g ps → Shaped g → Unsolvable g → P g
  by_lists (looped {g = g} u d) s n = cycle g s u d
  by_lists (alone {g = g} l o) s n = absurd (n (settled g, settled_solved g s l o))
  by_lists (split {g = g} v a b l c x y) s n =
      let first : Unsolvable (adding g a (own g b)) = unsolvable_adding g a (own g b) n in
      let second : Unsolvable (adding g b (own g a)) = unsolvable_adding g b (own g a) n in
      choice g s l v a b c first second (by_lists x (first_shaped g s c) first) (by_lists y (second_shaped g s c) second)

  pub unsolvable_induction : (g : Graph) → Shaped g → Unsolvable g → P g
  unsolvable_induction g s n = by_lists (listed_lists g s) s n
