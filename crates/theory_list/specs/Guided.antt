-- The reading that a solved form contains: at each choice the half that the solved form is in.
use Rattle.std.specs.Prelude.{ℕ, zero, suc, ◌*◌, List, true, false, ltb}
use Rattle.graph.specs.Graph.{Graph, entered, parent, top, own}
use Rattle.graph.specs.Order.{Choice, adding}
use Rattle.graph.specs.Placing.{Below}
use Rattle.theory_forest.specs.Table.{under}
use Rattle.theory_list.specs.Redundancy.{Loopless}
use Rattle.theory_list.specs.Choosing.{Triple, Unforked, chosen}
use Rattle.theory_list.specs.Settled.{settled}

unfoldable pub guide : ℕ → Graph → List ℕ → List ℕ
unfolding chosen settled under adding own top entered parent
guide zero g p = settled g
guide (suc k) g p =
    let c : Triple = chosen g in
    elim (ltb c.0 g.nodes) [
      | false ↦ settled g
      | true ↦
          elim (under g p c.1 (own g c.2)) [
            | false ↦ guide k (adding g c.2 (own g c.1)) p
            | true ↦ guide k (adding g c.1 (own g c.2)) p
          ]
    ]

unfoldable pub guided : Graph → List ℕ → List ℕ
unfolding guide
guided g p = guide (suc (g.nodes * g.nodes)) g p

-- the way from p to its end
pub data Leads : Graph → List ℕ → List ℕ → Type 0 where
  arrived : {g : Graph} {p : List ℕ} → Loopless g → Unforked g → Leads g p (settled g)
  to_first : {g : Graph} {p q : List ℕ} (v a b : ℕ) → Choice g v a b → Below g p a (own g b) → Leads (adding g a (own g b)) p q → Leads g p q
  to_second : {g : Graph} {p q : List ℕ} (v a b : ℕ) → Choice g v a b → Below g p b (own g a) → Leads (adding g b (own g a)) p q → Leads g p q
