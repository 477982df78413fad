-- The list of the readings, worked out by the choices.
use Rattle.std.specs.Prelude.{ℕ, zero, suc, ◌*◌, List, [], ◌∷◌, ◌++◌, true, false, ltb}
use Rattle.graph.specs.Graph.{Graph, entered, parent, top, own}
use Rattle.graph.specs.Order.{adding}
use Rattle.theory_forest.specs.Table.{acyclic}
use Rattle.theory_list.specs.Choosing.{Triple, chosen}
use Rattle.theory_list.specs.Settled.{settled}

-- the readings that fewer than k choices, one after the other, lead to
unfoldable pub readings : ℕ → Graph → List (List ℕ)
unfolding acyclic chosen settled adding own top entered parent
readings zero g = []
readings (suc k) g =
    elim (acyclic g) [
      | false ↦ []
      | true ↦
          let c : Triple = chosen g in
          elim (ltb c.0 g.nodes) [
            | false ↦ settled g ∷ []
            | true ↦ readings k (adding g c.1 (own g c.2)) ++ readings k (adding g c.2 (own g c.1))
          ]
    ]

unfoldable pub listed : Graph → List (List ℕ)
unfolding readings
listed g = readings (suc (g.nodes * g.nodes)) g
