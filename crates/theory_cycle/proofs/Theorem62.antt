-- Theorem 6.2 of document 000, for trees of any height. A dominance graph has a solved form if and only if (a) no bytes
-- spell a simple hypernormal cycle of it, and (b) each hypernormal subgraph has one: the graph's tree with dominance
-- edges of which at most one starts at each leaf.
use Prim.Native.Nat.{ℕ}
use mathlib.Core.Path.{◌≡◌, refl}
use mathlib.Core.List.{List, ◌∷◌}
use mathlib.Core.Bool.{true}
use mathlib.Core.Logic.{◌↔◌, dite}
use Rattle.graph.specs.Graph.{Edge, Graph, own, DominanceEdge}
use Rattle.graph.specs.Cycle.{hypernormal_cycle}
use Rattle.graph.specs.Placing.{Solvable}
use Rattle.theory_edges.proofs.Edges.{among_first, among_rest}
use Rattle.theory_forest.specs.Shape.{Shaped}
use Rattle.theory_ring.proofs.Fragments.{FragmentRing}
use Rattle.theory_refutes.proofs.Excludes.{cycle_excludes}
use Rattle.theory_list.proofs.Readings.{solvable_decided}
use Rattle.theory_cycle.proofs.Unsolvable.{unsolvable_ring}
use Rattle.theory_cycle.proofs.Thin.{Thin, thin_more}
use Rattle.theory_cycle.proofs.Lift.{Opened, ring_opened, opened_cycle, ring_cycle}
use Rattle.theory_edges.specs.Edges.{over}
use Rattle.theory_cycle.proofs.Alone.{alone_shaped, alone_solvable}

-- "a hypernormal subgraph": the edges es of g, one at most at each leaf, with g's tree
abbrev pub HypernormalSubgraph : Graph → List Edge → Type 0
HypernormalSubgraph g es = Thin (DominanceEdge g) es

-- a ring's edges are a hypernormal subgraph with no solved form
ring_part : (g : Graph) → Shaped g → FragmentRing (own g) (DominanceEdge g) → (es : List Edge) × HypernormalSubgraph g es × (Solvable (over g es) → ⊥)
ring_part g s c =
    let o : Opened g (DominanceEdge g) = ring_opened g (DominanceEdge g) c in
    let es : List Edge = (o.from, o.to) ∷ o.others in
    let t : HypernormalSubgraph g es = thin_more (DominanceEdge g) o.from o.to o.others o.edge o.thin in
    let h : Shaped (over g es) = alone_shaped g es t.inside s in
    let own_edges : Opened (over g es) (DominanceEdge (over g es)) =
    record {
      from = o.from;
      to = o.to;
      edge = among_first (o.from, o.to) o.others o.from o.to refl refl;
      others = o.others;
      thin =
          record {
            inside = λ x y m. (among_rest (o.from, o.to) o.others x y m, (o.thin.inside x y m).1);
            one_from = o.thin.one_from;
          };
      connected = o.connected;
    } in
    let b = opened_cycle (over g es) h own_edges in
    (es, t, λ x. cycle_excludes (over g es) b.0 x.0 h b.1 x.1)

pub unsolvable_cycle : (g : Graph) → Shaped g → (Solvable g → ⊥) → (bs : List ℕ) × (hypernormal_cycle g bs ≡ true)
unsolvable_cycle g s n = ring_cycle g s (unsolvable_ring g s n)

pub theorem_6_2a : (g : Graph) → Shaped g → Solvable g ↔ ((bs : List ℕ) → hypernormal_cycle g bs ≡ true → ⊥)
theorem_6_2a g s = (
  λ o bs c. cycle_excludes g bs o.0 s c o.1,
  λ f. dite (solvable_decided g s) (λ o. o) (λ n. let b = unsolvable_cycle g s n in absurd (f b.0 b.1)),
)

pub theorem_6_2b : (g : Graph) → Shaped g → Solvable g ↔ ((es : List Edge) → HypernormalSubgraph g es → Solvable (over g es))
theorem_6_2b g s = (
  λ o es t. alone_solvable g es t.inside o,
  λ f. dite (solvable_decided g s) (λ o. o) (λ n. let b = ring_part g s (unsolvable_ring g s n) in absurd (b.2 (f b.0 b.1))),
)
