-- Theorem 6.2, from a ring to "no solved form": a ring of fragments is spelled as a simple hypernormal cycle, and that
-- excludes a solved form. As this holds of every graph, the edges of a ring over have no solved form, whatever edges
-- are left out beside them.
use Prim.Native.Nat.{ℕ}
use mathlib.Core.List.{List}
use Rattle.graph.specs.Graph.{Edge, Graph, own, DominanceEdge}
use Rattle.graph.specs.Placing.{SolvedForm, Solvable}
use Rattle.theory_forest.specs.Shape.{Shaped}
use Rattle.theory_forest.specs.Table.{Among}
use Rattle.theory_ring.proofs.Fragments.{FragmentRing}
use Rattle.theory_refutes.proofs.Excludes.{cycle_excludes}
use Rattle.theory_cycle.proofs.Lift.{ring_cycle}
use Rattle.theory_edges.specs.Edges.{over}
use Rattle.theory_cycle.proofs.Alone.{alone_shaped}

pub ring_excludes : (g : Graph) (p : List ℕ) → Shaped g → FragmentRing (own g) (DominanceEdge g) → SolvedForm g p → ⊥
ring_excludes g p s c o = let b = ring_cycle g s c in cycle_excludes g b.0 p s b.1 o

pub ring_unsolvable : (g : Graph) → Shaped g → FragmentRing (own g) (DominanceEdge g) → Solvable g → ⊥
ring_unsolvable g s c o = ring_excludes g o.0 s c o.1

-- the edges of a ring over
pub ring_alone : (g : Graph) (es : List Edge) → Shaped g → ((l r : ℕ) → Among es l r → DominanceEdge g l r) → FragmentRing (own g) (Among es)
    → Solvable (over g es) → ⊥
unfolding own
ring_alone g es s f c o = ring_unsolvable (over g es) (alone_shaped g es f s) c o
