-- Theorem 6.2, from "no solved form" to a ring: a graph without a solved form has a ring of fragments.
-- A cycle of the descent relation is, fragment by fragment, a directed closed walk of dominance edges, as a tree edge
-- stays in its fragment and tree edges alone make no cycle; and a choice whose two halves have rings has one itself.
-- The recursion of Rule 3 does the rest.
use Prim.Native.Nat.{ℕ}
use mathlib.Core.Path.{◌≡◌, refl, sym, ◌∙◌}
use mathlib.Core.Logic.{◌⊎◌, inl, inr, ⊎_elim}
use native.Mathlib.Omega.{arith}
use Rattle.graph.specs.Graph.{Graph, TreeEdge, DominanceEdge, GraphEdge, Descent, Path, one, more, own}
use Rattle.graph.specs.Order.{Choice, adding}
use Rattle.graph.specs.Placing.{Solvable}
use Rattle.theory_edges.proofs.Edges.{among_cases}
use Rattle.theory_forest.specs.Shape.{Shaped}
use Rattle.theory_forest.proofs.Fragments.{own_edge, own_of_root}
use Rattle.theory_list.proofs.Induction.{unsolvable_induction}
use Rattle.theory_ring.proofs.Directed.{Walk, walk_more}
use Rattle.theory_ring.proofs.Fragments.{FragmentRing, From, OneMore, choice_ring, walk_ring}

-- from fragment to fragment along dominance edges
abbrev Led : Graph → ℕ → ℕ → Type 0
Led g u v = Walk (From (own g) (DominanceEdge g)) (own g u) (own g v)

-- a path is of tree edges alone, or leads from fragment to fragment
abbrev Traced : Graph → ℕ → ℕ → Type 0
Traced g u v = (Path (TreeEdge g) u v × (own g u ≡ own g v)) ⊎ Led g u v

from_own : (g : Graph) → Shaped g → (u v w : ℕ) → own g u ≡ own g v → DominanceEdge g v w → From (own g) (DominanceEdge g) (own g u) v (own g w)
from_own g s u v w e d = (rw (own_of_root g w (s.leaf_to_root v w d).1) d, sym e)

traced_edge : (g : Graph) → Shaped g → (u v : ℕ) → GraphEdge g u v → Traced g u v
traced_edge g s u v (inl t) = inl (one t, sym (own_edge g s u v t))
traced_edge g s u v (inr d) = inr (Walk.one (from_own g s u u v refl d))

traced_more : (g : Graph) → Shaped g → (u v w : ℕ) → Traced g u v → GraphEdge g v w → Traced g u w
traced_more g s u v w (inl p) (inl t) = inl (more p.0 t, p.1 ∙ sym (own_edge g s v w t))
traced_more g s u v w (inl p) (inr d) = inr (Walk.one (from_own g s u v w p.1 d))
traced_more g s u v w (inr k) (inl t) = inr (rw (own_edge g s v w t) k)
traced_more g s u v w (inr k) (inr d) = inr (walk_more k (from_own g s v v w refl d))

traced : (g : Graph) → Shaped g → {u v : ℕ} → Descent g u v → Traced g u v
traced g s (one {u = u} {v = v} e) = traced_edge g s u v e
traced g s (more {u = u} {v = v} {w = w} p e) = traced_more g s u v w (traced g s p) e

pub cyclic_ring : (g : Graph) → Shaped g → (u : ℕ) → Descent g u u → FragmentRing (own g) (DominanceEdge g)
cyclic_ring g s u d =
    ⊎_elim
    (λ (p : Path (TreeEdge g) u u × (own g u ≡ own g u)). absurd (s.no_tree_cycle u p.0))
    (λ (w : Led g u u). walk_ring (own g) (DominanceEdge g) (own g u) w)
    (traced g s d)

-- the dominance edges of a graph with one edge more
pub one_more_added : (g : Graph) (l r : ℕ) → OneMore (DominanceEdge g) (DominanceEdge (adding g l r)) l r
unfolding adding
one_more_added g l r x y m =
    ⊎_elim
    (λ (q : (l ≡ x) × (r ≡ y)). inr (sym q.0, sym q.1))
    (λ (d : DominanceEdge g x y). inl d)
    (among_cases (l, r) g.dominance x y m)

pub choice_of_rings : (g : Graph) (v a b : ℕ) → Choice g v a b
    → FragmentRing (own (adding g a (own g b))) (DominanceEdge (adding g a (own g b)))
    → FragmentRing (own (adding g b (own g a))) (DominanceEdge (adding g b (own g a)))
    → FragmentRing (own g) (DominanceEdge g)
unfolding adding own
choice_of_rings g v a b c r s =
    choice_ring (own g) (DominanceEdge g) (DominanceEdge (adding g b (own g a))) (DominanceEdge (adding g a (own g b))) a b v
    (λ (e : a ≡ b). omega (arith, c.lower)) c.first.0 c.second.0 (one_more_added g b (own g a)) (one_more_added g a (own g b)) s r

pub unsolvable_ring : (g : Graph) → Shaped g → (Solvable g → ⊥) → FragmentRing (own g) (DominanceEdge g)
unsolvable_ring =
    unsolvable_induction (λ g. FragmentRing (own g) (DominanceEdge g)) cyclic_ring (λ g s n v a b c x y. choice_of_rings g v a b c)
