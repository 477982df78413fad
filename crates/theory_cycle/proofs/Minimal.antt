-- Minimal sets of edges. A graph has no solved form, but has one when any one of its dominance edges is taken away. Then
-- its dominance edges are those of one ring: at most one starts at each leaf, and without the edge from l to r the nodes
-- r and l are still joined by tree edges and the other edges. So any simple path between them, closed by that edge, is a
-- simple hypernormal cycle, of this graph and of each that has its tree and, among others, its edges.
use Prim.Native.Nat.{ℕ}
use mathlib.Core.Path.{◌≡◌, refl, sym, subst₂}
use mathlib.Core.List.Memᴰ
use mathlib.Core.List.{List}
use mathlib.Core.Logic.{inl, inr, ⊎_elim, dite}
use native.Mathlib.Decide.{ℕ_discrete}
use Rattle.graph.specs.Graph.{Edge, Graph, own, DominanceEdge}
use Rattle.graph.specs.Order.{without, removed}
use Rattle.graph.specs.Placing.{Solvable}
use Rattle.theory_forest.specs.Shape.{Shaped}
use Rattle.theory_forest.proofs.Shape.{without_among, removed_shaped}
use Rattle.theory_forest.specs.Table.{Among}
use Rattle.theory_ring.proofs.Ways.{out, into, Way, step, ring, way_map}
use Rattle.theory_ring.proofs.Cuts.{Arc}
use Rattle.theory_ring.proofs.Fragments.{Joined, FragmentRing, OneMore, opened_at_edge}
use Rattle.theory_list.proofs.Redundancy.{without_lacks, without_keeps}
use Rattle.theory_cycle.proofs.Unsolvable.{unsolvable_ring}
use Rattle.theory_cycle.specs.Connected.{Connected}
use Rattle.theory_cycle.proofs.Connected.{connected_trans}
use Rattle.theory_cycle.proofs.Spelt.{Sparse}
use Rattle.theory_cycle.proofs.Closing.{TreeOr}
use Rattle.theory_cycle.proofs.Thin.{elsewhere}
use Rattle.theory_cycle.proofs.Lift.{own_connected, way_connected, ring_opened}
use Rattle.theory_edges.specs.Edges.{over}
use Rattle.theory_cycle.proofs.Alone.{alone_solvable}
use Rattle.theory_cycle.proofs.RingExcludes.{ring_unsolvable}

-- no solved form, and one without any of the edges
pub record Minimal (g : Graph) : Type 0 where
  pub unsolvable : Solvable g → ⊥
  pub needed : (l r : ℕ) → DominanceEdge g l r → Solvable (removed g l r)

-- the edges but the one from l to r
abbrev pub Others : Graph → ℕ → ℕ → ℕ → ℕ → Type 0
Others g l r = DominanceEdge (removed g l r)

pub others_inside : (g : Graph) (l r u v : ℕ) → Others g l r u v → DominanceEdge g u v
unfolding removed
others_inside g l r u v m = without_among g.dominance l r u v m

pub others_lack : (g : Graph) (l r : ℕ) → Others g l r l r → ⊥
unfolding removed
others_lack g l r m = without_lacks g.dominance l r m

pub others_keep : (g : Graph) (l r u v : ℕ) → ((u ≡ l) × (v ≡ r) → ⊥) → DominanceEdge g u v → Others g l r u v
unfolding removed
others_keep g l r u v apart m = without_keeps g.dominance l r u v apart m

one_less : (g : Graph) (l r : ℕ) → OneMore (Others g l r) (DominanceEdge g) l r
one_less g l r x y m =
    dite (ℕ_discrete x l)
    (λ (p : x ≡ l).
    dite (ℕ_discrete y r) (λ (q : y ≡ r). inr (p, q)) (λ n. inl (others_keep g l r x y (λ e. n e.1) m)))
    (λ n. inl (others_keep g l r x y (λ e. n e.0) m))

-- a ring without the edge would exclude what the graph has without it
removed_ringless : (g : Graph) (l r : ℕ) → Shaped g → Solvable (removed g l r) → FragmentRing (own g) (Others g l r) → ⊥
unfolding removed own
removed_ringless g l r s o c = ring_unsolvable (removed g l r) (removed_shaped g l r s) c o

-- An edge that is needed is still needed when other edges are taken away. So dropping edges one by one, each where the
-- rest has no solved form, leaves a minimal set.
pub still_needed : (g : Graph) (es : List Edge) → ((u v : ℕ) → Among es u v → DominanceEdge g u v) → (l r : ℕ) → Solvable (removed g l r) → Solvable (removed (over g es) l r)
unfolding removed
still_needed g es inside l r o =
    alone_solvable (removed g l r) (without es l r) (λ u v m.
    others_keep g l r u v (λ q. without_lacks es l r (subst₂ (Among (without es l r)) q.0 q.1 m)) (inside u v (without_among es l r u v m))) o

-- a graph without a solved form has a dominance edge
pub some_edge : (g : Graph) → Shaped g → (Solvable g → ⊥) → (l : ℕ) × (r : ℕ) × DominanceEdge g l r
some_edge g s n = let o = ring_opened g (DominanceEdge g) (unsolvable_ring g s n) in (o.from, o.to, o.edge)

module _ (g : Graph) (s : Shaped g) (m : Minimal g) where
  -- the ring, cut at one of its edges
  opened_arc : (l r : ℕ) → DominanceEdge g l r → Arc (Joined (own g) (Others g l r)) (own g l) (out l) r (into l)
  opened_arc l r d =
      ⊎_elim
      (λ (c : FragmentRing (own g) (Others g l r)). absurd (removed_ringless g l r s (m.needed l r d) c))
      (λ (a : Arc (Joined (own g) (Others g l r)) (own g l) (out l) r (into l)). a)
      (opened_at_edge (own g) (Others g l r) (DominanceEdge g) l r (one_less g l r) (unsolvable_ring g s m.unsolvable))

  -- "leaving out any (l, r) leaves r and l joined"
  pub joined_without : (l r : ℕ) → DominanceEdge g l r → Connected (TreeOr g (Others g l r)) r l
  joined_without l r d = connected_trans (way_connected g (Others g l r) (opened_arc l r d).way) (own_connected g (Others g l r) l)

  -- The ring that is cut at (l, r) has no other edge from l, so another one is not needed.
  pub one_from_leaf : (l r r' : ℕ) → DominanceEdge g l r → DominanceEdge g l r' → r ≡ r'
  one_from_leaf l r r' d e =
      dite (ℕ_discrete r r') (λ i. i) (λ n.
      let a = opened_arc l r d in
      let D : ℕ → ℕ → Type 0 = Others g l r' in
      let w = elsewhere (own g) l a.way a.fresh (λ _ i. a.differs i) in
      let rest : Way (Joined (own g) D) r (into l) (own g l) a.entry a.passed =
      way_map (λ x c y z h. (h.0, h.1, others_keep g l r' h.0 h.1 (λ q. h.2.1 q.0) (others_inside g l r h.0 h.1 h.2.0), h.3)) w in
      let first : Joined (own g) D (own g l) (out l) r (into l) = (l, r, others_keep g l r' l r (λ q. n q.1) d, inl (refl, refl, refl, refl)) in
      absurd (removed_ringless g l r' s (m.needed l r' e) (ring (step (λ i. a.differs (sym i)) first a.fresh rest) (Memᴰ.head refl))))

  -- what bytes that spell a path from l to r, closed by (l, r), need to be a cycle (`spelt_hypernormal`), of any graph f
  -- that has the edges of g
  pub minimal_sparse : (f : Graph) → ((u v : ℕ) → DominanceEdge g u v → DominanceEdge f u v) → (l r : ℕ) → DominanceEdge g l r → Sparse f (Others g l r) l r
  minimal_sparse f more l r d =
      record {
        inside = λ x y o. more x y (others_inside g l r x y o);
        one_from = λ x y z o p. one_from_leaf x y z (others_inside g l r x y o) (others_inside g l r x z p);
        edge = more l r d;
        none_from = λ y o.
            let i : y ≡ r = one_from_leaf l y r (others_inside g l r l y o) d in
            others_lack g l r (rw i at o);
      }
