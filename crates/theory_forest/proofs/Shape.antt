-- What the theorems ask of a graph: that it is a dominance graph (Definition 4.1), whatever the number of its dominance
-- edges. Unlike `WellFormed` this stays so when Rule 3 adds an edge or an edge is taken away.
use Prim.Native.Nat.{ℕ}
use mathlib.Core.Path.{◌≡◌}
use mathlib.Core.List.{List, [], ◌∷◌}
use mathlib.Core.Bool.{true, ◌&&◌}
use mathlib.Core.Logic.{⊎_elim}
use lib.Dec.{eqb}
use Rattle.base_finite.proofs.Laws.{by_bool}
use Rattle.graph.specs.Graph.{Edge, Graph, among, root, leaf, DominanceEdge, WellFormed}
use Rattle.graph.specs.Order.{without, removed, adding}
use Rattle.theory_edges.proofs.Edges.{among_cases, among_first, among_rest}
use Rattle.theory_forest.specs.Shape.{Shaped}

pub well_formed_shaped : {g : Graph} → WellFormed g → Shaped g
well_formed_shaped w =
    record {
      few_nodes = w.few_nodes;
      tree_within = w.tree_within;
      one_parent = w.one_parent;
      no_tree_cycle = w.no_tree_cycle;
      on_tree_edge = w.on_tree_edge;
      leaf_to_root = w.leaf_to_root;
    }

-- a graph with the same tree edges, whose dominance edges go from leaves to roots
pub same_trees : (g : Graph) (d : List Edge) → Shaped g
    → ((l r : ℕ) → among d l r ≡ true → (leaf g l ≡ true) × (root g r ≡ true))
    → Shaped (record { nodes = g.nodes; tree = g.tree; dominance = d })
unfolding leaf root
same_trees g d s f =
    record {
      few_nodes = s.few_nodes;
      tree_within = s.tree_within;
      one_parent = s.one_parent;
      no_tree_cycle = s.no_tree_cycle;
      on_tree_edge = s.on_tree_edge;
      leaf_to_root = f;
    }

pub adding_shaped : (g : Graph) (l r : ℕ) → Shaped g → leaf g l ≡ true → root g r ≡ true → Shaped (adding g l r)
unfolding adding
adding_shaped g l r s hl hr =
    same_trees g ((l, r) ∷ g.dominance) s (λ x y m.
    ⊎_elim
    (λ (q : (l ≡ x) × (r ≡ y)). (rw (← q.0) hl, rw (← q.1) hr))
    (λ (k : DominanceEdge g x y). s.leaf_to_root x y k)
    (among_cases (l, r) g.dominance x y m))

-- an edge of the list without (l, r) is one of the list
pub without_among : (es : List Edge) (l r u v : ℕ) → among (without es l r) u v ≡ true → among es u v ≡ true
unfolding without
without_among [] l r u v = λ m. m
without_among (e ∷ es) l r u v =
    by_bool (eqb e.0 l && eqb e.1 r)
    (λ b. rw b (λ m. among_rest e es u v (without_among es l r u v m)))
    (λ b.
    rw b (λ m.
    ⊎_elim
    (λ (q : (e.0 ≡ u) × (e.1 ≡ v)). among_first e es u v q.0 q.1)
    (λ (k : among (without es l r) u v ≡ true). among_rest e es u v (without_among es l r u v k))
    (among_cases e (without es l r) u v m)))

pub removed_shaped : (g : Graph) (l r : ℕ) → Shaped g → Shaped (removed g l r)
unfolding removed
removed_shaped g l r s = same_trees g (without g.dominance l r) s (λ x y m. s.leaf_to_root x y (without_among g.dominance l r x y m))
