-- A graph's tree with a list of its dominance edges over. It is a dominance graph, and a solved form of the graph is one
-- of it, as fewer edges ask for less. So an edge that is needed for "no solved form" stays needed when others go, which
-- is what dropping edges one by one rests on.
use Prim.Native.Nat.{ℕ}
use mathlib.Core.List.{List}
use mathlib.Core.Logic.{inl, inr, ⊎_elim}
use Rattle.graph.specs.Graph.{Edge, Graph, root, leaf, TreeEdge, DominanceEdge}
use Rattle.graph.specs.Placing.{placing, hangs, SolvedForm, Solvable}
use Rattle.theory_forest.specs.Shape.{Shaped}
use Rattle.theory_forest.proofs.Shape.{same_trees}
use Rattle.theory_forest.proofs.Closure.{path_map}
use Rattle.theory_forest.specs.Table.{Among}
use Rattle.theory_edges.specs.Edges.{over}

module _ (g : Graph) (es : List Edge) (inside : (l r : ℕ) → Among es l r → DominanceEdge g l r) where
  pub alone_shaped : Shaped g → Shaped (over g es)
  alone_shaped s = same_trees g es s (λ l r m. s.leaf_to_root l r (inside l r m))

  pub alone_solved : (p : List ℕ) → SolvedForm g p → SolvedForm (over g es) p
  unfolding placing hangs root leaf
  alone_solved p o =
      record {
        is_placing = o.is_placing;
        is_forest = o.is_forest;
        contains = λ u v d.
            o.contains u v (path_map (λ x y. ⊎_elim (λ (e : TreeEdge g x y). inl e) (λ (e : Among es x y). inr (inside x y e))) d);
      }

  pub alone_solvable : Solvable g → Solvable (over g es)
  alone_solvable o = (o.0, alone_solved o.0 o.1)
