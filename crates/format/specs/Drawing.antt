-- The drawing of a placing (document 01, "The drawing").
use Rattle.std.specs.Prelude.{ℕ, zero, suc, List, [], ◌∷◌, ◌++◌, map, cond, ◌&&◌, eqb}
use Rattle.base_finite.specs.Below.{any, select}
use Rattle.graph.specs.Graph.{Graph, root, leaf_of, none}
use Rattle.graph.specs.Placing.{at, hangs}
use Rattle.format.specs.Text.{decimal}

-- texts with a byte between each two
unfoldable pub separated : ℕ → List (List ℕ) → List ℕ
separated b [] = []
separated b (x ∷ []) = x
separated b (x ∷ y ∷ rest) = x ++ b ∷ separated b (y ∷ rest)

-- "A leaf is its number, then the hung fragments, if any, ascending by root in square brackets with semicolons."
unfoldable pub leaf_text : (ℕ → List ℕ) → Graph → List ℕ → ℕ → List ℕ
leaf_text draw g p l =
    decimal l
    ++ cond (any g.nodes (hangs g p l)) (91 ∷ separated 59 (map draw (select g.nodes (hangs g p l))) ++ 93 ∷ []) []

-- "A fragment is its root, then its leaves ascending in round brackets with commas." Fragments hang k deep at most.
unfoldable pub fragment_text : ℕ → Graph → List ℕ → ℕ → List ℕ
fragment_text zero g p r = []
fragment_text (suc k) g p r =
    decimal r ++ 40 ∷ separated 44 (map (leaf_text (λ s. fragment_text k g p s) g p) (select g.nodes (leaf_of g r))) ++ 41 ∷ []

-- "Top fragments are joined by semicolons." Fewer than `nodes` fragments stand above each other in a forest.
unfoldable pub drawing : Graph → List ℕ → List ℕ
drawing g p = separated 59 (map (fragment_text g.nodes g p) (select g.nodes (λ r. root g r && eqb (at p r) none)))
