-- The fragment table (document 01, "The sheet").
use Rattle.std.specs.Prelude.{ℕ, List, [], ◌∷◌, cond}
use Rattle.base_finite.specs.Below.{count, spread}
use Rattle.graph.specs.Graph.{Graph, root, leaf_of}
use Rattle.graph.specs.Rule1.{lowest_leaf_of}
use Rattle.graph.specs.declared.Fragment.{Fragment}

-- "one record per fragment: root, lowest leaf, number of leaves"
unfoldable pub fragment : Graph → ℕ → Fragment
fragment g r = record { root = r; lowest_leaf = lowest_leaf_of g r; leaves = count g.nodes (leaf_of g r) }

-- "The records come by ascending root"
unfoldable pub fragments : Graph → List Fragment
fragments g = spread g.nodes (λ r. cond (root g r) (fragment g r ∷ []) [])
