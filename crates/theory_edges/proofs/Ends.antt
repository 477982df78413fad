-- Leaves and roots are nodes.
use Prim.Native.Nat.{ℕ, ◌<◌}
use mathlib.Core.Path.{◌≡◌}
use mathlib.Core.Bool.{true, not}
use lib.Dec.{ltb}
use borrow.Author.Tests.{ltb-true}
use Rattle.base_finite.proofs.Laws.{and_both}
use Rattle.graph.specs.Graph.{Graph, entered, left, root, leaf}

pub leaf_below : (g : Graph) (v : ℕ) → leaf g v ≡ true → v < g.nodes
unfolding leaf
leaf_below g v h = ltb-true v g.nodes (and_both (ltb v g.nodes) (not (left g.tree v)) h).0

pub root_below : (g : Graph) (v : ℕ) → root g v ≡ true → v < g.nodes
unfolding root
root_below g v h = ltb-true v g.nodes (and_both (ltb v g.nodes) (not (entered g.tree v)) h).0
