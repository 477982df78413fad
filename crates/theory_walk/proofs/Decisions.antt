-- The decisions of a walk: what pushing one at the end of the list and popping it again does, and what holds of the graph
-- at valid decisions. It is a dominance graph with the same nodes and tree edges, and its descent relation has at least one
-- pair more for each decision; so there are at most as many decisions as pairs of nodes.
use Prim.Native.Nat.{ℕ, ◌+◌, ◌*◌, ◌≤◌, ◌<◌}
use mathlib.Core.Path.{◌≡◌, refl, subst, ◌∙◌}
use mathlib.Core.List.{List, [], ◌∷◌, ◌++◌}
use native.Mathlib.Omega.{arith}
use lib.ListN.{length}
use Rattle.graph.specs.Graph.{Graph, own, root, leaf}
use Rattle.graph.specs.Order.{Choice}
use Rattle.theory_forest.specs.Shape.{Shaped}
use Rattle.theory_list.specs.Redundancy.{Loopless}
use Rattle.theory_list.proofs.Choosing.{pairs_le}
use Rattle.theory_list.specs.Choosing.{pairs}
use Rattle.theory_walk.specs.Walk.{Decision, half, graph_at, Valid, outset, taken, first, second}
use Rattle.theory_walk.proofs.Halves.{half_nodes, half_tree, half_shaped, half_grows}

-- the graph at the decisions

pub graph_pushed : (g : Graph) (ds : List Decision) (d : Decision) → graph_at g (ds ++ (d ∷ [])) ≡ half (graph_at g ds) d
unfolding graph_at
graph_pushed g [] d = refl
graph_pushed g (e ∷ ds) d = graph_pushed (half g e) ds d

pub graph_nodes : (g : Graph) (ds : List Decision) → (graph_at g ds).nodes ≡ g.nodes
unfolding graph_at
graph_nodes g [] = refl
graph_nodes g (d ∷ ds) = graph_nodes (half g d) ds ∙ half_nodes g d

pub graph_tree : (g : Graph) (ds : List Decision) → (graph_at g ds).tree ≡ g.tree
unfolding graph_at
graph_tree g [] = refl
graph_tree g (d ∷ ds) = graph_tree (half g d) ds ∙ half_tree g d

pub graph_own : (g : Graph) (ds : List Decision) (v : ℕ) → own (graph_at g ds) v ≡ own g v
unfolding own
graph_own g ds v = rw (graph_nodes g ds, graph_tree g ds)

pub graph_root : (g : Graph) (ds : List Decision) (v : ℕ) → root (graph_at g ds) v ≡ root g v
unfolding root
graph_root g ds v = rw (graph_nodes g ds, graph_tree g ds)

pub graph_leaf : (g : Graph) (ds : List Decision) (v : ℕ) → leaf (graph_at g ds) v ≡ leaf g v
unfolding leaf
graph_leaf g ds v = rw (graph_nodes g ds, graph_tree g ds)

-- pushing and popping

pub valid_pushed : {g : Graph} {ds : List Decision} → Valid g ds → {v : ℕ} (d : Decision) → Choice (graph_at g ds) v d.0 d.1 → Loopless (graph_at g ds) → Valid g (ds ++ (d ∷ []))
unfolding graph_at
valid_pushed outset {v} d c n = taken v d c n outset
valid_pushed (taken w e b m x) d c n = taken w e b m (valid_pushed x d c n)

-- the last decision, and those before it
pub record Last (g : Graph) (ds : List Decision) (d : Decision) : Type 0 where
  pub before : Valid g ds
  pub choice_root : ℕ
  pub choice : Choice (graph_at g ds) choice_root d.0 d.1
  pub loopless : Loopless (graph_at g ds)

pub valid_popped : (g : Graph) (ds : List Decision) (d : Decision) → Valid g (ds ++ (d ∷ [])) → Last g ds d
unfolding graph_at
valid_popped g [] d (taken v e c n x) = record { before = outset; choice_root = v; choice = c; loopless = n }
valid_popped g (e ∷ ds) d (taken v e₂ c n x) =
    let l = valid_popped (half g e) ds d x in
    record { before = taken v e c n l.before; choice_root = l.choice_root; choice = l.choice; loopless = l.loopless }

-- the other half of the last choice
pub valid_turned : {g : Graph} (ds : List Decision) (a b : ℕ) → Valid g (ds ++ (first a b ∷ [])) → Valid g (ds ++ (second a b ∷ []))
valid_turned {g} ds a b x =
    let l = valid_popped g ds (first a b) x in
    valid_pushed l.before (second a b) l.choice l.loopless

-- what holds of the graph at valid decisions

pub graph_shaped : {g : Graph} {ds : List Decision} → Shaped g → Valid g ds → Shaped (graph_at g ds)
unfolding graph_at
graph_shaped s outset = s
graph_shaped s (taken {g = g} v d c n x) = graph_shaped (half_shaped g s d c) x

-- each decision adds a pair
pub pairs_grown : {g : Graph} {ds : List Decision} → Shaped g → Valid g ds → pairs g + length ds ≤ pairs (graph_at g ds)
unfolding graph_at
pairs_grown s outset = omega arith
pairs_grown s (taken {g = g} {ds = ds} v d c n x) =
    let here : pairs g < pairs (half g d) = half_grows g s d c n in
    let there : pairs (half g d) + length ds ≤ pairs (graph_at (half g d) ds) = pairs_grown (half_shaped g s d c) x in
    omega arith

pub pairs_bounded : (g : Graph) (ds : List Decision) → pairs (graph_at g ds) ≤ g.nodes * g.nodes
pairs_bounded g ds = subst (λ (n : ℕ). pairs (graph_at g ds) ≤ n * n) (graph_nodes g ds) (pairs_le (graph_at g ds))

pub few_decisions : {g : Graph} {ds : List Decision} → Shaped g → Valid g ds → length ds ≤ g.nodes * g.nodes
few_decisions {g} {ds} s x = omega (arith, pairs_grown s x, pairs_bounded g ds)

-- where a choice is left there is room for one more
pub room_left : {g : Graph} {ds : List Decision} {v a b : ℕ} → Shaped g → Valid g ds → Loopless (graph_at g ds) → Choice (graph_at g ds) v a b → length ds < g.nodes * g.nodes
room_left {g} {ds} {v} {a} {b} s x n c =
    let more : pairs (graph_at g ds) < pairs (half (graph_at g ds) (first a b)) = half_grows (graph_at g ds) (graph_shaped s x) (first a b) c n in
    let top : pairs (half (graph_at g ds) (first a b)) ≤ g.nodes * g.nodes = rw (graph_pushed g ds (first a b)) at (pairs_bounded g (ds ++ (first a b ∷ []))) in
    omega (arith, pairs_grown s x)
