-- The test for a cycle of tree edges: some node has as many edges above it as there are nodes.
-- Where it holds, the node and its ancestors are more than there are nodes, so one of them stands twice and lies on a
-- cycle. And from a node on a cycle one rises for ever, because a node with one parent can be left upwards only along
-- the cycle.
use Prim.Native.Nat.{ℕ, zero, suc, ◌+◌, ◌-◌, ◌≤◌, ◌<◌}
use mathlib.Core.Path.{◌≡◌, refl, subst}
use mathlib.Core.List.{List}
use mathlib.Core.Bool.{true}
use native.Mathlib.Omega.{arith}
use Rattle.base_finite.proofs.Laws.{and_both, and_intro, any_at, any_found}
use Rattle.graph.specs.Graph.{Edge, Graph, among, entered, parent, single, TreeEdge, Path, one, more, rises, cyclic}
use Rattle.theory_edges.specs.Edges.{Within}
use Rattle.theory_edges.proofs.Edges.{entered_of_among, parent_among, parent_only}
use Rattle.theory_edges.proofs.Pigeonhole.{Twice, pigeonhole}

-- the node k edges above v
unfoldable pub above : ℕ → List Edge → ℕ → ℕ
above zero t v = v
above (suc k) t v = above k t (parent t v)

pub edge_above : (k : ℕ) (t : List Edge) (v i : ℕ) → rises k t v ≡ true → i < k → among t (above (suc i) t v) (above i t v) ≡ true
unfolding rises above
edge_above zero t v i h l = absurd (omega arith)
edge_above (suc k) t v zero h l = parent_among t v (and_both (entered t v) (rises k t (parent t v)) h).0
edge_above (suc k) t v (suc i) h l = edge_above k t (parent t v) i (and_both (entered t v) (rises k t (parent t v)) h).1 (omega arith)

above_within : (n k : ℕ) (t : List Edge) (v : ℕ) → Within n t → v < n → rises k t v ≡ true → (i : ℕ) → i ≤ k → above i t v < n
unfolding above
above_within n k t v w b h zero l = b
above_within n k t v w b h (suc i) l = (w (above (suc i) t v) (above i t v) (edge_above k t v i h l)).0

-- from the node d + 1 edges above another down to that one
descend : (g : Graph) (k v : ℕ) → rises k g.tree v ≡ true → (d i j : ℕ) → j ≡ i + suc d → j ≤ k → Path (TreeEdge g) (above j g.tree v) (above i g.tree v)
descend g k v h zero i j e l =
    let q : j ≡ suc i = omega arith in
    rw q (one (edge_above k g.tree v i h (omega arith)))
descend g k v h (suc d) i j e l = more (descend g k v h d (suc i) j (omega arith) l) (edge_above k g.tree v i h (omega arith))

pub cycle_of_cyclic : (g : Graph) → Within g.nodes g.tree → cyclic g ≡ true → (v : ℕ) × Path (TreeEdge g) v v
unfolding cyclic
cycle_of_cyclic g w h =
    let r = any_found g.nodes (rises g.nodes g.tree) h in
    let v : ℕ = r.0 in
    let s : Twice g.nodes (λ i. above i g.tree v) = pigeonhole g.nodes (λ i. above i g.tree v) (above_within g.nodes g.nodes g.tree v w r.1 r.2) in
    let i : ℕ = s.0 in
    let j : ℕ = s.1 in
    let down : Path (TreeEdge g) (above j g.tree v) (above i g.tree v) = descend g g.nodes v r.2 (j - suc i) i j (omega arith) s.3 in
    (above j g.tree v, subst (λ (x : ℕ). Path (TreeEdge g) (above j g.tree v) x) s.4 down)

rises_more : (t : List Edge) (u w k : ℕ) → single t ≡ true → among t u w ≡ true → rises k t u ≡ true → rises (suc k) t w ≡ true
unfolding rises
rises_more t u w k s h r = and_intro (entered t w) (rises k t (parent t w)) (entered_of_among t u w h) (rw (parent_only t u w s h) at r)

-- a node at or below a node on a cycle has any number of edges above it
rises_below_cycle : (g : Graph) → single g.tree ≡ true → {v : ℕ} → Path (TreeEdge g) v v → (k : ℕ) → {w : ℕ} → Path (TreeEdge g) v w → rises k g.tree w ≡ true
unfolding rises
rises_below_cycle g s c zero p = refl
rises_below_cycle g s c (suc k) (one {u = v} {v = w} e) = rises_more g.tree v w k s e (rises_below_cycle g s c k c)
rises_below_cycle g s c (suc k) (more {v = u} {w = w} p e) = rises_more g.tree u w k s e (rises_below_cycle g s c k p)

path_end_within : (g : Graph) → Within g.nodes g.tree → {u v : ℕ} → Path (TreeEdge g) u v → v < g.nodes
path_end_within g w (one {u = u} {v = v} e) = (w u v e).1
path_end_within g w (more {v = u} {w = v} p e) = (w u v e).1

pub cyclic_of_cycle : (g : Graph) → Within g.nodes g.tree → single g.tree ≡ true → (v : ℕ) → Path (TreeEdge g) v v → cyclic g ≡ true
unfolding cyclic
cyclic_of_cycle g w s v c = any_at g.nodes (rises g.nodes g.tree) v (path_end_within g w c) (rises_below_cycle g s c g.nodes c)
