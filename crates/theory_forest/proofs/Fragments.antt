-- Fragments: the trees of a graph. Each node has a root above it, or is one, and this root is `own`; a tree edge stays in
-- one fragment, so a path of tree edges does. A leaf has no child and a root no parent, so no node is both. Each node
-- has a leaf at or below it: no node has as many edges above it as there are nodes, so one cannot go down for ever.
-- All this depends on the tree edges only, so an added or removed dominance edge leaves it as it is.
use Prim.Native.Nat.{ℕ, zero, suc, ◌+◌, ◌<◌}
use mathlib.Core.Path.{◌≡◌, refl, sym, subst, ◌∙◌}
use mathlib.Core.List.{List}
use mathlib.Core.Bool.{true, false, not, true≢false, false≢true}
use mathlib.Core.Logic.{◌⊎◌, inl, inr, ⊎_elim}
use native.Mathlib.Omega.{arith}
use lib.Dec.{eqb, ltb}
use borrow.Author.Tests.{lt-ltb, eqb-true, eq-eqb, not-true}
use Rattle.base_finite.proofs.Laws.{by_bool, and_both, and_intro, any_false, not_holding}
use Rattle.graph.specs.Graph.{Edge, Graph, entered, left, parent, top, root, leaf, own, leaf_of, TreeEdge, Path, one, more, rises, cyclic}
use Rattle.graph.specs.Order.{adding}
use Rattle.theory_edges.proofs.Edges.{entered_of_among, left_of_among, left_found, parent_among, parent_only}
use Rattle.theory_edges.proofs.Cyclic.{cycle_of_cyclic}
use Rattle.theory_edges.proofs.Ends.{leaf_below, root_below}
use Rattle.theory_forest.specs.Shape.{Shaped}
use Rattle.theory_forest.proofs.Closure.{path_cons, path_within}

-- leaves and roots

pub leaf_childless : (g : Graph) (l c : ℕ) → leaf g l ≡ true → TreeEdge g l c → ⊥
unfolding leaf
leaf_childless g l c h e =
    let b = and_both (ltb l g.nodes) (not (left g.tree l)) h in
    true≢false (sym (left_of_among g.tree l c e) ∙ not-true (left g.tree l) b.1)

pub root_unentered : (g : Graph) (r : ℕ) → root g r ≡ true → entered g.tree r ≡ false
unfolding root
root_unentered g r h = not-true (entered g.tree r) (and_both (ltb r g.nodes) (not (entered g.tree r)) h).1

pub root_parentless : (g : Graph) (p r : ℕ) → root g r ≡ true → TreeEdge g p r → ⊥
root_parentless g p r h e = true≢false (sym (entered_of_among g.tree p r e) ∙ root_unentered g r h)

pub childless_leaf : (g : Graph) (v : ℕ) → v < g.nodes → left g.tree v ≡ false → leaf g v ≡ true
unfolding leaf
childless_leaf g v h k = rw (lt-ltb v g.nodes h, k)

pub parentless_root : (g : Graph) (v : ℕ) → v < g.nodes → entered g.tree v ≡ false → root g v ≡ true
unfolding root
parentless_root g v h k = rw (lt-ltb v g.nodes h, k)

-- a node is not both
pub leaf_not_root : (g : Graph) → Shaped g → (v : ℕ) → leaf g v ≡ true → root g v ≡ true → ⊥
unfolding leaf
leaf_not_root g s v h k =
    let b = and_both (ltb v g.nodes) (not (left g.tree v)) h in
    let free : left g.tree v ≡ false = not-true (left g.tree v) b.1 in
    false≢true (rw (root_unentered g v k, free) at (s.on_tree_edge v (leaf_below g v h)))

-- up to the root

-- no node has as many edges above it as there are nodes
not_rising : (g : Graph) → Shaped g → (v : ℕ) → v < g.nodes → rises g.nodes g.tree v ≡ false
unfolding cyclic
not_rising g s v h =
    let none : cyclic g ≡ false = not_holding (cyclic g) (λ t. let c = cycle_of_cyclic g s.tree_within t in s.no_tree_cycle c.0 c.1) in
    any_false g.nodes (rises g.nodes g.tree) none v h

top_unentered : (k : ℕ) (es : List Edge) (v : ℕ) → rises k es v ≡ false → entered es (top k es v) ≡ false
unfolding rises top
top_unentered zero es v h = absurd (true≢false h)
top_unentered (suc k) es v h =
    by_bool (entered es v)
    (λ (t : entered es v ≡ true). rw t (top_unentered k es (parent es v) (rw t at h)))
    (λ (t : entered es v ≡ false). rw t t)

-- where the root is reached, further steps change nothing
top_more : (k : ℕ) (es : List Edge) (v : ℕ) → rises k es v ≡ false → top (suc k) es v ≡ top k es v
unfolding rises top
top_more zero es v h = absurd (true≢false h)
top_more (suc k) es v h =
    by_bool (entered es v)
    (λ (t : entered es v ≡ true). rw t (top_more k es (parent es v) (rw t at h)))
    (λ (t : entered es v ≡ false). rw t)

top_stays : (k : ℕ) (es : List Edge) (v : ℕ) → entered es v ≡ false → top k es v ≡ v
unfolding top
top_stays zero es v h = refl
top_stays (suc k) es v h = rw h

top_above : (g : Graph) (k v : ℕ) → (top k g.tree v ≡ v) ⊎ Path (TreeEdge g) (top k g.tree v) v
unfolding top
top_above g zero v = inl refl
top_above g (suc k) v =
    by_bool (entered g.tree v)
    (λ (t : entered g.tree v ≡ true).
    let u : ℕ = parent g.tree v in
    let e : TreeEdge g u v = parent_among g.tree v t in
    let w : ℕ = top k g.tree u in
    let p : Path (TreeEdge g) w v = ⊎_elim (λ (i : w ≡ u). subst (λ (z : ℕ). Path (TreeEdge g) z v) (sym i) (one e)) (λ (q : Path (TreeEdge g) w u). more q e) (top_above g k u) in
    rw t (inr p))
    (λ (t : entered g.tree v ≡ false). rw t (inl refl))

pub own_above : (g : Graph) (v : ℕ) → (own g v ≡ v) ⊎ Path (TreeEdge g) (own g v) v
unfolding own
own_above g v = top_above g g.nodes v

pub own_within : (g : Graph) → Shaped g → (v : ℕ) → v < g.nodes → own g v < g.nodes
own_within g s v h =
    ⊎_elim
    (λ (i : own g v ≡ v). rw i h)
    (λ (p : Path (TreeEdge g) (own g v) v). (path_within g.nodes s.tree_within p).0)
    (own_above g v)

pub own_root : (g : Graph) → Shaped g → (v : ℕ) → v < g.nodes → root g (own g v) ≡ true
unfolding own
own_root g s v h = parentless_root g (own g v) (own_within g s v h) (top_unentered g.nodes g.tree v (not_rising g s v h))

pub own_of_root : (g : Graph) (r : ℕ) → root g r ≡ true → own g r ≡ r
unfolding own
own_of_root g r h = top_stays g.nodes g.tree r (root_unentered g r h)

-- one step up
top_edge : (k : ℕ) (g : Graph) (p c : ℕ) → Shaped g → TreeEdge g p c → rises k g.tree c ≡ false → top k g.tree c ≡ top k g.tree p
unfolding top rises
top_edge zero g p c s e r = absurd (true≢false r)
top_edge (suc k) g p c s e r =
    let t : entered g.tree c ≡ true = entered_of_among g.tree p c e in
    let i : parent g.tree c ≡ p = sym (parent_only g.tree p c s.one_parent e) in
    let free : rises k g.tree p ≡ false = rw (t, i) at r in
    rw (t, i) (sym (top_more k g.tree p free))

pub own_edge : (g : Graph) → Shaped g → (p c : ℕ) → TreeEdge g p c → own g c ≡ own g p
unfolding own
own_edge g s p c e =
    top_edge g.nodes g p c s e (not_rising g s c (s.tree_within p c e).1)

pub own_path : (g : Graph) → Shaped g → {u v : ℕ} → Path (TreeEdge g) u v → own g v ≡ own g u
own_path g s (one {u = u} {v = v} e) = own_edge g s u v e
own_path g s (more {v = u} {w = v} p e) = own_edge g s u v e ∙ own_path g s p

-- down to a leaf

descend : (g : Graph) → Shaped g → (k j v : ℕ) → v < g.nodes → rises j g.tree v ≡ true → k + j ≡ g.nodes → (x : ℕ) × (leaf g x ≡ true) × ((x ≡ v) ⊎ Path (TreeEdge g) v x)
unfolding rises
descend g s zero j v h r e =
    let i : j ≡ g.nodes = omega arith in
    absurd (true≢false (sym (subst (λ (m : ℕ). rises m g.tree v ≡ true) i r) ∙ not_rising g s v h))
descend g s (suc k) j v h r e =
    by_bool (left g.tree v)
    (λ (t : left g.tree v ≡ true).
    let f = left_found g.tree v t in
    let c : ℕ = f.0 in
    let d : TreeEdge g v c = f.1 in
    let up : rises j g.tree (parent g.tree c) ≡ true = rw (parent_only g.tree v c s.one_parent d) at r in
    let w = descend g s k (suc j) c (s.tree_within v c d).1 (and_intro (entered g.tree c) (rises j g.tree (parent g.tree c)) (entered_of_among g.tree v c d) up) (omega arith) in
    (w.0, w.1, inr (⊎_elim (λ (i : w.0 ≡ c). rw i (one d)) (λ (p : Path (TreeEdge g) c w.0). path_cons d p) w.2)))
    (λ (t : left g.tree v ≡ false). (v, childless_leaf g v h t, inl refl))

-- a leaf at v or below it
pub leaf_under : (g : Graph) → Shaped g → (v : ℕ) → v < g.nodes → (x : ℕ) × (leaf g x ≡ true) × ((x ≡ v) ⊎ Path (TreeEdge g) v x)
unfolding rises
leaf_under g s v h = descend g s g.nodes 0 v h refl (omega arith)

pub leaf_of_parts : (g : Graph) (r x : ℕ) → leaf_of g r x ≡ true → (leaf g x ≡ true) × (own g x ≡ r)
unfolding leaf_of
leaf_of_parts g r x h =
    let b = and_both (leaf g x) (eqb (own g x) r) h in
    (b.0, eqb-true (own g x) r b.1)

pub leaf_of_intro : (g : Graph) (r x : ℕ) → leaf g x ≡ true → own g x ≡ r → leaf_of g r x ≡ true
unfolding leaf_of
leaf_of_intro g r x h e = rw (h, eq-eqb (own g x) r e)

-- each root has a leaf in its fragment, with tree edges down to it
pub root_leaf : (g : Graph) → Shaped g → (r : ℕ) → root g r ≡ true → (x : ℕ) × (leaf_of g r x ≡ true) × Path (TreeEdge g) r x
root_leaf g s r h =
    let w = leaf_under g s r (root_below g r h) in
    ⊎_elim
    (λ (i : w.0 ≡ r). absurd (leaf_not_root g s r (rw i at w.1) h))
    (λ (p : Path (TreeEdge g) r w.0). (w.0, leaf_of_intro g r w.0 w.1 (own_path g s p ∙ own_of_root g r h), p))
    w.2

-- a leaf lies below its own root
pub leaf_below_own : (g : Graph) → Shaped g → (l : ℕ) → leaf g l ≡ true → Path (TreeEdge g) (own g l) l
leaf_below_own g s l h =
    ⊎_elim
    (λ (i : own g l ≡ l). absurd (leaf_not_root g s l h (rw i at (own_root g s l (leaf_below g l h)))))
    (λ (p : Path (TreeEdge g) (own g l) l). p)
    (own_above g l)

-- an edge added or removed

pub root_adding : (g : Graph) (l r v : ℕ) → root (adding g l r) v ≡ root g v
unfolding adding root
root_adding g l r v = refl

pub leaf_adding : (g : Graph) (l r v : ℕ) → leaf (adding g l r) v ≡ leaf g v
unfolding adding leaf
leaf_adding g l r v = refl
