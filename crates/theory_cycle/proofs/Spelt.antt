-- When bytes spell a simple hypernormal cycle: their nodes are all different, each step is a tree edge or an edge of M,
-- and the last node is joined to the first by one more edge, from l to r, that is not of M; and at most one edge, be it
-- of M or the closing one, starts at each leaf. Two edges of such a cycle are different: only with two nodes could
-- they join the same two, and then one of them is no dominance edge. Two dominance edges at one leaf would start there,
-- so they would be one edge.
use Prim.Native.Nat.{ℕ, ◌+◌, ◌≤◌, ◌<◌, ◌%◌}
use mathlib.Core.Path.{◌≡◌, sym, subst, ◌∙◌}
use mathlib.Core.List.{List}
use mathlib.Core.Bool.{true, false, not, ◌||◌}
use mathlib.Core.Logic.{◌⊎◌, inl, inr, ⊎_elim}
use native.Mathlib.Omega.{arith}
use lib.Dec.{eqb, leb}
use lib.ListN.{length}
use borrow.Author.Tests.{eqb-true, le-leb}
use Rattle.base_finite.specs.Below.{count}
use Rattle.base_finite.proofs.Laws.{by_bool, or_left, or_right, all_every}
use Rattle.graph.specs.Graph.{Graph, among, leaf, TreeEdge, DominanceEdge}
use Rattle.graph.specs.Cycle.{pairs, node, kind, next, joined, same_edge, cycle, dominance_at, hypernormal, hypernormal_cycle}
use Rattle.base_finite.proofs.Counting.{count_one, all_apart}
use Rattle.theory_forest.specs.Shape.{Shaped}
use Rattle.theory_forest.proofs.Closure.{Adding}
use Rattle.theory_forest.proofs.Fragments.{leaf_not_root}
use Rattle.theory_refutes.proofs.Cycles.{same_edge_lem, dominance_at_lem}
use Rattle.theory_refutes.proofs.Places.{next_inner, next_last, place_cases, edges_differ}
use Rattle.theory_cycle.proofs.Trails.{EitherWay}

-- an edge of kind k, taken either way: of the tree, or of M
abbrev pub Step : Graph → (ℕ → ℕ → Type 0) → ℕ → ℕ → ℕ → Type 0
Step g M k u v = ((k ≡ 2) × EitherWay (TreeEdge g) u v) ⊎ ((k ≡ 3) × EitherWay M u v)

step_map : (g : Graph) (M N : ℕ → ℕ → Type 0) → ((x y : ℕ) → M x y → N x y) → (k u v : ℕ) → Step g M k u v → Step g N k u v
step_map g M N f k u v (inl t) = inl t
step_map g M N f k u v (inr (e, inl m)) = inr (e, inl (f u v m))
step_map g M N f k u v (inr (e, inr m)) = inr (e, inr (f v u m))

-- the edge from l to r and no other
abbrev pub Only : ℕ → ℕ → ℕ → ℕ → Type 0
Only l r x y = (x ≡ l) × (y ≡ r)

pub record Spelt (g : Graph) (M : ℕ → ℕ → Type 0) (l r : ℕ) (bs : List ℕ) : Type 0 where
  pub even : length bs % 2 ≡ 0
  pub two : 2 ≤ pairs bs
  pub different : (i j : ℕ) → i < pairs bs → j < i → node bs i ≡ node bs j → ⊥
  pub steps : (i : ℕ) → i + 1 < pairs bs → Step g M (kind bs i) (node bs i) (node bs (i + 1))
  pub closing_kind : (i : ℕ) → i + 1 ≡ pairs bs → kind bs i ≡ 3
  pub closing : (i : ℕ) → i + 1 ≡ pairs bs → EitherWay (Only l r) (node bs i) (node bs 0)

-- edges of g from leaves, one at most from each, and one more of them from a leaf that M has none from
pub record Sparse (g : Graph) (M : ℕ → ℕ → Type 0) (l r : ℕ) : Type 0 where
  pub inside : (x y : ℕ) → M x y → DominanceEdge g x y
  pub one_from : (x y z : ℕ) → M x y → M x z → y ≡ z
  pub edge : DominanceEdge g l r
  pub none_from : (y : ℕ) → M l y → ⊥

joined_step : (g : Graph) (k u v : ℕ) → Step g (DominanceEdge g) k u v → joined g k u v ≡ true
unfolding joined
joined_step g k u v (inl (e, inl t)) = rw e (or_left (among g.tree u v) (among g.tree v u) t)
joined_step g k u v (inl (e, inr t)) = rw e (or_right (among g.tree u v) (among g.tree v u) t)
joined_step g k u v (inr (e, inl t)) = rw e (or_left (among g.dominance u v) (among g.dominance v u) t)
joined_step g k u v (inr (e, inr t)) = rw e (or_right (among g.dominance u v) (among g.dominance v u) t)

module _ (g : Graph) (s : Shaped g) (M : ℕ → ℕ → Type 0) (l r : ℕ) (k : Sparse g M l r) where
  -- M and the closing edge

  whole_edge : (x y : ℕ) → Adding M l r x y → DominanceEdge g x y
  whole_edge x y (inl m) = k.inside x y m
  whole_edge x y (inr e) = rw (e.0, e.1) k.edge

  whole_one : (x y z : ℕ) → Adding M l r x y → Adding M l r x z → y ≡ z
  whole_one x y z (inl m) (inl n) = k.one_from x y z m n
  whole_one x y z (inl m) (inr e) = absurd (k.none_from y (subst (λ (w : ℕ). M w y) e.0 m))
  whole_one x y z (inr e) (inl m) = absurd (k.none_from z (subst (λ (w : ℕ). M w z) e.0 m))
  whole_one x y z (inr e) (inr d) = e.1 ∙ sym d.1

  -- a dominance edge at a leaf starts there
  from_leaf : (x u v : ℕ) → leaf g x ≡ true → EitherWay (Adding M l r) u v → (u ≡ x) ⊎ (v ≡ x)
      → ((u ≡ x) × Adding M l r x v) ⊎ ((v ≡ x) × Adding M l r x u)
  from_leaf x u v h (inl m) (inl e) = inl (e, subst (λ (w : ℕ). Adding M l r w v) e m)
  from_leaf x u v h (inr m) (inr e) = inr (e, subst (λ (w : ℕ). Adding M l r w u) e m)
  from_leaf x u v h (inl m) (inr e) = absurd (leaf_not_root g s x h (rw (sym e) (s.leaf_to_root u v (whole_edge u v m)).1))
  from_leaf x u v h (inr m) (inl e) = absurd (leaf_not_root g s x h (rw (sym e) (s.leaf_to_root v u (whole_edge v u m)).1))

  -- M does not join l and r
  not_joined : (u v : ℕ) → EitherWay (Only l r) u v → EitherWay M u v → ⊥
  not_joined u v (inl e) (inl m) = k.none_from v (subst (λ (w : ℕ). M w v) e.0 m)
  not_joined u v (inr e) (inr m) = k.none_from u (subst (λ (w : ℕ). M w u) e.0 m)
  not_joined u v (inl e) (inr m) =
      leaf_not_root g s v (s.leaf_to_root v u (k.inside v u m)).0 (rw e.1 (s.leaf_to_root l r k.edge).1)
  not_joined u v (inr e) (inl m) =
      leaf_not_root g s u (s.leaf_to_root u v (k.inside u v m)).0 (rw e.1 (s.leaf_to_root l r k.edge).1)

  module _ (bs : List ℕ) (c : Spelt g M l r bs) where
    -- the edge to the next node
    step_at_lem : (i : ℕ) → i < pairs bs → Step g (Adding M l r) (kind bs i) (node bs i) (next bs i)
    step_at_lem i h =
        ⊎_elim
        (λ (e : i + 1 ≡ pairs bs).
        rw (next_last bs i e) (step_map g (Only l r) (Adding M l r) (λ x y q. inr q) (kind bs i) (node bs i) (node bs 0) (inr (c.closing_kind i e, c.closing i e))))
        (λ (d : i + 1 < pairs bs).
        rw (next_inner bs i d) (step_map g M (Adding M l r) (λ x y m. inl m) (kind bs i) (node bs i) (node bs (i + 1)) (c.steps i d)))
        (place_cases bs i h)

    joined_at : (i : ℕ) → i < pairs bs → joined g (kind bs i) (node bs i) (next bs i) ≡ true
    joined_at i h =
        joined_step g (kind bs i) (node bs i) (next bs i)
        (step_map g (Adding M l r) (DominanceEdge g) whole_edge (kind bs i) (node bs i) (next bs i) (step_at_lem i h))

    -- two nodes only, joined both ways by edges of one kind
    not_two : pairs bs ≡ 2 → kind bs 1 ≡ kind bs 0 → ⊥
    not_two e q =
        let three : kind bs 1 ≡ 3 = c.closing_kind 1 (sym e) in
        let far : EitherWay (Only l r) (node bs 0) (node bs 1) = ⊎_elim inr inl (c.closing 1 (sym e)) in
        ⊎_elim
        (λ (t : (kind bs 0 ≡ 2) × EitherWay (TreeEdge g) (node bs 0) (node bs 1)). omega arith)
        (λ (t : (kind bs 0 ≡ 3) × EitherWay M (node bs 0) (node bs 1)). not_joined (node bs 0) (node bs 1) far t.1)
        (c.steps 0 (omega arith))

    -- the dominance edge at i starts from the leaf x, and where it goes to
    from_leaf_at : (x i : ℕ) → leaf g x ≡ true → i < pairs bs → dominance_at bs x i ≡ true
        → ((node bs i ≡ x) × Adding M l r x (next bs i)) ⊎ ((next bs i ≡ x) × Adding M l r x (node bs i))
    from_leaf_at x i f h t =
        let three : kind bs i ≡ 3 = ((dominance_at_lem bs x i).0 t).0 in
        ⊎_elim
        (λ (q : (kind bs i ≡ 2) × EitherWay (TreeEdge g) (node bs i) (next bs i)). absurd (omega arith))
        (λ (q : (kind bs i ≡ 3) × EitherWay (Adding M l r) (node bs i) (next bs i)). from_leaf x (node bs i) (next bs i) f q.1 ((dominance_at_lem bs x i).0 t).1)
        (step_at_lem i h)

    one_at_leaf : (x : ℕ) → leaf g x ≡ true → (i j : ℕ) → i < pairs bs → j < i → dominance_at bs x i ≡ true → dominance_at bs x j ≡ true → ⊥
    one_at_leaf x f i j h d t u =
        edges_differ bs c.different not_two i j h d (((dominance_at_lem bs x i).0 t).0 ∙ sym ((dominance_at_lem bs x j).0 u).0, same_ends (from_leaf_at x i f h t) (from_leaf_at x j f (omega arith) u))
      where
        same_ends : ((node bs i ≡ x) × Adding M l r x (next bs i)) ⊎ ((next bs i ≡ x) × Adding M l r x (node bs i))
            → ((node bs j ≡ x) × Adding M l r x (next bs j)) ⊎ ((next bs j ≡ x) × Adding M l r x (node bs j))
            → ((node bs i ≡ node bs j) × (next bs i ≡ next bs j)) ⊎ ((node bs i ≡ next bs j) × (next bs i ≡ node bs j))
        same_ends (inl a) (inl b) = inl (a.0 ∙ sym b.0, whole_one x (next bs i) (next bs j) a.1 b.1)
        same_ends (inl a) (inr b) = inr (a.0 ∙ sym b.0, whole_one x (next bs i) (node bs j) a.1 b.1)
        same_ends (inr a) (inl b) = inr (whole_one x (node bs i) (next bs j) a.1 b.1, a.0 ∙ sym b.0)
        same_ends (inr a) (inr b) = inl (whole_one x (node bs i) (node bs j) a.1 b.1, a.0 ∙ sym b.0)

    spelt_cycle : cycle g bs ≡ true
    unfolding cycle
    spelt_cycle =
        let nodes = all_apart (pairs bs) (λ i j. eqb (node bs i) (node bs j)) (λ i j h d t. c.different i j h d (eqb-true (node bs i) (node bs j) t)) in
        let joints = all_every (pairs bs) (λ i. joined g (kind bs i) (node bs i) (next bs i)) joined_at in
        let edges = all_apart (pairs bs) (same_edge bs) (λ i j h d t. edges_differ bs c.different not_two i j h d ((same_edge_lem bs i j).0 t)) in
        rw (c.even, le-leb 2 (pairs bs) c.two, nodes, joints, edges)

    spelt_leaves : hypernormal g bs ≡ true
    unfolding hypernormal
    spelt_leaves =
        all_every g.nodes (λ x. not (leaf g x) || leb (count (pairs bs) (dominance_at bs x)) 1) (λ x b.
        let c : ℕ = count (pairs bs) (dominance_at bs x) in
        by_bool (leaf g x)
        (λ (t : leaf g x ≡ true). or_right (not (leaf g x)) (leb c 1) (le-leb c 1 (count_one (pairs bs) (dominance_at bs x) (one_at_leaf x t))))
        (λ (t : leaf g x ≡ false). rw t))

    pub spelt_hypernormal : hypernormal_cycle g bs ≡ true
    unfolding hypernormal_cycle
    spelt_hypernormal = rw (spelt_cycle, spelt_leaves)
