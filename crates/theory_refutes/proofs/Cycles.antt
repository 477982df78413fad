-- What the test `hypernormal_cycle` says, as facts: there are two nodes or more, no two places hold one node, each node
-- is joined to the next, no two places hold one edge, and a leaf has a dominance edge of the cycle at one place at most.
-- Each "no two places" is stated as: places that agree are equal.
use Prim.Native.Nat.{ℕ, ◌≤◌, ◌<◌, ◌%◌}
use mathlib.Core.Path.{◌≡◌, sym, ◌∙◌}
use mathlib.Core.List.{List}
use mathlib.Core.Bool.{Bool, true, false, not, ◌&&◌, ◌||◌, true≢false}
use mathlib.Core.Logic.{◌⊎◌, inl, inr, ⊎_elim, ◌↔◌}
use native.Mathlib.Omega.{arith}
use lib.Dec.{eqb, ltb, leb}
use lib.ListN.{length}
use borrow.Author.Tests.{eqb-true, eq-eqb, leb-true, ltb-true, ltb-false, not-true}
use Rattle.base_finite.specs.Below.{all, count}
use Rattle.base_finite.proofs.Bounds.{count_single}
use Rattle.base_finite.proofs.Laws.{by_bool, or_cases, and_both, all_at}
use Rattle.graph.specs.Graph.{Graph, among, leaf, TreeEdge, DominanceEdge}
use Rattle.graph.specs.Cycle.{pairs, node, kind, next, joined, same_edge, cycle, dominance_at, hypernormal, hypernormal_cycle}
use Rattle.theory_edges.proofs.Ends.{leaf_below}
use Rattle.theory_forest.specs.Shape.{Shaped}
use Rattle.theory_forest.proofs.Table.{or_holds, and_holds, eqb_holds, graph_edge_within}

-- edges

-- the edges at i and at j are of one kind and between the same nodes
abbrev pub SameEdge : List ℕ → ℕ → ℕ → Type 0
SameEdge bs i j =
    (kind bs i ≡ kind bs j)
    × (((node bs i ≡ node bs j) × (next bs i ≡ next bs j)) ⊎ ((node bs i ≡ next bs j) × (next bs i ≡ node bs j)))

pub same_edge_lem : (bs : List ℕ) (i j : ℕ) → (same_edge bs i j ≡ true) ↔ SameEdge bs i j
unfolding same_edge
same_edge_lem bs i j =
    let n : ℕ = node bs i in
    let m : ℕ = node bs j in
    let x : ℕ = next bs i in
    let y : ℕ = next bs j in
    and_holds (eqb (kind bs i) (kind bs j)) (eqb n m && eqb x y || eqb n y && eqb x m) (eqb_holds (kind bs i) (kind bs j))
    (or_holds (eqb n m && eqb x y) (eqb n y && eqb x m)
    (and_holds (eqb n m) (eqb x y) (eqb_holds n m) (eqb_holds x y))
    (and_holds (eqb n y) (eqb x m) (eqb_holds n y) (eqb_holds x m)))

same_edge_sym : (bs : List ℕ) (i j : ℕ) → SameEdge bs i j → SameEdge bs j i
same_edge_sym bs i j e = (
  sym e.0,
  ⊎_elim
      (λ (s : (node bs i ≡ node bs j) × (next bs i ≡ next bs j)). inl (sym s.0, sym s.1))
      (λ (s : (node bs i ≡ next bs j) × (next bs i ≡ node bs j)). inr (sym s.1, sym s.0))
      e.1,
)

-- u and v are joined by a tree edge, either way, or by a dominance edge, either way
abbrev pub Joined : Graph → ℕ → ℕ → ℕ → Type 0
Joined g k u v =
    ((k ≡ 2) × (TreeEdge g u v ⊎ TreeEdge g v u)) ⊎ ((k ≡ 3) × (DominanceEdge g u v ⊎ DominanceEdge g v u))

-- what is joined are nodes
pub joined_below : (g : Graph) → Shaped g → (k u v : ℕ) → Joined g k u v → u < g.nodes
joined_below g s k u v (inl (e, inl d)) = (graph_edge_within g s u v (inl d)).0
joined_below g s k u v (inl (e, inr d)) = (graph_edge_within g s v u (inl d)).1
joined_below g s k u v (inr (e, inl d)) = (graph_edge_within g s u v (inr d)).0
joined_below g s k u v (inr (e, inr d)) = (graph_edge_within g s v u (inr d)).1

pub joined_cases : (g : Graph) (k u v : ℕ) → joined g k u v ≡ true → Joined g k u v
unfolding joined
joined_cases g k u v =
    by_bool (eqb k 2)
    (λ (t : eqb k 2 ≡ true).
    rw t (λ h. inl (eqb-true k 2 t, or_cases (among g.tree u v) (among g.tree v u) h)))
    (λ (t : eqb k 2 ≡ false).
    rw t (λ h.
    let b = and_both (eqb k 3) (among g.dominance u v || among g.dominance v u) h in
    inr (eqb-true k 3 b.0, or_cases (among g.dominance u v) (among g.dominance v u) b.1)))

-- a test that fails at each pair of different places below n, the lower one second
apart : (n : ℕ) (r : ℕ → ℕ → Bool) → all n (λ i. all i (λ j. not (r i j))) ≡ true → (i j : ℕ) → i < n → j < i → r i j ≡ true → ⊥
apart n r h i j l k t =
    let row = all_at n (λ i. all i (λ j. not (r i j))) h i l in
    true≢false (sym t ∙ not-true (r i j) (all_at i (λ j. not (r i j)) row j k))

-- a symmetric relation that holds of no place and a lower one holds of equal places only
pub equal_places : (n : ℕ) (R : ℕ → ℕ → Type 0) → ((i j : ℕ) → i < n → j < i → R i j → ⊥) → ((i j : ℕ) → R i j → R j i) → (i j : ℕ) → i < n → j < n → R i j → i ≡ j
equal_places n R f s i j hi hj r =
    by_bool (ltb j i)
    (λ (t : ltb j i ≡ true). absurd (f i j hi (ltb-true j i t) r))
    (λ (t : ltb j i ≡ false).
    by_bool (ltb i j)
    (λ (u : ltb i j ≡ true). absurd (f j i hj (ltb-true i j u) (s i j r)))
    (λ (u : ltb i j ≡ false). omega (arith, ltb-false j i t, ltb-false i j u)))

-- the facts

pub record CycleFacts (g : Graph) (bs : List ℕ) : Type 0 where
  pub two : 2 ≤ pairs bs
  pub one_place : (i j : ℕ) → i < pairs bs → j < pairs bs → node bs i ≡ node bs j → i ≡ j
  pub joins : (i : ℕ) → i < pairs bs → Joined g (kind bs i) (node bs i) (next bs i)
  pub one_edge : (i j : ℕ) → i < pairs bs → j < pairs bs → SameEdge bs i j → i ≡ j

pub cycle_facts : (g : Graph) (bs : List ℕ) → cycle g bs ≡ true → CycleFacts g bs
unfolding cycle
cycle_facts g bs h =
    let c : ℕ = pairs bs in
    let nodes : Bool = all c (λ i. all i (λ j. not (eqb (node bs i) (node bs j)))) in
    let joints : Bool = all c (λ i. joined g (kind bs i) (node bs i) (next bs i)) in
    let edges : Bool = all c (λ i. all i (λ j. not (same_edge bs i j))) in
    let even : Bool = eqb (length bs % 2) 0 in
    let h4 = and_both (even && leb 2 c && nodes && joints) edges h in
    let h3 = and_both (even && leb 2 c && nodes) joints h4.0 in
    let h2 = and_both (even && leb 2 c) nodes h3.0 in
    let h1 = and_both even (leb 2 c) h2.0 in
    record {
      two = leb-true 2 c h1.1;
      one_place =
          equal_places c (λ i j. node bs i ≡ node bs j)
          (λ i j l k e. apart c (λ i j. eqb (node bs i) (node bs j)) h2.1 i j l k (eq-eqb (node bs i) (node bs j) e))
          (λ i j e. sym e);
      joins = λ i l. joined_cases g (kind bs i) (node bs i) (next bs i) (all_at c (λ i. joined g (kind bs i) (node bs i) (next bs i)) h3.1 i l);
      one_edge =
          equal_places c (SameEdge bs)
          (λ i j l k e. apart c (same_edge bs) h4.1 i j l k ((same_edge_lem bs i j).1 e))
          (same_edge_sym bs);
    }

-- the edge at i is a dominance edge that starts or ends at x
abbrev pub DominanceAt : List ℕ → ℕ → ℕ → Type 0
DominanceAt bs x i = (kind bs i ≡ 3) × ((node bs i ≡ x) ⊎ (next bs i ≡ x))

pub dominance_at_lem : (bs : List ℕ) (x i : ℕ) → (dominance_at bs x i ≡ true) ↔ DominanceAt bs x i
unfolding dominance_at
dominance_at_lem bs x i =
    and_holds (eqb (kind bs i) 3) (eqb (node bs i) x || eqb (next bs i) x) (eqb_holds (kind bs i) 3)
    (or_holds (eqb (node bs i) x) (eqb (next bs i) x) (eqb_holds (node bs i) x) (eqb_holds (next bs i) x))

pub hypernormal_leaf : (g : Graph) (bs : List ℕ) → hypernormal g bs ≡ true → (x i j : ℕ) → leaf g x ≡ true → i < pairs bs → j < pairs bs → DominanceAt bs x i → DominanceAt bs x j → i ≡ j
unfolding hypernormal
hypernormal_leaf g bs h x i j l hi hj a b =
    let c : ℕ = count (pairs bs) (dominance_at bs x) in
    let t : (not (leaf g x) || leb c 1) ≡ true = all_at g.nodes (λ x. not (leaf g x) || leb (count (pairs bs) (dominance_at bs x)) 1) h x (leaf_below g x l) in
    let few : leb c 1 ≡ true = rw l at t in
    count_single (pairs bs) (dominance_at bs x) i j (leb-true c 1 few) hi hj ((dominance_at_lem bs x i).1 a) ((dominance_at_lem bs x j).1 b)

-- both at once
pub hypernormal_cycle_lem : (g : Graph) (bs : List ℕ) → hypernormal_cycle g bs ≡ true → (cycle g bs ≡ true) × (hypernormal g bs ≡ true)
unfolding hypernormal_cycle
hypernormal_cycle_lem g bs h = and_both (cycle g bs) (hypernormal g bs) h
