-- A simple hypernormal cycle excludes a solved form (Theorem 6.2, from cycle to refusal), for trees of any height.
-- Neighbours on the cycle are comparable in a solved form. A walk whose neighbours are comparable has a topmost node, so
-- the cycle has one, x, and its other nodes, a walk too, have a topmost one, t, strictly below x. Both edges of x on the
-- cycle lead down, so they go out of x. Two dominance edges of a leaf are too many, and a leaf has no tree edge. Two tree
-- edges go to children of x at or below t, so both go to t: they are one edge, at two places of the cycle.
use Prim.Native.Nat.{ℕ, zero, suc, ◌+◌, ◌-◌, ◌≤◌, ◌<◌, ◌%◌}
use mathlib.Core.Path.{◌≡◌, refl, sym, ap, subst, ◌∙◌}
use mathlib.Core.List.{List}
use mathlib.Core.Bool.{true, false}
use mathlib.Core.Logic.{◌⊎◌, inl, inr, ⊎_elim, ⊎_map, ⊎_swap}
use native.Mathlib.Nat.{mod-lt, mod-eq_of_lt, mod-mod, mod-add-mod, add-mod_right, eq-or-lt_of_le}
use native.Mathlib.Numerals.{add-one}
use native.Mathlib.Omega.{arith}
use lib.Dec.{ltb}
use borrow.Author.Tests.{ltb-true, ltb-false}
use Rattle.base_finite.proofs.Laws.{by_bool}
use Rattle.graph.specs.Graph.{Graph, TreeEdge, DominanceEdge, Path, one, WellFormed}
use Rattle.graph.specs.Placing.{PlacingEdge, Below, Forest, SolvedForm, Solvable}
use Rattle.graph.specs.Cycle.{pairs, node, kind, next, hypernormal, hypernormal_cycle}
use Rattle.theory_forest.specs.Shape.{Shaped}
use Rattle.theory_forest.proofs.Shape.{well_formed_shaped}
use Rattle.theory_forest.proofs.Closure.{path_trans}
use Rattle.theory_forest.proofs.Fragments.{leaf_childless}
use Rattle.theory_forest.proofs.Forests.{Comparable, AtOrAbove, above_parent, chain, asymmetric, irreflexive_path}
use Rattle.theory_refutes.proofs.Cycles.{Joined, CycleFacts, cycle_facts, hypernormal_leaf, hypernormal_cycle_lem}

-- walks in a forest

above_trans : {E : ℕ → ℕ → Type 0} {x y z : ℕ} → Path E x y → AtOrAbove E y z → Path E x z
above_trans {E} {x} p (inl i) = subst (λ (w : ℕ). Path E x w) i p
above_trans p (inr q) = path_trans p q

either_way : {E : ℕ → ℕ → Type 0} {x z : ℕ} → Comparable E x z → AtOrAbove E x z ⊎ Path E z x
either_way (inl i) = inl (inl i)
either_way (inr (inl p)) = inl (inr p)
either_way (inr (inr p)) = inr p

module _ {E : ℕ → ℕ → Type 0} (f : Forest E) where
  -- z is comparable with a node that x is at or above
  either_above : {x y z : ℕ} → AtOrAbove E x y → Comparable E y z → AtOrAbove E x z ⊎ Path E z x
  either_above {x} {y} {z} (inl i) c = either_way (subst (λ (w : ℕ). Comparable E w z) (sym i) c)
  either_above {x} {y} {z} (inr p) (inl i) = inl (inr (subst (λ (w : ℕ). Path E x w) i p))
  either_above {x} {y} {z} (inr p) (inr (inl q)) = inl (inr (path_trans p q))
  either_above {x} {y} {z} (inr p) (inr (inr q)) = either_way (chain f p q)

  -- a walk whose neighbours are comparable has a topmost node
  topmost : (w : ℕ → ℕ) → ((i : ℕ) → Comparable E (w i) (w (suc i))) → (m : ℕ) → (k : ℕ) × (k ≤ m) × ((i : ℕ) → i ≤ m → AtOrAbove E (w k) (w i))
  topmost w c zero = (0, omega arith, λ i l. let e : 0 ≡ i = omega arith in inl (ap w e))
  topmost w c (suc m) =
      let t = topmost w c m in
      let k : ℕ = t.0 in
      ⊎_elim
      (λ (a : AtOrAbove E (w k) (w (suc m))).
      (k, omega (arith, t.1), λ i l. ⊎_elim (λ (e : i ≡ suc m). subst (λ (j : ℕ). AtOrAbove E (w k) (w j)) (sym e) a) (λ (b : i < suc m). t.2 i (omega arith)) (eq-or-lt_of_le l)))
      (λ (p : Path E (w (suc m)) (w k)).
      (suc m, omega arith, λ i l. ⊎_elim (λ (e : i ≡ suc m). inl (ap w (sym e))) (λ (b : i < suc m). inr (above_trans p (t.2 i (omega arith)))) (eq-or-lt_of_le l)))
      (either_above (t.2 m (omega arith)) (c m))

  -- below x, a node at or above a child of x is that child
  child_is : {x y t : ℕ} → E x y → Path E x t → AtOrAbove E t y → t ≡ y
  child_is e p (inl i) = i
  child_is {x} {y} {t} e p (inr q) =
      ⊎_elim
      (λ (i : t ≡ x). absurd (irreflexive_path f p (sym i)))
      (λ (r : Path E t x). absurd (asymmetric f p r))
      (above_parent f e q)

-- the places of a cycle, one after the other

-- the node that i steps from the first lead to
abbrev walk : List ℕ → ℕ → ℕ
walk bs i = node bs (i % pairs bs)

walk_next : (bs : List ℕ) (i : ℕ) → next bs (i % pairs bs) ≡ walk bs (suc i)
walk_next bs i = ap (node bs) (mod-add-mod i (pairs bs) 1 ∙ ap (λ (k : ℕ). k % pairs bs) (add-one i))

-- fewer than n steps from k lead to another place than k
not_back : (n k i : ℕ) → k < n → suc i < n → (suc k + i) % n ≡ k → ⊥
not_back n k i hk hi e =
    by_bool (ltb (suc k + i) n)
    (λ (t : ltb (suc k + i) n ≡ true).
    let same : (suc k + i) % n ≡ suc k + i = mod-eq_of_lt (ltb-true (suc k + i) n t) in
    omega arith)
    (λ (t : ltb (suc k + i) n ≡ false).
    let far : n ≤ suc k + i = ltb-false (suc k + i) n t in
    let d : ℕ = suc k + i - n in
    let split : suc k + i ≡ d + n = omega arith in
    let small : d < n = omega arith in
    let same : (suc k + i) % n ≡ d = ap (λ (j : ℕ). j % n) split ∙ add-mod_right d n ∙ mod-eq_of_lt small in
    omega arith)

-- edges

not_tree_and_dominance : (g : Graph) → Shaped g → (x y z : ℕ) → TreeEdge g x y → DominanceEdge g x z → ⊥
not_tree_and_dominance g s x y z t d = leaf_childless g x y (s.leaf_to_root x z d).0 t

joined_sym : (g : Graph) (k u v : ℕ) → Joined g k u v → Joined g k v u
joined_sym g k u v = ⊎_map (λ x. (x.0, ⊎_swap x.1)) (λ x. (x.0, ⊎_swap x.1))

module _ (g : Graph) (p : List ℕ) (o : SolvedForm g p) where
  tree_down : {u v : ℕ} → TreeEdge g u v → Below g p u v
  tree_down t = one (inl t)

  dominance_down : {u v : ℕ} → DominanceEdge g u v → Below g p u v
  dominance_down {u} {v} d = o.contains u v (one (inr d))

  joined_comparable : (k u v : ℕ) → Joined g k u v → Comparable (PlacingEdge g p) u v
  joined_comparable k u v (inl (e, inl t)) = inr (inl (tree_down t))
  joined_comparable k u v (inl (e, inr t)) = inr (inr (tree_down t))
  joined_comparable k u v (inr (e, inl d)) = inr (inl (dominance_down d))
  joined_comparable k u v (inr (e, inr d)) = inr (inr (dominance_down d))

  -- an edge between x and a node below x goes out of x
  joined_down : (k x y : ℕ) → Joined g k x y → Below g p x y → ((k ≡ 2) × TreeEdge g x y) ⊎ ((k ≡ 3) × DominanceEdge g x y)
  joined_down k x y (inl (e, inl t)) b = inl (e, t)
  joined_down k x y (inl (e, inr t)) b = absurd (asymmetric o.is_forest b (tree_down t))
  joined_down k x y (inr (e, inl d)) b = inr (e, d)
  joined_down k x y (inr (e, inr d)) b = absurd (asymmetric o.is_forest b (dominance_down d))

-- the theorem

module _ (g : Graph) (bs p : List ℕ) (s : Shaped g) (o : SolvedForm g p) (c : CycleFacts g bs) (h : hypernormal g bs ≡ true) where
  -- the node at k, and the edges from j to k and from k on: they cannot both lead to t or below it, where t is below k's node
  cornered : (k j t : ℕ) → k < pairs bs → j < pairs bs → next bs j ≡ node bs k → Below g p (node bs k) t → AtOrAbove (PlacingEdge g p) t (next bs k) → AtOrAbove (PlacingEdge g p) t (node bs j) → ⊥
  cornered k j t hk hj e b a' a =
      ⊎_elim
      (λ (u : (kind bs k ≡ 2) × TreeEdge g x y).
      ⊎_elim
      (λ (v : (kind bs j ≡ 2) × TreeEdge g x z).
      let same : y ≡ z = sym (child_is f (inl u.1) b a') ∙ child_is f (inl v.1) b a in
      differ (c.one_edge k j hk hj (u.0 ∙ sym v.0, inr (sym e, same))))
      (λ (v : (kind bs j ≡ 3) × DominanceEdge g x z). not_tree_and_dominance g s x y z u.1 v.1)
      back)
      (λ (u : (kind bs k ≡ 3) × DominanceEdge g x y).
      ⊎_elim
      (λ (v : (kind bs j ≡ 2) × TreeEdge g x z). not_tree_and_dominance g s x z y v.1 u.1)
      (λ (v : (kind bs j ≡ 3) × DominanceEdge g x z).
      differ (hypernormal_leaf g bs h x k j (s.leaf_to_root x y u.1).0 hk hj (u.0, inl refl) (v.0, inr e)))
      back)
      on
    where
      f : Forest (PlacingEdge g p)
      f = o.is_forest

      x : ℕ
      x = node bs k

      y : ℕ
      y = next bs k

      z : ℕ
      z = node bs j

      differ : k ≡ j → ⊥
      differ i = irreflexive_path f (above_trans b a) (ap (node bs) i)

      on : ((kind bs k ≡ 2) × TreeEdge g x y) ⊎ ((kind bs k ≡ 3) × DominanceEdge g x y)
      on = joined_down g p o (kind bs k) x y (c.joins k hk) (above_trans b a')

      back : ((kind bs j ≡ 2) × TreeEdge g x z) ⊎ ((kind bs j ≡ 3) × DominanceEdge g x z)
      back =
          joined_down g p o (kind bs j) x z
          (joined_sym g (kind bs j) z x (subst (λ (w : ℕ). Joined g (kind bs j) z w) e (c.joins j hj)))
          (above_trans b a)

  neighbours : (i : ℕ) → Comparable (PlacingEdge g p) (walk bs i) (walk bs (suc i))
  neighbours i =
      let k : ℕ = i % pairs bs in
      let l : k < pairs bs = mod-lt i (omega (arith, c.two)) in
      subst (λ (w : ℕ). Comparable (PlacingEdge g p) (node bs k) w) (walk_next bs i) (joined_comparable g p o (kind bs k) (node bs k) (next bs k) (c.joins k l))

  -- from the walk's k-th node, at or above all nodes, once around the cycle
  around : (m k : ℕ) → suc (suc m) ≡ pairs bs → k < pairs bs → ((i : ℕ) → AtOrAbove (PlacingEdge g p) (walk bs k) (walk bs i)) → ⊥
  around m k size hk above =
      let t = topmost o.is_forest rest rest_neighbours m in
      cornered (k % pairs bs) ((suc k + m) % pairs bs) (rest t.0) (inside k) (inside (suc k + m)) closed (strictly t.0 t.1)
      (subst (AtOrAbove (PlacingEdge g p) (rest t.0)) first (t.2 0 (omega arith)))
      (t.2 m (omega arith))
    where
      inside : (i : ℕ) → i % pairs bs < pairs bs
      inside i = mod-lt i (omega arith)

      rest : ℕ → ℕ
      rest i = walk bs (suc k + i)

      rest_neighbours : (i : ℕ) → Comparable (PlacingEdge g p) (rest i) (rest (suc i))
      rest_neighbours i =
          let e : suc (suc k + i) ≡ suc k + suc i = omega arith in
          subst (λ (j : ℕ). Comparable (PlacingEdge g p) (rest i) (walk bs j)) e (neighbours (suc k + i))

      strictly : (i : ℕ) → i ≤ m → Below g p (walk bs k) (rest i)
      strictly i l =
          ⊎_elim
          (λ (e : walk bs k ≡ rest i).
          absurd (not_back (pairs bs) k i hk (omega arith) (c.one_place ((suc k + i) % pairs bs) (k % pairs bs) (inside (suc k + i)) (inside k) (sym e) ∙ mod-eq_of_lt hk)))
          (λ (b : Below g p (walk bs k) (rest i)). b)
          (above (suc k + i))

      first : rest 0 ≡ next bs (k % pairs bs)
      first = let e : suc k + 0 ≡ suc k = omega arith in ap (walk bs) e ∙ sym (walk_next bs k)

      closed : next bs ((suc k + m) % pairs bs) ≡ walk bs k
      closed =
          let e : suc (suc k + m) ≡ k + pairs bs = omega arith in
          walk_next bs (suc k + m) ∙ ap (walk bs) e ∙ ap (node bs) (add-mod_right k (pairs bs))

  excluded : (m : ℕ) → suc (suc m) ≡ pairs bs → ⊥
  excluded m size =
      let t = topmost o.is_forest (walk bs) neighbours (suc m) in
      around m t.0 size (omega (arith, t.1)) (λ i.
      let l : i % pairs bs < pairs bs = mod-lt i (omega arith) in
      subst (λ (j : ℕ). AtOrAbove (PlacingEdge g p) (walk bs t.0) (node bs j)) (mod-mod i (pairs bs)) (t.2 (i % pairs bs) (omega arith)))

pub cycle_excludes : (g : Graph) (bs p : List ℕ) → Shaped g → hypernormal_cycle g bs ≡ true → SolvedForm g p → ⊥
cycle_excludes g bs p s h o =
    let b = hypernormal_cycle_lem g bs h in
    let c : CycleFacts g bs = cycle_facts g bs b.0 in
    excluded g bs p s o c b.1 (pairs bs - 2) (omega (arith, c.two))

-- no graph has both
pub no_both : (g : Graph) (bs : List ℕ) → WellFormed g → hypernormal_cycle g bs ≡ true → Solvable g → ⊥
no_both g bs w h o = cycle_excludes g bs o.0 (well_formed_shaped w) h o.1
