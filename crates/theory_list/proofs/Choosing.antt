-- The choice of Rule 3: the lowest root with two edges that stay, and of their leaves the two lowest. It computes, over
-- the table of the edges that stay. A choice is the only one of its graph, or there is none.
-- In a solved form one of the two leaves is above the other's root, and never both (`choice_splits`, `choice_disjoint`);
-- so the solved forms are those of the two graphs with that edge added. Neither edge was in the descent relation
-- (`choice_grows`), so its number of pairs grows with each choice, and it is at most the square of the number of nodes.
use Prim.Native.Nat.{ℕ, ◌*◌, ◌≤◌, ◌<◌}
use mathlib.Core.Path.{◌≡◌, refl, sym, subst, ◌∙◌}
use mathlib.Core.List.{List}
use mathlib.Core.Bool.{Bool, true, false, ◌&&◌}
use mathlib.Core.Logic.{◌⊎◌, inl, inr, ⊎_elim, ◌↔◌}
use native.Mathlib.Nat.{eq-or-lt_of_le}
use native.Mathlib.Omega.{arith}
use lib.Dec.{ltb}
use borrow.Author.Tests.{ltb-true, ltb-false}
use Rattle.base_finite.specs.Below.{count, least}
use Rattle.base_finite.proofs.Laws.{by_bool, and_both, and_intro, count_le, least_at, least_below, least_holds, not_holding}
use Rattle.graph.specs.Graph.{Graph, root, leaf, own, Descent, one, more}
use Rattle.graph.specs.Order.{Kept, Choice, adding}
use Rattle.graph.specs.Placing.{Below, SolvedForm}
use Rattle.theory_edges.proofs.Edges.{sum_grows, sum_bound}
use Rattle.base_finite.proofs.Counting.{count_mono, count_grows}
use Rattle.theory_edges.proofs.Ends.{leaf_below, root_below}
use Rattle.theory_forest.specs.Shape.{Shaped}
use Rattle.theory_forest.proofs.Shape.{adding_shaped}
use Rattle.theory_forest.proofs.Closure.{path_trans, path_map, descent_added, added_edge}
use Rattle.theory_forest.specs.Table.{descends}
use Rattle.theory_forest.proofs.Table.{descends_iff}
use Rattle.theory_forest.proofs.Fragments.{own_root, leaf_below_own}
use Rattle.theory_forest.proofs.Forests.{chain, leaf_above_root, tree_below, solved_adding}
use Rattle.theory_list.specs.Redundancy.{Loopless, kept_table, kept}
use Rattle.theory_list.proofs.Redundancy.{kept_iff, kept_holds, kept_within}
use Rattle.theory_list.specs.Choosing.{lowest_above, next_above, forked, leaves_of, root_of, chosen_by, chosen, Unforked, pairs}

-- the search, over the table of the edges that stay

module _ (g : Graph) (s : Shaped g) (n : Loopless g) where
  -- where w is not forked, the leaf of an edge to w that stays is the lowest
  kept_unforked : (w : ℕ) → forked g.nodes (kept_table g) w ≡ false → (l : ℕ) → Kept g l w → l ≡ lowest_above g.nodes (kept_table g) w
  unfolding forked next_above lowest_above kept
  kept_unforked w h l k =
      let a : ℕ = lowest_above g.nodes (kept_table g) w in
      let t : kept g l w ≡ true = (kept_holds g s n l w).1 k in
      let b : l < g.nodes = (kept_within g s l w k).0 in
      let low : a ≤ l = least_at g.nodes (λ l. kept g l w) l b t in
      by_bool (ltb a l)
      (λ (u : ltb a l ≡ true).
      let next : least g.nodes (λ l. ltb a l && kept g l w) ≤ l = least_at g.nodes (λ l. ltb a l && kept g l w) l b (and_intro (ltb a l) (kept g l w) u t) in
      let out : g.nodes ≤ least g.nodes (λ l. ltb a l && kept g l w) = ltb-false (least g.nodes (λ l. ltb a l && kept g l w)) g.nodes h in
      absurd (omega arith))
      (λ (u : ltb a l ≡ false).
      let le : l ≤ a = ltb-false a l u in
      omega arith)

  unforked_one : (w : ℕ) → forked g.nodes (kept_table g) w ≡ false → (l m : ℕ) → Kept g l w → Kept g m w → l ≡ m
  unforked_one w h l m k j = kept_unforked w h l k ∙ sym (kept_unforked w h m j)

  pub choice_none : g.nodes ≤ (chosen g).0 → Unforked g
  unfolding chosen chosen_by root_of leaves_of
  choice_none h w l m k j =
      let b : w < g.nodes = (kept_within g s l w k).1 in
      unforked_one w (least_below g.nodes (forked g.nodes (kept_table g)) w (omega arith)) l m k j

  -- the two lowest leaves above a forked root
  forked_leaves : (v a b : ℕ) → lowest_above g.nodes (kept_table g) v ≡ a → next_above g.nodes (kept_table g) v a ≡ b → b < g.nodes
      → Kept g a v × Kept g b v × (a < b) × ((l : ℕ) → Kept g l v → (l ≡ a) ⊎ ((l ≡ b) ⊎ (b < l)))
  unfolding lowest_above next_above kept
  forked_leaves v a b ea eb h =
      let next : ℕ → Bool = λ l. ltb a l && kept g l v in
      let in_next : next (least g.nodes next) ≡ true = least_holds g.nodes next (subst (λ (z : ℕ). z < g.nodes) (sym eb) h) in
      let parts = and_both (ltb a b) (kept g b v) (subst (λ (z : ℕ). next z ≡ true) eb in_next) in
      let lower : a < b = ltb-true a b parts.0 in
      let small : a < g.nodes = omega arith in
      let lowest : kept g a v ≡ true = subst (λ (z : ℕ). kept g z v ≡ true) ea (least_holds g.nodes (λ l. kept g l v) (subst (λ (z : ℕ). z < g.nodes) (sym ea) small)) in (
        (kept_holds g s n a v).0 lowest,
        (kept_holds g s n b v).0 parts.1,
        lower,
        λ l k.
            let t : kept g l v ≡ true = (kept_holds g s n l v).1 k in
            let w : l < g.nodes = (kept_within g s l v k).0 in
            let low : a ≤ l = subst (λ (z : ℕ). z ≤ l) ea (least_at g.nodes (λ l. kept g l v) l w t) in
            by_bool (ltb a l)
            (λ (u : ltb a l ≡ true).
            let after : b ≤ l = subst (λ (z : ℕ). z ≤ l) eb (least_at g.nodes next l w (and_intro (ltb a l) (kept g l v) u t)) in
            ⊎_elim (λ (i : b ≡ l). inr (inl (sym i))) (λ (i : b < l). inr (inr i)) (eq-or-lt_of_le after))
            (λ (u : ltb a l ≡ false).
            let le : l ≤ a = ltb-false a l u in
            inl (omega arith)),
      )

  pub choice_made : (chosen g).0 < g.nodes → Choice g (chosen g).0 (chosen g).1 (chosen g).2
  unfolding chosen chosen_by root_of leaves_of forked
  choice_made h =
      let v : ℕ = (chosen g).0 in
      let a : ℕ = (chosen g).1 in
      let b : ℕ = (chosen g).2 in
      let fork : forked g.nodes (kept_table g) v ≡ true = least_holds g.nodes (forked g.nodes (kept_table g)) h in
      let both = forked_leaves v a b refl refl (ltb-true b g.nodes fork) in
      record {
        first = both.0;
        second = both.1;
        lower = both.2;
        lowest_leaves = both.3;
        lowest_root = λ w l m lt k j. unforked_one w (least_below g.nodes (forked g.nodes (kept_table g)) w lt) l m k j;
      }

-- one choice

-- the leaves above v by edges that stay are at or after a, and those that are not a at or after b
choice_at : {g : Graph} {v a b : ℕ} → Choice g v a b → (l : ℕ) → Kept g l v → a ≤ l
choice_at {g} {v} {a} {b} c l k =
    let lt : a < b = c.lower in
    ⊎_elim
    (λ (i : l ≡ a). omega arith)
    (⊎_elim (λ (i : l ≡ b). omega arith) (λ (i : b < l). omega arith))
    (c.lowest_leaves l k)

choice_next : {g : Graph} {v a b : ℕ} → Choice g v a b → (l : ℕ) → Kept g l v → a < l → b ≤ l
choice_next {g} {v} {a} {b} c l k h =
    ⊎_elim
    (λ (i : l ≡ a). omega arith)
    (⊎_elim (λ (i : l ≡ b). omega arith) (λ (i : b < l). omega arith))
    (c.lowest_leaves l k)

-- no choice is made below another: the lower root would have two edges that stay
choice_at_or_after : {g : Graph} {v a b w c d : ℕ} → Choice g v a b → Choice g w c d → v ≤ w
choice_at_or_after {g} {v} {a} {b} {w} {c} {d} x y =
    by_bool (ltb w v)
    (λ (t : ltb w v ≡ true).
    let i : c ≡ d = x.lowest_root w c d (ltb-true w v t) y.first y.second in
    let lt : c < d = y.lower in
    absurd (omega arith))
    (λ (t : ltb w v ≡ false). ltb-false w v t)

same_root_leaves : {g : Graph} {v a b c d : ℕ} → Choice g v a b → Choice g v c d → (a ≡ c) × (b ≡ d)
same_root_leaves {g} {v} {a} {b} {c} {d} x y =
    let ac : a ≤ c = choice_at x c y.first in
    let ca : c ≤ a = choice_at y a x.first in
    let lx : a < b = x.lower in
    let ly : c < d = y.lower in
    let bd : b ≤ d = choice_next x d y.second (omega arith) in
    let db : d ≤ b = choice_next y b x.second (omega arith) in
    (omega arith, omega arith)

pub choice_unique : {g : Graph} {v a b w c d : ℕ} → Choice g v a b → Choice g w c d → (v ≡ w) × (a ≡ c) × (b ≡ d)
choice_unique {g} {v} {a} {b} {w} {c} {d} x y =
    let vw : v ≤ w = choice_at_or_after x y in
    let wv : w ≤ v = choice_at_or_after y x in
    let i : v ≡ w = omega arith in
    let same = same_root_leaves (subst (λ (z : ℕ). Choice g z a b) i x) y in
    (i, same.0, same.1)

-- the two halves

module _ (g : Graph) (s : Shaped g) {v a b : ℕ} (c : Choice g v a b) where
  pub lower_leaf : leaf g a ≡ true
  lower_leaf = (s.leaf_to_root a v c.first.0).0

  pub upper_leaf : leaf g b ≡ true
  upper_leaf = (s.leaf_to_root b v c.second.0).0

  pub first_shaped : Shaped (adding g a (own g b))
  first_shaped = adding_shaped g a (own g b) s lower_leaf (own_root g s b (leaf_below g b upper_leaf))

  pub second_shaped : Shaped (adding g b (own g a))
  second_shaped = adding_shaped g b (own g a) s upper_leaf (own_root g s a (leaf_below g a lower_leaf))

  pub choice_splits : (p : List ℕ) → SolvedForm g p → Below g p a (own g b) ⊎ Below g p b (own g a)
  choice_splits p f =
      ⊎_elim
      (λ (i : a ≡ b). let lt : a < b = c.lower in absurd (omega arith))
      (⊎_elim
      (λ (d : Below g p a b). inl (leaf_above_root g p s lower_leaf d))
      (λ (d : Below g p b a). inr (leaf_above_root g p s upper_leaf d)))
      (chain f.is_forest (f.contains a v (one (inr c.first.0))) (f.contains b v (one (inr c.second.0))))

  pub choice_disjoint : (p : List ℕ) → SolvedForm g p → Below g p a (own g b) → Below g p b (own g a) → ⊥
  choice_disjoint p f x y =
      let down_b : Below g p (own g b) b = tree_below g p (leaf_below_own g s b upper_leaf) in
      let down_a : Below g p (own g a) a = tree_below g p (leaf_below_own g s a lower_leaf) in
      f.is_forest.no_loop a (path_trans x (path_trans down_b (path_trans y down_a)))

  pub choice_halves : (p : List ℕ) → SolvedForm g p ↔ (SolvedForm (adding g a (own g b)) p ⊎ SolvedForm (adding g b (own g a)) p)
  choice_halves p = (
    λ f.
        ⊎_elim
        (λ (d : Below g p a (own g b)). inl ((solved_adding g a (own g b) p).1 (f, d)))
        (λ (d : Below g p b (own g a)). inr ((solved_adding g b (own g a) p).1 (f, d)))
        (choice_splits p f),
    ⊎_elim
        (λ (f : SolvedForm (adding g a (own g b)) p). ((solved_adding g a (own g b) p).0 f).0)
        (λ (f : SolvedForm (adding g b (own g a)) p). ((solved_adding g b (own g a) p).0 f).0),
  )

  pub halves_disjoint : (p : List ℕ) → SolvedForm (adding g a (own g b)) p → SolvedForm (adding g b (own g a)) p → ⊥
  halves_disjoint p x y =
      let f = (solved_adding g a (own g b) p).0 x in
      choice_disjoint p f.0 f.1 ((solved_adding g b (own g a) p).0 y).1

-- growth

-- of two leaves with edges to v that stay, neither leads to the other's root: it would lie between the leaf and v
passes : (g : Graph) → Shaped g → Loopless g → (v a b : ℕ) → Kept g a v → Kept g b v → Descent g a (own g b) → ⊥
passes g s n v a b k j d =
    let down : Descent g (own g b) b = path_map (λ x y e. inl e) (leaf_below_own g s b (s.leaf_to_root b v j.0).0) in
    ((kept_iff g s n a v).0 k).1 (own g b) d (more down (inr j.0))

pub choice_grows : (g : Graph) → Shaped g → Loopless g → {v a b : ℕ} → Choice g v a b → (Descent g a (own g b) → ⊥) × (Descent g b (own g a) → ⊥)
choice_grows g s n {v} {a} {b} c = (passes g s n v a b c.first c.second, passes g s n v b a c.second c.first)

pub pairs_le : (g : Graph) → pairs g ≤ g.nodes * g.nodes
unfolding pairs
pairs_le g = sum_bound g.nodes g.nodes (λ u. count g.nodes (descends g u)) (λ u _. count_le g.nodes (descends g u))

-- an edge that was no descent makes more of them
pub pairs_grow : (g : Graph) → Shaped g → (a r : ℕ) → leaf g a ≡ true → root g r ≡ true → (Descent g a r → ⊥) → pairs g < pairs (adding g a r)
unfolding pairs adding
pairs_grow g s a r ha hr fresh =
    let h : Graph = adding g a r in
    let t : Shaped h = adding_shaped g a r s ha hr in
    let more : (u v : ℕ) → descends g u v ≡ true → descends h u v ≡ true = λ u v x. (descends_iff h t u v).1 (descent_added g a r ((descends_iff g s u v).0 x)) in
    sum_grows g.nodes (λ u. count g.nodes (descends g u)) (λ u. count g.nodes (descends h u))
    a (λ u _. count_mono g.nodes (descends g u) (descends h u) (λ v _. more u v)) (leaf_below g a ha)
    (count_grows g.nodes (descends g a) (descends h a) r (λ v _. more a v) (root_below g r hr)
    (not_holding (descends g a r) (λ x. fresh ((descends_iff g s a r).0 x)))
    ((descends_iff h t a r).1 (added_edge g a r)))

module _ (g : Graph) (s : Shaped g) (n : Loopless g) {v a b : ℕ} (c : Choice g v a b) where
  pub first_grows : pairs g < pairs (adding g a (own g b))
  first_grows =
      let hb = upper_leaf g s c in
      pairs_grow g s a (own g b) (lower_leaf g s c) (own_root g s b (leaf_below g b hb)) (choice_grows g s n c).0

  pub second_grows : pairs g < pairs (adding g b (own g a))
  second_grows =
      let ha = lower_leaf g s c in
      pairs_grow g s b (own g a) (upper_leaf g s c) (own_root g s a (leaf_below g a ha)) (choice_grows g s n c).1
