-- In a placing that is a forest a node's weight is how many nodes are at it or below it. It falls along each edge, so each node is at or below a
-- top root. Nodes that lie none below another cover no node twice, and all that they cover is less than the weight of a node above them.
use Prim.Native.Nat.{ℕ, zero, suc, ◌+◌, ◌≤◌, ◌<◌}
use mathlib.Core.Path.{◌≡◌, refl, sym, subst, ◌∙◌}
use mathlib.Core.List.{List}
use mathlib.Core.Bool.{Bool, true, false, ◌&&◌, ◌||◌, true≢false}
use mathlib.Core.Logic.{◌⊎◌, inl, inr, ⊎_elim, ◌↔◌}
use native.Mathlib.Omega.{arith}
use lib.Dec.{eqb}
use borrow.Author.Tests.{eqb-true, eq-eqb}
use Rattle.base_finite.specs.Below.{any, count}
use Rattle.base_finite.proofs.Laws.{by_bool, and_both, and_intro, any_found, count_le, not_holding}
use Rattle.base_finite.proofs.Counting.{count_grows}
use Rattle.graph.specs.Graph.{Graph, entered, parent, root, none, one, more}
use Rattle.graph.specs.Placing.{at, placing, hangs, PlacingEdge, Below, Forest}
use Rattle.theory_edges.proofs.Edges.{parent_among}
use Rattle.theory_edges.proofs.Ends.{leaf_below}
use Rattle.theory_forest.specs.Shape.{Shaped}
use Rattle.theory_forest.specs.Table.{under}
use Rattle.theory_forest.proofs.Closure.{path_trans}
use Rattle.theory_forest.proofs.Table.{or_holds, eqb_holds, hangs_parts, placing_edge_within, under_iff}
use Rattle.theory_forest.proofs.Fragments.{parentless_root}
use Rattle.theory_forest.proofs.Forests.{AtOrAbove, Comparable, above_parent, chain, asymmetric, irreflexive_path, placing_cases, hangs_where_below}

-- v is x, or below x
unfoldable pub covers : Graph → List ℕ → ℕ → ℕ → Bool
covers g p x v = eqb x v || under g p x v

unfoldable pub weight : Graph → List ℕ → ℕ → ℕ
weight g p x = count g.nodes (covers g p x)

-- v is a node that has t, or below one
unfoldable pub covered : Graph → List ℕ → (ℕ → Bool) → ℕ → Bool
covered g p t v = any g.nodes (λ x. t x && covers g p x v)

-- r is a top root
abbrev pub top : Graph → List ℕ → ℕ → Bool
top g p r = root g r && eqb (at p r) none

module _ (g : Graph) (p : List ℕ) (shaped : Shaped g) (forest : Forest (PlacingEdge g p)) where
  pub covers_iff : (x v : ℕ) → (covers g p x v ≡ true) ↔ AtOrAbove (PlacingEdge g p) x v
  unfolding covers
  covers_iff x v = or_holds (eqb x v) (under g p x v) (eqb_holds x v) (under_iff g shaped p x v)

  -- a node weighs at least itself, and no more than all
  pub weight_some : (u : ℕ) → u < g.nodes → 1 ≤ weight g p u
  unfolding weight
  weight_some u h = omega (arith, count_grows g.nodes (λ v. false) (covers g p u) u (λ v _ d. absurd (true≢false (sym d))) h refl ((covers_iff u u).1 (inl refl)))

  pub weight_few : (u : ℕ) → weight g p u ≤ g.nodes
  unfolding weight
  weight_few u = count_le g.nodes (covers g p u)

  -- what is at or below two nodes has them comparable
  pub comparable : {x y v : ℕ} → AtOrAbove (PlacingEdge g p) x v → AtOrAbove (PlacingEdge g p) y v → Comparable (PlacingEdge g p) x y
  comparable {x} {y} {v} (inl i) (inl j) = inl (i ∙ sym j)
  comparable {x} {y} {v} (inl i) (inr q) = inr (inr (subst (λ (z : ℕ). Below g p y z) (sym i) q))
  comparable {x} {y} {v} (inr q) (inl j) = inr (inl (subst (λ (z : ℕ). Below g p x z) (sym j) q))
  comparable {x} {y} {v} (inr q) (inr r) = chain forest q r

  pub below_at : {u x v : ℕ} → Below g p u x → AtOrAbove (PlacingEdge g p) x v → Below g p u v
  below_at {u} q (inl i) = subst (λ (z : ℕ). Below g p u z) i q
  below_at q (inr r) = path_trans q r

  module _ (t : ℕ → Bool) where
    pub apart : ((x y : ℕ) → t x ≡ true → t y ≡ true → Below g p x y → ⊥) → (x y v : ℕ) → t x ≡ true → t y ≡ true → covers g p x v ≡ true → covers g p y v ≡ true → x ≡ y
    apart level x y v tx ty a b =
        ⊎_elim
        (λ (i : x ≡ y). i)
        (⊎_elim (λ (q : Below g p x y). absurd (level x y tx ty q)) (λ (q : Below g p y x). absurd (level y x ty tx q)))
        (comparable ((covers_iff x v).0 a) ((covers_iff y v).0 b))

    -- what lies below u covers less than u weighs
    pub covered_less : (u : ℕ) → u < g.nodes → ((x : ℕ) → t x ≡ true → Below g p u x) → count g.nodes (covered g p t) < weight g p u
    unfolding weight covered
    covered_less u h below =
        count_grows g.nodes (covered g p t) (covers g p u) u
        (λ v _ d.
        let x = any_found g.nodes (λ x. t x && covers g p x v) d in
        let y = and_both (t x.0) (covers g p x.0 v) x.2 in
        (covers_iff u v).1 (inr (below_at (below x.0 y.0) ((covers_iff x.0 v).0 y.1))))
        h
        (not_holding (covered g p t u) (λ d.
        let x = any_found g.nodes (λ x. t x && covers g p x u) d in
        let y = and_both (t x.0) (covers g p x.0 u) x.2 in
        irreflexive_path forest (below_at (below x.0 y.0) ((covers_iff x.0 u).0 y.1)) refl))
        ((covers_iff u u).1 (inl refl))

  -- weight falls along an edge
  pub weight_less : (u v : ℕ) → PlacingEdge g p u v → weight g p v < weight g p u
  unfolding weight
  weight_less u v e =
      count_grows g.nodes (covers g p v) (covers g p u) u
      (λ w _ d. (covers_iff u w).1 (inr (below_at (one e) ((covers_iff v w).0 d))))
      (placing_edge_within g p shaped u v e).0
      (not_holding (covers g p v u) (λ d. irreflexive_path forest (below_at (one e) ((covers_iff v u).0 d)) refl))
      ((covers_iff u u).1 (inl refl))

  -- of two nodes with an edge from one node none lies below the other
  pub siblings_level : (u x y : ℕ) → PlacingEdge g p u x → PlacingEdge g p u y → Below g p x y → ⊥
  siblings_level u x y ex ey q =
      ⊎_elim
      (λ (i : x ≡ u). irreflexive_path forest (one ex) (sym i))
      (λ (r : Below g p x u). asymmetric forest (one ex) r)
      (above_parent forest ey q)

  -- nothing stands above a top root
  pub top_highest : (x y : ℕ) → top g p y ≡ true → Below g p x y → ⊥
  top_highest x y hy q =
      let b = and_both (root g y) (eqb (at p y) none) hy in
      let l = hangs_where_below g p x y b.0 q in
      let c = hangs_parts g p l.0 y l.1 in
      omega (arith, eqb-true (at p y) none b.1, c.2, leaf_below g l.0 c.0, shaped.few_nodes)

  module _ (placed : placing g p ≡ true) where
    -- a node is a top root, or an edge goes to it
    pub top_or_below : (v : ℕ) → v < g.nodes → (top g p v ≡ true) ⊎ ((u : ℕ) × PlacingEdge g p u v)
    top_or_below v h =
        by_bool (entered g.tree v)
        (λ (e : entered g.tree v ≡ true). inr (parent g.tree v, inl (parent_among g.tree v e)))
        (λ (e : entered g.tree v ≡ false).
        ⊎_elim
        (λ (i : at p v ≡ none). inl (and_intro (root g v) (eqb (at p v) none) (parentless_root g v h e) (eq-eqb (at p v) none i)))
        (λ (j : hangs g p (at p v) v ≡ true). inr (at p v, inr j))
        (placing_cases g p v placed h))

    -- from a node up: an edge more, or the top
    climb : (k v : ℕ) → v < g.nodes → g.nodes ≤ weight g p v + k → (x : ℕ) × (top g p x ≡ true) × AtOrAbove (PlacingEdge g p) x v
    climb zero v h b =
        ⊎_elim
        (λ (t : top g p v ≡ true). (v, t, inl refl))
        (λ (e : (u : ℕ) × PlacingEdge g p u v). absurd (omega (arith, weight_less e.0 v e.1, weight_few e.0)))
        (top_or_below v h)
    climb (suc k) v h b =
        ⊎_elim
        (λ (t : top g p v ≡ true). (v, t, inl refl))
        (λ (e : (u : ℕ) × PlacingEdge g p u v).
        let x = climb k e.0 (placing_edge_within g p shaped e.0 v e.1).0 (omega (arith, weight_less e.0 v e.1)) in
        (x.0, x.1, inr (⊎_elim (λ (i : x.0 ≡ e.0). subst (λ (z : ℕ). Below g p z v) (sym i) (one e.1)) (λ (q : Below g p x.0 e.0). more q e.1) x.2)))
        (top_or_below v h)

    -- each node is at or below a top root
    pub top_above : (v : ℕ) → v < g.nodes → (x : ℕ) × (top g p x ≡ true) × AtOrAbove (PlacingEdge g p) x v
    top_above v h = climb g.nodes v h (omega arith)
