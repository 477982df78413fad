-- A drawing has at most five bytes for each node: a number of at most three digits, and two marks. A fragment takes at most five bytes for each node that its root weighs, and so does a
-- leaf. By induction: the leaves of a fragment, the roots hung under a leaf, and the top roots lie none below another, so
-- no node is counted twice (`chain`), and what they lie below is one node more.
use Prim.Native.Nat.{ℕ, zero, suc, ◌+◌, ◌*◌, ◌≤◌, ◌<◌}
use mathlib.Core.Path.{◌≡◌, sym, subst, ◌∙◌}
use mathlib.Core.List.{List, [], ◌∷◌}
use mathlib.Core.Bool.{Bool, true, false, cond, ◌&&◌, ◌||◌}
use mathlib.Core.Logic.{inr}
use native.Mathlib.Omega.{arith}
use lib.Dec.{eqb}
use lib.ListN.{length, length-append}
use Rattle.base_finite.specs.Below.{any, count, spread}
use Rattle.base_finite.proofs.Laws.{by_bool, and_both, or_false, any_found, count_ext, count_le}
use Rattle.graph.specs.Graph.{Graph, root, leaf, leaf_of, none, TreeEdge, Path}
use Rattle.graph.specs.Placing.{at, hangs, PlacingEdge, Below, Forest, SolvedForm}
use Rattle.format.specs.Drawing.{leaf_text, fragment_text, drawing}
use Rattle.theory_edges.proofs.Ends.{leaf_below, root_below}
use Rattle.theory_forest.specs.Shape.{Shaped}
use Rattle.theory_forest.proofs.Table.{hangs_parts}
use Rattle.theory_forest.proofs.Fragments.{leaf_below_own, leaf_of_parts}
use Rattle.theory_forest.proofs.Forests.{tree_below, hung_below, leaf_not_above_own}
use Rattle.theory_forest.proofs.Weights.{covers, weight, covered, top, apart, covered_less, weight_some, siblings_level, top_highest}
use Rattle.base_finite.proofs.Counting.{count_or}
use Rattle.show_drawing.specs.Drawn.{run}
use Rattle.show_drawing.proofs.Texts.{number_length}
use Rattle.show_drawing.proofs.Runs.{leaf_run, fragment_run, drawing_run}

-- a run takes what its texts take, where no number is counted for two of them
module _ (o b : List ℕ) (f : ℕ → List ℕ) (t : ℕ → Bool) (n : ℕ) (s : ℕ → ℕ → Bool) (o_short : length o ≤ 1) (b_short : length b ≤ 1)
    (each : (x : ℕ) → t x ≡ true → 1 + length (f x) ≤ 5 * count n (s x))
    (apart : (x y v : ℕ) → t x ≡ true → t y ≡ true → s x v ≡ true → s y v ≡ true → x ≡ y) where
  run_bound : (k : ℕ) → length (run o b f t k) ≤ 5 * count n (λ v. any k (λ x. t x && s x v))
  unfolding run spread any
  run_bound zero = omega arith
  run_bound (suc k) =
      let before : ℕ → Bool = λ v. any k (λ x. t x && s x v) in
      let ih : length (run o b f t k) ≤ 5 * count n before = run_bound k in
      by_bool (t k)
      (λ (e : t k ≡ true).
      let both : count n (λ v. before v || s k v) ≡ count n before + count n (s k) =
      count_or n before (s k) (λ v d u.
      let x = any_found k (λ x. t x && s x v) d in
      let y = and_both (t x.0) (s x.0 v) x.2 in
      omega (arith, apart x.0 k v y.0 e y.1 u, x.1)) in
      let short : length (cond (any k t) b o) ≤ 1 = by_bool (any k t) (λ d. rw d b_short) (λ d. rw d o_short) in
      rw (e, both, length-append, length-append) (omega (arith, each k e)))
      (λ (e : t k ≡ false).
      let same : count n (λ v. before v || false) ≡ count n before = count_ext n (λ v. before v || false) before (λ v _. or_false (before v)) in
      rw (e, same, length-append) (omega arith))

module _ (g : Graph) (p : List ℕ) (shaped : Shaped g) (forest : Forest (PlacingEdge g p)) where
  module _ (t : ℕ → Bool) (level : (x y : ℕ) → t x ≡ true → t y ≡ true → Below g p x y → ⊥) where
    module _ (o b : List ℕ) (f : ℕ → List ℕ) (o_short : length o ≤ 1) (b_short : length b ≤ 1) (each : (x : ℕ) → t x ≡ true → 1 + length (f x) ≤ 5 * weight g p x) where
      family : length (run o b f t g.nodes) ≤ 5 * count g.nodes (covered g p t)
      unfolding weight covered
      family = run_bound o b f t g.nodes (covers g p) o_short b_short each (apart g p shaped forest t level) g.nodes

      -- where all lie below u, they leave room for u
      family_below : (u : ℕ) → u < g.nodes → ((x : ℕ) → t x ≡ true → Below g p u x) → length (run o b f t g.nodes) + 5 ≤ 5 * weight g p u
      unfolding weight covered
      family_below u h below =
          omega (arith, family, covered_less g p shaped forest t u h below)

  few : {v : ℕ} → v < g.nodes → v < 1000
  few h = omega (arith, shaped.few_nodes)

  -- roots hung under one leaf
  pub hung_level : (l x y : ℕ) → hangs g p l x ≡ true → hangs g p l y ≡ true → Below g p x y → ⊥
  hung_level l x y hx hy q = siblings_level g p shaped forest l x y (inr hx) (inr hy) q

  leaf_bound : (draw : ℕ → List ℕ) → ((r : ℕ) → root g r ≡ true → 1 + length (draw r) ≤ 5 * weight g p r) → (l : ℕ) → leaf g l ≡ true → 1 + length (leaf_text draw g p l) ≤ 5 * weight g p l
  leaf_bound draw each l h =
      let inside = family_below (hangs g p l) (hung_level l) (91 ∷ []) (59 ∷ []) draw (omega arith) (omega arith) (λ x e. each x (hangs_parts g p l x e).1) l (leaf_below g l h) (λ x e. hung_below g p e) in
      let number = number_length l (few (leaf_below g l h)) in
      let end : length {A = ℕ} (cond (any g.nodes (hangs g p l)) (93 ∷ []) []) ≤ 1 = by_bool (any g.nodes (hangs g p l)) (λ e. rw e (omega arith)) (λ e. rw e (omega arith)) in
      rw (leaf_run g p draw l, length-append, length-append) (omega (arith, number.1))

  -- leaves of one fragment
  pub leaves_level : (r x y : ℕ) → leaf_of g r x ≡ true → leaf_of g r y ≡ true → Below g p x y → ⊥
  leaves_level r x y hx hy q =
      let a = leaf_of_parts g r x hx in
      let b = leaf_of_parts g r y hy in
      leaf_not_above_own g p shaped forest a.0 (a.1 ∙ sym b.1) q

  pub leaves_below : (r x : ℕ) → leaf_of g r x ≡ true → Below g p r x
  leaves_below r x h =
      let a = leaf_of_parts g r x h in
      tree_below g p (subst (λ (z : ℕ). Path (TreeEdge g) z x) a.1 (leaf_below_own g shaped x a.0))

  fragment_bound : (k r : ℕ) → root g r ≡ true → 1 + length (fragment_text k g p r) ≤ 5 * weight g p r
  unfolding fragment_text
  fragment_bound zero r h = omega (arith, weight_some g p shaped forest r (root_below g r h))
  fragment_bound (suc k) r h =
      let inside =
      family_below (leaf_of g r) (leaves_level r) (40 ∷ []) (44 ∷ []) (leaf_text (λ s. fragment_text k g p s) g p) (omega arith) (omega arith)
      (λ x e. leaf_bound (λ s. fragment_text k g p s) (λ s. fragment_bound k s) x (leaf_of_parts g r x e).0) r (root_below g r h) (leaves_below r) in
      let number = number_length r (few (root_below g r h)) in
      rw (fragment_run g p shaped k r h, length-append, length-append) (omega (arith, number.1))

  drawing_bound : length (drawing g p) ≤ 1024
  drawing_bound =
      let all = family (top g p) (λ x y hx hy. top_highest g p shaped forest x y hy) [] (59 ∷ []) (fragment_text g.nodes g p) (omega arith) (omega arith) (λ x e. fragment_bound g.nodes x (and_both (root g x) (eqb (at p x) none) e).0) in
      let few = count_le g.nodes (covered g p (top g p)) in
      rw (drawing_run g p) (omega (arith, shaped.few_nodes))

-- the drawing of a solved form fits the least buffer
pub drawing_fits : (g : Graph) (p : List ℕ) → Shaped g → SolvedForm g p → length (drawing g p) ≤ 1024
drawing_fits g p s f = drawing_bound g p s f.is_forest
