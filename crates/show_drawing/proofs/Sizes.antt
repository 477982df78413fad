-- In a solved form the fragments from the top roots down are all fragments, each once. A root below a root r is below one
-- leaf of r, so it is at or below one root hung there. And each root is at or below a top root.
use Prim.Native.Nat.{ℕ, zero, suc, ◌+◌, ◌≤◌, ◌<◌}
use mathlib.Core.Path.{◌≡◌, refl, sym, ◌∙◌}
use mathlib.Core.List.{List}
use mathlib.Core.Bool.{Bool, true, false, ◌&&◌, ◌||◌}
use mathlib.Core.Logic.{◌⊎◌, inl, inr, ⊎_elim}
use native.Mathlib.Omega.{arith}
use lib.Dec.{eqb}
use Rattle.base_finite.specs.Below.{any, count}
use Rattle.base_finite.proofs.Laws.{by_bool, and_both, and_intro, or_false, any_at, any_found, count_ext, count_none, count_one_more, not_holding, test_ext}
use Rattle.graph.specs.Graph.{Graph, root, leaf, leaf_of, own, none, TreeEdge, one, more}
use Rattle.graph.specs.Placing.{at, hangs, PlacingEdge, Below, Forest, placing}
use Rattle.theory_edges.specs.Edges.{sum}
use Rattle.theory_edges.proofs.Ends.{leaf_below, root_below}
use Rattle.theory_forest.specs.Shape.{Shaped}
use Rattle.theory_forest.specs.Table.{under}
use Rattle.theory_forest.proofs.Closure.{path_trans, path_first}
use Rattle.theory_forest.proofs.Table.{under_iff, hangs_parts}
use Rattle.theory_forest.proofs.Fragments.{leaf_childless, leaf_of_intro, leaf_of_parts, own_of_root, own_edge}
use Rattle.theory_forest.proofs.Forests.{AtOrAbove, asymmetric, irreflexive_path, hung_below}
use Rattle.theory_forest.proofs.Weights.{covers, covers_iff, top, apart, below_at, top_highest, top_above}
use Rattle.base_finite.proofs.Counting.{count_mono, count_or}
use Rattle.show_drawing.specs.Drawn.{sum_where}
use Rattle.show_drawing.proofs.Texts.{sum_room}
use Rattle.show_drawing.proofs.Bound.{hung_level, leaves_level, leaves_below}

-- a sum of counts is a count, where no number is counted twice
module _ (f : ℕ → ℕ) (t : ℕ → Bool) (n : ℕ) (s : ℕ → ℕ → Bool) (each : (x : ℕ) → t x ≡ true → f x ≡ count n (s x))
    (once : (x y v : ℕ) → t x ≡ true → t y ≡ true → s x v ≡ true → s y v ≡ true → x ≡ y) where
  sum_count : (k : ℕ) → sum_where f t k ≡ count n (λ v. any k (λ x. t x && s x v))
  unfolding sum_where sum any
  sum_count zero = sym (count_none n (λ v. false) (λ v _. refl))
  sum_count (suc k) =
      let before : ℕ → Bool = λ v. any k (λ x. t x && s x v) in
      let ih : sum_where f t k ≡ count n before = sum_count k in
      by_bool (t k)
      (λ (e : t k ≡ true).
      let both : count n (λ v. before v || s k v) ≡ count n before + count n (s k) =
      count_or n before (s k) (λ v d u.
      let x = any_found k (λ x. t x && s x v) d in
      let y = and_both (t x.0) (s x.0 v) x.2 in
      omega (arith, once x.0 k v y.0 e y.1 u, x.1)) in
      rw (e, both) (omega (arith, each k e)))
      (λ (e : t k ≡ false).
      let same : count n (λ v. before v || false) ≡ count n before = count_ext n (λ v. before v || false) before (λ v _. or_false (before v)) in
      rw (e, same) (omega arith))

-- some number has both tests exactly where q holds
any_both : (n : ℕ) (t s : ℕ → Bool) (q : Bool) → ((x : ℕ) → t x ≡ true → s x ≡ true → q ≡ true) → (q ≡ true → (x : ℕ) × (x < n) × (t x ≡ true) × (s x ≡ true)) → any n (λ x. t x && s x) ≡ q
any_both n t s q only found =
    test_ext (any n (λ x. t x && s x)) q
    (λ d.
    let x = any_found n (λ x. t x && s x) d in
    let y = and_both (t x.0) (s x.0) x.2 in
    only x.0 y.0 y.1)
    (λ d. let x = found d in any_at n (λ x. t x && s x) x.0 x.1 (and_intro (t x.0) (s x.0) x.2 x.3))

-- how many fragments are at or below the root r, and how many below the leaf l
unfoldable pub fragments_from : Graph → List ℕ → ℕ → ℕ
fragments_from g p r = count g.nodes (λ v. root g v && covers g p r v)

unfoldable pub fragments_under : Graph → List ℕ → ℕ → ℕ
fragments_under g p l = count g.nodes (λ v. root g v && under g p l v)

module _ (g : Graph) (p : List ℕ) (shaped : Shaped g) (forest : Forest (PlacingEdge g p)) where
  -- below a leaf is at or below a root hung under it
  first_hung : (l v : ℕ) → leaf g l ≡ true → Below g p l v → (s : ℕ) × (hangs g p l s ≡ true) × AtOrAbove (PlacingEdge g p) s v
  first_hung l v h q =
      ⊎_elim
      (⊎_elim (λ (t : TreeEdge g l v). absurd (leaf_childless g l v h t)) (λ (k : hangs g p l v ≡ true). (v, k, inl refl)))
      (λ (x : (w : ℕ) × PlacingEdge g p l w × Below g p w v).
      ⊎_elim (λ (t : TreeEdge g l x.0). absurd (leaf_childless g l x.0 h t)) (λ (k : hangs g p l x.0 ≡ true). (x.0, k, inr x.2)) x.1)
      (path_first q)

  pub leaf_sum : (l : ℕ) → leaf g l ≡ true → sum_where (fragments_from g p) (hangs g p l) g.nodes ≡ fragments_under g p l
  unfolding fragments_from fragments_under
  leaf_sum l h =
      sum_count (fragments_from g p) (hangs g p l) g.nodes (λ s v. root g v && covers g p s v) (λ s _. refl)
      (λ x y v hx hy cx cy. apart g p shaped forest (hangs g p l) (hung_level g p shaped forest l) x y v hx hy (and_both (root g v) (covers g p x v) cx).1 (and_both (root g v) (covers g p y v) cy).1)
      g.nodes
      ∙ count_ext g.nodes (λ v. any g.nodes (λ s. hangs g p l s && (root g v && covers g p s v))) (λ v. root g v && under g p l v) (λ v _.
      any_both g.nodes (hangs g p l) (λ s. root g v && covers g p s v) (root g v && under g p l v)
      (λ s k d.
      let z = and_both (root g v) (covers g p s v) d in
      and_intro (root g v) (under g p l v) z.0 ((under_iff g shaped p l v).1 (below_at g p shaped forest (hung_below g p k) ((covers_iff g p shaped forest s v).0 z.1))))
      (λ d.
      let z = and_both (root g v) (under g p l v) d in
      let x = first_hung l v h ((under_iff g shaped p l v).0 z.1) in
      (x.0, root_below g x.0 (hangs_parts g p l x.0 x.1).1, x.1, and_intro (root g v) (covers g p x.0 v) z.0 ((covers_iff g p shaped forest x.0 v).1 x.2))))

  -- below a root is in its fragment, or below a leaf of it
  by_leaf : {r v : ℕ} → root g r ≡ true → Below g p r v → (own g v ≡ r) ⊎ ((x : ℕ) × (leaf_of g r x ≡ true) × Below g p x v)
  by_leaf {r} {v} h (one (inl t)) = inl (own_edge g shaped r v t ∙ own_of_root g r h)
  by_leaf {r} {v} h (one (inr k)) = inr (r, leaf_of_intro g r r (hangs_parts g p r v k).0 (own_of_root g r h), one (inr k))
  by_leaf {r} {v} h (more {v = w} d (inl t)) =
      ⊎_elim
      (λ (i : own g w ≡ r). inl (own_edge g shaped w v t ∙ i))
      (λ (x : (y : ℕ) × (leaf_of g r y ≡ true) × Below g p y w). inr (x.0, x.1, more x.2 (inl t)))
      (by_leaf h d)
  by_leaf {r} {v} h (more {v = w} d (inr k)) =
      ⊎_elim
      (λ (i : own g w ≡ r). inr (w, leaf_of_intro g r w (hangs_parts g p w v k).0 i, one (inr k)))
      (λ (x : (y : ℕ) × (leaf_of g r y ≡ true) × Below g p y w). inr (x.0, x.1, more x.2 (inr k)))
      (by_leaf h d)

  root_by_leaf : (r v : ℕ) → root g r ≡ true → root g v ≡ true → Below g p r v → (x : ℕ) × (leaf_of g r x ≡ true) × Below g p x v
  root_by_leaf r v hr hv q =
      ⊎_elim
      (λ (i : own g v ≡ r). absurd (irreflexive_path forest q (sym i ∙ own_of_root g v hv)))
      (λ (x : (y : ℕ) × (leaf_of g r y ≡ true) × Below g p y v). x)
      (by_leaf hr q)

  pub fragment_sum : (r : ℕ) → root g r ≡ true → fragments_from g p r ≡ 1 + sum_where (fragments_under g p) (leaf_of g r) g.nodes
  unfolding fragments_from fragments_under
  fragment_sum r h =
      let n : ℕ = g.nodes in
      let inside : ℕ → ℕ → Bool = λ x v. root g v && under g p x v in
      let below : ℕ → Bool = λ v. any n (λ x. leaf_of g r x && inside x v) in
      let all : sum_where (fragments_under g p) (leaf_of g r) n ≡ count n below =
      sum_count (fragments_under g p) (leaf_of g r) n inside (λ x _. refl)
      (λ x y v hx hy cx cy. apart g p shaped forest (leaf_of g r) (leaves_level g p shaped forest r) x y v hx hy
      ((covers_iff g p shaped forest x v).1 (inr ((under_iff g shaped p x v).0 (and_both (root g v) (under g p x v) cx).1)))
      ((covers_iff g p shaped forest y v).1 (inr ((under_iff g shaped p y v).0 (and_both (root g v) (under g p y v) cy).1))))
      n in
      let itself : below r ≡ false =
      not_holding (below r) (λ d.
      let x = any_found n (λ x. leaf_of g r x && inside x r) d in
      let y = and_both (leaf_of g r x.0) (inside x.0 r) x.2 in
      asymmetric forest (leaves_below g p shaped forest r x.0 y.0) ((under_iff g shaped p x.0 r).0 (and_both (root g r) (under g p x.0 r) y.1).1)) in
      let others : (v : ℕ) → (v ≡ r → ⊥) → below v ≡ (root g v && covers g p r v) = λ v no.
      any_both n (leaf_of g r) (λ x. inside x v) (root g v && covers g p r v)
      (λ x k d.
      let z = and_both (root g v) (under g p x v) d in
      and_intro (root g v) (covers g p r v) z.0 ((covers_iff g p shaped forest r v).1 (inr (path_trans (leaves_below g p shaped forest r x k) ((under_iff g shaped p x v).0 z.1)))))
      (λ d.
      let z = and_both (root g v) (covers g p r v) d in
      let x = root_by_leaf r v h z.0 (⊎_elim (λ (i : r ≡ v). absurd (no (sym i))) (λ (q : Below g p r v). q) ((covers_iff g p shaped forest r v).0 z.1)) in
      (x.0, leaf_below g x.0 (leaf_of_parts g r x.0 x.1).0, x.1, and_intro (root g v) (under g p x.0 v) z.0 ((under_iff g shaped p x.0 v).1 x.2))) in
      let more = count_one_more n below (λ v. root g v && covers g p r v) r (root_below g r h) itself (and_intro (root g r) (covers g p r r) h ((covers_iff g p shaped forest r r).1 (inl refl))) others in
      omega arith

  -- fewer hang below a root
  pub fewer_hung : (r l s : ℕ) → root g r ≡ true → leaf_of g r l ≡ true → hangs g p l s ≡ true → fragments_from g p s < fragments_from g p r
  fewer_hung r l s h k j =
      let is_leaf = (leaf_of_parts g r l k).0 in
      omega (
        arith,
        fragment_sum r h,
        leaf_sum l is_leaf,
        sum_room (fragments_under g p) (leaf_of g r) l g.nodes (leaf_below g l is_leaf) k,
        sum_room (fragments_from g p) (hangs g p l) s g.nodes (root_below g s (hangs_parts g p l s j).1) j,
      )

  pub few_fragments : (r : ℕ) → fragments_from g p r ≤ count g.nodes (root g)
  unfolding fragments_from
  few_fragments r = count_mono g.nodes (λ v. root g v && covers g p r v) (root g) (λ v _ d. (and_both (root g v) (covers g p r v) d).0)

  module _ (placed : placing g p ≡ true) where
    pub tops_sum : sum_where (fragments_from g p) (top g p) g.nodes ≡ count g.nodes (root g)
    unfolding fragments_from
    tops_sum =
        sum_count (fragments_from g p) (top g p) g.nodes (λ x v. root g v && covers g p x v) (λ x _. refl)
        (λ x y v hx hy cx cy. apart g p shaped forest (top g p) (λ a b ha hb. top_highest g p shaped forest a b hb) x y v hx hy (and_both (root g v) (covers g p x v) cx).1 (and_both (root g v) (covers g p y v) cy).1)
        g.nodes
        ∙ count_ext g.nodes (λ v. any g.nodes (λ x. top g p x && (root g v && covers g p x v))) (root g) (λ v _.
        any_both g.nodes (top g p) (λ x. root g v && covers g p x v) (root g v)
        (λ x _ d. (and_both (root g v) (covers g p x v) d).0)
        (λ h.
        let x = top_above g p shaped forest placed v (root_below g v h) in
        (x.0, root_below g x.0 (and_both (root g x.0) (eqb (at p x.0) none) x.1).0, x.1, and_intro (root g v) (covers g p x.0 v) h ((covers_iff g p shaped forest x.0 v).1 x.2))))
