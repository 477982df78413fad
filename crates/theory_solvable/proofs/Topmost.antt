-- Completeness: elimination of a solvable graph is never stuck. Of any set of fragments the one whose root is topmost in
-- a solved form is free: by `stay` all that is joined to one of its leaves lies below that leaf in the solved form, and
-- nothing lies below two leaves of one fragment. So free fragments can be taken out in any order.
use Prim.Native.Nat.{ℕ, zero, suc, ◌+◌, ◌<◌}
use mathlib.Core.Path.{◌≡◌, refl, sym, subst, ◌∙◌}
use mathlib.Core.List.{List}
use mathlib.Core.Bool.{Bool, true, false, ◌&&◌, true≢false}
use mathlib.Core.Logic.{inl, inr, ⊎_elim}
use native.Mathlib.Omega.{arith}
use Rattle.base_finite.specs.Below.{any, count}
use Rattle.base_finite.proofs.Laws.{by_bool, and_both, and_intro, last_or_below, any_found, any_false, count_one_more, not_holding, test_ext}
use Rattle.graph.specs.Graph.{Graph, Descent, one, more, root, own, leaf_of}
use Rattle.graph.specs.Placing.{PlacingEdge, Below, Forest, SolvedForm, Solvable}
use Rattle.theory_edges.proofs.Ends.{root_below}
use Rattle.theory_forest.specs.Shape.{Shaped}
use Rattle.theory_forest.proofs.Closure.{path_trans}
use Rattle.theory_forest.specs.Table.{under}
use Rattle.theory_forest.proofs.Table.{under_iff, hangs_parts}
use Rattle.theory_forest.proofs.Fragments.{leaf_not_root, own_edge, own_of_root, leaf_of_parts}
use Rattle.theory_forest.proofs.Forests.{Comparable, AtOrAbove, irreflexive_path, stay, one_leaf_above}
use Rattle.theory_solvable.proofs.Free.{OfRoots, Joined, start, step, Free, less, less_intro, less_member, less_other, less_of_roots, Eliminates, done, take}

-- a root above a node is at that node's own root or above it
root_above_own : (g : Graph) (p : List ℕ) → Shaped g → {r v : ℕ} → root g r ≡ true → Below g p r v → AtOrAbove (PlacingEdge g p) r (own g v)
root_above_own g p s h (one {u = r} {v = v} (inl t)) = inl (sym (own_edge g s r v t ∙ own_of_root g r h))
root_above_own g p s h (one {u = r} {v = v} (inr k)) =
    inr (subst (λ (z : ℕ). Below g p r z) (sym (own_of_root g v (hangs_parts g p r v k).1)) (one (inr k)))
root_above_own g p s h (more {u = r} {v = w} {w = v} d (inl t)) =
    subst (λ (z : ℕ). AtOrAbove (PlacingEdge g p) r z) (sym (own_edge g s w v t)) (root_above_own g p s h d)
root_above_own g p s h (more {u = r} {v = w} {w = v} d (inr k)) =
    inr (subst (λ (z : ℕ). Below g p r z) (sym (own_of_root g v (hangs_parts g p w v k).1)) (more d (inr k)))

-- a member with no member smaller than k above it
abbrev TopBelow : Graph → List ℕ → (ℕ → Bool) → ℕ → Type 0
TopBelow g p rem k = (t : ℕ) × (rem t ≡ true) × ((y : ℕ) → y < k → rem y ≡ true → Below g p y t → ⊥)

-- the next number takes its place if it is a member above it
top_more : (g : Graph) (p : List ℕ) → Shaped g → Forest (PlacingEdge g p) → (rem : ℕ → Bool) (k : ℕ) → TopBelow g p rem k → TopBelow g p rem (suc k)
top_more g p s f rem k (t, m, n) =
    by_bool (rem k && under g p k t)
    (λ b.
    let c = and_both (rem k) (under g p k t) b in
    let up : Below g p k t = (under_iff g s p k t).0 c.1 in (
      k,
      c.0,
      λ y l h d.
          ⊎_elim
          (λ (i : y ≡ k). irreflexive_path f d i)
          (λ (o : y < k). n y o h (path_trans d up))
          (last_or_below l),
    ))
    (λ b. (
      t,
      m,
      λ y l h d.
          ⊎_elim
          (λ (i : y ≡ k). true≢false (sym (and_intro (rem k) (under g p k t) (rw i at h) ((under_iff g s p k t).1 (rw i at d))) ∙ b))
          (λ (o : y < k). n y o h d)
          (last_or_below l),
    ))

-- of a set with a member, one is topmost
top_member : (g : Graph) (p : List ℕ) → Shaped g → Forest (PlacingEdge g p) → (rem : ℕ → Bool) (r : ℕ) → rem r ≡ true → (k : ℕ) → TopBelow g p rem k
top_member g p s f rem r h zero = (r, h, λ y l. absurd (omega arith))
top_member g p s f rem r h (suc k) = top_more g p s f rem k (top_member g p s f rem r h k)

-- what is joined to a leaf of the topmost fragment lies below that leaf: no other member stands above the leaf
joined_below : (g : Graph) (p : List ℕ) → Shaped g → SolvedForm g p → (rem : ℕ → Bool) → OfRoots g rem
    → (F : ℕ) → ((y : ℕ) → rem y ≡ true → Below g p y F → ⊥) → (l : ℕ) → leaf_of g F l ≡ true → {f : ℕ} → Joined g rem F l f → Below g p l f
joined_below g p s q rem sub F top l hl (start {f = f} m n d) = q.contains l f d
joined_below g p s q rem sub F top l hl (step {f = f} {h = h} j m n c) =
    let b = leaf_of_parts g F l hl in
    let near : Comparable (PlacingEdge g p) h f =
    ⊎_elim (λ (d : Descent g f h). inr (inr (q.contains f h d))) (λ (d : Descent g h f). inr (inl (q.contains h f d))) c in
    stay q.is_forest (joined_below g p s q rem sub F top l hl j) near
    (⊎_elim
    (λ (i : h ≡ l). leaf_not_root g s l b.0 (rw i at (sub h m)))
    (λ (d : Below g p h l).
    ⊎_elim
    (λ (i : h ≡ own g l). n (i ∙ b.1))
    (λ (e : Below g p h (own g l)). top h m (rw b.1 at e))
    (root_above_own g p s (sub h m) d)))

pub topmost_free : (g : Graph) (p : List ℕ) → Shaped g → SolvedForm g p → (rem : ℕ → Bool) → OfRoots g rem → (r : ℕ) → rem r ≡ true → (F : ℕ) × Free g rem F
topmost_free g p s q rem sub r h =
    let x = top_member g p s q.is_forest rem r h g.nodes in
    let F : ℕ = x.0 in
    let top : (y : ℕ) → rem y ≡ true → Below g p y F → ⊥ = λ y m. x.2 y (root_below g y (sub y m)) m in (
      F,
      record {
        member = x.1;
        none_above = λ y m d. top y m (q.contains y F d);
        one_leaf = λ l m f a b j k.
            let c = leaf_of_parts g F l a in
            let d = leaf_of_parts g F m b in
            one_leaf_above g p s q.is_forest c.0 d.0 (c.1 ∙ sym d.1)
            (joined_below g p s q rem sub F top l a j) (joined_below g p s q rem sub F top m b k);
      },
    )

-- elimination may take free fragments in any order
pub never_stuck : (g : Graph) → Shaped g → Solvable g → (rem : ℕ → Bool) → OfRoots g rem → (r : ℕ) → rem r ≡ true → (F : ℕ) × Free g rem F
never_stuck g s x rem sub r h = topmost_free g x.0 s x.1 rem sub r h

pub stuck_unsolvable : (g : Graph) → Shaped g → (rem : ℕ → Bool) → OfRoots g rem → (r : ℕ) → rem r ≡ true → ((F : ℕ) → Free g rem F → ⊥) → Solvable g → ⊥
stuck_unsolvable g s rem sub r h stuck x = let f = never_stuck g s x rem sub r h in stuck f.0 f.1

-- a set with one member less
count_less : (n : ℕ) (rem : ℕ → Bool) (F : ℕ) → F < n → rem F ≡ true → count n rem ≡ count n (less rem F) + 1
count_less n rem F h m =
    count_one_more n (less rem F) rem F h
    (not_holding (less rem F F) (λ t. less_other rem F F t refl)) m
    (λ j apart. test_ext (less rem F j) (rem j) (less_member rem F j) (λ t. less_intro rem F j t apart))

-- a set eliminates if all sets with one member less do
first_free : (g : Graph) → Shaped g → Solvable g → (rem : ℕ → Bool) → OfRoots g rem
    → ((F : ℕ) → count g.nodes rem ≡ count g.nodes (less rem F) + 1 → Eliminates g (less rem F)) → Eliminates g rem
first_free g s x rem sub rest =
    by_bool (any g.nodes rem)
    (λ (t : any g.nodes rem ≡ true).
    let r = any_found g.nodes rem t in
    let f = never_stuck g s x rem sub r.0 r.2 in
    let m : rem f.0 ≡ true = f.1.member in
    take f.0 f.1 (rest f.0 (count_less g.nodes rem f.0 (root_below g f.0 (sub f.0 m)) m)))
    (λ (t : any g.nodes rem ≡ false). done (any_false g.nodes rem t))

-- by the number of members
set_eliminates : (g : Graph) → Shaped g → Solvable g → (k : ℕ) (rem : ℕ → Bool) → OfRoots g rem → count g.nodes rem ≡ k → Eliminates g rem
set_eliminates g s x zero rem sub e =
    first_free g s x rem sub (λ F (c : count g.nodes rem ≡ count g.nodes (less rem F) + 1). absurd (omega arith))
set_eliminates g s x (suc k) rem sub e =
    first_free g s x rem sub (λ F (c : count g.nodes rem ≡ count g.nodes (less rem F) + 1).
    set_eliminates g s x k (less rem F) (less_of_roots g rem F sub) (omega arith))

pub solvable_eliminates : (g : Graph) → Shaped g → Solvable g → Eliminates g (root g)
solvable_eliminates g s x = set_eliminates g s x (count g.nodes (root g)) (root g) (λ r h. h) refl
