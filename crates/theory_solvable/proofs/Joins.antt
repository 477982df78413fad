-- Whether a fragment is joined to a leaf is decided. The steps between the fragments of a set, and from a leaf down into
-- it, are a test on pairs of nodes; a table of its closure says what can be reached (`joins`). From a leaf, which is no
-- member of a set of roots, what can be reached is what is joined. So it is decided whether a fragment is joined
-- to any leaf of another.
use Prim.Native.Nat.{ℕ, ◌<◌}
use mathlib.Core.Path.{◌≡◌, sym, ◌∙◌}
use mathlib.Core.List.{List}
use mathlib.Core.Bool.{Bool, true, false, ◌&&◌, ◌||◌, true≢false}
use mathlib.Core.Logic.{◌⊎◌, inl, inr, ⊎_elim, ◌↔◌}
use Rattle.base_finite.specs.Below.{any}
use Rattle.base_finite.proofs.Laws.{by_bool, and_both, and_intro, any_at, any_found, not_holding}
use Rattle.graph.specs.Graph.{Edge, Graph, Descent, among, Path, one, more, leaf, leaf_of}
use Rattle.theory_edges.proofs.Ends.{leaf_below}
use Rattle.theory_edges.proofs.Tables.{table, among_table, table_among}
use Rattle.theory_forest.specs.Shape.{Shaped}
use Rattle.theory_forest.proofs.Closure.{path_map}
use Rattle.theory_forest.specs.Table.{look, closure, descends}
use Rattle.theory_forest.proofs.Table.{closure_iff, descends_iff, descent_within, and_holds, or_holds}
use Rattle.theory_forest.proofs.Fragments.{leaf_not_root, leaf_of_parts}
use Rattle.theory_solvable.proofs.Free.{OfRoots, Joined, start, step, less, less_intro, less_member, less_other, joined_member}

-- the edges from a to b, a and b below n, where the test holds
abbrev pub pairs : ℕ → (ℕ → ℕ → Bool) → List Edge
pairs n p = table n p (λ a b. (a, b))

among_pairs : (n : ℕ) (p : ℕ → ℕ → Bool) → ((a b : ℕ) → p a b ≡ true → (a < n) × (b < n)) → (a b : ℕ) → (among (pairs n p) a b ≡ true) ↔ (p a b ≡ true)
among_pairs n p w a b = (
  λ h. let x = among_table n p (λ a b. (a, b)) a b h in rw (x.5, x.6) at x.4,
  λ h. table_among n p (λ a b. (a, b)) a b (w a b h).0 (w a b h).1 h,
)

-- reachability by the steps of a test is decided
reached_iff : (n : ℕ) (p : ℕ → ℕ → Bool) → ((a b : ℕ) → p a b ≡ true → (a < n) × (b < n)) → (a b : ℕ) → (look (closure n (pairs n p)) a b ≡ true) ↔ Path (λ u v. p u v ≡ true) a b
reached_iff n p w a b =
    let same = among_pairs n p w in
    let law = closure_iff n (pairs n p) (λ u v h. w u v ((same u v).0 h)) a b in
    (λ h. path_map (λ u v. (same u v).0) (law.0 h), λ d. law.1 (path_map (λ u v. (same u v).1) d))

-- a step from a to b: down to a member, or up from a member to a member (a leaf is no member)
unfoldable pub steps : Graph → (ℕ → Bool) → ℕ → ℕ → ℕ → Bool
unfolding less
steps g rem F a b = less rem F b && (descends g a b || less rem F a && descends g b a)

unfoldable pub joins : Graph → (ℕ → Bool) → ℕ → ℕ → ℕ → Bool
unfolding steps
joins g rem F l f = look (closure g.nodes (pairs g.nodes (steps g rem F))) l f

steps_iff : (g : Graph) → Shaped g → (rem : ℕ → Bool) (F a b : ℕ) → (steps g rem F a b ≡ true) ↔ ((less rem F b ≡ true) × (Descent g a b ⊎ ((less rem F a ≡ true) × Descent g b a)))
unfolding steps
steps_iff g s rem F a b =
    and_holds (less rem F b) (descends g a b || less rem F a && descends g b a) (λ h. h, λ h. h)
    (or_holds (descends g a b) (less rem F a && descends g b a) (descends_iff g s a b)
    (and_holds (less rem F a) (descends g b a) (λ h. h, λ h. h) (descends_iff g s b a)))

steps_within : (g : Graph) → Shaped g → (rem : ℕ → Bool) (F a b : ℕ) → steps g rem F a b ≡ true → (a < g.nodes) × (b < g.nodes)
steps_within g s rem F a b h =
    ⊎_elim
    (λ (d : Descent g a b). descent_within g s d)
    (λ (d : (less rem F a ≡ true) × Descent g b a). let w = descent_within g s d.1 in (w.1, w.0))
    ((steps_iff g s rem F a b).0 h).1

module _ (g : Graph) (s : Shaped g) (rem : ℕ → Bool) (F l : ℕ) (out : less rem F l ≡ false) where
  path_joined : {f : ℕ} → Path (λ u v. steps g rem F u v ≡ true) l f → Joined g rem F l f
  path_joined {f} (one e) =
      let x = (steps_iff g s rem F l f).0 e in
      ⊎_elim
      (λ (d : Descent g l f). start (less_member rem F f x.0) (less_other rem F f x.0) d)
      (λ (d : (less rem F l ≡ true) × Descent g f l). absurd (true≢false (sym d.0 ∙ out)))
      x.1
  path_joined {f} (more {v = v} p e) =
      let x = (steps_iff g s rem F v f).0 e in
      step (path_joined p) (less_member rem F f x.0) (less_other rem F f x.0)
      (⊎_elim (λ (d : Descent g v f). inl d) (λ (d : (less rem F v ≡ true) × Descent g f v). inr d.1) x.1)

  joined_path : {f : ℕ} → Joined g rem F l f → Path (λ u v. steps g rem F u v ≡ true) l f
  joined_path (start {f = f} m n d) = one ((steps_iff g s rem F l f).1 (less_intro rem F f m n, inl d))
  joined_path (step {f = f} {h = h} j m n c) =
      let k = joined_member j in
      more (joined_path j) ((steps_iff g s rem F f h).1 (
        less_intro rem F h m n,
        ⊎_elim (λ (d : Descent g f h). inl d) (λ (d : Descent g h f). inr (less_intro rem F f k.0 k.1, d)) c,
      ))

  pub joins_iff : (f : ℕ) → (joins g rem F l f ≡ true) ↔ Joined g rem F l f
  unfolding joins
  joins_iff f =
      let law = reached_iff g.nodes (steps g rem F) (steps_within g s rem F) l f in
      (λ h. path_joined (law.0 h), λ j. law.1 (joined_path j))

-- a leaf is no member of a set of fragments
pub leaf_out : (g : Graph) → Shaped g → (rem : ℕ → Bool) → OfRoots g rem → (F l : ℕ) → leaf g l ≡ true → less rem F l ≡ false
leaf_out g s rem sub F l h = not_holding (less rem F l) (λ t. leaf_not_root g s l h (sub l (less_member rem F l t)))

-- f is joined to the leaf l of F
abbrev pub JoinedLeaf : Graph → (ℕ → Bool) → ℕ → ℕ → ℕ → Type 0
JoinedLeaf g rem F f l = (leaf_of g F l ≡ true) × Joined g rem F l f

pub joined_leaf_decided : (g : Graph) → Shaped g → (rem : ℕ → Bool) → OfRoots g rem → (F f : ℕ) → ((l : ℕ) × JoinedLeaf g rem F f l) ⊎ ((l : ℕ) → JoinedLeaf g rem F f l → ⊥)
joined_leaf_decided g s rem sub F f =
    let law : (l : ℕ) → leaf g l ≡ true → (joins g rem F l f ≡ true) ↔ Joined g rem F l f = λ l h. joins_iff g s rem F l (leaf_out g s rem sub F l h) f in
    by_bool (any g.nodes (λ l. leaf_of g F l && joins g rem F l f))
    (λ t.
    let x = any_found g.nodes (λ l. leaf_of g F l && joins g rem F l f) t in
    let b = and_both (leaf_of g F x.0) (joins g rem F x.0 f) x.2 in
    inl (x.0, (b.0, (law x.0 (leaf_of_parts g F x.0 b.0).0).0 b.1)))
    (λ t.
    inr (λ l j.
    let h : leaf g l ≡ true = (leaf_of_parts g F l j.0).0 in
    true≢false (sym (any_at g.nodes (λ l. leaf_of g F l && joins g rem F l f) l (leaf_below g l h) (and_intro (leaf_of g F l) (joins g rem F l f) j.0 ((law l h).1 j.1))) ∙ t)))
