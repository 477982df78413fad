-- One step of Rule 1 on a solved form p. The problem leaf a carries its lowest root r, which stays, and another root;
-- every other root z under a goes to b, the lowest leaf of r's fragment. An edge of p that is gone, from a to z, is a path
-- of the shifted placing by way of r and b, so what lies below what only grows, and each dominance edge still runs
-- downward. A path of the shifted placing is one of p or goes from b to some z; in a cycle z would be above b, as r is,
-- and two roots under one leaf are never one above the other: so the result is a forest. It grows strictly, by (b, z).
use Prim.Native.Nat.{ℕ, ◌≤◌, ◌<◌}
use mathlib.Core.Path.{◌≡◌, refl, sym, subst, ◌∙◌}
use mathlib.Core.List.{List}
use mathlib.Core.Bool.{Bool, true, false, cond, not, ◌&&◌, ◌||◌, true≢false}
use mathlib.Core.Logic.{◌⊎◌, inl, inr, ⊎_elim, ⊎_map}
use native.Mathlib.Omega.{arith}
use lib.Dec.{eqb, leb}
use lib.ListN.{length}
use borrow.Author.Tests.{eqb-false, eq-eqb, ne_eqb, leb-true, le-leb, not-true}
use Rattle.base_finite.specs.Below.{any, all, count}
use Rattle.base_finite.proofs.Laws.{by_bool, or_left, or_right, and_both, and_intro, any_at, all_every}
use Rattle.graph.specs.Graph.{Graph, root, leaf, leaf_of, none, TreeEdge, Path, one, more}
use Rattle.graph.specs.Placing.{at, placing, hangs, PlacingEdge, Below, Forest, Contains, SolvedForm}
use Rattle.graph.specs.Rule1.{problem, depth, shallowest, problem_leaf, staying, lowest_leaf_of, shifted}
use Rattle.theory_edges.proofs.Ends.{leaf_below, root_below}
use Rattle.theory_forest.specs.Shape.{Shaped}
use Rattle.theory_forest.proofs.Closure.{path_trans, path_lift}
use Rattle.theory_forest.proofs.Table.{hangs_parts, hangs_intro}
use Rattle.theory_forest.proofs.Fragments.{leaf_of_parts, root_leaf, leaf_below_own}
use Rattle.theory_forest.proofs.Forests.{AtOrAbove, above_parent, chain, asymmetric, irreflexive_path, tree_below, hung_below, acyclic_forest, placing_cases}
use Rattle.base_finite.proofs.Counting.{another, some_counted, least_found, smallest, length_entries, entry_at}

-- the leaf and the roots that the step names

-- the lowest leaf of a root's fragment is one of its leaves
pub lowest_leaf_of_lem : (g : Graph) → Shaped g → (r : ℕ) → root g r ≡ true → leaf_of g r (lowest_leaf_of g r) ≡ true
unfolding lowest_leaf_of
lowest_leaf_of_lem g s r h =
    let x = root_leaf g s r h in
    (least_found g.nodes (leaf_of g r) (any_at g.nodes (leaf_of g r) x.0 (leaf_below g x.0 (leaf_of_parts g r x.0 x.1).0) x.1)).1

shallowest_intro : (g : Graph) (p : List ℕ) (l : ℕ) → problem g p l ≡ true → ((m : ℕ) → m < g.nodes → problem g p m ≡ true → depth g p l ≤ depth g p m) → shallowest g p l ≡ true
unfolding shallowest
shallowest_intro g p l h f =
    and_intro (problem g p l) (all g.nodes (λ m. not (problem g p m) || leb (depth g p l) (depth g p m))) h
    (all_every g.nodes (λ m. not (problem g p m) || leb (depth g p l) (depth g p m)) (λ m b.
    by_bool (problem g p m)
    (λ (t : problem g p m ≡ true). rw (t, le-leb (depth g p l) (depth g p m) (f m b t)))
    (λ (t : problem g p m ≡ false). rw t)))

-- some leaf carries several roots
abbrev pub Problem : Graph → List ℕ → Type 0
Problem g p = any g.nodes (problem g p) ≡ true

-- the problem leaf is one
pub problem_leaf_lem : (g : Graph) (p : List ℕ) → Problem g p → problem g p (problem_leaf g p) ≡ true
unfolding problem_leaf shallowest
problem_leaf_lem g p t =
    let k = smallest g.nodes (problem g p) (depth g p) t in
    let found = least_found g.nodes (shallowest g p) (any_at g.nodes (shallowest g p) k.0 k.1 (shallowest_intro g p k.0 k.2 k.3)) in
    (and_both (problem g p (problem_leaf g p)) (all g.nodes (λ m. not (problem g p m) || leb (depth g p (problem_leaf g p)) (depth g p m))) found.1).0

carries_two : (g : Graph) (p : List ℕ) → Problem g p → 2 ≤ count g.nodes (hangs g p (problem_leaf g p))
unfolding problem
carries_two g p t = leb-true 2 (count g.nodes (hangs g p (problem_leaf g p))) (problem_leaf_lem g p t)

pub staying_hangs : (g : Graph) (p : List ℕ) → Problem g p → hangs g p (problem_leaf g p) (staying g p) ≡ true
unfolding staying
staying_hangs g p t =
    let two = carries_two g p t in
    (least_found g.nodes (hangs g p (problem_leaf g p)) (some_counted g.nodes (hangs g p (problem_leaf g p)) (omega arith))).1

-- z is a root under the problem leaf, and not the one that stays
abbrev pub Moved : Graph → List ℕ → ℕ → Type 0
Moved g p z = (hangs g p (problem_leaf g p) z ≡ true) × (z ≡ staying g p → ⊥)

pub some_moved : (g : Graph) (p : List ℕ) → Problem g p → (z : ℕ) × Moved g p z
some_moved g p t =
    let a : ℕ = problem_leaf g p in
    let r : ℕ = staying g p in
    let h = staying_hangs g p t in
    let z = another g.nodes (hangs g p a) r (carries_two g p t) (root_below g r (hangs_parts g p a r h).1) h in
    (z.0, (z.2, z.3))

-- the leaf that the moved roots go to
abbrev pub target : Graph → List ℕ → ℕ
target g p = lowest_leaf_of g (staying g p)

-- a root that is moved goes there, and every other node is as before
shifted_at : (g : Graph) (p : List ℕ) (z : ℕ) → z < g.nodes → (Moved g p z × (at (shifted g p) z ≡ target g p)) ⊎ ((Moved g p z → ⊥) × (at (shifted g p) z ≡ at p z))
unfolding shifted
shifted_at g p z l =
    let h : Bool = hangs g p (problem_leaf g p) z in
    let i : Bool = eqb z (staying g p) in
    let f : ℕ → ℕ = λ z. cond (hangs g p (problem_leaf g p) z && not (eqb z (staying g p))) (target g p) (at p z) in
    let e : at (shifted g p) z ≡ f z = entry_at g.nodes f 0 z l in
    by_bool (h && not i)
    (λ (t : (h && not i) ≡ true).
    let b = and_both h (not i) t in
    inl ((b.0, eqb-false z (staying g p) (not-true i b.1)), e ∙ (rw t)))
    (λ (t : (h && not i) ≡ false).
    inr (λ m. true≢false (sym (rw (m.0, ne_eqb z (staying g p) m.1)) ∙ t), e ∙ (rw t)))

shifted_length : (g : Graph) (p : List ℕ) → length (shifted g p) ≡ g.nodes
unfolding shifted
shifted_length g p =
    length_entries g.nodes (λ z. cond (hangs g p (problem_leaf g p) z && not (eqb z (staying g p))) (target g p) (at p z))

-- a list in which each node is on top or hangs under a leaf is a placing
pub placing_intro : (g : Graph) (p : List ℕ) → length p ≡ g.nodes → ((v : ℕ) → v < g.nodes → (at p v ≡ none) ⊎ (hangs g p (at p v) v ≡ true)) → placing g p ≡ true
unfolding placing
placing_intro g p n f =
    and_intro (eqb (length p) g.nodes) (all g.nodes (λ v. eqb (at p v) none || root g v && leaf g (at p v))) (eq-eqb (length p) g.nodes n)
    (all_every g.nodes (λ v. eqb (at p v) none || root g v && leaf g (at p v)) (λ v l.
    ⊎_elim
    (λ (e : at p v ≡ none). or_left (eqb (at p v) none) (root g v && leaf g (at p v)) (eq-eqb (at p v) none e))
    (λ (h : hangs g p (at p v) v ≡ true).
    let b = hangs_parts g p (at p v) v h in
    or_right (eqb (at p v) none) (root g v && leaf g (at p v)) (and_intro (root g v) (leaf g (at p v)) b.1 b.0))
    (f v l)))

-- from u to the target, and on from a moved root to v
abbrev Through : Graph → List ℕ → ℕ → ℕ → Type 0
Through g p u v = AtOrAbove (PlacingEdge g p) u (target g p) × ((z : ℕ) × (Moved g p z × AtOrAbove (PlacingEdge g p) z v))

at_or_above_trans : {E : ℕ → ℕ → Type 0} {x y z : ℕ} → AtOrAbove E x y → AtOrAbove E y z → AtOrAbove E x z
at_or_above_trans {E} {x} {y} {z} (inl i) b = subst (λ (w : ℕ). AtOrAbove E w z) (sym i) b
at_or_above_trans {E} {x} {y} {z} (inr p) (inl i) = inr (subst (λ (w : ℕ). Path E x w) i p)
at_or_above_trans (inr p) (inr q) = inr (path_trans p q)

module _ {E : ℕ → ℕ → Type 0} (f : Forest E) where
  -- what is at a child of a node, or below it, is not at that node, or above it
  not_up : {a r x : ℕ} → E a r → AtOrAbove E r x → AtOrAbove E x a → ⊥
  not_up {a} {r} e b c =
      ⊎_elim (λ (i : r ≡ a). irreflexive_path f (one e) (sym i)) (λ (p : Path E r a). asymmetric f (one e) p) (at_or_above_trans b c)

  -- two children of one node are never one above the other
  not_siblings : {a r z : ℕ} → E a r → E a z → Path E r z → ⊥
  not_siblings e d p = not_up e (inl refl) (above_parent f d p)

module _ (g : Graph) (p : List ℕ) (s : Shaped g) (t : Problem g p) where
  pub target_leaf : leaf_of g (staying g p) (target g p) ≡ true
  target_leaf = lowest_leaf_of_lem g s (staying g p) (hangs_parts g p (problem_leaf g p) (staying g p) (staying_hangs g p t)).1

  -- the target lies below the root that stays, whatever the placing
  staying_above : (q : List ℕ) → Below g q (staying g p) (target g p)
  staying_above q =
      let b = leaf_of_parts g (staying g p) (target g p) target_leaf in
      tree_below g q (subst (λ (r : ℕ). Path (TreeEdge g) r (target g p)) b.1 (leaf_below_own g s (target g p) b.0))

  moved_hangs : (z : ℕ) → Moved g p z → hangs g (shifted g p) (target g p) z ≡ true
  moved_hangs z m =
      let h = hangs_parts g p (problem_leaf g p) z m.0 in
      hangs_intro g (shifted g p) (target g p) z (leaf_of_parts g (staying g p) (target g p) target_leaf).0 h.1
      (⊎_elim
      (λ (x : Moved g p z × (at (shifted g p) z ≡ target g p)). x.1)
      (λ (x : (Moved g p z → ⊥) × (at (shifted g p) z ≡ at p z)). absurd (x.0 m))
      (shifted_at g p z (root_below g z h.1)))

  -- a root that hangs in p is moved, or hangs where it did
  hangs_shifted : (u z : ℕ) → hangs g p u z ≡ true → ((u ≡ problem_leaf g p) × Moved g p z) ⊎ (hangs g (shifted g p) u z ≡ true)
  hangs_shifted u z h =
      let b = hangs_parts g p u z h in
      ⊎_elim
      (λ (x : Moved g p z × (at (shifted g p) z ≡ target g p)). inl (sym b.2 ∙ (hangs_parts g p (problem_leaf g p) z x.0.0).2, x.0))
      (λ (x : (Moved g p z → ⊥) × (at (shifted g p) z ≡ at p z)). inr (hangs_intro g (shifted g p) u z b.0 b.1 (x.1 ∙ b.2)))
      (shifted_at g p z (root_below g z b.1))

  -- a root that hangs in the shifted placing was moved, or hangs where it did
  shifted_hangs : (u z : ℕ) → hangs g (shifted g p) u z ≡ true → ((u ≡ target g p) × Moved g p z) ⊎ (hangs g p u z ≡ true)
  shifted_hangs u z h =
      let b = hangs_parts g (shifted g p) u z h in
      ⊎_elim
      (λ (x : Moved g p z × (at (shifted g p) z ≡ target g p)). inl (sym b.2 ∙ x.1, x.0))
      (λ (x : (Moved g p z → ⊥) × (at (shifted g p) z ≡ at p z)). inr (hangs_intro g p u z b.0 b.1 (sym x.1 ∙ b.2)))
      (shifted_at g p z (root_below g z b.1))

  -- from the problem leaf by way of the root that stays and the target to a moved root
  detour : (z : ℕ) → Moved g p z → Below g (shifted g p) (problem_leaf g p) z
  detour z m =
      let kept : hangs g (shifted g p) (problem_leaf g p) (staying g p) ≡ true =
      ⊎_elim
      (λ (x : (problem_leaf g p ≡ problem_leaf g p) × Moved g p (staying g p)). absurd (x.1.1 refl))
      (λ (h : hangs g (shifted g p) (problem_leaf g p) (staying g p) ≡ true). h)
      (hangs_shifted (problem_leaf g p) (staying g p) (staying_hangs g p t)) in
      more (path_trans (hung_below g (shifted g p) kept) (staying_above (shifted g p))) (inr (moved_hangs z m))

  pub shifted_contains : Contains (Below g (shifted g p)) (Below g p)
  shifted_contains u v b =
      path_lift (λ x z.
      ⊎_elim
      (λ (e : TreeEdge g x z). one (inl e))
      (λ (h : hangs g p x z ≡ true).
      ⊎_elim
      (λ (y : (x ≡ problem_leaf g p) × Moved g p z). subst (λ (w : ℕ). Below g (shifted g p) w z) (sym y.0) (detour z y.1))
      (λ (k : hangs g (shifted g p) x z ≡ true). hung_below g (shifted g p) k)
      (hangs_shifted x z h))) b

  shifted_edge : (u z : ℕ) → PlacingEdge g (shifted g p) u z → ((u ≡ target g p) × Moved g p z) ⊎ PlacingEdge g p u z
  shifted_edge u z (inl e) = inr (inl e)
  shifted_edge u z (inr h) = ⊎_map (λ x. x) inr (shifted_hangs u z h)

  -- a path of the shifted placing is one of p, or goes by way of the target to a moved root
  shifted_path : {u v : ℕ} → Below g (shifted g p) u v → Through g p u v ⊎ Below g p u v
  shifted_path (one {u = u} {v = v} e) = ⊎_map (λ x. (inl x.0, (v, (x.1, inl refl)))) one (shifted_edge u v e)
  shifted_path (more {u = u} {v = v} {w = w} d e) =
      ⊎_elim
      (λ (x : (v ≡ target g p) × Moved g p w).
      inl (⊎_elim (λ (y : Through g p u v). y.0) (λ (b : Below g p u v). inr (subst (λ (k : ℕ). Below g p u k) x.0 b)) (shifted_path d), (w, (x.1, inl refl))))
      (λ (k : PlacingEdge g p v w).
      ⊎_map (λ y. (y.0, (y.1.0, (y.1.1.0, at_or_above_trans y.1.1.1 (inr (one k)))))) (λ b. more b k) (shifted_path d))
      (shifted_edge v w e)

  -- strictly more lies below something: a moved root now lies below the target
  pub shifted_grows : Forest (PlacingEdge g p) → (z : ℕ) × Below g (shifted g p) (target g p) z × (Below g p (target g p) z → ⊥)
  shifted_grows f =
      let z = some_moved g p t in
      (z.0, hung_below g (shifted g p) (moved_hangs z.0 z.1), λ b. not_up f (inr (staying_hangs g p t)) (inr (staying_above p)) (above_parent f (inr z.1.0) b))

  shifted_placing : placing g p ≡ true → placing g (shifted g p) ≡ true
  shifted_placing h =
      placing_intro g (shifted g p) (shifted_length g p) (λ v l.
      ⊎_elim
      (λ (x : Moved g p v × (at (shifted g p) v ≡ target g p)). inr (rw x.1 (moved_hangs v x.0)))
      (λ (x : (Moved g p v → ⊥) × (at (shifted g p) v ≡ at p v)).
      ⊎_map (λ e. x.1 ∙ e) (λ k. let b = hangs_parts g p (at p v) v k in hangs_intro g (shifted g p) (at (shifted g p) v) v (rw x.1 b.0) b.1 refl) (placing_cases g p v h l))
      (shifted_at g p v l))

  -- a moved root is not above the target: the root that stays is
  moved_not_above : Forest (PlacingEdge g p) → (z : ℕ) → Moved g p z → AtOrAbove (PlacingEdge g p) z (target g p) → ⊥
  moved_not_above f z m c =
      let stays : PlacingEdge g p (problem_leaf g p) (staying g p) = inr (staying_hangs g p t) in
      let moves : PlacingEdge g p (problem_leaf g p) z = inr m.0 in
      let above : Below g p (staying g p) (target g p) = staying_above p in
      ⊎_elim
      (λ (i : z ≡ target g p). not_siblings f stays moves (subst (λ (w : ℕ). Below g p (staying g p) w) (sym i) above))
      (λ (b : Below g p z (target g p)).
      ⊎_elim (λ (i : z ≡ staying g p). m.1 i) (⊎_elim (not_siblings f moves stays) (not_siblings f stays moves)) (chain f b above))
      c

  pub shifted_solved : SolvedForm g p → SolvedForm g (shifted g p)
  shifted_solved o =
      record {
        is_placing = shifted_placing o.is_placing;
        is_forest =
            acyclic_forest g (shifted g p) s (λ u b.
            ⊎_elim
            (λ (x : Through g p u u). moved_not_above o.is_forest x.1.0 x.1.1.0 (at_or_above_trans x.1.1.1 x.0))
            (λ (c : Below g p u u). o.is_forest.no_loop u c)
            (shifted_path b));
        contains = λ u v d. shifted_contains u v (o.contains u v d);
      }
