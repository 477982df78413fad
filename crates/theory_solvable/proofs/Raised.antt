-- Soundness: a graph that eliminates has a solved form. It is built backwards, from the last fragment taken out to the
-- first: F is put on top of a solved form of the rest, and what was a top of the rest hangs under the leaf of F that it is
-- joined to, if there is one. The invariants: a hung fragment hangs under a leaf of a fragment of lower rank; each
-- fragment has a top above it that it is connected with; what the graph has below a leaf is below it.
use Prim.Native.Nat.{ℕ, suc, ◌<◌}
use mathlib.Core.Path.{◌≡◌, refl, sym, subst, ◌∙◌}
use mathlib.Core.Bool.{Bool, true, cond, true≢false}
use mathlib.Core.Logic.{◌⊎◌, inl, inr, ⊎_elim, ◌↔◌}
use native.Mathlib.Omega.{arith}
use lib.Dec.{eqb}
use borrow.Author.Tests.{eqb-true, eqb-false, eq-eqb, ne_eqb}
use Rattle.base_finite.proofs.Laws.{by_bool}
use Rattle.graph.specs.Graph.{Graph, Descent, TreeEdge, Path, one, leaf, own, leaf_of, none}
use Rattle.theory_edges.proofs.Ends.{leaf_below, root_below}
use Rattle.theory_forest.specs.Shape.{Shaped}
use Rattle.theory_forest.proofs.Closure.{path_trans, path_map}
use Rattle.theory_forest.proofs.Fragments.{leaf_of_parts, leaf_of_intro, leaf_below_own}
use Rattle.theory_forest.proofs.Forests.{AtOrAbove}
use Rattle.theory_solvable.proofs.Free.{OfRoots, Related, Joined, start, step, Free, less, less_intro, less_member, less_other, less_of_roots, Eliminates, done, take, joined_member}
use Rattle.theory_solvable.proofs.Joins.{JoinedLeaf, joined_leaf_decided}

-- the edges of a placing that is a function: v hangs under the leaf u
abbrev pub HungEdge : Graph → (ℕ → ℕ) → ℕ → ℕ → Type 0
HungEdge g q u v = TreeEdge g u v ⊎ ((leaf g u ≡ true) × (q v ≡ u))

-- the member f may hang under m, a leaf of a member of lower rank
abbrev pub Under : Graph → (ℕ → Bool) → (ℕ → ℕ) → ℕ → ℕ → Type 0
Under g rem rank f m = (rem f ≡ true) × (leaf g m ≡ true) × (rem (own g m) ≡ true) × (rank (own g m) < rank f)

-- P goes on from a member to each member related to it
abbrev pub Closed : Graph → (ℕ → Bool) → (ℕ → Type 0) → Type 0
Closed g rem P = (f h : ℕ) → rem f ≡ true → rem h ≡ true → Related g f h → P f → P h

-- t and f are connected by related members
abbrev pub Connected : Graph → (ℕ → Bool) → ℕ → ℕ → Type 1
Connected g rem t f = (P : ℕ → Type 0) → Closed g rem P → P t ↔ P f

-- the member t is on top, and stands at f or above it
pub record Top (g : Graph) (rem : ℕ → Bool) (q : ℕ → ℕ) (f t : ℕ) : Type 1 where
  pub member : rem t ≡ true
  pub on_top : q t ≡ none
  pub above : AtOrAbove (HungEdge g q) t f
  pub connected : Connected g rem t f

-- q solves the fragments of the set
pub record Solves (g : Graph) (rem : ℕ → Bool) (q rank : ℕ → ℕ) : Type 1 where
  pub hung : (f : ℕ) → (q f ≡ none) ⊎ Under g rem rank f (q f)
  pub tops : (f : ℕ) → rem f ≡ true → (t : ℕ) × Top g rem q f t
  pub downward : (l f : ℕ) → leaf g l ≡ true → rem (own g l) ≡ true → rem f ≡ true → Descent g l f → Path (HungEdge g q) l f

-- where f goes when F is put on top: it stays hung, it stays a top, or it comes under a leaf of F
data Placed (g : Graph) (rem : ℕ → Bool) (F : ℕ) (q rank : ℕ → ℕ) (f m : ℕ) : Type 0 where
  hung_still : Under g (less rem F) rank f m → q f ≡ m → Placed g rem F q rank f m
  top_still : q f ≡ none → ((l : ℕ) → JoinedLeaf g rem F f l → ⊥) → m ≡ none → Placed g rem F q rank f m
  comes_under : q f ≡ none → JoinedLeaf g rem F f m → Placed g rem F q rank f m

place : (g : Graph) → Shaped g → (rem : ℕ → Bool) → OfRoots g rem → (F : ℕ) (q rank : ℕ → ℕ) → Solves g (less rem F) q rank → (f : ℕ) → (m : ℕ) × Placed g rem F q rank f m
place g s rem sub F q rank v f =
    ⊎_elim
    (λ (e : q f ≡ none).
    ⊎_elim
    (λ (x : (l : ℕ) × JoinedLeaf g rem F f l). (x.0, comes_under e x.1))
    (λ (n : (l : ℕ) → JoinedLeaf g rem F f l → ⊥). (none, top_still e n refl))
    (joined_leaf_decided g s rem sub F f))
    (λ (h : Under g (less rem F) rank f (q f)). (q f, hung_still h refl))
    (v.hung f)

-- F comes before all others
later : ℕ → (ℕ → ℕ) → ℕ → ℕ
later F rank f = cond (eqb f F) 0 (suc (rank f))

later_first : (F : ℕ) (rank : ℕ → ℕ) → later F rank F ≡ 0
unfolding later
later_first F rank = rw (eq-eqb F F refl)

later_other : (F : ℕ) (rank : ℕ → ℕ) (f : ℕ) → (f ≡ F → ⊥) → later F rank f ≡ suc (rank f)
unfolding later
later_other F rank f n = rw (ne_eqb f F n)

-- `none` is no leaf
pub none_no_leaf : (g : Graph) → Shaped g → (l : ℕ) → leaf g l ≡ true → l ≡ none → ⊥
none_no_leaf g s l h e = omega (arith, leaf_below g l h, s.few_nodes)

same_or_other : (a b : ℕ) → (a ≡ b) ⊎ (a ≡ b → ⊥)
same_or_other a b = by_bool (eqb a b) (λ t. inl (eqb-true a b t)) (λ t. inr (eqb-false a b t))

-- tree edges lead from a root to each leaf of its fragment
leaf_in_tree : (g : Graph) → Shaped g → (F l : ℕ) → leaf_of g F l ≡ true → Path (TreeEdge g) F l
leaf_in_tree g s F l h =
    let b = leaf_of_parts g F l h in
    subst (λ (z : ℕ). Path (TreeEdge g) z l) b.1 (leaf_below_own g s l b.0)

leaf_descent : (g : Graph) → Shaped g → (F l : ℕ) → leaf_of g F l ≡ true → Descent g F l
leaf_descent g s F l h = path_map (λ u w e. inl e) (leaf_in_tree g s F l h)

module _ (g : Graph) (s : Shaped g) (rem : ℕ → Bool) (F : ℕ) (free : Free g rem F)
    (q rank : ℕ → ℕ) (v : Solves g (less rem F) q rank) (r : ℕ → ℕ) (placed : (f : ℕ) → Placed g rem F q rank f (r f)) where
  placed_hung : (f m : ℕ) → Placed g rem F q rank f m → (m ≡ none) ⊎ Under g rem (later F rank) f m
  placed_hung f m (hung_still h e) =
      let x : later F rank (own g m) ≡ suc (rank (own g m)) = later_other F rank (own g m) (less_other rem F (own g m) h.2) in
      let y : later F rank f ≡ suc (rank f) = later_other F rank f (less_other rem F f h.0) in
      inr (less_member rem F f h.0, h.1, less_member rem F (own g m) h.2, omega (arith, h.3))
  placed_hung f m (top_still e n i) = inl i
  placed_hung f m (comes_under e j) =
      let b = leaf_of_parts g F m j.0 in
      let k = joined_member j.1 in
      let y : later F rank f ≡ suc (rank f) = later_other F rank f k.1 in
      inr (k.0, b.0, rw b.1 free.member, rw (b.1, later_first F rank, y) (omega arith))

  -- what was hung hangs there still
  old_hung : (u w : ℕ) → leaf g u ≡ true → q w ≡ u → Placed g rem F q rank w (r w) → r w ≡ u
  old_hung u w h e (hung_still k i) = sym i ∙ e
  old_hung u w h e (top_still z n i) = absurd (none_no_leaf g s u h (sym e ∙ z))
  old_hung u w h e (comes_under z j) = absurd (none_no_leaf g s u h (sym e ∙ z))

  old_path : {t f : ℕ} → Path (HungEdge g q) t f → Path (HungEdge g r) t f
  old_path p =
      path_map (λ u w.
      ⊎_elim
      (λ (t : TreeEdge g u w). inl t)
      (λ (h : (leaf g u ≡ true) × (q w ≡ u)). inr (h.0, old_hung u w h.0 h.1 (placed w)))) p

  -- a fragment that was a top is one still, or hangs under the leaf of F that it is joined to
  old_top : (t : ℕ) → q t ≡ none → Placed g rem F q rank t (r t) → ((r t ≡ none) × ((l : ℕ) → JoinedLeaf g rem F t l → ⊥)) ⊎ JoinedLeaf g rem F t (r t)
  old_top t e (hung_still h i) = absurd (none_no_leaf g s (r t) h.1 (sym i ∙ e))
  old_top t e (top_still z n i) = inl (i, n)
  old_top t e (comes_under z j) = inr j

  first_top : Placed g rem F q rank F (r F) → r F ≡ none
  first_top (hung_still h i) = absurd (less_other rem F F h.0 refl)
  first_top (top_still z n i) = i
  first_top (comes_under z j) = absurd ((joined_member j.1).1 refl)

  -- the leaf that t hangs under stands above what is at t or below it
  leaf_above : {l t f : ℕ} → leaf g l ≡ true → r t ≡ l → AtOrAbove (HungEdge g q) t f → Path (HungEdge g r) l f
  leaf_above {l} {t} {f} h e a =
      let edge : Path (HungEdge g r) l t = one (inr (h, e)) in
      ⊎_elim
      (λ (i : t ≡ f). rw i at edge)
      (λ (p : Path (HungEdge g q) t f). path_trans edge (old_path p)) a

  -- what is joined to a leaf of F is connected with F
  joined_connected : (l : ℕ) → leaf_of g F l ≡ true → {f : ℕ} → Joined g rem F l f → Connected g rem F f
  joined_connected l h (start {f = f} m n d) P c =
      let below : Descent g F f = path_trans (leaf_descent g s F l h) d in
      (c F f free.member m (inl below), c f F m free.member (inr below))
  joined_connected l h (step {f = f} {h = k} j m n e) P c =
      let ih : P F ↔ P f = joined_connected l h j P c in
      let mf = (joined_member j).0 in
      (λ x. c f k mf m e (ih.0 x), λ y. ih.1 (c k f m mf (⊎_elim inr inl e) y))

  -- a top of the rest is one still, or F is the top instead
  new_top : (f t : ℕ) → Top g (less rem F) q f t → (u : ℕ) × Top g rem r f u
  new_top f t x =
      let linked : Connected g rem t f = λ P c. x.connected P (λ a b ma mb. c a b (less_member rem F a ma) (less_member rem F b mb)) in
      ⊎_elim
      (λ (y : (r t ≡ none) × ((l : ℕ) → JoinedLeaf g rem F t l → ⊥)).
      (t, record { member = less_member rem F t x.member; on_top = y.0; above = ⊎_elim (λ (i : t ≡ f). inl i) (λ (p : Path (HungEdge g q) t f). inr (old_path p)) x.above; connected = linked }))
      (λ (j : JoinedLeaf g rem F t (r t)).
      let down : Path (HungEdge g r) F (r t) = path_map (λ u w e. inl e) (leaf_in_tree g s F (r t) j.0) in (
        F,
        record {
          member = free.member;
          on_top = first_top (placed F);
          above = inr (path_trans down (leaf_above (leaf_of_parts g F (r t) j.0).0 refl x.above));
          connected = λ P c.
              let fst : P F ↔ P t = joined_connected (r t) j.0 j.1 P c in
              let snd : P t ↔ P f = linked P c in
              (λ z. snd.0 (fst.0 z), λ z. fst.1 (snd.1 z));
        },
      ))
      (old_top t x.on_top (placed t))

  new_tops : (f : ℕ) → rem f ≡ true → (t : ℕ) × Top g rem r f t
  new_tops f m =
      ⊎_elim
      (λ (i : f ≡ F).
      (F, record { member = free.member; on_top = first_top (placed F); above = inl (sym i); connected = λ P c. rw i (λ x. x, λ x. x) }))
      (λ (n : f ≡ F → ⊥). let x = v.tops f (less_intro rem F f m n) in new_top f x.0 x.1)
      (same_or_other f F)

  -- below a leaf of F: all that is joined to it
  leaf_downward : (l f : ℕ) → leaf_of g F l ≡ true → Joined g rem F l f → Path (HungEdge g r) l f
  leaf_downward l f h j =
      let k = joined_member j in
      let x = v.tops f (less_intro rem F f k.0 k.1) in
      let t : ℕ = x.0 in
      let goes_on : Closed g (less rem F) (Joined g rem F l) = λ a b ma mb c i. step i (less_member rem F b mb) (less_other rem F b mb) c in
      let i : Joined g rem F l t = (x.1.connected (Joined g rem F l) goes_on).1 j in
      ⊎_elim
      (λ (y : (r t ≡ none) × ((l : ℕ) → JoinedLeaf g rem F t l → ⊥)). absurd (y.1 l (h, i)))
      (λ (y : JoinedLeaf g rem F t (r t)).
      leaf_above (leaf_of_parts g F l h).0 (free.one_leaf (r t) l t y.0 h y.1 i) x.1.above)
      (old_top t x.1.on_top (placed t))

  new_downward : (l f : ℕ) → leaf g l ≡ true → rem (own g l) ≡ true → rem f ≡ true → Descent g l f → Path (HungEdge g r) l f
  new_downward l f hl ho m d =
      let up : Descent g (own g l) f = path_trans (leaf_descent g s (own g l) l (leaf_of_intro g (own g l) l hl refl)) d in
      let n : f ≡ F → ⊥ = λ i. free.none_above (own g l) ho (rw i at up) in
      ⊎_elim
      (λ (i : own g l ≡ F). leaf_downward l f (leaf_of_intro g F l hl i) (start m n d))
      (λ (o : own g l ≡ F → ⊥). old_path (v.downward l f hl (less_intro rem F (own g l) ho o) (less_intro rem F f m n) d))
      (same_or_other (own g l) F)

  raised : Solves g rem r (later F rank)
  raised = record { hung = λ f. placed_hung f (r f) (placed f); tops = new_tops; downward = new_downward }

-- the empty set is solved by the placing with all on top
empty_solves : (g : Graph) (rem : ℕ → Bool) → ((v : ℕ) → rem v ≡ true → ⊥) → Solves g rem (λ f. none) (λ f. 0)
empty_solves g rem n = record { hung = λ f. inl refl; tops = λ f m. absurd (n f m); downward = λ l f hl ho m d. absurd (n f m) }

-- a set that eliminates is solved
pub set_solved : (g : Graph) → Shaped g → {rem : ℕ → Bool} → OfRoots g rem → Eliminates g rem → (q : ℕ → ℕ) × (rank : ℕ → ℕ) × Solves g rem q rank
set_solved g s {rem} sub (done n) =
    (λ f. none, λ f. 0, empty_solves g rem (λ v m. true≢false (sym m ∙ n v (root_below g v (sub v m)))))
set_solved g s {rem} sub (take F free e) =
    let x = set_solved g s (less_of_roots g rem F sub) e in
    let go = place g s rem sub F x.0 x.1 x.2 in
    (λ f. (go f).0, later F x.1, raised g s rem F free x.0 x.1 x.2 (λ f. (go f).0) (λ f. (go f).1))
