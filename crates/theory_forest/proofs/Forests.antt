-- Forests and placings. Two nodes above one node of a forest are comparable (`chain`), and what lies below a node stays
-- below it where it could only leave upwards (`stay`). In a placing a leaf is above a node only by way of a root hung
-- under it, so it is above that node's own root. A root hangs under the lowest leaf above it, so a placing is determined
-- by what lies below what. A placing is a solved form where each dominance edge runs downward.
use Prim.Native.Nat.{ℕ, ◌<◌}
use mathlib.Core.Path.{◌≡◌, refl, sym, subst, ◌∙◌}
use mathlib.Core.List.{List}
use mathlib.Core.Bool.{true, ◌&&◌, ◌||◌}
use mathlib.Core.Logic.{◌⊎◌, inl, inr, ⊎_elim, ◌↔◌}
use lib.Dec.{eqb}
use lib.ListN.{length}
use lib.Seq.{ext_get_or}
use borrow.Author.Tests.{eqb-true}
use Rattle.base_finite.specs.Below.{all}
use Rattle.base_finite.proofs.Laws.{and_both, or_cases, all_at}
use Rattle.graph.specs.Graph.{Graph, root, leaf, none, own, TreeEdge, DominanceEdge, GraphEdge, Descent, Path, one, more}
use Rattle.graph.specs.Order.{adding}
use Rattle.graph.specs.Placing.{at, placing, hangs, PlacingEdge, Below, Forest, Contains, SolvedForm, Hanging}
use Rattle.theory_edges.proofs.Edges.{one_parent}
use Rattle.theory_forest.specs.Shape.{Shaped}
use Rattle.theory_forest.proofs.Closure.{path_trans, path_map, path_lift, path_last, graph_edge_added, descent_added, added_edge}
use Rattle.theory_forest.proofs.Table.{hangs_parts, hangs_intro}
use Rattle.theory_forest.proofs.Fragments.{leaf_childless, root_parentless, own_edge, own_of_root, leaf_below_own}

-- x is y, above y or below y
abbrev pub Comparable : (ℕ → ℕ → Type 0) → ℕ → ℕ → Type 0
Comparable E x y = (x ≡ y) ⊎ (Path E x y ⊎ Path E y x)

-- x is y, or above y
abbrev pub AtOrAbove : (ℕ → ℕ → Type 0) → ℕ → ℕ → Type 0
AtOrAbove E x y = (x ≡ y) ⊎ Path E x y

module _ {E : ℕ → ℕ → Type 0} (f : Forest E) where
  -- what is above a node is at its parent or above it
  pub above_parent : {x u v : ℕ} → E u v → Path E x v → AtOrAbove E x u
  above_parent {x} {u} {v} e (one d) = inl (f.one_incoming x u v d e)
  above_parent {x} {u} {v} e (more {v = w} p d) = inr (subst (λ (z : ℕ). Path E x z) (f.one_incoming w u v d e) p)

  pub chain : {x y v : ℕ} → Path E x v → Path E y v → Comparable E x y
  chain {x} {y} {v} (one e) q = ⊎_elim (λ (i : y ≡ x). inl (sym i)) (λ (p : Path E y x). inr (inr p)) (above_parent e q)
  chain {x} {y} {v} (more {v = w} p e) q =
      ⊎_elim
      (λ (i : y ≡ w). inr (inl (subst (λ (z : ℕ). Path E x z) (sym i) p)))
      (λ (r : Path E y w). chain p r)
      (above_parent e q)

  pub asymmetric : {x y : ℕ} → Path E x y → Path E y x → ⊥
  asymmetric {x} {y} p q = f.no_loop x (path_trans p q)

  pub irreflexive_path : {x y : ℕ} → Path E x y → x ≡ y → ⊥
  irreflexive_path {x} {y} p i = f.no_loop x (subst (λ (z : ℕ). Path E x z) (sym i) p)

  pub antisymmetric : {x y : ℕ} → AtOrAbove E x y → AtOrAbove E y x → x ≡ y
  antisymmetric {x} {y} a b =
      ⊎_elim
      (λ (i : x ≡ y). i)
      (λ (p : Path E x y). ⊎_elim (λ (i : y ≡ x). sym i) (λ (q : Path E y x). absurd (asymmetric p q)) b)
      a

  pub stay : {l y z : ℕ} → Path E l y → Comparable E z y → (AtOrAbove E z l → ⊥) → Path E l z
  stay {l} {y} {z} p (inl i) n = subst (λ (w : ℕ). Path E l w) (sym i) p
  stay {l} {y} {z} p (inr (inr q)) n = path_trans p q
  stay {l} {y} {z} p (inr (inl q)) n =
      ⊎_elim
      (λ (i : z ≡ l). absurd (n (inl i)))
      (⊎_elim (λ (r : Path E z l). absurd (n (inr r))) (λ (r : Path E l z). r))
      (chain q p)

-- a placing's edges

pub tree_below : (g : Graph) (p : List ℕ) {u v : ℕ} → Path (TreeEdge g) u v → Below g p u v
tree_below g p b = path_map (λ u v e. inl e) b

pub hung_below : (g : Graph) (p : List ℕ) {l r : ℕ} → hangs g p l r ≡ true → Below g p l r
hung_below g p h = one (inr h)

-- at most one edge goes to a node, whatever the placing
pub placing_one_incoming : (g : Graph) (p : List ℕ) → Shaped g → (u v w : ℕ) → PlacingEdge g p u w → PlacingEdge g p v w → u ≡ v
placing_one_incoming g p s u v w (inl a) (inl b) = one_parent g.tree u v w s.one_parent a b
placing_one_incoming g p s u v w (inl a) (inr b) = absurd (root_parentless g u w (hangs_parts g p v w b).1 a)
placing_one_incoming g p s u v w (inr a) (inl b) = absurd (root_parentless g v w (hangs_parts g p u w a).1 b)
placing_one_incoming g p s u v w (inr a) (inr b) = sym (hangs_parts g p u w a).2 ∙ (hangs_parts g p v w b).2

-- so it is a forest where nothing lies below itself
pub acyclic_forest : (g : Graph) (p : List ℕ) → Shaped g → ((u : ℕ) → Below g p u u → ⊥) → Forest (PlacingEdge g p)
acyclic_forest g p s n = record { one_incoming = placing_one_incoming g p s; no_loop = n }

-- leaves

-- a hung root is its own
hung_own : (g : Graph) (p : List ℕ) (l r : ℕ) → hangs g p l r ≡ true → own g r ≡ r
hung_own g p l r h = own_of_root g r (hangs_parts g p l r h).1

pub leaf_above_root : (g : Graph) (p : List ℕ) → Shaped g → {a b : ℕ} → leaf g a ≡ true → Below g p a b → Below g p a (own g b)
leaf_above_root g p s h (one {u = a} {v = b} (inl t)) = absurd (leaf_childless g a b h t)
leaf_above_root g p s h (one {u = a} {v = b} (inr k)) = subst (λ (z : ℕ). Below g p a z) (sym (hung_own g p a b k)) (one (inr k))
leaf_above_root g p s h (more {u = a} {v = w} {w = b} d (inl t)) =
    subst (λ (z : ℕ). Below g p a z) (sym (own_edge g s w b t)) (leaf_above_root g p s h d)
leaf_above_root g p s h (more {u = a} {v = w} {w = b} d (inr k)) =
    subst (λ (z : ℕ). Below g p a z) (sym (hung_own g p w b k)) (more d (inr k))

-- a leaf is above no node of its own fragment
pub leaf_not_above_own : (g : Graph) (p : List ℕ) → Shaped g → Forest (PlacingEdge g p) → {a b : ℕ} → leaf g a ≡ true → own g a ≡ own g b → Below g p a b → ⊥
leaf_not_above_own g p s f {a} {b} h i d =
    let up : Below g p a (own g a) = subst (λ (z : ℕ). Below g p a z) (sym i) (leaf_above_root g p s h d) in
    asymmetric f up (tree_below g p (leaf_below_own g s a h))

-- what lies below two leaves of one fragment has them equal
pub one_leaf_above : (g : Graph) (p : List ℕ) → Shaped g → Forest (PlacingEdge g p) → {a b v : ℕ} → leaf g a ≡ true → leaf g b ≡ true → own g a ≡ own g b → Below g p a v → Below g p b v → a ≡ b
one_leaf_above g p s f {a} {b} ha hb i x y =
    ⊎_elim
    (λ (e : a ≡ b). e)
    (⊎_elim
    (λ (d : Below g p a b). absurd (leaf_not_above_own g p s f ha i d))
    (λ (d : Below g p b a). absurd (leaf_not_above_own g p s f hb (sym i) d)))
    (chain f x y)

-- determined

-- each node is on top, or hangs under a leaf
pub placing_cases : (g : Graph) (p : List ℕ) (v : ℕ) → placing g p ≡ true → v < g.nodes → (at p v ≡ none) ⊎ (hangs g p (at p v) v ≡ true)
unfolding placing
placing_cases g p v h l =
    let b = and_both (eqb (length p) g.nodes) (all g.nodes (λ v. eqb (at p v) none || root g v && leaf g (at p v))) h in
    ⊎_elim
    (λ (t : eqb (at p v) none ≡ true). inl (eqb-true (at p v) none t))
    (λ (t : (root g v && leaf g (at p v)) ≡ true).
    let c = and_both (root g v) (leaf g (at p v)) t in
    inr (hangs_intro g p (at p v) v c.1 c.0 refl))
    (or_cases (eqb (at p v) none) (root g v && leaf g (at p v)) (all_at g.nodes (λ v. eqb (at p v) none || root g v && leaf g (at p v)) b.1 v l))

pub placing_length : (g : Graph) (p : List ℕ) → placing g p ≡ true → length p ≡ g.nodes
unfolding placing
placing_length g p h = eqb-true (length p) g.nodes (and_both (eqb (length p) g.nodes) (all g.nodes (λ v. eqb (at p v) none || root g v && leaf g (at p v))) h).0

-- a root with something above it hangs
pub hangs_where_below : (g : Graph) (p : List ℕ) (x r : ℕ) → root g r ≡ true → Below g p x r → (l : ℕ) × (hangs g p l r ≡ true)
hangs_where_below g p x r h d =
    ⊎_elim
    (λ (e : PlacingEdge g p x r). (x, last x e))
    (λ (y : (v : ℕ) × Below g p x v × PlacingEdge g p v r). (y.0, last y.0 y.2))
    (path_last d)
  where
    last : (l : ℕ) → PlacingEdge g p l r → hangs g p l r ≡ true
    last l = ⊎_elim (λ (t : TreeEdge g l r). absurd (root_parentless g l r h t)) (λ (k : hangs g p l r ≡ true). k)

-- where one placing hangs a root under l and what is below what is the same, the other has the same there
same_place : (g : Graph) (p q : List ℕ) → Forest (PlacingEdge g p) → Forest (PlacingEdge g q) → Contains (Below g p) (Below g q) → Contains (Below g q) (Below g p) → (l r : ℕ) → hangs g p l r ≡ true → at q r ≡ l
same_place g p q f k c d l r h =
    let x = hangs_where_below g q l r (hangs_parts g p l r h).1 (d l r (hung_below g p h)) in
    let m : ℕ = x.0 in
    let a : AtOrAbove (PlacingEdge g p) m l = above_parent f (inr h) (c m r (hung_below g q x.1)) in
    let b : AtOrAbove (PlacingEdge g q) l m = above_parent k (inr x.1) (d l r (hung_below g p h)) in
    (hangs_parts g q m r x.1).2 ∙ antisymmetric f a (⊎_elim (λ (i : l ≡ m). inl i) (λ (y : Below g q l m). inr (c l m y)) b)

pub determined : (g : Graph) (p q : List ℕ) → placing g p ≡ true → placing g q ≡ true → Forest (PlacingEdge g p) → Forest (PlacingEdge g q) → Contains (Below g p) (Below g q) → Contains (Below g q) (Below g p) → p ≡ q
determined g p q hp hq f k c d =
    let np = placing_length g p hp in
    let nq = placing_length g q hq in
    ext_get_or 0 p q (np ∙ sym nq) (λ v l.
    let b : v < g.nodes = subst (λ (n : ℕ). v < n) np l in
    ⊎_elim
    (λ (i : at p v ≡ none).
    ⊎_elim
    (λ (j : at q v ≡ none). i ∙ sym j)
    (λ (j : hangs g q (at q v) v ≡ true). same_place g q p k f d c (at q v) v j)
    (placing_cases g q v hq b))
    (λ (i : hangs g p (at p v) v ≡ true). sym (same_place g p q f k c d (at p v) v i))
    (placing_cases g p v hp b))

-- solved forms

pub contains_where_downward : (g : Graph) (p : List ℕ) → ((l r : ℕ) → DominanceEdge g l r → Below g p l r) → Contains (Below g p) (Descent g)
contains_where_downward g p h u v d =
    path_lift (λ x y. ⊎_elim (λ (t : TreeEdge g x y). one (inl t)) (λ (e : DominanceEdge g x y). h x y e)) d

pub hanging_solved : (g : Graph) (p : List ℕ) → Hanging g p ↔ SolvedForm g p
hanging_solved g p = (
  λ h. record { is_placing = h.is_placing; is_forest = h.is_forest; contains = contains_where_downward g p h.downward },
  λ s. record { is_placing = s.is_placing; is_forest = s.is_forest; downward = λ l r d. s.contains l r (one (inr d)) },
)

-- an edge added: the placings and what lies below what in them are those of the graph without it

pub below_adding : (g : Graph) (a r : ℕ) (p : List ℕ) (u v : ℕ) → Below (adding g a r) p u v ↔ Below g p u v
unfolding adding hangs root leaf
below_adding g a r p u v = (λ b. b, λ b. b)

-- its solved forms are those of the graph in which the new edge runs downward
pub solved_adding : (g : Graph) (a r : ℕ) (p : List ℕ) → SolvedForm (adding g a r) p ↔ (SolvedForm g p × Below g p a r)
unfolding adding placing hangs root leaf
solved_adding g a r p = (
  λ s. (
    record { is_placing = s.is_placing; is_forest = s.is_forest; contains = λ u v d. s.contains u v (descent_added g a r d) },
    s.contains a r (added_edge g a r),
  ),
  λ x.
      record {
        is_placing = x.0.is_placing;
        is_forest = x.0.is_forest;
        contains = λ u v d.
            path_lift (λ y z e.
            ⊎_elim
            (λ (k : GraphEdge g y z). x.0.contains y z (one k))
            (λ (q : (y ≡ a) × (z ≡ r)). rw (q.0, q.1) x.1)
            ((graph_edge_added g a r y z).0 e)) d;
      },
)
