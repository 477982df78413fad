-- The closure as a table that computes: n rows of n tests, made by adding the edges of a list one by one, each by the
-- law of `Closure`. Rows are lists, so that each is computed once. A table of a graph decides its descent relation,
-- a table of a placing decides what lies below what in it, and both are decided for all numbers: where one of the two
-- is no node, the table and the relation fail alike.
use Prim.Native.Nat.{ℕ, zero, suc, ◌≤◌, ◌<◌}
use mathlib.Core.Path.{◌≡◌, refl, sym, ◌∙◌}
use mathlib.Core.List.{List, [], ◌∷◌, ◌++◌}
use mathlib.Core.Bool.{Bool, true, false, cond, not, ◌&&◌, ◌||◌, true≢false, false≢true}
use mathlib.Core.Logic.{◌⊎◌, inl, inr, ⊎_elim, ◌↔◌}
use native.Mathlib.Omega.{arith}
use native.Mathlib.Nat.{le_of_suc-le-suc}
use lib.Dec.{eqb, ltb}
use lib.ListN.{get_or}
use borrow.Author.Tests.{ltb-true, ltb-false, eqb-true, eq-eqb, not-true}
use Rattle.base_finite.proofs.Laws.{by_bool, or_left, or_right, or_cases, and_both, and_intro, any_at, any_found, all_at, all_every, not_holding}
use Rattle.graph.specs.Graph.{Edge, Graph, among, root, leaf, TreeEdge, DominanceEdge, GraphEdge, Descent, Path, one, more}
use Rattle.graph.specs.Placing.{at, hangs, PlacingEdge, Below}
use Rattle.theory_edges.specs.Edges.{Within}
use Rattle.theory_edges.proofs.Edges.{within_cons, among_cases, among_first, among_rest, among_none}
use Rattle.theory_edges.proofs.Tables.{among_append, among_spread}
use Rattle.theory_edges.proofs.Ends.{leaf_below, root_below}
use Rattle.theory_forest.specs.Shape.{Shaped}
use Rattle.theory_forest.proofs.Closure.{Adding, Reached, path_map, path_within, adding_closure}
use Rattle.theory_forest.specs.Table.{listed, tabulate, look, reaches, extended, closure, descent_table, descends, hangings, placing_table, under, irreflexive, acyclic, Among}

-- a test and what it says, joined

pub or_holds : {A B : Type 0} (a b : Bool) → (a ≡ true) ↔ A → (b ≡ true) ↔ B → ((a || b) ≡ true) ↔ (A ⊎ B)
or_holds a b f g = (
  λ h. ⊎_elim (λ (t : a ≡ true). inl (f.0 t)) (λ (t : b ≡ true). inr (g.0 t)) (or_cases a b h),
  ⊎_elim (λ x. or_left a b (f.1 x)) (λ y. or_right a b (g.1 y)),
)

pub and_holds : {A B : Type 0} (a b : Bool) → (a ≡ true) ↔ A → (b ≡ true) ↔ B → ((a && b) ≡ true) ↔ (A × B)
and_holds a b f g =
    (λ h. (f.0 (and_both a b h).0, g.0 (and_both a b h).1), λ x. and_intro a b (f.1 x.0) (g.1 x.1))

pub eqb_holds : (a b : ℕ) → (eqb a b ≡ true) ↔ (a ≡ b)
eqb_holds a b = (eqb-true a b, eq-eqb a b)

-- what a table reads

get_or_listed : {A : Type 0} (n : ℕ) (f : ℕ → A) (d : A) (k : ℕ) → k < n → get_or (listed n f) k d ≡ f k
unfolding listed
get_or_listed zero f d k h = absurd (omega arith)
get_or_listed (suc n) f d zero h = refl
get_or_listed (suc n) f d (suc k) h = get_or_listed n (λ k. f (suc k)) d k (le_of_suc-le-suc h)

pub look_tabulate : (n : ℕ) (f : ℕ → ℕ → Bool) (u v : ℕ) → u < n → v < n → look (tabulate n f) u v ≡ f u v
unfolding look tabulate
look_tabulate n f u v hu hv = rw (get_or_listed n (λ u. listed n (f u)) [] u hu) (get_or_listed n (f u) false v hv)

get_d_beyond : {A : Type 0} (n : ℕ) (f : ℕ → A) (d : A) (k : ℕ) → n ≤ k → get_or (listed n f) k d ≡ d
unfolding listed
get_d_beyond zero f d k h = refl
get_d_beyond (suc n) f d zero h = absurd (omega arith)
get_d_beyond (suc n) f d (suc k) h = get_d_beyond n (λ k. f (suc k)) d k (le_of_suc-le-suc h)

-- a table holds only of numbers below its size
pub tabulate_within : (n : ℕ) (f : ℕ → ℕ → Bool) (u v : ℕ) → look (tabulate n f) u v ≡ true → (u < n) × (v < n)
unfolding look tabulate
tabulate_within n f u v h =
    by_bool (ltb u n)
    (λ (a : ltb u n ≡ true).
    let hu : u < n = ltb-true u n a in
    let e : get_or (listed n (f u)) v false ≡ true = rw (get_or_listed n (λ u. listed n (f u)) [] u hu) at h in
    by_bool (ltb v n)
    (λ (b : ltb v n ≡ true). (hu, ltb-true v n b))
    (λ (b : ltb v n ≡ false). absurd (false≢true (sym (get_d_beyond n (f u) false v (ltb-false v n b)) ∙ e))))
    (λ (a : ltb u n ≡ false).
    absurd (false≢true (rw (get_d_beyond n (λ u. listed n (f u)) [] u (ltb-false u n a)) at h)))

pub closure_within : (n : ℕ) (es : List Edge) (u v : ℕ) → look (closure n es) u v ≡ true → (u < n) × (v < n)
unfolding closure extended
closure_within n [] u v h = tabulate_within n (λ u v. false) u v h
closure_within n (e ∷ es) u v h = tabulate_within n (reaches (closure n es) e) u v h

-- the closure of a list

among_adding : (e : Edge) (es : List Edge) (u v : ℕ) → Among (e ∷ es) u v ↔ Adding (Among es) e.0 e.1 u v
among_adding e es u v = (
  λ h.
      ⊎_elim
      (λ (q : (e.0 ≡ u) × (e.1 ≡ v)). inr (sym q.0, sym q.1))
      (λ (t : Among es u v). inl t)
      (among_cases e es u v h),
  ⊎_elim
      (λ (t : Among es u v). among_rest e es u v t)
      (λ (q : (u ≡ e.0) × (v ≡ e.1)). among_first e es u v (sym q.0) (sym q.1)),
)

no_path : {u v : ℕ} → Path (Among []) u v → ⊥
no_path (one {u = u} {v = v} e) = among_none u v e
no_path (more {v = u} {w = v} p e) = among_none u v e

reaches_iff : (e : Edge) (es : List Edge) (m : List (List Bool)) → ((u v : ℕ) → (look m u v ≡ true) ↔ Path (Among es) u v) → (u v : ℕ) → (reaches m e u v ≡ true) ↔ Reached (Among es) e.0 e.1 u v
unfolding reaches
reaches_iff e es m ih u v =
    let a : ℕ = e.0 in
    let r : ℕ = e.1 in
    or_holds (look m u v) ((eqb u a || look m u a) && (eqb v r || look m r v)) (ih u v)
    (and_holds (eqb u a || look m u a) (eqb v r || look m r v)
    (or_holds (eqb u a) (look m u a) (eqb_holds u a) (ih u a))
    (or_holds (eqb v r) (look m r v) (eqb_holds v r) (ih r v)))

pub extended_iff : (n : ℕ) (e : Edge) (es : List Edge) (m : List (List Bool)) → ((u v : ℕ) → (look m u v ≡ true) ↔ Path (Among es) u v) → (u v : ℕ) → u < n → v < n → (look (extended n e m) u v ≡ true) ↔ Path (Among (e ∷ es)) u v
unfolding extended
extended_iff n e es m ih u v hu hv =
    let law = adding_closure (Among es) e.0 e.1 u v in
    let test = reaches_iff e es m ih u v in
    let same = look_tabulate n (reaches m e) u v hu hv in (
      λ h. path_map (λ x y. (among_adding e es x y).1) (law.1 (test.0 (sym same ∙ h))),
      λ p. same ∙ test.1 (law.0 (path_map (λ x y. (among_adding e es x y).0) p)),
    )

pub closure_iff : (n : ℕ) (es : List Edge) → Within n es → (u v : ℕ) → (look (closure n es) u v ≡ true) ↔ Path (Among es) u v
unfolding closure
closure_iff n [] w u v = (
  λ h.
      let b = tabulate_within n (λ u v. false) u v h in
      absurd (false≢true (sym (look_tabulate n (λ u v. false) u v b.0 b.1) ∙ h)),
  λ p. absurd (no_path p),
)
closure_iff n (e ∷ es) w u v =
    let step = extended_iff n e es (closure n es) (closure_iff n es (within_cons n e es w).2) u v in (
      λ h. let b = closure_within n (e ∷ es) u v h in (step b.0 b.1).0 h,
      λ p. let b = path_within n w p in (step b.0 b.1).1 p,
    )

-- a graph's descent relation

pub graph_edge_within : (g : Graph) → Shaped g → (u v : ℕ) → GraphEdge g u v → (u < g.nodes) × (v < g.nodes)
graph_edge_within g s u v =
    ⊎_elim
    (λ (t : TreeEdge g u v). s.tree_within u v t)
    (λ (d : DominanceEdge g u v).
    let b = s.leaf_to_root u v d in
    (leaf_below g u b.0, root_below g v b.1))

pub descent_within : (g : Graph) → Shaped g → {u v : ℕ} → Descent g u v → (u < g.nodes) × (v < g.nodes)
descent_within g s p = path_within g.nodes (graph_edge_within g s) p

-- a list put behind another, as a relation
append_iff : {F : ℕ → ℕ → Type 0} (es fs : List Edge) → ((u v : ℕ) → Among fs u v ↔ F u v) → (u v : ℕ) → Among (es ++ fs) u v ↔ (Among es u v ⊎ F u v)
append_iff es fs f u v = rw (among_append es fs u v) (or_holds (among es u v) (among fs u v) (λ h. h, λ h. h) (f u v))

-- the closure of two lists, the second of which spells F
appended_iff : {F : ℕ → ℕ → Type 0} (n : ℕ) (es fs : List Edge) → ((u v : ℕ) → Among fs u v ↔ F u v) → ((u v : ℕ) → (Among es u v ⊎ F u v) → (u < n) × (v < n)) → (u v : ℕ) → (look (closure n (es ++ fs)) u v ≡ true) ↔ Path (λ x y. Among es x y ⊎ F x y) u v
appended_iff n es fs f w u v =
    let law = closure_iff n (es ++ fs) (λ x y h. w x y ((append_iff es fs f x y).0 h)) u v in
    (λ h. path_map (λ x y. (append_iff es fs f x y).0) (law.0 h), λ p. law.1 (path_map (λ x y. (append_iff es fs f x y).1) p))

pub descends_iff : (g : Graph) → Shaped g → (u v : ℕ) → (descends g u v ≡ true) ↔ Descent g u v
unfolding descends descent_table
descends_iff g s u v = appended_iff g.nodes g.tree g.dominance (λ x y. (λ h. h, λ h. h)) (graph_edge_within g s) u v

-- a placing

pub hangs_parts : (g : Graph) (p : List ℕ) (l r : ℕ) → hangs g p l r ≡ true → (leaf g l ≡ true) × (root g r ≡ true) × (at p r ≡ l)
unfolding hangs
hangs_parts g p l r h =
    let a = and_both (leaf g l && root g r) (eqb (at p r) l) h in
    let b = and_both (leaf g l) (root g r) a.0 in
    (b.0, b.1, eqb-true (at p r) l a.1)

pub hangs_intro : (g : Graph) (p : List ℕ) (l r : ℕ) → leaf g l ≡ true → root g r ≡ true → at p r ≡ l → hangs g p l r ≡ true
unfolding hangs
hangs_intro g p l r hl hr e = rw (hl, hr, eq-eqb (at p r) l e)

-- the edge to r is there where r hangs
hanging_iff : (g : Graph) (p : List ℕ) (u v r : ℕ) → Among (cond (hangs g p (at p r) r) ((at p r, r) ∷ []) []) u v ↔ ((hangs g p u v ≡ true) × (r ≡ v))
hanging_iff g p u v r = (
  by_bool (hangs g p (at p r) r)
      (λ t.
      rw t (λ h.
      ⊎_elim
      (λ (q : (at p r ≡ u) × (r ≡ v)).
      let b = hangs_parts g p (at p r) r t in
      (hangs_intro g p u v (rw (← q.0) b.0) (rw (← q.1) b.1) (rw (← q.1) q.0), q.1))
      (λ (k : Among [] u v). absurd (among_none u v k))
      (among_cases (at p r, r) [] u v h)))
      (λ t. rw t (λ h. absurd (among_none u v h))),
  λ x.
      let b = hangs_parts g p u v x.0 in
      let i : at p r ≡ u = rw x.1 b.2 in
      let t : hangs g p (at p r) r ≡ true = rw (i, x.1) x.0 in
      rw t (among_first (at p r, r) [] u v i x.1),
)

among_hangings : (g : Graph) (p : List ℕ) (u v : ℕ) → Among (hangings g p) u v ↔ (hangs g p u v ≡ true)
unfolding hangings
among_hangings g p u v =
    let f : ℕ → List Edge = λ r. cond (hangs g p (at p r) r) ((at p r, r) ∷ []) [] in
    let spelt = among_spread g.nodes f u v in (
      λ h.
          let x = any_found g.nodes (λ r. among (f r) u v) (sym spelt ∙ h) in
          ((hanging_iff g p u v x.0).0 x.2).0,
      λ h.
          spelt ∙ any_at g.nodes (λ r. among (f r) u v) v (root_below g v (hangs_parts g p u v h).1) ((hanging_iff g p u v v).1 (h, refl)),
    )

pub placing_edge_within : (g : Graph) (p : List ℕ) → Shaped g → (u v : ℕ) → PlacingEdge g p u v → (u < g.nodes) × (v < g.nodes)
placing_edge_within g p s u v =
    ⊎_elim
    (λ (t : TreeEdge g u v). s.tree_within u v t)
    (λ (h : hangs g p u v ≡ true).
    let b = hangs_parts g p u v h in
    (leaf_below g u b.0, root_below g v b.1))

pub below_within : (g : Graph) (p : List ℕ) → Shaped g → {u v : ℕ} → Below g p u v → (u < g.nodes) × (v < g.nodes)
below_within g p s b = path_within g.nodes (placing_edge_within g p s) b

pub under_iff : (g : Graph) → Shaped g → (p : List ℕ) (u v : ℕ) → (under g p u v ≡ true) ↔ Below g p u v
unfolding under placing_table
under_iff g s p u v = appended_iff g.nodes g.tree (hangings g p) (among_hangings g p) (placing_edge_within g p s) u v

-- no cycle

pub acyclic_iff : (g : Graph) → Shaped g → (acyclic g ≡ true) ↔ ((u : ℕ) → Descent g u u → ⊥)
unfolding acyclic irreflexive descends
acyclic_iff g s = (
  λ h u d.
      let free : not (descends g u u) ≡ true = all_at g.nodes (λ u. not (descends g u u)) h u (descent_within g s d).0 in
      true≢false (sym ((descends_iff g s u u).1 d) ∙ not-true (descends g u u) free),
  λ f.
      all_every g.nodes (λ u. not (descends g u u)) (λ u l.
      let free : descends g u u ≡ false = not_holding (descends g u u) (λ t. f u ((descends_iff g s u u).0 t)) in
      rw free),
)
