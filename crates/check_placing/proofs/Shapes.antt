-- The tests on bytes, sets and rows are the graph's: placing, solved form, one root to a leaf.
use Prim.Native.Nat.{ℕ, ◌+◌, ◌≤◌, ◌<◌}
use mathlib.Core.Path.{◌≡◌, refl, sym, ap, ◌∙◌}
use mathlib.Core.List.{List}
use mathlib.Core.Bool.{Bool, true, false, not, ◌&&◌, ◌||◌, true≢false}
use mathlib.Core.Logic.{⊎_elim, ◌↔◌}
use native.Mathlib.Omega.{arith}
use lib.Dec.{eqb, ltb}
use lib.ListN.{length, take, length-take}
use lib.Seq.{get_or-take}
use borrow.Author.Tests.{eq-eqb, eqb-true, lt-ltb, ltb-true, ltb-false}
use Rattle.base_finite.specs.Below.{any, all}
use Rattle.base_finite.proofs.Laws.{by_bool, or_cases, or_comm, and_both, and_intro, and_false, not_not, any_more, any_at, any_found, any_false, all_at, all_every, all_fails, all_ext, test_ext, not_holding}
use Rattle.base_nodeset.specs.Set.{mem, OfByte, Intersection, Union}
use Rattle.base_nodeset.specs.declared.NodeSet.{NodeSet}
use Rattle.graph.specs.Graph.{Graph, DominanceEdge, root, leaf, none}
use Rattle.graph.specs.Placing.{at, placing, hangs, Below, SolvedForm}
use Rattle.theory_edges.proofs.Ends.{leaf_below, root_below}
use Rattle.theory_forest.specs.Shape.{Shaped}
use Rattle.theory_forest.proofs.Shape.{well_formed_shaped}
use Rattle.theory_forest.proofs.Table.{hangs_parts, below_within}
use Rattle.theory_forest.proofs.Forests.{acyclic_forest, placing_cases, hanging_solved}
use Rattle.base_tables.specs.Rows.{in_row, Rows}
use Rattle.base_tables.specs.Tables.{Tables}
use Rattle.base_tables.specs.Trees.{TreesOf}
use Rattle.base_tables.specs.declared.trees.Trees.{Trees}
use Rattle.solve_closure.specs.Closing.{Links}
use Rattle.check_placing.specs.Tests.{fits, AllFit, placing_in, outside, downward_in, carried, again, single_in}

-- the answer of a test that is asked the other way
not_true : (b : Bool) → not b ≡ true → b ≡ false
not_true b e = sym (not_not b) ∙ ap not e

-- one byte

module _ (t : Trees) (v byte : ℕ) where
  fits_within : fits t v byte ≡ true → (byte ≡ none → ⊥) → byte < t.n
  unfolding fits
  fits_within fit e =
      ⊎_elim
      (λ (i : eqb byte none ≡ true). absurd (e (eqb-true byte none i)))
      (λ (i : (ltb byte t.n && (mem t.roots v && mem t.leaves byte)) ≡ true). ltb-true byte t.n (and_both (ltb byte t.n) (mem t.roots v && mem t.leaves byte) i).0)
      (or_cases (eqb byte none) (ltb byte t.n && (mem t.roots v && mem t.leaves byte)) fit)

-- all bytes

module _ (t : Trees) (bytes : List ℕ) where
  pub placing_links : t.n ≤ length bytes → placing_in t bytes ≡ true → Links t.n bytes
  unfolding placing_in
  placing_links long is =
      record {
        long = long;
        node_or_none = λ v h. fits_within t v (at bytes v) (all_at t.n (λ v. fits t v (at bytes v)) is v h);
      }

  -- a test that holds where each byte fits
  pub placing_tested : (answer : Bool) → (answer ≡ true) ↔ AllFit t bytes → answer ≡ placing_in t bytes
  unfolding placing_in
  placing_tested answer e =
      test_ext answer _
      (λ is. all_every t.n (λ v. fits t v (at bytes v)) (e.0 is))
      (λ is. e.1 (all_at t.n (λ v. fits t v (at bytes v)) is))

pub placing_is : (g : Graph) (t : Trees) (bytes : List ℕ) → TreesOf g t → t.n ≤ length bytes → placing_in t bytes ≡ placing g (take t.n bytes)
unfolding placing_in placing fits
placing_is g t bytes e long =
    let n : ℕ = t.n in
    let same : length (take n bytes) ≡ g.nodes = omega (arith, length-take n bytes, e.nodes) in
    let test : ℕ → Bool = λ v. eqb (at (take n bytes) v) none || root g v && leaf g (at (take n bytes) v) in
    rw (eq-eqb (length (take n bytes)) g.nodes same)
    (all_ext n _ test (λ v h.
    let x : ℕ = at bytes v in
    rw (get_or-take n bytes v 0 h, e.roots_are v, e.leaves_are x)
    (ap (λ (b : Bool). eqb x none || b) (node v x)))
    ∙ ap (λ (m : ℕ). all m test) e.nodes)
  where
    node : (v x : ℕ) → (ltb x t.n && (root g v && leaf g x)) ≡ (root g v && leaf g x)
    node v x =
        by_bool (ltb x t.n)
        (λ (i : ltb x t.n ≡ true). rw i)
        (λ (i : ltb x t.n ≡ false).
        let none_there : leaf g x ≡ false = not_holding (leaf g x) (λ l. omega (arith, leaf_below g x l, e.nodes, ltb-false x t.n i)) in
        rw (i, none_there, and_false (root g v)))

-- solved forms

pub downward_every : (n : ℕ) (heads rows : List NodeSet) → ((l : ℕ) → l < n → any 128 (outside heads rows l) ≡ false) → downward_in n heads rows ≡ true
unfolding downward_in
downward_every n heads rows f = all_every n (λ l. not (any 128 (outside heads rows l))) (λ l h. rw (f l h))

pub downward_fails : (n : ℕ) (heads rows : List NodeSet) (l : ℕ) → l < n → any 128 (outside heads rows l) ≡ true → downward_in n heads rows ≡ false
unfolding downward_in
downward_fails n heads rows l h e = all_fails n (λ l. not (any 128 (outside heads rows l))) l h (rw e)

module _ (g : Graph) (n : ℕ) (parents : List ℕ) (heads rows : List NodeSet) (edges : ℕ) (t : Tables g n parents heads edges) where
  shaped : Shaped g
  shaped = well_formed_shaped t.well_formed

  module _ (p : List ℕ) (are : Rows (Below g p) rows) where
    downward_is : (downward_in n heads rows ≡ true) ↔ ((l r : ℕ) → DominanceEdge g l r → Below g p l r)
    unfolding downward_in
    downward_is = (
      λ e l r d.
          let b = t.holds.dominance_within l r d in
          let few = t.well_formed.few_nodes in
          let none_out : any 128 (outside heads rows l) ≡ false = not_true (any 128 (outside heads rows l)) (all_at n (λ l. not (any 128 (outside heads rows l))) e l (omega (arith, b.0, t.nodes))) in
          let in_heads : in_row heads l r ≡ true = t.holds.heads_are l r ∙ d in
          by_bool (in_row rows l r)
          (λ (i : in_row rows l r ≡ true). (are.row_is l r).0 i)
          (λ (i : in_row rows l r ≡ false).
          let out : outside heads rows l r ≡ true = rw (in_heads, i) refl in
          absurd (true≢false (sym out ∙ any_false 128 (outside heads rows l) none_out r (omega (arith, b.1))))),
      λ down.
          all_every n _ (λ l h.
          by_bool (any 128 (outside heads rows l))
          (λ (i : any 128 (outside heads rows l) ≡ true).
          let x = any_found 128 (outside heads rows l) i in
          let b = and_both (in_row heads l x.0) (not (in_row rows l x.0)) x.2 in
          let under : in_row rows l x.0 ≡ true = (are.row_is l x.0).1 (down l x.0 (sym (t.holds.heads_are l x.0) ∙ b.0)) in
          absurd (true≢false (sym b.1 ∙ ap not under)))
          (λ (i : any 128 (outside heads rows l) ≡ false). rw i)),
    )

    loops_is : (not (any n (λ u. in_row rows u u)) ≡ true) ↔ ((u : ℕ) → Below g p u u → ⊥)
    loops_is = (
      λ e u b.
          let found : any n (λ u. in_row rows u u) ≡ true = any_at n (λ u. in_row rows u u) u (omega (arith, (below_within g p shaped b).0, t.nodes)) ((are.row_is u u).1 b) in
          true≢false (sym e ∙ ap not found),
      λ free.
          by_bool (any n (λ u. in_row rows u u))
          (λ (i : any n (λ u. in_row rows u u) ≡ true).
          let x = any_found n (λ u. in_row rows u u) i in
          absurd (free x.0 ((are.row_is x.0 x.0).0 x.2)))
          (λ (i : any n (λ u. in_row rows u u) ≡ false). rw i),
    )

    pub solved_is : placing g p ≡ true → ((not (any n (λ u. in_row rows u u)) && downward_in n heads rows) ≡ true) ↔ SolvedForm g p
    solved_is is = (
      λ e.
          let b = and_both (not (any n (λ u. in_row rows u u))) (downward_in n heads rows) e in
          (hanging_solved g p).0 (record { is_placing = is; is_forest = acyclic_forest g p shaped (loops_is.0 b.0); downward = downward_is.0 b.1 }),
      λ f.
          and_intro (not (any n (λ u. in_row rows u u))) (downward_in n heads rows)
          (loops_is.1 f.is_forest.no_loop)
          (downward_is.1 ((hanging_solved g p).1 f).downward),
    )

-- one root to a leaf

-- the set holds the leaves that the nodes below v hang under
abbrev pub Used : ℕ → List ℕ → NodeSet → Type 0
Used v bytes used = (x : ℕ) → mem used x ≡ any v (carried bytes x)

pub used_more : (v : ℕ) (bytes : List ℕ) (used leaf more : NodeSet) → Used v bytes used → OfByte (at bytes v) leaf → Union leaf used more → Used (v + 1) bytes more
used_more v bytes used leaf more is_used of_leaf is_more x =
    is_more x ∙ rw (is_used x, of_leaf x) (or_comm (carried bytes x v) (any v (carried bytes x)) ∙ sym (any_more v (carried bytes x)))

-- some leaf is in both sets
pub used_again : (v : ℕ) (bytes : List ℕ) (used leaf both : NodeSet) → Used v bytes used → OfByte (at bytes v) leaf → Intersection used leaf both → any 128 (mem both) ≡ again bytes v
used_again v bytes used leaf both is_used of_leaf is_both =
    let byte : ℕ = at bytes v in
    test_ext (any 128 (mem both)) (again bytes v)
    (λ e.
    let x = any_found 128 (mem both) e in
    let k : ℕ = x.0 in
    let b = and_both (mem used k) (mem leaf k) (sym (is_both k) ∙ x.2) in
    let i : k ≡ byte = eqb-true k byte (and_both (eqb k byte) (ltb byte 128) (sym (of_leaf k) ∙ b.1)).0 in
    rw i at (sym (is_used k) ∙ b.0))
    (λ e.
    let x = any_found v (carried bytes byte) e in
    let b = and_both (eqb byte (at bytes x.0)) (ltb (at bytes x.0) 128) x.2 in
    let i : byte ≡ at bytes x.0 = eqb-true byte (at bytes x.0) b.0 in
    let small : byte < 128 = omega (arith, ltb-true (at bytes x.0) 128 b.1) in
    let there : mem leaf byte ≡ true = of_leaf byte ∙ and_intro (eqb byte byte) (ltb byte 128) (eq-eqb byte byte refl) (lt-ltb byte 128 small) in
    any_at 128 (mem both) byte small (is_both byte ∙ and_intro (mem used byte) (mem leaf byte) (is_used byte ∙ e) there))

pub single_every : (n : ℕ) (bytes : List ℕ) → ((v : ℕ) → v < n → again bytes v ≡ false) → single_in n bytes ≡ true
unfolding single_in
single_every n bytes f = all_every n _ (λ v h. rw (f v h))

single_apart : (n : ℕ) (bytes : List ℕ) → single_in n bytes ≡ true → (u v : ℕ) → u < v → v < n → at bytes u < 128 → at bytes u ≡ at bytes v → ⊥
unfolding single_in
single_apart n bytes t u v lt h small e =
    let found : again bytes v ≡ true = any_at v (carried bytes (at bytes v)) u lt (and_intro (eqb (at bytes v) (at bytes u)) (ltb (at bytes u) 128) (eq-eqb (at bytes v) (at bytes u) (sym e)) (lt-ltb (at bytes u) 128 small)) in
    true≢false (sym (all_at n (λ v. not (again bytes v)) t v h) ∙ ap not found)

pub single_fails : (n : ℕ) (bytes : List ℕ) (v : ℕ) → v < n → again bytes v ≡ true → single_in n bytes ≡ false
unfolding single_in
single_fails n bytes v h e = all_fails n (λ v. not (again bytes v)) v h (rw e)

module _ (g : Graph) (n : ℕ) (s : Shaped g) (same : n ≡ g.nodes) (bytes : List ℕ) (is : placing g (take n bytes) ≡ true) where
  byte : (v : ℕ) → v < n → at (take n bytes) v ≡ at bytes v
  byte v h = get_or-take n bytes v 0 h

  hung : (v : ℕ) → v < n → at bytes v < 128 → hangs g (take n bytes) (at bytes v) v ≡ true
  hung v h small =
      ⊎_elim
      (λ (e : at (take n bytes) v ≡ none). absurd (omega (arith, byte v h)))
      (λ (k : hangs g (take n bytes) (at (take n bytes) v) v ≡ true). rw (byte v h) at k)
      (placing_cases g (take n bytes) v is (omega arith))

  pub single_is : (single_in n bytes ≡ true) ↔ ((l r q : ℕ) → hangs g (take n bytes) l r ≡ true → hangs g (take n bytes) l q ≡ true → r ≡ q)
  single_is = (
    λ t l r q x y.
        let a = hangs_parts g (take n bytes) l r x in
        let b = hangs_parts g (take n bytes) l q y in
        let few = s.few_nodes in
        let hr : r < n = omega (arith, root_below g r a.1) in
        let hq : q < n = omega (arith, root_below g q b.1) in
        let hl : l < 128 = omega (arith, leaf_below g l a.0) in
        let er : at bytes r ≡ l = sym (byte r hr) ∙ a.2 in
        let eq : at bytes q ≡ l = sym (byte q hq) ∙ b.2 in
        by_bool (ltb r q)
        (λ (i : ltb r q ≡ true). absurd (single_apart n bytes t r q (ltb-true r q i) hq (omega arith) (er ∙ sym eq)))
        (λ (i : ltb r q ≡ false).
        by_bool (ltb q r)
        (λ (j : ltb q r ≡ true). absurd (single_apart n bytes t q r (ltb-true q r j) hr (omega arith) (eq ∙ sym er)))
        (λ (j : ltb q r ≡ false). omega (arith, ltb-false r q i, ltb-false q r j))),
    λ one.
        single_every n bytes (λ v h.
        not_holding (again bytes v) (λ e.
        let x = any_found v (carried bytes (at bytes v)) e in
        let b = and_both (eqb (at bytes v) (at bytes x.0)) (ltb (at bytes x.0) 128) x.2 in
        let i : at bytes v ≡ at bytes x.0 = eqb-true (at bytes v) (at bytes x.0) b.0 in
        let small : at bytes x.0 < 128 = ltb-true (at bytes x.0) 128 b.1 in
        let low : x.0 < n = omega (arith, x.1) in
        let both : v ≡ x.0 = one (at bytes v) v x.0 (hung v h (omega arith)) (rw (← i) at (hung x.0 low small)) in
        omega (arith, x.1))),
  )
