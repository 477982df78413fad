-- The tests after the last command: each loop's step, and that the tests on the tables are those on the edges held.
use Prim.Native.Nat.{ℕ, zero, suc, ◌+◌, ◌≤◌, ◌<◌}
use mathlib.Core.Path.{◌≡◌, refl, sym, ap, ap₂, ◌∙◌}
use mathlib.Core.List.{List}
use mathlib.Core.Bool.{Bool, true, false, not, ◌&&◌, ◌||◌}
use native.Mathlib.Omega.{arith}
use lib.ListN.{get_or}
use borrow.Author.Tests.{eq-eqb, ne_eqb, lt-ltb, le-ltb}
use Rattle.base_finite.specs.Below.{any, count}
use Rattle.base_finite.proofs.Laws.{by_bool, any_ext, any_cut, any_found, and_both}
use Rattle.base_nodeset.specs.Set.{mem, Difference, Union}
use Rattle.base_nodeset.specs.declared.NodeSet.{NodeSet}
use Rattle.theory_edges.specs.Edges.{Within, graph_with}
use Rattle.theory_edges.proofs.Edges.{parent_among}
use Rattle.theory_edges.proofs.Growing.{leaf_grown, root_grown}
use Rattle.base_tables.proofs.Parents.{parentless, inner_held, root_held}
use Rattle.graph.specs.Graph.{Edge, Graph, among, entered, left, parent, root, leaf, none, rises, cyclic, bare, grown}
use Rattle.format.specs.Sheet.{Labels, takes_labels, refused, accepted, says, overgrown, astray, mislabelled, overlapping, holed, fitted, whole}
use Rattle.format.specs.declared.Form.TheVariants.{Plain, Labelled}
use Rattle.format.specs.declared.Refusal.TheVariants.{Tree, Ends, Overgrown, Label, Overlap, Hole}
use Rattle.base_tables.specs.Rows.{in_row}
use Rattle.base_tables.specs.Tables.{Holds}
use Rattle.base_tables.specs.Trees.{InnerSet, RootSet}
use Rattle.sheet_grow.specs.Grow.{BareSet}
use Rattle.sheet_grow.proofs.Grown.{bare_set, set_counted, bare_held, bare_counted}
use Rattle.sheet_decode.specs.Judge.{rises_in, cyclic_in, astray_in}

-- one edge up

pub rises_stops : (k : ℕ) (parents : List ℕ) (v : ℕ) → 0 < k → get_or parents v 0 ≡ none → rises_in k parents v ≡ false
unfolding rises_in
rises_stops zero parents v h e = absurd (omega arith)
rises_stops (suc k) parents v h e = rw (eq-eqb (get_or parents v 0) none e)

pub rises_goes_on : (k j : ℕ) (parents : List ℕ) (v : ℕ) → k ≡ j + 1 → (get_or parents v 0 ≡ none → ⊥) → rises_in j parents (get_or parents v 0) ≡ rises_in k parents v
unfolding rises_in
rises_goes_on zero j parents v h e = absurd (omega arith)
rises_goes_on (suc k) j parents v h e =
    let same : j ≡ k = omega arith in
    rw (same, ne_eqb (get_or parents v 0) none e)

pub rises_top : (k : ℕ) (parents : List ℕ) (v : ℕ) → k ≤ 0 → rises_in k parents v ≡ true
unfolding rises_in
rises_top zero parents v h = refl
rises_top (suc k) parents v h = absurd (omega arith)

-- the tests on tables that hold a graph's edges

module _ (n : ℕ) (t : List Edge) (parents : List ℕ) (few : n ≤ 128) (within : Within n t) (parent_is : (v : ℕ) → v < 128 → get_or parents v 0 ≡ parent t v) where
  pub rises_held : (k v : ℕ) → v < n → rises_in k parents v ≡ rises k t v
  unfolding rises_in rises
  rises_held zero v h = refl
  rises_held (suc k) v h =
      by_bool (entered t v)
      (λ (e : entered t v ≡ true).
      let up = within (parent t v) v (parent_among t v e) in
      rw (parentless n t parents few within parent_is v h, e, parent_is v (omega arith)) (rises_held k (parent t v) up.0))
      (λ (e : entered t v ≡ false). rw (parentless n t parents few within parent_is v h, e))

-- What is worked out of a table of parents: no cycle of tree edges, the inner nodes, the roots, and the nodes that are bare.
pub record Sets (n : ℕ) (parents : List ℕ) : Type 0 where
  pub few : n ≤ 128
  pub no_cycle : cyclic_in n parents ≡ false
  pub inner : NodeSet
  pub roots : NodeSet
  pub alone : NodeSet
  pub is_inner : InnerSet n parents inner
  pub is_roots : RootSet n parents roots
  pub is_alone : Difference roots inner alone

module _ {n : ℕ} {t d : List Edge} {parents : List ℕ} {heads : List NodeSet} {edges : ℕ} (holds : Holds n t d parents heads edges) where
  abbrev g : Graph
  g = graph_with n t d

  cyclic_held : n ≤ 128 → cyclic_in n parents ≡ cyclic g
  unfolding cyclic_in cyclic
  cyclic_held few = any_ext n (rises_in n parents) (rises n t) (rises_held n t parents few holds.tree_within holds.parent_is n)

  -- 4
  pub whole_tree : n ≤ 128 → cyclic_in n parents ≡ true → (m : Labels) → whole g m ≡ refused Tree
  unfolding whole
  whole_tree few e m = let found : cyclic g ≡ true = sym (cyclic_held few) ∙ e in rw found

  module _ (s : Sets n parents) where
    few : n ≤ 128
    few = s.few

    acyclic : cyclic g ≡ false
    acyclic = sym (cyclic_held few) ∙ s.no_cycle

    inner_is : (v : ℕ) → v < n → mem s.inner v ≡ left t v
    inner_is v h = s.is_inner v (omega (arith, h, few)) ∙ inner_held n t parents few holds.tree_within holds.parent_is holds.one_parent v h

    root_is : (v : ℕ) → v < n → mem s.roots v ≡ not (entered t v)
    root_is v h = s.is_roots v ∙ root_held n t parents few holds.tree_within holds.parent_is v ∙ rw (lt-ltb v n h)

    bare_is : BareSet n parents s.alone
    bare_is = bare_set n parents s.inner s.roots s.alone s.is_inner s.is_roots s.is_alone

    -- with their leaves, bare nodes are inner nodes
    leaf_is : (more : NodeSet) → Union s.inner s.alone more → (l : ℕ) → l < n → leaf (grown g) l ≡ not (mem more l)
    leaf_is more m l h =
        let same : mem more l ≡ (left t l || bare g l) = m l ∙ ap₂ ◌||◌ (inner_is l h) (bare_is l (omega (arith, h, few)) ∙ bare_held g few parents heads edges holds l h) in
        leaf_grown g l h ∙ ap not (sym same)

    astray_held : (more : NodeSet) → Union s.inner s.alone more → astray_in n heads more s.roots ≡ astray (grown g)
    unfolding astray_in astray
    astray_held more m =
        let test : ℕ → ℕ → Bool = λ l r. among d l r && not (leaf (grown g) l && root (grown g) r) in
        let edge : (l r : ℕ) → test l r ≡ true → (l < n) × (r < n) = λ l r e. holds.dominance_within l r (and_both (among d l r) (not (leaf (grown g) l && root (grown g) r)) e).0 in
        let row : ℕ → ℕ → Bool = λ l r. in_row heads l r && not (not (mem more l) && mem s.roots r) in
        let all : ℕ = (grown g).nodes in
        any_ext n _ _ (λ l hl.
        any_cut 128 n (row l) few (λ r h e.
        let held : in_row heads l r ≡ true = (and_both (in_row heads l r) (not (not (mem more l) && mem s.roots r)) e).0 in
        (holds.dominance_within l r (sym (holds.heads_are l r) ∙ held)).1)
        ∙ any_ext n (row l) (test l) (λ r hr. rw (holds.heads_are l r, leaf_is more m l hl, root_grown g r hr, root_is r hr))
        ∙ sym (any_cut all n (test l) (omega arith) (λ r h e. (edge l r e).1)))
        ∙ sym (any_cut all n (λ l. any all (test l)) (omega arith) (λ l h e. let r = any_found all (test l) e in (edge l r.0 r.2).0))

    -- so many are bare
    module _ (k : ℕ) (counted : k ≡ count 128 (mem s.alone)) where
      number : n + k ≡ (grown g).nodes
      number = ap (λ (m : ℕ). n + m) (counted ∙ set_counted n parents s.alone bare_is) ∙ bare_counted g few parents heads edges holds

      -- 13
      pub whole_overgrown : 128 < n + k → (m : Labels) → whole g m ≡ refused Overgrown
      unfolding whole overgrown
      whole_overgrown h m = rw (acyclic, lt-ltb 128 (grown g).nodes (omega (arith, h, number)))

      module _ (fits : n + k ≤ 128) (more : NodeSet) (m : Union s.inner s.alone more) where
        not_overgrown : overgrown g ≡ false
        unfolding overgrown
        not_overgrown = le-ltb 128 (grown g).nodes (omega (arith, fits, number))

        -- 6
        pub whole_ends : astray_in n heads more s.roots ≡ true → (l : Labels) → whole g l ≡ refused Ends
        unfolding whole
        whole_ends e l = let found : astray (grown g) ≡ true = sym (astray_held more m) ∙ e in rw (acyclic, not_overgrown, found)

        pub whole_fitted : astray_in n heads more s.roots ≡ false → (l : Labels) → whole g l ≡ fitted g l
        unfolding whole
        whole_fitted e l = let found : astray (grown g) ≡ false = sym (astray_held more m) ∙ e in rw (acyclic, not_overgrown, found)

-- 14, 15, 16
module _ (g : Graph) (m : Labels) where
  pub fits_plain : m.form ≡ Plain → fitted g m ≡ accepted (says g m)
  unfolding fitted
  fits_plain e = rw e

  module _ (form : m.form ≡ Labelled) where
    takes : takes_labels m.form ≡ true
    takes = ap takes_labels form

    pub fits_label : true ≡ mislabelled g m.symbols → fitted g m ≡ refused Label
    unfolding fitted
    fits_label e = rw (takes, ← e)

    module _ (label : false ≡ mislabelled g m.symbols) where
      pub fits_overlap : true ≡ overlapping g m → fitted g m ≡ refused Overlap
      unfolding fitted
      fits_overlap e = rw (takes, ← label, ← e)

      module _ (overlap : false ≡ overlapping g m) where
        pub fits_hole : true ≡ holed g m.symbols → fitted g m ≡ refused Hole
        unfolding fitted
        fits_hole e = rw (takes, ← label, ← overlap, ← e)

        pub fits_all : false ≡ holed g m.symbols → fitted g m ≡ accepted (says g m)
        unfolding fitted
        fits_all e = rw (takes, ← label, ← overlap, ← e)
