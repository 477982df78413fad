-- What the tables and the bytes say of a solved form of the graph that they are given for: what lies above a node, and
-- what a leaf carries.
use Prim.Native.Nat.{ℕ, ◌≤◌, ◌<◌}
use mathlib.Core.Path.{◌≡◌, sym, ap, ◌∙◌}
use mathlib.Core.List.{List}
use mathlib.Core.Bool.{true, false}
use mathlib.Core.Logic.{⊎_elim}
use native.Mathlib.Omega.{arith}
use lib.Dec.{eqb, leb}
use lib.ListN.{length, get_or}
use borrow.Author.Tests.{eq-eqb, eqb-true, eqb-false, leb-true}
use Rattle.base_finite.specs.Below.{any, count}
use Rattle.base_finite.proofs.Laws.{by_bool, any_found, any_cut, any_ext, count_ext, test_ext}
use Rattle.graph.specs.Graph.{Graph, none}
use Rattle.graph.specs.Placing.{at, hangs}
use Rattle.graph.specs.Rule1.{problem, up}
use Rattle.theory_edges.proofs.Ends.{leaf_below}
use Rattle.theory_forest.specs.Shape.{Shaped}
use Rattle.theory_forest.proofs.Shape.{well_formed_shaped}
use Rattle.theory_forest.proofs.Table.{hangs_parts}
use Rattle.theory_forest.proofs.Forests.{placing_cases, placing_length}
use Rattle.base_finite.proofs.Counting.{some_counted}
use Rattle.base_nodeset.specs.Set.{mem}
use Rattle.base_nodeset.specs.declared.NodeSet.{NodeSet}
use Rattle.base_tables.proofs.TreeLaws.{tree_of, tables_parents, parent_here, no_parent, has_parent}
use Rattle.solve_rule1.specs.Solved.{GraphOf, Solved}
use Rattle.base_finite.specs.Stores.{entry_is}
use Rattle.solve_rule1.specs.Carried.{Carrying}

module _ (n : ℕ) (parents : List ℕ) (s : GraphOf n parents) where
  pub shaped : Shaped s.graph
  shaped = well_formed_shaped s.tables.well_formed

  pub few : n ≤ 128
  few = (tables_parents s.tables).few

module _ (n : ℕ) (parents p : List ℕ) (s : Solved n parents p) where
  pub solved_length : length p ≡ n
  solved_length = placing_length s.sheet.graph p s.solved.is_placing ∙ sym s.sheet.tables.nodes

  pub up_parent : (v : ℕ) → v < n → (get_or parents v 0 ≡ none → ⊥) → get_or parents v 0 ≡ up s.sheet.graph p v
  unfolding up
  up_parent v h d = rw (has_parent (shaped n parents s.sheet) (tree_of s.sheet.tables) v h d) (parent_here (shaped n parents s.sheet) (tree_of s.sheet.tables) v h)

  pub up_hung : (v : ℕ) → v < n → get_or parents v 0 ≡ none → at p v ≡ up s.sheet.graph p v
  unfolding up
  up_hung v h e = rw (no_parent (shaped n parents s.sheet) (tree_of s.sheet.tables) v h e)

  -- a node that hangs does so under a leaf
  carried_hangs : (v : ℕ) → v < n → (at p v ≡ none → ⊥) → hangs s.sheet.graph p (at p v) v ≡ true
  carried_hangs v h d =
      ⊎_elim (λ e. absurd (d e)) (λ t. t) (placing_cases s.sheet.graph p v s.solved.is_placing (omega (arith, h, s.sheet.tables.nodes)))

  hung_within : (v : ℕ) → v < n → (at p v ≡ none → ⊥) → at p v < n
  hung_within v h d =
      let g : Graph = s.sheet.graph in
      omega (arith, leaf_below g (at p v) (hangs_parts g p (at p v) v (carried_hangs v h d)).0, s.sheet.tables.nodes)

  pub up_within : (v : ℕ) → v < n → (up s.sheet.graph p v ≡ none → ⊥) → up s.sheet.graph p v < n
  up_within v h d =
      by_bool (eqb (get_or parents v 0) none)
      (λ (t : eqb (get_or parents v 0) none ≡ true).
      let e = up_hung v h (eqb-true (get_or parents v 0) none t) in
      rw (← e) (hung_within v h (λ i. d (sym e ∙ i))))
      (λ (t : eqb (get_or parents v 0) none ≡ false).
      let i = eqb-false (get_or parents v 0) none t in
      rw (← (up_parent v h i)) ((tables_parents s.sheet.tables).node_or_none v h i))

  -- under a node hangs what the bytes say
  pub hangs_is : (l v : ℕ) → l < 128 → v < n → hangs s.sheet.graph p l v ≡ entry_is p l v
  hangs_is l v hl hv =
      let g : Graph = s.sheet.graph in
      test_ext (hangs g p l v) (entry_is p l v)
      (λ t. eq-eqb (at p v) l (hangs_parts g p l v t).2)
      (λ t.
      let e : at p v ≡ l = eqb-true (at p v) l t in
      rw e at (carried_hangs v hv (λ i. omega (arith, e, i, hl))))

  pub problem_is : (l : ℕ) → l < 128 → problem s.sheet.graph p l ≡ leb 2 (count n (entry_is p l))
  unfolding problem
  problem_is l h =
      let g : Graph = s.sheet.graph in
      let same : n ≡ g.nodes = s.sheet.tables.nodes in
      rw (count_ext g.nodes (hangs g p l) (entry_is p l) (λ v b. hangs_is l v h (omega arith)))
      (ap (λ (m : ℕ). leb 2 (count m (entry_is p l))) (sym same))

  module _ (leaves : NodeSet) (c : Carrying 2 n p leaves) where
    pub several_is : (l : ℕ) → l < 128 → mem leaves l ≡ problem s.sheet.graph p l
    several_is l h = c l h ∙ sym (problem_is l h)

    -- what carries roots is a node
    several_within : (l : ℕ) → l < 128 → mem leaves l ≡ true → l < n
    several_within l h t =
        let two : 2 ≤ count n (entry_is p l) = leb-true 2 (count n (entry_is p l)) (sym (c l h) ∙ t) in
        let r = any_found n (entry_is p l) (some_counted n (entry_is p l) (omega arith)) in
        let e : at p r.0 ≡ l = eqb-true (at p r.0) l r.2 in
        omega (arith, e, hung_within r.0 r.1 (λ i. omega (arith, e, i, h)))

    pub any_several : any 128 (mem leaves) ≡ any n (mem leaves)
    any_several = any_cut 128 n (mem leaves) (few n parents s.sheet) several_within

    pub any_problem : any 128 (mem leaves) ≡ any s.sheet.graph.nodes (problem s.sheet.graph p)
    any_problem =
        any_several
        ∙ any_ext n (mem leaves) (problem s.sheet.graph p) (λ l h. several_is l (omega (arith, few n parents s.sheet)))
        ∙ ap (λ (m : ℕ). any m (problem s.sheet.graph p)) s.sheet.tables.nodes
