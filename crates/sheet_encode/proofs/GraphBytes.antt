-- The bytes written are the tidy sheet of the graph that the tables hold.
use Prim.Native.Nat.{ℕ, suc, ◌+◌, ◌*◌, ◌≤◌, ◌<◌}
use mathlib.Core.Path.{◌≡◌, refl, sym, ap, subst⁻¹, ◌∙◌}
use mathlib.Core.List.{List, [], ◌∷◌, ◌++◌}
use mathlib.Core.Bool.{true, false, cond, not}
use native.Mathlib.Nat.{zero-add}
use native.Mathlib.Omega.{arith}
use lib.Dec.{eqb}
use lib.ListN.{length, get_or, set, drop, length-append}
use lib.Seq.{sets, sets-eq}
use borrow.Author.Tests.{eq-eqb, ne_eqb}
use Rattle.base_finite.specs.Below.{count, spread}
use Rattle.base_finite.proofs.Laws.{by_bool, count_ext, count_le, spread_ext, not_holding}
use Rattle.base_nodeset.specs.declared.NodeSet.{NodeSet}
use Rattle.graph.specs.Graph.{Edge, among, entered, parent, none}
use Rattle.format.specs.Sheet.{tidy, tidy_tree, tidy_dominance}
use Rattle.theory_edges.proofs.Edges.{parent_among, parent_unentered, parent_only, among_unentered}
use Rattle.theory_edges.proofs.Growing.{few_written}
use Rattle.theory_format.proofs.Tidy.{tidy_length}
use Rattle.base_tables.specs.Rows.{nothing, in_row}
use Rattle.base_tables.specs.Tables.{Holds}
use Rattle.base_tables.specs.declared.Graph.{Graph}
use Rattle.base_tables.specs.Trees.{Parents}
use Rattle.base_tables.proofs.Parents.{parent_tells, parents_held}
use Rattle.theory_edges.specs.Edges.{graph_with}
use Rattle.base_finite.specs.Stores.{Written}
use Rattle.sheet_encode.specs.Tidy.{tree_bytes, tree_part, row_bytes, row_command, dominance_part, trees_in, TidyTables}
use Rattle.base_finite.proofs.Runs.{spread_gap}
use Rattle.base_finite.proofs.Stores.{written_more}

-- a spread of which one number alone gives anything
spread_single : {A : Type 0} (f : ℕ → List A) (n k : ℕ) → k < n → ((j : ℕ) → j < n → (j ≡ k → ⊥) → f j ≡ []) → spread n f ≡ f k
unfolding spread
spread_single f n k h none =
    spread_gap f (suc k) n h (λ j a b. none j b (λ e. omega arith))
    ∙ rw (spread_gap f 0 k (omega arith) (λ j a b. none j (omega arith) (λ e. omega arith)))

spread_nothing : {A : Type 0} (f : ℕ → List A) (n : ℕ) → ((j : ℕ) → 0 ≤ j → j < n → f j ≡ []) → spread n f ≡ []
unfolding spread
spread_nothing f n none = spread_gap f 0 n (omega arith) none

module _ (n : ℕ) (t d : List Edge) (parents : List ℕ) (heads : List NodeSet) (edges : ℕ) (few : n ≤ 128) (holds : Holds n t d parents heads edges) where
  has_parent : (v : ℕ) → v < n → not (eqb (get_or parents v 0) none) ≡ entered t v
  has_parent v h = rw (holds.parent_is v (omega arith)) (sym (parent_tells n t v few holds.tree_within))

  pub trees_held : trees_in n parents ≡ count n (entered t)
  unfolding trees_in
  trees_held = count_ext n _ (entered t) (λ v h. has_parent v h)

  tree_bytes_held : (c : ℕ) → c < n → tree_bytes (get_or parents c 0) c ≡ spread n (λ p. cond (among t p c) (2 ∷ p ∷ c ∷ []) [])
  tree_bytes_held c h =
      by_bool (entered t c)
      (λ (e : entered t c ≡ true).
      let q = parent t c in
      let edge = parent_among t c e in
      let is : get_or parents c 0 ≡ q = holds.parent_is c (omega arith) in
      let w = holds.tree_within q c edge in
      let other : (j : ℕ) → j < n → (j ≡ q → ⊥) → cond (among t j c) (2 ∷ j ∷ c ∷ []) [] ≡ [] =
      λ j lt ne. let gone : among t j c ≡ false = not_holding (among t j c) (λ m. ne (parent_only t j c holds.one_parent m)) in rw gone in
      rw (is, ne_eqb q none (λ z. omega (arith, w.0))) (sym (spread_single (λ p. cond (among t p c) (2 ∷ p ∷ c ∷ []) []) n q w.0 other ∙ rw edge)))
      (λ (e : entered t c ≡ false).
      let is : get_or parents c 0 ≡ none = holds.parent_is c (omega arith) ∙ parent_unentered t c e in
      let none_there : (j : ℕ) → 0 ≤ j → j < n → cond (among t j c) (2 ∷ j ∷ c ∷ []) [] ≡ [] = λ j a b. rw (among_unentered t j c e) in
      rw (eq-eqb (get_or parents c 0) none is) (sym (spread_nothing (λ p. cond (among t p c) (2 ∷ p ∷ c ∷ []) []) n none_there)))

  pub tree_part_held : tree_part n parents ≡ tidy_tree (graph_with n t d)
  unfolding tree_part tidy_tree
  tree_part_held = spread_ext n _ _ (λ c h. tree_bytes_held c h)

  row_held : (l : ℕ) → row_bytes l (get_or heads l nothing) ≡ spread n (λ r. cond (among d l r) (3 ∷ l ∷ r ∷ []) [])
  row_held l =
      spread_gap (row_command l (get_or heads l nothing)) n 128 few (λ r a b.
      let gone : in_row heads l r ≡ false =
      holds.heads_are l r ∙ not_holding (among d l r) (λ m. let w = holds.dominance_within l r m in omega (arith, w.1)) in
      rw gone)
      ∙ spread_ext n _ _ (λ r h. rw (holds.heads_are l r))

  pub dominance_part_held : dominance_part n heads ≡ tidy_dominance (graph_with n t d)
  unfolding dominance_part tidy_dominance
  dominance_part_held = spread_ext n _ _ (λ l h. row_held l)

module _ (v : Graph) (h : TidyTables v) where
  few : v.n ≤ 128
  few = rw h.nodes (few_written h.graph h.well_written)

  tables : Holds v.n h.graph.tree h.graph.dominance v.parent v.heads v.edges
  tables = subst⁻¹ (λ (m : ℕ). Holds m h.graph.tree h.graph.dominance v.parent v.heads v.edges) h.nodes h.holds

  same : graph_with v.n h.graph.tree h.graph.dominance ≡ h.graph
  same = λ i. record { nodes = h.nodes i; tree = h.graph.tree; dominance = h.graph.dominance }

  pub held_parents : Parents v.n v.parent
  held_parents = parents_held v.n h.graph.tree h.graph.dominance v.parent v.heads v.edges few tables

  pub held_heads : length v.heads ≡ 128
  held_heads = h.holds.heads_long

  pub held_few : v.n ≤ 128
  held_few = few

  pub held_edges : v.edges ≤ 255
  held_edges = rw h.holds.edges_are h.well_written.few_edges

  pub held_trees : trees_in v.n v.parent ≤ v.n
  held_trees = rw (trees_held v.n h.graph.tree h.graph.dominance v.parent v.heads v.edges few tables) (count_le v.n (entered h.graph.tree))

  pub held_length : 3 + 3 * trees_in v.n v.parent + 3 * v.edges ≡ length (tidy h.graph)
  held_length =
      let trees : trees_in v.n v.parent ≡ count h.graph.nodes (entered h.graph.tree) =
      trees_held v.n h.graph.tree h.graph.dominance v.parent v.heads v.edges few tables ∙ ap (λ (m : ℕ). count m (entered h.graph.tree)) h.nodes in
      rw (trees, h.holds.edges_are) (sym (tidy_length h.graph h.well_written))

  pub held_bytes : tidy h.graph ≡ 1 ∷ v.n ∷ tree_part v.n v.parent ++ dominance_part v.n v.heads ++ 0 ∷ []
  unfolding tidy
  held_bytes =
      let t = tree_part_held v.n h.graph.tree h.graph.dominance v.parent v.heads v.edges few tables ∙ ap tidy_tree same in
      let d = dominance_part_held v.n h.graph.tree h.graph.dominance v.parent v.heads v.edges few tables ∙ ap tidy_dominance same in
      let e = h.nodes in
      cc

  pub held_parts : length (tidy h.graph) ≡ 3 + length (tree_part v.n v.parent) + length (dominance_part v.n v.heads)
  held_parts = rw held_bytes (simp length-append (omega arith))

  -- what the parts written one after the other come to
  module _ (old mid new : List ℕ) (after end : ℕ)
      (tree : Written (set (set old 0 1) 1 v.n) 2 (tree_part v.n v.parent) mid after)
      (dominance : Written mid after (dominance_part v.n v.heads) new end)
      (room : length (tidy h.graph) ≤ length old) where
    start : Written old 0 (1 ∷ v.n ∷ []) (set (set old 0 1) 1 v.n) 2
    start = record { stored = refl; after = refl }

    pub all_written : set new end 0 ≡ tidy h.graph ++ drop (length (tidy h.graph)) old
    all_written =
        let last : Written new end (0 ∷ []) (set new end 0) (end + 1) = record { stored = refl; after = refl } in
        let to_tree_lem = written_more old 0 (1 ∷ v.n ∷ []) (set (set old 0 1) 1 v.n) 2 (tree_part v.n v.parent) mid after start tree in
        let to_dominance_lem = written_more old 0 _ mid after (dominance_part v.n v.heads) new end to_tree_lem dominance in
        let to_end = written_more old 0 _ new end (0 ∷ []) (set new end 0) (end + 1) to_dominance_lem last in
        let bytes : 1 ∷ v.n ∷ ((tree_part v.n v.parent ++ dominance_part v.n v.heads) ++ 0 ∷ []) ≡ tidy h.graph =
        sym held_bytes in
        to_end.stored
        ∙ ap (λ (bs : List ℕ). sets old 0 bs) bytes
        ∙ sets-eq (tidy h.graph) old 0 (rw zero-add room)
        ∙ ap (λ (k : ℕ). tidy h.graph ++ drop k old) (zero-add (length (tidy h.graph)))
