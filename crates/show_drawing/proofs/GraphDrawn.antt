-- The drawing read off the tables is that of the graph that the tables hold.
use Prim.Native.Nat.{ℕ, zero, suc, ◌≤◌, ◌<◌}
use mathlib.Core.Path.{◌≡◌, refl, sym, subst⁻¹, ◌∙◌}
use mathlib.Core.List.{List, [], ◌∷◌}
use mathlib.Core.Bool.{true, cond, ◌&&◌}
use mathlib.Core.Logic.{⊎_elim}
use native.Mathlib.Omega.{arith}
use lib.Dec.{eqb}
use lib.ListN.{length, get_or, take, length-take}
use lib.Seq.{get_or-take}
use borrow.Author.Tests.{eq-eqb, ne_eqb, eqb-true, lt-ltb}
use Rattle.base_finite.proofs.Laws.{by_bool, and_both, any_ext, count_ext, count_le, test_ext}
use Rattle.base_finite.proofs.Bounds.{count_cut}
use Rattle.base_finite.specs.Below.{count}
use Rattle.base_finite.specs.Stores.{Written, entry_is}
use Rattle.graph.specs.Graph.{Graph, left, root, leaf, leaf_of, own, none}
use Rattle.graph.specs.Placing.{at, hangs, SolvedForm}
use Rattle.format.specs.Drawing.{leaf_text, fragment_text, drawing}
use Rattle.theory_edges.proofs.Ends.{leaf_below, root_below}
use Rattle.theory_forest.specs.Shape.{Shaped}
use Rattle.theory_forest.proofs.Shape.{well_formed_shaped}
use Rattle.theory_forest.proofs.Table.{hangs_parts}
use Rattle.theory_forest.proofs.Fragments.{leaf_of_parts}
use Rattle.theory_forest.proofs.Forests.{placing_cases, placing_length}
use Rattle.base_tables.specs.Trees.{Parents, TreeOf, root_in}
use Rattle.base_tables.proofs.TreeLaws.{tree_of, tables_parents, parentless, root_is, inner_is, own_is}
use Rattle.show_drawing.specs.Drawn.{home_in, Homes, top_at, leaf_in, fragment_in, sum_where, size_in, tops_in, tops_size_in, Counted, Drawable, Drawn}
use Rattle.show_drawing.proofs.Runs.{leaf_run, fragment_run, drawing_run}
use Rattle.show_drawing.proofs.Texts.{drawn_whole, run_ext, sum_where_ext}
use Rattle.show_drawing.proofs.Bound.{drawing_fits}
use Rattle.show_drawing.proofs.Sizes.{fragments_from, fragments_under, leaf_sum, fragment_sum, fewer_hung, few_fragments, tops_sum}

module _ (g : Graph) (parents : List ℕ) (shaped : Shaped g) (tree : TreeOf g g.nodes parents) where
  few : g.nodes ≤ 128
  few = shaped.few_nodes

  home_held : (v : ℕ) → v < g.nodes → home_in g.nodes parents v ≡ cond (left g.tree v) none (own g v)
  unfolding home_in
  home_held v h = rw (inner_is shaped tree v h, own_is shaped tree v h)

  module _ (home : List ℕ) (homes : Homes g.nodes parents home) (placing : List ℕ) (solved : SolvedForm g (take g.nodes placing)) where
    leaf_at : (r x : ℕ) → r < g.nodes → x < g.nodes → entry_is home r x ≡ leaf_of g r x
    unfolding leaf_of leaf
    leaf_at r x hr hx =
        rw (homes.home_is x hx, home_held x hx, lt-ltb x g.nodes hx)
        (by_bool (left g.tree x)
        (λ e. rw (e, ne_eqb none r (λ i. omega (arith, few))))
        (λ e. rw e))

    placed : (r : ℕ) → r < g.nodes → at (take g.nodes placing) r ≡ get_or placing r 0
    placed r h = get_or-take g.nodes placing r 0 h

    hung_at_lem : (l r : ℕ) → leaf g l ≡ true → r < g.nodes → entry_is placing l r ≡ hangs g (take g.nodes placing) l r
    hung_at_lem l r hl hr =
        test_ext (entry_is placing l r) (hangs g (take g.nodes placing) l r)
        (λ e.
        let i : at (take g.nodes placing) r ≡ l = placed r hr ∙ eqb-true (get_or placing r 0) l e in
        ⊎_elim
        (λ (j : at (take g.nodes placing) r ≡ none). absurd (omega (arith, leaf_below g l hl, few)))
        (λ (j : hangs g (take g.nodes placing) (at (take g.nodes placing) r) r ≡ true). rw i at j)
        (placing_cases g (take g.nodes placing) r solved.is_placing hr))
        (λ e. eq-eqb (get_or placing r 0) l (sym (placed r hr) ∙ (hangs_parts g (take g.nodes placing) l r e).2))

    top_at_lem : (r : ℕ) → r < g.nodes → top_at parents placing r ≡ (root g r && eqb (at (take g.nodes placing) r) none)
    unfolding root
    top_at_lem r h = rw (parentless shaped tree r h, lt-ltb r g.nodes h, placed r h)

    leaf_held : (draw text : ℕ → List ℕ) → ((r : ℕ) → root g r ≡ true → draw r ≡ text r) → (l : ℕ) → leaf g l ≡ true → leaf_in draw g.nodes placing l ≡ leaf_text text g (take g.nodes placing) l
    unfolding leaf_in
    leaf_held draw text same l h =
        let p : List ℕ = take g.nodes placing in
        rw (
          run_ext (91 ∷ []) (59 ∷ []) draw text (entry_is placing l) (hangs g p l) g.nodes (λ r hr. hung_at_lem l r h hr) (λ r _ e. same r (hangs_parts g p l r e).1),
          any_ext g.nodes (entry_is placing l) (hangs g p l) (λ r hr. hung_at_lem l r h hr),
        )
        (sym (leaf_run g p text l))

    fragment_held : (k r : ℕ) → root g r ≡ true → fragment_in k g.nodes home placing r ≡ fragment_text k g (take g.nodes placing) r
    unfolding fragment_in fragment_text
    fragment_held zero r h = refl
    fragment_held (suc k) r h =
        let p : List ℕ = take g.nodes placing in
        rw (run_ext (40 ∷ []) (44 ∷ []) (leaf_in (λ s. fragment_in k g.nodes home placing s) g.nodes placing) (leaf_text (λ s. fragment_text k g p s) g p) (entry_is home r) (leaf_of g r) g.nodes
        (λ x hx. leaf_at r x (root_below g r h) hx)
        (λ x _ e. leaf_held (λ s. fragment_in k g.nodes home placing s) (λ s. fragment_text k g p s) (λ s. fragment_held k s) x (leaf_of_parts g r x e).0))
        (sym (fragment_run g p shaped k r h))

    pub tops_held : tops_in g.nodes parents home placing ≡ drawing g (take g.nodes placing)
    tops_held =
        let p : List ℕ = take g.nodes placing in
        run_ext [] (59 ∷ []) (λ s. fragment_in g.nodes g.nodes home placing s) (fragment_text g.nodes g p) (top_at parents placing) (λ r. root g r && eqb (at p r) none) g.nodes
        top_at_lem
        (λ r _ e. fragment_held g.nodes r (and_both (root g r) (eqb (at p r) none) e).0)
        ∙ sym (drawing_run g p)

    size_held : (k r : ℕ) → root g r ≡ true → fragments_from g (take g.nodes placing) r ≤ k → size_in k g.nodes home placing r ≡ fragments_from g (take g.nodes placing) r
    unfolding size_in
    size_held zero r h few = absurd (omega (arith, fragment_sum g (take g.nodes placing) shaped solved.is_forest r h))
    size_held (suc k) r h few =
        let p : List ℕ = take g.nodes placing in
        let forest = solved.is_forest in
        rw (sum_where_ext (λ l. sum_where (λ s. size_in k g.nodes home placing s) (entry_is placing l) g.nodes) (fragments_under g p) (entry_is home r) (leaf_of g r) g.nodes
        (λ l hl. leaf_at r l (root_below g r h) hl)
        (λ l _ e.
        sum_where_ext (λ s. size_in k g.nodes home placing s) (fragments_from g p) (entry_is placing l) (hangs g p l) g.nodes
        (λ s hs. hung_at_lem l s (leaf_of_parts g r l e).0 hs)
        (λ s _ d. size_held k s (hangs_parts g p l s d).1 (omega (arith, fewer_hung g p shaped forest r l s h e d)))
        ∙ leaf_sum g p shaped forest l (leaf_of_parts g r l e).0))
        (sym (fragment_sum g p shaped forest r h))

    tops_size_held : tops_size_in g.nodes parents home placing ≡ count g.nodes (root g)
    tops_size_held =
        let p : List ℕ = take g.nodes placing in
        let forest = solved.is_forest in
        sum_where_ext (λ s. size_in g.nodes g.nodes home placing s) (fragments_from g p) (top_at parents placing) (λ r. root g r && eqb (at p r) none) g.nodes
        top_at_lem
        (λ r _ e. size_held g.nodes r (and_both (root g r) (eqb (at p r) none) e).0 (omega (arith, few_fragments g p shaped forest r, count_le g.nodes (root g))))
        ∙ tops_sum g p shaped forest solved.is_placing

    pub all_counted : Counted g.nodes parents home placing
    all_counted =
        let all : count 128 (root_in g.nodes parents) ≡ count g.nodes (root g) =
        count_ext 128 (root_in g.nodes parents) (root g) (λ v _. root_is shaped tree v) ∙ count_cut 128 g.nodes (root g) few (λ v _ e. root_below g v e) in
        record { all_drawn = tops_size_held ∙ sym all; few = omega (arith, all, count_le g.nodes (root g)) }

-- what the tables of a graph and one of its solved forms give

module _ (n : ℕ) (parents placing : List ℕ) (d : Drawable n parents placing) where
  same_nodes : n ≡ d.graph.nodes
  same_nodes = d.tables.nodes

  nodes_few : (2 ≤ n) × (n ≤ 128)
  nodes_few = (omega (arith, same_nodes, d.tables.well_formed.some_nodes), omega (arith, same_nodes, d.tables.well_formed.few_nodes))

  pub given_parents : Parents n parents
  given_parents = tables_parents d.tables

  -- the placing has a byte for each node
  pub placing_long : n ≤ length placing
  placing_long = omega (arith, same_nodes, placing_length d.graph (take n placing) d.solved.is_placing, length-take n placing)

  pub some_nodes : 0 < n
  some_nodes = omega (arith, nodes_few.0)

  module _ (home : List ℕ) (homes : Homes n parents home) where
    pub text_is : tops_in n parents home placing ≡ drawing d.graph (take n placing)
    text_is =
        subst⁻¹ (λ (m : ℕ). Homes m parents home → SolvedForm d.graph (take m placing) → tops_in m parents home placing ≡ drawing d.graph (take m placing)) same_nodes
        (λ is solved. tops_held d.graph parents (well_formed_shaped d.tables.well_formed) (rw same_nodes at (tree_of d.tables)) home is placing solved)
        homes
        d.solved

    pub size_is : Counted n parents home placing
    size_is =
        subst⁻¹ (λ (m : ℕ). Homes m parents home → SolvedForm d.graph (take m placing) → Counted m parents home placing) same_nodes
        (λ is solved. all_counted d.graph parents (well_formed_shaped d.tables.well_formed) (rw same_nodes at (tree_of d.tables)) home is placing solved)
        homes
        d.solved

    pub text_fits : length (tops_in n parents home placing) ≤ 1024
    text_fits = rw text_is (drawing_fits d.graph (take n placing) (well_formed_shaped d.tables.well_formed) d.solved)

    pub drawn : (old new : List ℕ) (r : ℕ) → 1024 ≤ length old → Written old 0 (tops_in n parents home placing) new r → Drawn (drawing d.graph (take n placing)) r old new
    drawn old new r long v =
        let fits = rw text_is at text_fits in
        drawn_whole (omega (arith, fits, long)) (rw text_is at v)
