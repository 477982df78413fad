-- The tidy sheet. It spells the commands of the graph's edges in tidy order, each once, so it is accepted, with the same nodes
-- and edges; graphs that agree have one tidy sheet, and graphs with one tidy sheet agree. So the tidy sheet of the tidy
-- sheet is itself.
use Prim.Native.Nat.{ℕ, zero, suc, ◌+◌, ◌*◌, ◌≤◌, ◌<◌}
use mathlib.Core.Path.{◌≡◌, refl, sym, ap, subst, ◌∙◌}
use mathlib.Core.List.{List, [], ◌∷◌, ◌++◌, map, reverse, reverse_aux, append_assoc}
use mathlib.Core.Bool.{Bool, true, false, cond, true≢false}
use mathlib.Core.Logic.{◌↔◌}
use native.Mathlib.Omega.{arith}
use lib.Dec.{ltb}
use lib.ListN.{length, length-append}
use borrow.Author.Tests.{ltb-true, ltb-false}
use Rattle.base_finite.specs.Below.{count, spread}
use Rattle.base_finite.proofs.Laws.{by_bool, spread_ext, count_le, count_none, count_one_more, not_holding, test_ext}
use Rattle.base_finite.proofs.Counting.{count_grows}
use Rattle.graph.specs.Graph.{Edge, Graph, among, different, entered, single, root, parent, own, added_leaf, grown, WellWritten, Agree}
use Rattle.format.specs.Sheet.{Content, accepted, content, longest, outcome_of, outcome, SheetCommand, tree_edge, dominance_edge, label, differ, spelt, written, in_form, sheet, spells, tidy_tree, tidy_dominance, tidy}
use Rattle.format.specs.declared.Form.{Form}
use Rattle.format.specs.declared.Form.TheVariants.{Plain}
use Rattle.theory_edges.specs.Edges.{Within, distinct, sum}
use Rattle.theory_edges.proofs.Edges.{among_unentered, parent_among, parent_only, one_parent, sum_ext, different_same, different_short, distinct_different}
use Rattle.theory_format.proofs.Whole.{accepted_same}
use Rattle.theory_format.proofs.Spelling.{accepted_spells, spells_accepted}
use Rattle.theory_edges.proofs.Ends.{root_below}
use Rattle.theory_edges.proofs.Tables.{among_reverse, distinct_reverse, single_of_distinct, cell, row, table, among_table, table_among, distinct_table, length_table}
use Rattle.theory_edges.proofs.Agreement.{agree_sym, agree_trans}
use Rattle.theory_edges.proofs.Growing.{entered_old, entered_new, few_written, grown_well_formed, well_written_agree}
use Rattle.theory_forest.proofs.Shape.{well_formed_shaped}
use Rattle.theory_forest.proofs.Fragments.{root_unentered, own_root}

-- the edges in tidy order

unfoldable pub tree_edges : Graph → List Edge
tree_edges g = table g.nodes (λ c p. among g.tree p c) (λ c p. (p, c))

unfoldable pub dominance_edges : Graph → List Edge
dominance_edges g = table g.nodes (among g.dominance) (λ l r. (l, r))

pub tree_edges_among : (g : Graph) → Within g.nodes g.tree → (p c : ℕ) → among (tree_edges g) p c ≡ among g.tree p c
unfolding tree_edges
tree_edges_among g w p c =
    let n : ℕ = g.nodes in
    let t : List Edge = g.tree in
    test_ext (among (table n (λ c p. among t p c) (λ c p. (p, c))) p c) (among t p c)
    (λ h.
    let r = among_table n (λ c p. among t p c) (λ c p. (p, c)) p c h in
    rw (r.5, r.6) at r.4)
    (λ h.
    let b = w p c h in
    table_among n (λ c p. among t p c) (λ c p. (p, c)) c p b.1 b.0 h)

pub dominance_edges_among : (g : Graph) → Within g.nodes g.dominance → (l r : ℕ) → among (dominance_edges g) l r ≡ among g.dominance l r
unfolding dominance_edges
dominance_edges_among g w l r =
    let n : ℕ = g.nodes in
    let d : List Edge = g.dominance in
    test_ext (among (table n (among d) (λ l r. (l, r))) l r) (among d l r)
    (λ h.
    let s = among_table n (among d) (λ l r. (l, r)) l r h in
    rw (s.5, s.6) at s.4)
    (λ h.
    let b = w l r h in
    table_among n (among d) (λ l r. (l, r)) l r b.0 b.1 h)

tree_edges_distinct : (g : Graph) → distinct (tree_edges g) ≡ true
unfolding tree_edges
tree_edges_distinct g = distinct_table g.nodes (λ c p. among g.tree p c) (λ c p. (p, c)) (λ a b c d e f. (f, e))

dominance_edges_distinct : (g : Graph) → distinct (dominance_edges g) ≡ true
unfolding dominance_edges
dominance_edges_distinct g = distinct_table g.nodes (among g.dominance) (λ l r. (l, r)) (λ a b c d e f. (e, f))

-- the bytes

-- the edges' bytes, each edge after a byte b
unfoldable pub triples : ℕ → List Edge → List ℕ
triples b [] = []
triples b (e ∷ es) = b ∷ e.0 ∷ e.1 ∷ triples b es

triples_append : (b : ℕ) (es fs : List Edge) → triples b (es ++ fs) ≡ triples b es ++ triples b fs
unfolding triples
triples_append b [] fs = refl
triples_append b (e ∷ es) fs = rw (triples_append b es fs)

triples_spread : (b n : ℕ) (f : ℕ → List Edge) → triples b (spread n f) ≡ spread n (λ k. triples b (f k))
unfolding triples spread
triples_spread b zero f = refl
triples_spread b (suc n) f = rw (triples_append, triples_spread b n f)

triples_cell : (b : ℕ) (t : Bool) (e : Edge) → triples b (cell t e) ≡ cond t (b ∷ e.0 ∷ e.1 ∷ []) []
unfolding triples cell
triples_cell b true e = refl
triples_cell b false e = refl

triples_table : (b n : ℕ) (p : ℕ → ℕ → Bool) (f : ℕ → ℕ → Edge) → triples b (table n p f) ≡ spread n (λ i. spread n (λ j. cond (p i j) (b ∷ (f i j).0 ∷ (f i j).1 ∷ []) []))
unfolding table row
triples_table b n p f =
    triples_spread b n (λ i. row n (p i) (f i))
    ∙ spread_ext n (λ i. triples b (row n (p i) (f i))) (λ i. spread n (λ j. cond (p i j) (b ∷ (f i j).0 ∷ (f i j).1 ∷ []) []))
    (λ i _. triples_spread b n (λ j. cell (p i j) (f i j))
    ∙ spread_ext n (λ j. triples b (cell (p i j) (f i j))) (λ j. cond (p i j) (b ∷ (f i j).0 ∷ (f i j).1 ∷ []) []) (λ j _. triples_cell b (p i j) (f i j)))

length_triples : (b : ℕ) (es : List Edge) → length (triples b es) ≡ 3 * length es
unfolding triples
length_triples b [] = refl
length_triples b (e ∷ es) = omega (arith, length_triples b es)

tidy_tree_lem : (g : Graph) → tidy_tree g ≡ triples 2 (tree_edges g)
unfolding tidy_tree tree_edges
tidy_tree_lem g = sym (triples_table 2 g.nodes (λ c p. among g.tree p c) (λ c p. (p, c)))

tidy_dominance_lem : (g : Graph) → tidy_dominance g ≡ triples 3 (dominance_edges g)
unfolding tidy_dominance dominance_edges
tidy_dominance_lem g = sym (triples_table 3 g.nodes (among g.dominance) (λ l r. (l, r)))

-- the commands

abbrev to_tree : Edge → SheetCommand
to_tree e = tree_edge e.0 e.1

abbrev to_dominance : Edge → SheetCommand
to_dominance e = dominance_edge e.0 e.1

unfoldable pub tidy_commands : Graph → List SheetCommand
tidy_commands g = map to_tree (tree_edges g) ++ map to_dominance (dominance_edges g)

spelt_trees : (es : List Edge) (cs : List SheetCommand) → spelt (map to_tree es ++ cs) ≡ triples 2 es ++ spelt cs
unfolding spelt triples
spelt_trees [] cs = refl
spelt_trees (e ∷ es) cs = rw (spelt_trees es cs)

spelt_dominances : (es : List Edge) → spelt (map to_dominance es) ≡ triples 3 es ++ (0 ∷ [])
unfolding spelt triples
spelt_dominances [] = refl
spelt_dominances (e ∷ es) = rw (spelt_dominances es)

-- edges are in place in either form
edges_in_form : (f : Form) (es ds : List Edge) → in_form f (map to_tree es ++ map to_dominance ds) ≡ true
unfolding in_form
edges_in_form f [] [] = refl
edges_in_form f [] (d ∷ ds) = edges_in_form f [] ds
edges_in_form f (e ∷ es) ds = edges_in_form f es ds

tidy_in_form : (f : Form) (g : Graph) → in_form f (tidy_commands g) ≡ true
unfolding tidy_commands
tidy_in_form f g = edges_in_form f (tree_edges g) (dominance_edges g)

pub tidy_spells : (g : Graph) → tidy g ≡ sheet g.nodes (tidy_commands g)
unfolding tidy sheet tidy_commands
tidy_spells g =
    let joined : triples 2 (tree_edges g) ++ triples 3 (dominance_edges g) ++ (0 ∷ []) ≡ triples 2 (tree_edges g) ++ (triples 3 (dominance_edges g) ++ (0 ∷ [])) = append_assoc (triples 2 (tree_edges g)) (triples 3 (dominance_edges g)) (0 ∷ []) in
    rw (tidy_tree_lem, tidy_dominance_lem, spelt_trees, spelt_dominances) (ap (λ (l : List ℕ). 1 ∷ g.nodes ∷ l) joined)

written_trees : (n : ℕ) (t d : List Edge) (es : List Edge) (cs : List SheetCommand) → written n t d (map to_tree es ++ cs) ≡ written n (reverse_aux es t) d cs
unfolding written
written_trees n t d [] cs = refl
written_trees n t d (e ∷ es) cs = written_trees n (e ∷ t) d es cs

written_dominances : (n : ℕ) (t d : List Edge) (es : List Edge) → written n t d (map to_dominance es) ≡ record { nodes = n; tree = t; dominance = reverse_aux es d }
unfolding written
written_dominances n t d [] = refl
written_dominances n t d (e ∷ es) = written_dominances n t (e ∷ d) es

-- the graph that the tidy sheet writes: its edges, the latest first
unfoldable pub tidied : Graph → Graph
tidied g = record { nodes = g.nodes; tree = reverse (tree_edges g); dominance = reverse (dominance_edges g) }

spells_tidied : (g : Graph) → spells g.nodes (tidy_commands g) ≡ tidied g
unfolding spells tidy_commands tidied
spells_tidied g =
    written_trees g.nodes [] [] (tree_edges g) (map to_dominance (dominance_edges g))
    ∙ written_dominances g.nodes (reverse (tree_edges g)) [] (dominance_edges g)

pub tidied_agrees : (g : Graph) → WellWritten g → Agree g (tidied g)
unfolding tidied
tidied_agrees g w =
    record {
      same_nodes = refl;
      same_tree = λ p c. sym (among_reverse (tree_edges g) p c ∙ tree_edges_among g w.tree_within p c);
      same_dominance = λ l r. sym (among_reverse (dominance_edges g) l r ∙ dominance_edges_among g w.dominance_within l r);
    }

dominance_edges_length : (g : Graph) → WellWritten g → length (dominance_edges g) ≡ different g.dominance
dominance_edges_length g w =
    let within : Within g.nodes g.dominance = w.dominance_within in
    sym (distinct_different (dominance_edges g) (dominance_edges_distinct g))
    ∙ sym (different_same g.nodes g.dominance (dominance_edges g) within (λ l r. sym (dominance_edges_among g within l r)))

pub tidied_well_written : (g : Graph) → WellWritten g → WellWritten (tidied g)
unfolding tidied
tidied_well_written g w =
    let k : Agree g (tidied g) = tidied_agrees g w in
    let once : distinct (reverse (tree_edges g)) ≡ true = distinct_reverse (tree_edges g) (tree_edges_distinct g) in
    well_written_agree g (tidied g) k w
    (single_of_distinct (reverse (tree_edges g)) once (λ p q c h i. one_parent g.tree p q c w.one_parent (k.same_tree p c ∙ h) (k.same_tree q c ∙ i)))

-- the length

column_count : (n : ℕ) (t : List Edge) (c : ℕ) → Within n t → single t ≡ true → count n (λ p. among t p c) ≡ cond (entered t c) 1 0
column_count n t c w s =
    by_bool (entered t c)
    (λ (e : entered t c ≡ true).
    let up : among t (parent t c) c ≡ true = parent_among t c e in
    let one : count n (λ p. among t p c) ≡ count n (λ _. false) + 1 = count_one_more n (λ _. false) (λ p. among t p c) (parent t c) (w (parent t c) c up).0 refl up (λ j apart. sym (not_holding (among t j c) (λ h. apart (parent_only t j c s h)))) in
    let others : count n (λ _. false) ≡ 0 = count_none n (λ _. false) (λ k _. refl) in
    rw e (omega arith))
    (λ (e : entered t c ≡ false). rw e (count_none n (λ p. among t p c) (λ p _. among_unentered t p c e)))

sum_count : (n : ℕ) (p : ℕ → Bool) → sum n (λ k. cond (p k) 1 0) ≡ count n p
unfolding sum count
sum_count zero p = refl
sum_count (suc n) p = rw (sum_count n p)

tree_edges_length : (g : Graph) → WellWritten g → length (tree_edges g) ≡ count g.nodes (entered g.tree)
unfolding tree_edges
tree_edges_length g w =
    let n : ℕ = g.nodes in
    let t : List Edge = g.tree in
    length_table n (λ c p. among t p c) (λ c p. (p, c))
    ∙ sum_ext n (λ c. count n (λ p. among t p c)) (λ c. cond (entered t c) 1 0) (λ c _. column_count n t c w.tree_within w.one_parent)
    ∙ sum_count n (entered t)

pub tidy_length : (g : Graph) → WellWritten g → length (tidy g) ≡ 3 + 3 * (count g.nodes (entered g.tree)) + 3 * different g.dominance
unfolding tidy
tidy_length g w =
    let trees : length (tidy_tree g) ≡ 3 * length (tree_edges g) = ap length (tidy_tree_lem g) ∙ length_triples 2 (tree_edges g) in
    let dominances : length (tidy_dominance g) ≡ 3 * length (dominance_edges g) = ap length (tidy_dominance_lem g) ∙ length_triples 3 (dominance_edges g) in
    omega (arith, length-append (tidy_tree g ++ tidy_dominance g) (0 ∷ []), length-append (tidy_tree g) (tidy_dominance g), tree_edges_length g w, dominance_edges_length g w)

-- some node has no parent: the root of node 0's fragment, which is no added leaf
few_parents : (g : Graph) → WellWritten g → count g.nodes (entered g.tree) < g.nodes
unfolding added_leaf
few_parents g w =
    let v = grown_well_formed g w in
    let top : ℕ = own (grown g) 0 in
    let is_root : root (grown g) top ≡ true = own_root (grown g) (well_formed_shaped v) 0 (omega (arith, v.some_nodes)) in
    let free : entered (grown g).tree top ≡ false = root_unentered (grown g) top is_root in
    let node : top < g.nodes =
    by_bool (ltb top g.nodes)
    (λ (l : ltb top g.nodes ≡ true). ltb-true top g.nodes l)
    (λ (l : ltb top g.nodes ≡ false). absurd (true≢false (sym (entered_new g g.nodes top (ltb-false top g.nodes l) (root_below (grown g) top is_root)) ∙ free))) in
    omega (arith, count_le g.nodes (λ _. true), count_grows g.nodes (entered g.tree) (λ _. true) top (λ k l h. refl) node (sym (entered_old g g.nodes top node) ∙ free) refl)

-- so many bytes have room for it: 127 tree edges and 255 dominance edges at most
pub tidy_room : (g : Graph) → WellWritten g → length (tidy g) ≤ 1149
tidy_room g w = omega (arith, tidy_length g w, few_parents g w, few_written g w, w.few_edges)

-- "tidying changes no node and no edge"
pub tidy_accepted : (g : Graph) → WellWritten g → (h : Graph) × (outcome (tidy g) ≡ accepted (content h)) × Agree g h
tidy_accepted g w =
    let n : ℕ = g.nodes in
    let cs : List SheetCommand = tidy_commands g in
    let same : spells n cs ≡ tidied g = spells_tidied g in
    let short : length (sheet n cs) ≤ longest = subst (λ (l : List ℕ). length l ≤ longest) (tidy_spells g) (omega (arith, tidy_room g w)) in
    let r = spells_accepted n cs (tidy_in_form Plain g) (subst WellWritten (sym same) (tidied_well_written g w)) short in
    (r.0, ap outcome (tidy_spells g) ∙ r.1, agree_trans g (tidied g) r.0 (tidied_agrees g w) (agree_sym r.0 (tidied g) (subst (Agree r.0) same r.2)))

-- 02, One: "tidying keeps the set of edges", of what the sheet and its tidy sheet write, however often
pub tidy_keeps : (bs : List ℕ) (s : Content) → outcome bs ≡ accepted s
    → (cs : List SheetCommand) × (ds : List SheetCommand) × (bs ≡ sheet s.written.nodes cs) × (tidy s.written ≡ sheet s.written.nodes ds) × Agree (spells s.written.nodes cs) (spells s.written.nodes ds)
tidy_keeps bs s e =
    let a = accepted_spells Plain bs s e in
    let g : Graph = s.written in
    let written_so : Graph = spells g.nodes a.commands in
    let same : spells g.nodes (tidy_commands g) ≡ tidied g = spells_tidied g in
    (a.commands, tidy_commands g, a.bytes, tidy_spells g, subst (Agree written_so) (sym same) (agree_trans written_so g (tidied g) (agree_sym g written_so a.agrees) (tidied_agrees g a.well_written)))

-- 02, One: "The tidy sheet has each edge once"
pub each_edge_once : (g : Graph)
    → (cs : List SheetCommand) × (tidy g ≡ sheet g.nodes cs) × (distinct (spells g.nodes cs).tree ≡ true) × (distinct (spells g.nodes cs).dominance ≡ true)
unfolding tidied
each_edge_once g =
    let same : spells g.nodes (tidy_commands g) ≡ tidied g = spells_tidied g in
    (tidy_commands g, tidy_spells g, rw same (distinct_reverse (tree_edges g) (tree_edges_distinct g)), rw same (distinct_reverse (dominance_edges g) (dominance_edges_distinct g)))

spread_same : (n m : ℕ) (p q : ℕ → ℕ → Bool) (f : ℕ → ℕ → List ℕ) → n ≡ m → ((i j : ℕ) → p i j ≡ q i j) → spread n (λ i. spread n (λ j. cond (p i j) (f i j) [])) ≡ spread m (λ i. spread m (λ j. cond (q i j) (f i j) []))
spread_same n m p q f e same =
    spread_ext n (λ i. spread n (λ j. cond (p i j) (f i j) [])) (λ i. spread n (λ j. cond (q i j) (f i j) []))
    (λ i _. spread_ext n (λ j. cond (p i j) (f i j) []) (λ j. cond (q i j) (f i j) []) (λ j _. rw (same i j)))
    ∙ ap (λ (k : ℕ). spread k (λ i. spread k (λ j. cond (q i j) (f i j) []))) e

pub tidy_same : (g h : Graph) → Agree g h → tidy g ≡ tidy h
unfolding tidy tidy_tree tidy_dominance
tidy_same g h k =
    let trees : tidy_tree g ≡ tidy_tree h = spread_same g.nodes h.nodes (λ c p. among g.tree p c) (λ c p. among h.tree p c) (λ c p. 2 ∷ p ∷ c ∷ []) k.same_nodes (λ c p. k.same_tree p c) in
    let dominances : tidy_dominance g ≡ tidy_dominance h = spread_same g.nodes h.nodes (among g.dominance) (among h.dominance) (λ l r. 3 ∷ l ∷ r ∷ []) k.same_nodes k.same_dominance in
    cc

-- a tidy sheet is no longer than a sheet that it comes from

-- three bytes for each edge that is written, and the end
spelt_room : (n : ℕ) (t d : List Edge) (cs : List SheetCommand)
    → 1 + 3 * (length (written n t d cs).tree + length (written n t d cs).dominance) ≤ length (spelt cs) + 3 * (length t + length d)
unfolding written spelt
spelt_room n t d [] = omega arith
spelt_room n t d (tree_edge p c ∷ cs) = omega (arith, spelt_room n ((p, c) ∷ t) d cs)
spelt_room n t d (dominance_edge l r ∷ cs) = omega (arith, spelt_room n t ((l, r) ∷ d) cs)
spelt_room n t d (label p x ∷ cs) = omega (arith, spelt_room n t d cs)
spelt_room n t d (differ ∷ cs) = omega (arith, spelt_room n t d cs)

tree_edges_few : (g : Graph) → WellWritten g → count g.nodes (entered g.tree) ≤ length g.tree
tree_edges_few g w =
    let same : different g.tree ≡ different (tree_edges g) = different_same g.nodes g.tree (tree_edges g) w.tree_within (λ p c. sym (tree_edges_among g w.tree_within p c)) in
    omega (arith, tree_edges_length g w, distinct_different (tree_edges g) (tree_edges_distinct g), same, different_short g.tree)

tidy_spelt : (n : ℕ) (cs : List SheetCommand) → WellWritten (spells n cs) → length (tidy (spells n cs)) ≤ length (sheet n cs)
unfolding spells sheet
tidy_spelt n cs w =
    let g : Graph = written n [] [] cs in
    omega (arith, tidy_length g w, tree_edges_few g w, different_short g.dominance, spelt_room n [] [] cs)

pub tidy_no_longer : (f : Form) (bs : List ℕ) (s : Content) → outcome_of f bs ≡ accepted s → length (tidy s.written) ≤ length bs
tidy_no_longer f bs s e =
    let a = accepted_spells f bs s e in
    let g : Graph = s.written in
    let n : ℕ = g.nodes in
    let cs : List SheetCommand = a.commands in
    let same : length (tidy g) ≡ length (tidy (spells n cs)) = ap length (tidy_same g (spells n cs) a.agrees) in
    let bytes : length bs ≡ length (sheet n cs) = ap length a.bytes in
    omega (arith, same, bytes, tidy_spelt n cs a.spelt_well_written)

-- the tidy sheet of what a sheet writes, accepted
tidy_again : (bs : List ℕ) (s : Content) → outcome bs ≡ accepted s → (h : Graph) × (outcome (tidy s.written) ≡ accepted (content h)) × Agree s.written h
tidy_again bs s e = tidy_accepted s.written (accepted_spells Plain bs s e).well_written

pub tidy_twice : (bs : List ℕ) (s t : Content) → outcome bs ≡ accepted s → outcome (tidy s.written) ≡ accepted t → tidy t.written ≡ tidy s.written
tidy_twice bs s t e f =
    let r = tidy_again bs s e in
    let same : t ≡ content r.0 = accepted_same t (content r.0) (sym f ∙ r.1) in
    ap (λ (x : Content). tidy x.written) same ∙ sym (tidy_same s.written r.0 r.2)

pub one_tidy_form : (bs cs : List ℕ) (s t : Content) → outcome bs ≡ accepted s → outcome cs ≡ accepted t → (tidy s.written ≡ tidy t.written) ↔ Agree s.written t.written
one_tidy_form bs cs s t e f =
    let g : Graph = s.written in
    let h : Graph = t.written in
    let r = tidy_again bs s e in
    let q = tidy_again cs t f in (
      λ x.
          let same : content r.0 ≡ content q.0 = accepted_same (content r.0) (content q.0) (sym r.1 ∙ ap outcome x ∙ q.1) in
          agree_trans g q.0 h (subst (λ (y : Content). Agree g y.written) same r.2) (agree_sym h q.0 q.2),
      tidy_same g h,
    )
