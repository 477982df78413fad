-- Labelled sheets and constraints: bytes are accepted exactly when they spell a normal constraint with acyclic fragments within the limits
-- (02, Three), and the plain sheet that is handed back spells the graph of that constraint. What is accepted has each dominance edge once,
-- and what is spelt as often as it is written; the tests of labels are the same of both.
use Prim.Native.Nat.{ℕ, ◌≤◌}
use mathlib.Core.Path.{◌≡◌, refl, sym, ap, subst, ◌∙◌}
use mathlib.Core.List.{List, [], ◌∷◌}
use mathlib.Core.Bool.{true, cond}
use mathlib.Core.Logic.{◌↔◌}
use lib.ListN.{length}
use Rattle.base_finite.specs.Below.{any}
use Rattle.base_finite.proofs.Laws.{any_ext, and_false}
use Rattle.graph.specs.Graph.{Edge, Graph, left, bare, Agree}
use Rattle.graph.specs.Constraint.{graph_of}
use Rattle.format.specs.Sheet.{Labels, unlabelled, labelling, differing, Content, accepted, says, content, labelled, mislabelled, overlapping, holed, fitted, longest, outcome_of, outcome, SheetCommand, tree_edge, dominance_edge, label, differ, labels_of, in_form, sheet, spells, tidy}
use Rattle.format.specs.Labelled.{constraint, NormalSheet, LabelledSheet}
use Rattle.format.specs.declared.Form.TheVariants.{Labelled}
use Rattle.theory_edges.proofs.Edges.{left_ext}
use Rattle.theory_edges.proofs.Agreement.{agree_sym, agree_trans}
use Rattle.theory_format.proofs.Spelling.{Named, Accepts, accepted_spells, spells_nodes, spells_fitted}
use Rattle.theory_format.proofs.Tidy.{tidy_accepted}
use Rattle.theory_constraint.proofs.Normality.{tests_failed, fits_normal}
use Rattle.theory_constraint.proofs.Fitting.{graph_agrees, normal_fits}

-- graphs with the same edges, tree edges in the same order, pass the same tests of labels
module _ (g h : Graph) (m : Labels) (k : Agree g h) (trees : g.tree ≡ h.tree) where
  holed_agree : holed g m.symbols ≡ holed h m.symbols
  unfolding holed bare
  holed_agree =
      let ls : List Edge = m.symbols in
      any_ext g.nodes (λ v. cond (labelled ls v) (left g.dominance v) (bare g v)) (λ v. cond (labelled ls v) (left h.dominance v) (bare h v))
      (λ v _. rw (left_ext g.dominance h.dominance k.same_dominance v, trees))
      ∙ ap (λ (n : ℕ). any n (λ v. cond (labelled ls v) (left h.dominance v) (bare h v))) k.same_nodes

  mislabelled_agree : mislabelled g m.symbols ≡ mislabelled h m.symbols
  unfolding mislabelled
  mislabelled_agree = rw (k.same_nodes, trees)

  overlapping_agree : overlapping g m ≡ overlapping h m
  unfolding overlapping
  overlapping_agree = rw k.same_nodes

  fits_agree : m.form ≡ Labelled → fitted g m ≡ accepted (says g m) → fitted h m ≡ accepted (says h m)
  unfolding fitted
  fits_agree form e =
      let b = tests_failed g m form e in
      rw (sym mislabelled_agree ∙ b.0, sym overlapping_agree ∙ b.1, sym holed_agree ∙ b.2, and_false)

pub labels_form : (m : Labels) (cs : List SheetCommand) → (labels_of m cs).form ≡ m.form
unfolding labels_of
labels_form m [] = refl
labels_form m (tree_edge p c ∷ cs) = labels_form m cs
labels_form m (dominance_edge l r ∷ cs) = labels_form m cs
labels_form m (label p x ∷ cs) = labels_form (labelling m p x) cs
labels_form m (differ ∷ cs) = labels_form (differing m) cs

-- in a labelled sheet every command is in place
all_in_form : (cs : List SheetCommand) → in_form Labelled cs ≡ true
unfolding in_form
all_in_form [] = refl
all_in_form (tree_edge p c ∷ cs) = all_in_form cs
all_in_form (dominance_edge l r ∷ cs) = all_in_form cs
all_in_form (label p x ∷ cs) = all_in_form cs
all_in_form (differ ∷ cs) = all_in_form cs

abbrev said : List SheetCommand → Labels
said cs = labels_of (unlabelled Labelled) cs

module _ (bs : List ℕ) (s : Content) (e : outcome_of Labelled bs ≡ accepted s) where
  abbrev spelt_so : Accepts Labelled bs s
  spelt_so = accepted_spells Labelled bs s e

  abbrev spelt_graph : Graph
  spelt_graph = spells s.written.nodes spelt_so.commands

  -- the constraint that the sheet spells is normal
  spelt_normal : NormalSheet spelt_graph (said spelt_so.commands)
  spelt_normal =
      let a = spelt_so in
      let m : Labels = said a.commands in
      let form : m.form ≡ Labelled = labels_form (unlabelled Labelled) a.commands in
      let fits : fitted s.written m ≡ accepted (says s.written m) =
      subst (λ (l : Labels). fitted s.written l ≡ accepted (says s.written l)) a.labels_said (a.fits ∙ ap accepted a.means) in
      let below : Named spelt_graph.nodes m = subst (λ (n : ℕ). Named n m) a.agrees.same_nodes (subst (Named s.written.nodes) a.labels_said a.named) in
      fits_normal spelt_graph m form a.spelt_well_written below (fits_agree s.written spelt_graph m a.agrees a.same_tree form fits)

-- accepted exactly when the bytes spell a normal constraint
pub labelled_exactly : (bs : List ℕ) → ((s : Content) × (outcome_of Labelled bs ≡ accepted s)) ↔ LabelledSheet bs
labelled_exactly bs = (
  λ (a : (s : Content) × (outcome_of Labelled bs ≡ accepted s)).
      let r = accepted_spells Labelled bs a.0 a.1 in
      (a.0.written.nodes, r.commands, r.bytes, spelt_normal bs a.0 a.1, r.short),
  λ (v : LabelledSheet bs).
      let n : ℕ = v.0 in
      let cs : List SheetCommand = v.1 in
      let m : Labels = said cs in
      let f = normal_fits (spells n cs) m v.3 in
      let same : (spells n cs).nodes ≡ n = spells_nodes n cs in
      let r = spells_fitted Labelled n cs (all_in_form cs) (subst (λ (k : ℕ). Named k m) same f.1) f.0 (subst (λ (l : List ℕ). length l ≤ longest) v.2 v.4) in
      let form : m.form ≡ Labelled = labels_form (unlabelled Labelled) cs in
      (says r.0 m, ap (outcome_of Labelled) v.2 ∙ r.1 ∙ fits_agree (spells n cs) r.0 m (agree_sym r.0 (spells n cs) r.2) (sym r.3) form f.2),
)

-- "An accepted sheet yields the dominance graph of Section 4.2 .. It is handed back as a tidy plain sheet": a plain sheet with exactly its
-- nodes and edges
pub handed_back : (bs : List ℕ) (s : Content) → outcome_of Labelled bs ≡ accepted s
    → (n : ℕ) × (cs : List SheetCommand) × (bs ≡ sheet n cs) × (h : Graph) × (outcome (tidy s.written) ≡ accepted (content h)) × Agree (graph_of (constraint (spells n cs) (labels_of (unlabelled Labelled) cs))) h
handed_back bs s e =
    let a = accepted_spells Labelled bs s e in
    let n : ℕ = s.written.nodes in
    let cs : List SheetCommand = a.commands in
    let g : Graph = graph_of (constraint (spells n cs) (said cs)) in
    let t = tidy_accepted s.written a.well_written in
    let k : Agree g (spells n cs) = graph_agrees (spells n cs) (said cs) (spelt_normal bs s e) in
    (n, cs, a.bytes, t.0, t.1, agree_trans g (spells n cs) t.0 k (agree_trans (spells n cs) s.written t.0 (agree_sym s.written (spells n cs) a.agrees) t.2))
