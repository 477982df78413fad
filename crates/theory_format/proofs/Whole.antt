-- The tests after the last command: a sheet whose commands were all taken passes them, up to those of its labels, exactly when what it
-- writes is well-formed, and what is then accepted is that, grown. `Taken` says what the tests within the commands have left:
-- it is what holds of n, the tree edges and the dominance edges at any point of the sheet.
use Prim.Native.Nat.{ℕ, ◌≤◌}
use mathlib.Core.Path.{◌≡◌, refl, sym, ◌∙◌}
use mathlib.Core.List.{List}
use mathlib.Core.Bool.{Bool, true, false, cond, not, ◌&&◌, true≢false}
use native.Mathlib.Omega.{arith}
use borrow.Author.Tests.{not-false, le-ltb, ltb-false}
use Rattle.base_finite.specs.Below.{any}
use Rattle.base_finite.proofs.Laws.{by_bool, and_both, any_none, any_false, not_holding}
use Rattle.graph.specs.Graph.{Edge, Graph, among, different, single, root, leaf, DominanceEdge, cyclic, grown, WellWritten}
use Rattle.format.specs.Sheet.{Labels, unlabelled, Content, Outcome, refused, accepted, says, content, overgrown, astray, mislabelled, overlapping, holed, fitted, whole, takes_labels}
use Rattle.format.specs.declared.Refusal.{Refusal}
use Rattle.format.specs.declared.Form.TheVariants.{Plain}
use Rattle.format.specs.declared.Refusal.TheVariants.{Tree, Ends, Overgrown, Label, Overlap, Hole}
use Rattle.theory_edges.specs.Edges.{Within}
use Rattle.theory_edges.proofs.Cyclic.{cycle_of_cyclic, cyclic_of_cycle}

pub record Taken (n : ℕ) (t d : List Edge) : Type 0 where
  pub some_nodes : 1 ≤ n
  pub few_nodes : n ≤ 128
  pub tree_within : Within n t
  pub one_parent : single t ≡ true
  pub dominance_within : Within n d
  pub few_edges : different d ≤ 255

pub not_refused : (x : Refusal) (s : Content) → refused x ≡ accepted s → ⊥
not_refused x s e = let z : ◌≡◌ {A = ℕ} 0 1 = cc in omega arith

pub accepted_same : (s t : Content) → accepted s ≡ accepted t → s ≡ t
accepted_same s t e = cc

-- a test that did not refuse failed
pub passed : (b : Bool) (x : Refusal) (o : Outcome) (s : Content) → cond b (refused x) o ≡ accepted s → (b ≡ false) × (o ≡ accepted s)
passed true x o s e = absurd (not_refused x s e)
passed false x o s e = (refl, e)

pub fitted_same : (g : Graph) (m : Labels) (s : Content) → fitted g m ≡ accepted s → s ≡ says g m
unfolding fitted
fitted_same g m s e =
    let a = passed (takes_labels m.form && mislabelled g m.symbols) Label _ s e in
    let b = passed (takes_labels m.form && overlapping g m) Overlap _ s a.1 in
    let c = passed (takes_labels m.form && holed g m.symbols) Hole (accepted (says g m)) s b.1 in
    sym (accepted_same (says g m) s c.1)

-- a plain sheet has nothing to fit
pub fitted_plain : (g : Graph) → fitted g (unlabelled Plain) ≡ accepted (content g)
unfolding fitted
fitted_plain g = refl

pub whole_passed : (g : Graph) (m : Labels) (s : Content) → whole g m ≡ accepted s → (cyclic g ≡ false) × (overgrown g ≡ false) × (astray (grown g) ≡ false) × (fitted g m ≡ accepted s)
unfolding whole
whole_passed g m s e =
    let a = passed (cyclic g) Tree (cond (overgrown g) (refused Overgrown) (cond (astray (grown g)) (refused Ends) (fitted g m))) s e in
    let b = passed (overgrown g) Overgrown (cond (astray (grown g)) (refused Ends) (fitted g m)) s a.1 in
    let c = passed (astray (grown g)) Ends (fitted g m) s b.1 in
    (a.0, b.0, c.0, c.1)

leaf_to_root_of : (g : Graph) → Within g.nodes g.dominance → astray g ≡ false → (l r : ℕ) → DominanceEdge g l r → (leaf g l ≡ true) × (root g r ≡ true)
unfolding astray
leaf_to_root_of g w e l r d =
    let n : ℕ = g.nodes in
    let b = w l r d in
    let row = any_false n (λ l. any n (λ r. among g.dominance l r && not (leaf g l && root g r))) e l b.0 in
    let cell = any_false n (λ r. among g.dominance l r && not (leaf g l && root g r)) row r b.1 in
    and_both (leaf g l) (root g r) (not-false (leaf g l && root g r) (rw d at cell))

not_astray : (g : Graph) → ((l r : ℕ) → DominanceEdge g l r → (leaf g l ≡ true) × (root g r ≡ true)) → astray g ≡ false
unfolding astray
not_astray g h =
    let n : ℕ = g.nodes in
    any_none n (λ l. any n (λ r. among g.dominance l r && not (leaf g l && root g r)))
    (λ l _. any_none n (λ r. among g.dominance l r && not (leaf g l && root g r))
    (λ r _. by_bool (among g.dominance l r) (λ d. let b = h l r d in rw (d, b.0, b.1)) (λ d. rw d)))

pub well_written_of_whole : (g : Graph) (m : Labels) (s : Content) → Taken g.nodes g.tree g.dominance → whole g m ≡ accepted s → WellWritten g
unfolding overgrown
well_written_of_whole g m s k e =
    let p = whole_passed g m s e in
    let within : Within (grown g).nodes g.dominance = λ l r h. let b = k.dominance_within l r h in (omega (arith, b.0), omega (arith, b.1)) in
    record {
      some_nodes = k.some_nodes;
      few_nodes = ltb-false 128 (grown g).nodes p.1;
      tree_within = k.tree_within;
      one_parent = k.one_parent;
      no_tree_cycle = λ v c. true≢false (sym (cyclic_of_cycle g k.tree_within k.one_parent v c) ∙ p.0);
      dominance_within = k.dominance_within;
      leaf_to_root = leaf_to_root_of (grown g) within p.2;
      few_edges = k.few_edges;
    }

pub whole_of_well_written : (g : Graph) (m : Labels) → WellWritten g → whole g m ≡ fitted g m
unfolding whole overgrown
whole_of_well_written g m w =
    let a : cyclic g ≡ false = not_holding (cyclic g) (λ h. let r = cycle_of_cyclic g w.tree_within h in w.no_tree_cycle r.0 r.1) in
    rw (a, le-ltb 128 (grown g).nodes w.few_nodes, not_astray (grown g) w.leaf_to_root)
