-- The guided descent, step by step: the half that the placing is in, the graph after a choice, and
-- the end.
use Prim.Native.Nat.{ℕ, ◌+◌, ◌-◌, ◌*◌, ◌≤◌, ◌<◌}
use mathlib.Core.Path.{◌≡◌, refl, sym, subst, ◌∙◌}
use mathlib.Core.List.{List}
use mathlib.Core.Bool.{Bool, true, false, true≢false}
use mathlib.Core.Logic.{⊎_elim, ◌↔◌}
use native.Mathlib.Omega.{arith}
use Rattle.base_nodeset.specs.declared.NodeSet.{NodeSet}
use Rattle.graph.specs.Graph.{Graph, own}
use Rattle.graph.specs.Order.{Choice, adding}
use Rattle.graph.specs.Placing.{Below, SolvedForm, Reading}
use Rattle.theory_forest.specs.Shape.{Shaped}
use Rattle.theory_forest.proofs.Shape.{adding_shaped}
use Rattle.theory_forest.proofs.Forests.{below_adding, solved_adding}
use Rattle.theory_forest.proofs.Fragments.{root_adding, leaf_adding}
use Rattle.theory_list.specs.Choosing.{Unforked, pairs}
use Rattle.theory_list.proofs.Choosing.{pairs_le, choice_splits, first_grows, second_grows}
use Rattle.theory_list.specs.Settled.{settled}
use Rattle.theory_list.proofs.Readings.{reading_least}
use Rattle.theory_list.specs.Redundancy.{Loopless}
use Rattle.theory_list.specs.Keeping.{Fresh}
use Rattle.theory_list.proofs.Keeping.{first_fresh, second_fresh}
use Rattle.theory_list.specs.Guided.{Leads, arrived, to_first, to_second}
use Rattle.theory_list.proofs.Guided.{solved_loopless, leads_solved, leads_within, leads_reading}
use Rattle.base_tables.specs.Rows.{in_row, Rows}
use Rattle.base_tables.specs.Trees.{Fits}
use Rattle.base_tables.specs.declared.trees.Trees.{Trees}
use Rattle.solve_closure.proofs.Laws.{rows_map}
use Rattle.solve_reduce.specs.Reduced.{Reduced}
use Rattle.check_placing.specs.Guide.{Into, HalfOf, Standing, Arrived}
use Rattle.check_placing.specs.declared.guide.Edge.{Edge}

-- the half that p is in

module _ (g : Graph) (p : List ℕ) {under : List NodeSet} (rows : Rows (Below g p) under) (a b over : ℕ) (is : over ≡ own g b) where
  pub second_half : Shaped g → {v : ℕ} → Choice g v a b → SolvedForm g p → in_row under a over ≡ false → (up : ℕ) → up ≡ own g a → Into g p b a b up
  second_half s c f t up e = (
    refl,
    e,
    ⊎_elim
        (λ (d : Below g p a (own g b)). absurd (true≢false (sym ((rows.row_is a over).1 (rw is d)) ∙ t)))
        (λ (d : Below g p b (own g a)). rw e d)
        (choice_splits g s c p f),
  )

-- one choice

-- the trees stay
fits_adding : {g : Graph} {t : Trees} (l r : ℕ) → Shaped (adding g l r) → Fits g t → Fits (adding g l r) t
unfolding adding own
fits_adding {g} l r s f =
    record {
      shaped = s;
      trees = record {
        nodes = f.trees.nodes;
        leaves_are = λ v. f.trees.leaves_are v ∙ sym (leaf_adding g l r v);
        roots_are = λ v. f.trees.roots_are v ∙ sym (root_adding g l r v);
      };
      owners_are = f.owners_are;
    }

module _ {g : Graph} {p : List ℕ} {t : Trees} {under : List NodeSet} {k : ℕ} {sets : List NodeSet} (st : Standing g p t under k sets) where
  onward : (l r : ℕ) {sets' : List NodeSet} → Fresh st.graph l r → Below st.graph p l r → pairs st.graph < pairs (adding st.graph l r)
      → ((q : List ℕ) → Leads (adding st.graph l r) p q → Leads st.graph p q)
      → ((h : Graph) → Fits h t → Loopless h → Fresh h l r → Reduced h t.n sets → Reduced (adding h l r) t.n sets')
      → Standing g p t under (k - 1) sets'
  onward l r new d grown way added =
      let h : Graph = st.graph in
      let s : Shaped h = st.given.shaped in
      let f : SolvedForm (adding h l r) p = (solved_adding h l r p).1 (st.solved, d) in
      let fits : Fits (adding h l r) t = fits_adding l r (adding_shaped h l r s new.from_leaf new.to_root) st.fits in
      record {
        graph = adding h l r;
        given = record {
          shaped = fits.shaped;
          loopless = solved_loopless f;
          nodes = fits.trees.nodes;
          reduced = added h st.fits st.given.loopless new st.given.reduced;
        };
        fits = fits;
        solved = f;
        under_is = rows_map (λ u v. let b = below_adding h l r p u v in (b.1, b.0)) st.under_is;
        leads = λ q y. st.leads q (way q y);
        enough = omega (arith, st.enough);
      }

  pub turned : (v a b : ℕ) (e : Edge) {sets' : List NodeSet} → Choice st.graph v a b → HalfOf st.graph p a b e
      → ((h : Graph) → Fits h t → Loopless h → Fresh h e.leaf e.root → Reduced h t.n sets → Reduced (adding h e.leaf e.root) t.n sets')
      → Standing g p t under (k - 1) sets'
  turned v a b e c half added =
      let h : Graph = st.graph in
      let s : Shaped h = st.given.shaped in
      let l : ℕ = e.leaf in
      let r : ℕ = e.root in
      ⊎_elim
      (λ (i : Into h p a b l r).
      let d : Below h p a (own h b) = subst (λ (y : ℕ). Below h p a y) i.1 (subst (λ (y : ℕ). Below h p y r) i.0 i.2) in
      onward l r
      (rw (i.0, i.1) (first_fresh h s c)) i.2 (rw (i.0, i.1) (first_grows h s st.given.loopless c))
      (λ q y. to_first v a b c d (subst (λ (m : ℕ). Leads (adding h a m) p q) i.1 (subst (λ (m : ℕ). Leads (adding h m r) p q) i.0 y))) added)
      (λ (i : Into h p b a l r).
      let d : Below h p b (own h a) = subst (λ (y : ℕ). Below h p b y) i.1 (subst (λ (y : ℕ). Below h p y r) i.0 i.2) in
      onward l r
      (rw (i.0, i.1) (second_fresh h s c)) i.2 (rw (i.0, i.1) (second_grows h s st.given.loopless c))
      (λ q y. to_second v a b c d (subst (λ (m : ℕ). Leads (adding h b m) p q) i.1 (subst (λ (m : ℕ). Leads (adding h m r) p q) i.0 y))) added)
      half

  pub ended : Unforked st.graph → Arrived g p t sets
  ended o =
      record {
        graph = st.graph;
        given = st.given;
        trees = st.fits.trees;
        leads = st.leads (settled st.graph) (arrived st.given.loopless o);
      }

  pub not_over : k ≤ 0 → ⊥
  not_over h =
      let most : pairs st.graph ≤ t.n * t.n = rw st.fits.trees.nodes (pairs_le st.graph) in
      omega (arith, st.enough)

-- the end

-- p is a reading where the way from p ends in it
leads_iff : {g : Graph} {p q : List ℕ} → Leads g p q → Shaped g → SolvedForm g p → (q ≡ p) ↔ Reading g p
leads_iff {g} {p} {q} x s f = (
  λ e. subst (Reading g) e (leads_reading x s),
  λ r. reading_least g s p q r (leads_solved x s) (leads_within x s f),
)

pub reads : {g : Graph} {p : List ℕ} {t : Trees} {sets : List NodeSet} (answer : Bool) (x : Arrived g p t sets)
    → ((answer ≡ true) ↔ (settled x.graph ≡ p)) → Shaped g → SolvedForm g p → (answer ≡ true) ↔ Reading g p
reads answer x e s f =
    let i = leads_iff x.leads s f in
    (λ t. i.0 (e.0 t), λ r. e.1 (i.1 r))

-- the start

pub started : {g : Graph} {p : List ℕ} {t : Trees} {under sets : List NodeSet} → Fits g t → Rows (Below g p) under → SolvedForm g p → Reduced g t.n sets
    → Standing g p t under (t.n * t.n + 1) sets
started {g} fits under f form =
    record {
      graph = g;
      given = record { shaped = fits.shaped; loopless = solved_loopless f; nodes = fits.trees.nodes; reduced = form };
      fits = fits;
      solved = f;
      under_is = under;
      leads = λ q y. y;
      enough = omega arith;
    }
