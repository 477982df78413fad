-- The nodes that come next below a node in the term of a placing: the children of a labelled node, in the order of their commands, and the roots
-- hung under a hole, ascending. An edge of the placing leads to each, none is named twice, and a labelled node has as many as its symbol takes.
-- All this is of an accepted labelled sheet; what it takes of that is in `Fitting`.
use Prim.Native.Nat.{ℕ, zero, suc, ◌<◌}
use mathlib.Core.Path.{◌≡◌, refl, sym, ap, subst, ◌∙◌}
use mathlib.Core.List.{List, [], ◌∷◌, ◌++◌}
use mathlib.Core.Bool.{Bool, true, false, cond, true≢false}
use mathlib.Core.Logic.{inl, inr, ⊎_elim, ◌↔◌}
use native.Mathlib.Nat.{le_of_suc-le-suc}
use native.Mathlib.Omega.{arith}
use lib.Dec.{eqb}
use lib.ListN.{length, get_or}
use Rattle.base_finite.specs.Below.{spread, select, any}
use Rattle.base_finite.proofs.Laws.{by_bool, not_holding, or_none}
use Rattle.graph.specs.Graph.{Edge, Graph, among, entered, left, single, leaf, TreeEdge, bare, added_leaf, grown_tree, grown, WellWritten}
use Rattle.graph.specs.Placing.{hangs}
use Rattle.graph.specs.Constraint.{arity, labels, In}
use Rattle.format.specs.Sheet.{Labels, unlabelled, Content, accepted, says, children, labelled, symbol, twice, misfit, mislabelled, fitted, outcome_of}
use Rattle.format.specs.Labelled.{NormalSheet}
use Rattle.format.specs.declared.Form.TheVariants.{Labelled}
use Rattle.theory_edges.proofs.Edges.{among_cases, among_rest, entered_of_among, left_found, single_cons}
use Rattle.theory_edges.proofs.Growing.{leaf_from, leaf_grown, grown_well_formed}
use Rattle.theory_forest.specs.Shape.{Shaped}
use Rattle.theory_forest.proofs.Shape.{well_formed_shaped}
use Rattle.theory_forest.proofs.Weights.{top}
use Rattle.theory_format.proofs.Spelling.{accepted_spells}
use Rattle.theory_constraint.proofs.Members.{in_cases, in_one, in_if, in_spread, spread_found}
use Rattle.theory_constraint.proofs.Literals.{in_children, a_label, literal_in, is_labelled, is_child}
use Rattle.theory_constraint.proofs.Normality.{symbol_only, tests_failed, fits_normal}
use Rattle.theory_constraint.proofs.Sheets.{labels_form}

-- the nodes next below v
unfoldable pub successors : Content → List ℕ → ℕ → List ℕ
successors s p v = cond (labelled s.labels.symbols v) (children s.written.tree v) (select s.graph.nodes (hangs s.graph p v))

-- the top roots
unfoldable pub tops : Content → List ℕ → List ℕ
tops s p = select s.graph.nodes (top s.graph p)

-- lists without repeats

-- no entry stands in the list twice
abbrev pub Once : List ℕ → Type 0
Once [] = Unit {0}
Once (x ∷ xs) = (In x xs → ⊥) × Once xs

once_append : (xs ys : List ℕ) → Once xs → Once ys → ((x : ℕ) → In x xs → In x ys → ⊥) → Once (xs ++ ys)
once_append [] ys a b apart = b
once_append (x ∷ xs) ys a b apart = (
  λ i. ⊎_elim (λ (l : In x xs). a.0 l) (λ (r : In x ys). apart x (inl refl) r) (in_cases x xs ys i),
  once_append xs ys a.1 b (λ y l r. apart y (inr l) r),
)

once_if : (b : Bool) (x : ℕ) → Once (cond b (x ∷ []) [])
once_if true x = (λ n. n, tt)
once_if false x = tt

pub entry_in : (xs : List ℕ) (i : ℕ) → i < length xs → In (get_or xs i 0) xs
entry_in [] i h = absurd (omega arith)
entry_in (x ∷ xs) zero h = inl refl
entry_in (x ∷ xs) (suc i) h = inr (entry_in xs i (le_of_suc-le-suc h))

-- the numbers that have a test

pub in_select : (n : ℕ) (t : ℕ → Bool) (x : ℕ) → In x (select n t) ↔ ((x < n) × (t x ≡ true))
unfolding select
in_select n t x = (
  λ h.
      let r = spread_found x n (λ k. cond (t k) (k ∷ []) []) h in
      let b = in_if (t r.0) x (r.0 ∷ []) r.2 in
      let e : x ≡ r.0 = in_one x r.0 b.1 in
      (rw e r.1, rw e b.0),
  λ b. in_spread x n (λ k. cond (t k) (k ∷ []) []) x b.0 (rw b.1 (inl refl)),
)

pub select_once : (n : ℕ) (t : ℕ → Bool) → Once (select n t)
unfolding select spread
select_once zero t = tt
select_once (suc n) t =
    once_append (select n t) (cond (t n) (n ∷ []) []) (select_once n t) (once_if (t n) n)
    (λ x a b. omega (arith, ((in_select n t x).0 a).0, in_one x n (in_if (t n) x (n ∷ []) b).1))

-- no two children of a node are one where no two edges go to one node
pub children_once : (t : List Edge) → single t ≡ true → (v : ℕ) → Once (children t v)
unfolding children
children_once [] h v = tt
children_once (e ∷ t) h v =
    let b = single_cons e t h in
    once_append (children t v) (cond (eqb e.0 v) (e.1 ∷ []) []) (children_once t b.1 v) (once_if (eqb e.0 v) e.1)
    (λ x a i.
    let q : x ≡ e.1 = in_one x e.1 (in_if (eqb e.0 v) x (e.1 ∷ []) i).1 in
    true≢false (sym (entered_of_among t v x ((in_children t v x).0 a)) ∙ (rw (← q) at b.0)))

-- edges of the grown graph: those written, and those to added leaves

written_kept : (g : Graph) (k u v : ℕ) → TreeEdge g u v → among (grown_tree g k) u v ≡ true
unfolding grown_tree
written_kept g zero u v h = h
written_kept g (suc k) u v h =
    by_bool (bare g k)
    (λ (b : bare g k ≡ true). rw b (among_rest (k, added_leaf g k) (grown_tree g k) u v (written_kept g k u v h)))
    (λ (b : bare g k ≡ false). rw b (written_kept g k u v h))

kept_written : (g : Graph) (k u v : ℕ) → v < g.nodes → among (grown_tree g k) u v ≡ true → TreeEdge g u v
unfolding grown_tree
kept_written g zero u v l = λ h. h
kept_written g (suc k) u v l =
    by_bool (bare g k)
    (λ (b : bare g k ≡ true).
    rw b (λ h.
    ⊎_elim
    (λ (q : (k ≡ u) × (added_leaf g k ≡ v)). absurd (omega (arith, l, q.1, leaf_from g k)))
    (λ (r : among (grown_tree g k) u v ≡ true). kept_written g k u v l r)
    (among_cases (k, added_leaf g k) (grown_tree g k) u v h)))
    (λ (b : bare g k ≡ false). rw b (kept_written g k u v l))

-- symbols

-- What an accepted labelled sheet is: what it writes is well-formed and has a normal constraint, and no node is labelled twice; it means that, grown.
pub record Fitting (s : Content) : Type 0 where
  pub well_written : WellWritten s.written
  pub normal_sheet : NormalSheet s.written s.labels
  pub labelled_once : twice s.labels.symbols ≡ false
  pub grows : s.graph ≡ grown s.written

pub accepted_fitting : (bs : List ℕ) (s : Content) → outcome_of Labelled bs ≡ accepted s → Fitting s
unfolding mislabelled
accepted_fitting bs s e =
    let a = accepted_spells Labelled bs s e in
    let form : s.labels.form ≡ Labelled = ap (λ (m : Labels). m.form) a.labels_said ∙ labels_form (unlabelled Labelled) a.commands in
    let fits : fitted s.written s.labels ≡ accepted (says s.written s.labels) = a.fits ∙ ap accepted a.means in
    let passed = tests_failed s.written s.labels form fits in
    record {
      well_written = a.well_written;
      normal_sheet = fits_normal s.written s.labels form a.well_written a.named fits;
      labelled_once = (or_none (twice s.labels.symbols) (any s.written.nodes (misfit s.written s.labels.symbols)) passed.0).0;
      grows = ap (λ (x : Content). x.graph) a.means;
    }

module _ (s : Content) (f : Fitting s) where
  pub sheet_shaped : Shaped s.graph
  sheet_shaped = subst Shaped (sym f.grows) (well_formed_shaped (grown_well_formed s.written f.well_written))

  -- tree edges between written nodes are those written
  pub tree_kept : (u v : ℕ) → TreeEdge s.written u v → TreeEdge s.graph u v
  tree_kept u v h = subst (λ (g : Graph). TreeEdge g u v) (sym f.grows) (written_kept s.written s.written.nodes u v h)

  pub tree_written : (u v : ℕ) → v < s.written.nodes → TreeEdge s.graph u v → TreeEdge s.written u v
  tree_written u v l h = kept_written s.written s.written.nodes u v l (subst (λ (g : Graph). TreeEdge g u v) f.grows h)

  -- labelled nodes

  pub labelled_within : (v : ℕ) → labelled s.labels.symbols v ≡ true → v < s.written.nodes
  labelled_within v h =
      let r = left_found s.labels.symbols v h in
      (f.normal_sheet.proper (labels v r.0 (children s.written.tree v)) (literal_in s.written s.labels (a_label r.1))).0

  -- the symbol given is the node's
  pub symbol_given : (v x : ℕ) → among s.labels.symbols v x ≡ true → symbol s.labels.symbols v ≡ x
  symbol_given v x h = symbol_only s.labels.symbols v x f.labelled_once h

  -- as many children as the symbol takes
  pub children_fit : (v : ℕ) → labelled s.labels.symbols v ≡ true → length (children s.written.tree v) ≡ arity (symbol s.labels.symbols v)
  children_fit v h =
      let r = left_found s.labels.symbols v h in
      (f.normal_sheet.proper (labels v r.0 (children s.written.tree v)) (literal_in s.written s.labels (a_label r.1))).2
      ∙ ap arity (sym (symbol_given v r.0 r.1))

  -- a tree edge starts from a labelled node
  pub parent_labelled : (u v : ℕ) → TreeEdge s.written u v → labelled s.labels.symbols u ≡ true
  parent_labelled u v h = (is_labelled s.written s.labels u).0 (f.normal_sheet.from_labelled u v h)

  -- holes: unlabelled nodes

  -- a hole is a child
  pub hole_entered : (v : ℕ) → v < s.written.nodes → labelled s.labels.symbols v ≡ false → entered s.written.tree v ≡ true
  hole_entered v l h =
      let c = f.normal_sheet.normal.no_empty_fragment v l (λ k. true≢false (sym ((is_labelled s.written s.labels v).0 k) ∙ h)) in
      entered_of_among s.written.tree c.0 v ((is_child s.written s.labels c.0 v).0 c.1).1

  pub hole_not_bare : (v : ℕ) → v < s.written.nodes → labelled s.labels.symbols v ≡ false → bare s.written v ≡ false
  unfolding bare
  hole_not_bare v l h = rw (hole_entered v l h)

  pub hole_leaf : (v : ℕ) → v < s.written.nodes → labelled s.labels.symbols v ≡ false → leaf s.graph v ≡ true
  hole_leaf v l h =
      let free : left s.written.tree v ≡ false =
      not_holding (left s.written.tree v) (λ t. let r = left_found s.written.tree v t in true≢false (sym (parent_labelled v r.0 r.1) ∙ h)) in
      let grown_leaf : leaf (grown s.written) v ≡ true = leaf_grown s.written v l ∙ rw (free, hole_not_bare v l h) in
      subst (λ (g : Graph). leaf g v ≡ true) (sym f.grows) grown_leaf

  -- the nodes next below

  module _ (p : List ℕ) where
    pub labelled_successors : (v : ℕ) → labelled s.labels.symbols v ≡ true → successors s p v ≡ children s.written.tree v
    unfolding successors
    labelled_successors v h = rw h

    pub hole_successors : (v : ℕ) → labelled s.labels.symbols v ≡ false → successors s p v ≡ select s.graph.nodes (hangs s.graph p v)
    unfolding successors
    hole_successors v h = rw h

-- the top roots

pub in_tops : (s : Content) (p : List ℕ) (r : ℕ) → In r (tops s p) ↔ ((r < s.graph.nodes) × (top s.graph p r ≡ true))
unfolding tops
in_tops s p r = in_select s.graph.nodes (top s.graph p) r

pub tops_once : (s : Content) (p : List ℕ) → Once (tops s p)
unfolding tops
tops_once s p = select_once s.graph.nodes (top s.graph p)
