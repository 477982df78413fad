-- The term of a reading of a labelled sheet is a solution of the sheet's constraint (document 000, Section 3.2 and Lemma 3.6), where each node is
-- assigned its position: it is a constructor tree; a labelled node has its symbol and its children there, in order; dominance edges lead down, as
-- what lies below a node in a solved form stands below it in the term; and different nodes stand at different positions.
use Prim.Native.Nat.{ℕ, zero, suc, ◌+◌, ◌≤◌, ◌<◌}
use mathlib.Core.Path.{◌≡◌, refl, sym, ap, ap₂, subst, ◌∙◌}
use mathlib.Core.List.{List, [], ◌∷◌, ◌++◌, map}
use mathlib.Core.Bool.{true, false}
use mathlib.Core.Logic.{inl, inr}
use native.Mathlib.Omega.{arith}
use lib.ListN.{length, get_or, length-map}
use Rattle.base_finite.specs.Below.{select}
use Rattle.base_finite.proofs.Laws.{by_bool}
use Rattle.graph.specs.Graph.{Graph, among, one, DominanceEdge, TreeEdge}
use Rattle.graph.specs.Placing.{hangs, Reading}
use Rattle.graph.specs.Order.{entry, Listing}
use Rattle.graph.specs.Constraint.{arity, Literal}
use Rattle.graph.specs.Term.{Term, Terms, node, nil, cons, size, Nth, first, later, At, here, below, children_of, ConstructorTree, Labeling, Satisfied, Solution}
use Rattle.format.specs.Sheet.{Content, accepted, children, labelled, outcome_of}
use Rattle.format.specs.Labelled.{constraint}
use Rattle.format.specs.Term.{each, nested, carrying, topmost, term_at, term}
use Rattle.format.specs.declared.Form.TheVariants.{Labelled}
use Rattle.theory_edges.proofs.Edges.{left_of_among}
use Rattle.theory_forest.proofs.Weights.{weight_some}
use Rattle.theory_constraint.proofs.Literals.{in_children, LiteralOf, a_label, a_dominance, an_inequality, literal_of}
use Rattle.theory_term.specs.Solves.{Solves}
use Rattle.theory_term.proofs.Successors.{tops, entry_in, children_once, Fitting, accepted_fitting, sheet_shaped, tree_kept, labelled_within, symbol_given, children_fit}
use Rattle.theory_term.proofs.Ways.{way_to_child, index_entry}
use Rattle.theory_term.proofs.Positions.{position, grown_within, position_edge, standing, position_apart, position_below}

-- constructor trees

-- each node has as many terms below it as its symbol takes
abbrev mutual
  Fits : Term → Type 0
  Fits (node f ts) = (size ts ≡ arity f) × FitAll ts

  FitAll : Terms → Type 0
  FitAll nil = Unit {0}
  FitAll (cons t ts) = Fits t × FitAll ts

nth_fits : {ts : Terms} {i : ℕ} {t : Term} → Nth ts i t → FitAll ts → Fits t
nth_fits first h = h.0
nth_fits (later n) h = nth_fits n h.1

at_fits : {t x : Term} {u : List ℕ} → At t u x → Fits t → Fits x
at_fits here h = h
at_fits (below n a) h = at_fits a (nth_fits n h.1)

fits_tree : (t : Term) → Fits t → ConstructorTree t
fits_tree t h u f ts a = (at_fits a h).0

module _ (h : ℕ → Term) (each_Fits : (v : ℕ) → Fits (h v)) where
  size_each : (xs : List ℕ) → size (each h xs) ≡ length xs
  unfolding each size
  size_each [] = refl
  size_each (x ∷ xs) = ap suc (size_each xs)

  fit_each : (xs : List ℕ) → FitAll (each h xs)
  unfolding each
  fit_each [] = tt
  fit_each (x ∷ xs) = (each_Fits x, fit_each xs)

  fits_nested : (r : ℕ) (rs : List ℕ) → Fits (nested h r rs)
  unfolding nested size arity
  fits_nested r [] = each_Fits r
  fits_nested r (x ∷ rs) = (refl, (each_Fits r, (fits_nested x rs, tt)))

  fits_carrying : (rs : List ℕ) → Fits (carrying h rs)
  unfolding carrying size arity
  fits_carrying [] = (refl, tt)
  fits_carrying (r ∷ []) = (refl, (each_Fits r, ((refl, tt), tt)))
  fits_carrying (r ∷ x ∷ rs) = fits_nested r (x ∷ rs)

  fits_topmost : (rs : List ℕ) → Fits (topmost h rs)
  unfolding topmost size arity
  fits_topmost [] = (refl, tt)
  fits_topmost (r ∷ rs) = fits_nested r rs

-- the children of a labelled node in the term, in order
map_children : (α : ℕ → List ℕ) (u : List ℕ) (h : ℕ → Term) (ys : List ℕ) (i : ℕ)
    → ((j m : ℕ) → j < length ys → m ≡ i + j → α (get_or ys j 0) ≡ u ++ m ∷ [])
    → map α ys ≡ children_of u i (each h ys)
unfolding each children_of
map_children α u h [] i e = refl
map_children α u h (y ∷ ys) i e =
    ap₂ (λ (a : List ℕ) (b : List (List ℕ)). a ∷ b) (e 0 i (omega arith) (omega arith))
    (map_children α u h ys (suc i) (λ j m l q. e (suc j) m (omega arith) (omega arith)))

module _ (s : Content) (f : Fitting s) (p : List ℕ) where
  fits_term_at : (k v : ℕ) → Fits (term_at k s p v)
  unfolding term_at size arity
  fits_term_at zero v = (refl, tt)
  fits_term_at (suc k) v =
      by_bool (labelled s.labels.symbols v)
      (λ (h : labelled s.labels.symbols v ≡ true).
      let ys : List ℕ = children s.written.tree v in
      rw h (size_each (λ c. term_at k s p c) (fits_term_at k) ys ∙ children_fit s f v h, fit_each (λ c. term_at k s p c) (fits_term_at k) ys))
      (λ (h : labelled s.labels.symbols v ≡ false).
      rw h (fits_carrying (λ c. term_at k s p c) (fits_term_at k) (select s.graph.nodes (hangs s.graph p v))))

  pub term_constructor_tree : ConstructorTree (term s p)
  unfolding term tops
  term_constructor_tree = fits_tree (term s p) (fits_topmost (λ r. term_at s.graph.nodes s p r) (fits_term_at s.graph.nodes) (tops s p))

  -- the term of a labelled node
  labelled_term : (k x c : ℕ) → among s.labels.symbols x c ≡ true → term_at (suc k) s p x ≡ node c (each (λ y. term_at k s p y) (children s.written.tree x))
  unfolding term_at
  labelled_term k x c h = rw (left_of_among s.labels.symbols x c h, symbol_given s f x c h)

  module _ (r : Reading s.graph p) where
    abbrev α : ℕ → List ℕ
    α = position s p

    child_position : (x j : ℕ) → labelled s.labels.symbols x ≡ true → j < length (children s.written.tree x) → α (get_or (children s.written.tree x) j 0) ≡ α x ++ j ∷ []
    child_position x j h l =
        let ys : List ℕ = children s.written.tree x in
        let y : ℕ = get_or ys j 0 in
        let e : TreeEdge s.written x y = (in_children s.written.tree x y).0 (entry_in ys j l) in
        position_edge s f p r x y (f.well_written.tree_within x y e).1 (inl (tree_kept s f x y e))
        ∙ ap (λ (w : List ℕ). α x ++ w) (way_to_child s p x y h ∙ ap (λ (i : ℕ). i ∷ []) (index_entry ys (children_once s.written.tree f.well_written.one_parent x) j l))

    labeling : (x c k : ℕ) → among s.labels.symbols x c ≡ true → 1 ≤ k → At (term s p) (α x) (term_at k s p x) → Labeling (term s p) (α x) c (map α (children s.written.tree x))
    labeling x c zero h some a = absurd (omega arith)
    labeling x c (suc k) h some a =
        let ys : List ℕ = children s.written.tree x in
        let l : labelled s.labels.symbols x ≡ true = left_of_among s.labels.symbols x c h in (
          each (λ y. term_at k s p y) ys,
          subst (At (term s p) (α x)) (labelled_term k x c h) a,
          map_children α (α x) (λ y. term_at k s p y) ys 0 (λ j m b q. let e : m ≡ j = omega arith in rw e (child_position x j l b)),
          length-map ys α ∙ children_fit s f x l ∙ ap arity (symbol_given s f x c h),
        )

    literal_satisfied : {x : Literal} → LiteralOf s.written s.labels x → Satisfied (term s p) α x
    literal_satisfied (a_label {x = x} {f = c} h) =
        let l : x < s.written.nodes = labelled_within s f x (left_of_among s.labels.symbols x c h) in
        let t = standing s f p r x l in
        labeling x c t.deep h (omega (arith, t.enough, weight_some s.graph p (sheet_shaped s f) r.solved.is_forest x (grown_within s f p r x l))) t.subtree
    literal_satisfied (a_dominance {x = x} {y = y} h) =
        position_below s f p r
        (r.solved.contains x y (one (inr (subst (λ (g : Graph). DominanceEdge g x y) (sym f.grows) h))))
        (f.well_written.dominance_within x y h).1
    literal_satisfied (an_inequality {x = x} {y = y} h d) = λ e. d.apart (position_apart s f p r x y d.first_node d.second_node e)

    positions_solve : Solution (constraint s.written s.labels) (term s p) α
    positions_solve =
        record {
          constructor_tree = term_constructor_tree;
          assigned = λ x l. let t = standing s f p r x l in (term_at t.deep s p x, t.subtree);
          satisfied = λ x h. literal_satisfied (literal_of s.written s.labels x h);
        }

-- 02, Five: the term of a reading of a labelled sheet is a solution of its constraint
pub term_solution : (bs : List ℕ) → Solves bs
term_solution bs s e p r = (position s p, positions_solve s (accepted_fitting bs s e) p r)

-- so is that of each entry of the list of readings
pub listed_solution : (bs : List ℕ) (s : Content) → outcome_of Labelled bs ≡ accepted s → (ps : List (List ℕ)) → Listing s.graph ps → (i : ℕ) → i < length ps
    → (α : ℕ → List ℕ) × Solution (constraint s.written s.labels) (term s (entry ps i)) α
listed_solution bs s e ps x i h = term_solution bs s e (entry ps i) (x.only_readings i h)
