-- The written term of a solved form never exceeds 2,048 bytes (02, Five). The term of a node takes at most 16 bytes for each node that is at
-- it or below it, and leaves six of them free. By induction: the nodes whose terms stand in it lie below it, none below another and none twice,
-- so that together they weigh less than it does. The top roots weigh together no more than there are nodes.
use Prim.Native.Nat.{ℕ, zero, suc, ◌+◌, ◌*◌, ◌/◌, ◌^◌, ◌≤◌, ◌<◌}
use mathlib.Core.Path.{◌≡◌, refl, sym, subst}
use mathlib.Core.List.{List, [], ◌∷◌}
use mathlib.Core.Bool.{Bool, true, false, ◌&&◌, ◌||◌, false≢true}
use mathlib.Core.Logic.{inl, inr, ⊎_elim}
use native.Mathlib.Omega.{arith}
use lib.Dec.{ltb}
use lib.ListN.{length, get_or, length-append}
use borrow.Author.Tests.{lt-ltb}
use Rattle.base_finite.specs.Below.{count, select}
use Rattle.base_finite.proofs.Laws.{by_bool, and_intro, or_cases, any_at, count_none, count_le}
use Rattle.base_finite.proofs.Counting.{count_mono, count_or}
use Rattle.graph.specs.Graph.{Graph, TreeEdge, among, one}
use Rattle.graph.specs.Placing.{hangs, PlacingEdge, Below, Forest, SolvedForm}
use Rattle.graph.specs.Constraint.{In}
use Rattle.graph.specs.Term.{Term}
use Rattle.format.specs.Sheet.{Content, accepted, outcome_of, children, labelled, symbol}
use Rattle.format.specs.Text.{digits, decimal}
use Rattle.format.specs.Term.{both, filler, each, nested, carrying, topmost, term_at, term, text, arguments, others}
use Rattle.format.specs.declared.Form.TheVariants.{Labelled}
use Rattle.theory_forest.specs.Shape.{Shaped}
use Rattle.theory_forest.proofs.Weights.{covers, weight, covered, top, apart, covered_less, weight_some, siblings_level, top_highest}
use Rattle.theory_constraint.proofs.Literals.{in_children}
use Rattle.theory_term.proofs.Successors.{Once, in_select, select_once, children_once, Fitting, accepted_fitting, sheet_shaped, tree_kept, tops, in_tops, tops_once}
use Rattle.theory_term.proofs.ReadsBack.{tenth_less, symbol_small}

-- nodes of a list together

-- what the nodes weigh
unfoldable together : (ℕ → ℕ) → List ℕ → ℕ
together w [] = 0
together w (x ∷ xs) = w x + together w xs

-- v is at or below one of them
unfoldable covered_by : Graph → List ℕ → List ℕ → ℕ → Bool
covered_by g p [] v = false
covered_by g p (x ∷ xs) v = covers g p x v || covered_by g p xs v

covering : (g : Graph) (p xs : List ℕ) (v : ℕ) → covered_by g p xs v ≡ true → (x : ℕ) × In x xs × (covers g p x v ≡ true)
unfolding covered_by
covering g p [] v h = absurd (false≢true h)
covering g p (x ∷ xs) v h =
    ⊎_elim
    (λ (c : covers g p x v ≡ true). (x, inl refl, c))
    (λ (c : covered_by g p xs v ≡ true). let r = covering g p xs v c in (r.0, inr r.1, r.2))
    (or_cases (covers g p x v) (covered_by g p xs v) h)

-- Different nodes that have t, where no node with t lies below another.
module _ (g : Graph) (p : List ℕ) (shaped : Shaped g) (forest : Forest (PlacingEdge g p)) (t : ℕ → Bool)
    (level : (x y : ℕ) → t x ≡ true → t y ≡ true → Below g p x y → ⊥) where
  together_counted : (xs : List ℕ) → Once xs → ((x : ℕ) → In x xs → t x ≡ true) → together (weight g p) xs ≡ count g.nodes (covered_by g p xs)
  unfolding together covered_by weight
  together_counted [] d has = sym (count_none g.nodes (λ v. false) (λ v _. refl))
  together_counted (x ∷ xs) d has =
      let rest : together (weight g p) xs ≡ count g.nodes (covered_by g p xs) = together_counted xs d.1 (λ y i. has y (inr i)) in
      rw rest
      (sym (count_or g.nodes (covers g p x) (covered_by g p xs) (λ v a b.
      let y = covering g p xs v b in
      d.0 (subst (λ (z : ℕ). In z xs) (sym (apart g p shaped forest t level x y.0 v (has x (inl refl)) (has y.0 (inr y.1)) a y.2)) y.1))))

  module _ (xs : List ℕ) (d : Once xs) (has : (x : ℕ) → In x xs → (x < g.nodes) × (t x ≡ true)) where
    together_covered : together (weight g p) xs ≤ count g.nodes (covered g p t)
    unfolding covered
    together_covered =
        let inside = count_mono g.nodes (covered_by g p xs) (covered g p t) (λ v _ c.
        let y = covering g p xs v c in
        let b = has y.0 y.1 in
        any_at g.nodes (λ x. t x && covers g p x v) y.0 b.0 (and_intro (t y.0) (covers g p y.0 v) b.1 y.2)) in
        omega (arith, inside, together_counted xs d (λ x i. (has x i).1))

    -- no more than all nodes, and less than a node that they all lie below
    together_few : together (weight g p) xs ≤ g.nodes
    together_few = omega (arith, together_covered, count_le g.nodes (covered g p t))

    together_less : (u : ℕ) → u < g.nodes → ((x : ℕ) → t x ≡ true → Below g p u x) → together (weight g p) xs < weight g p u
    together_less u h below = omega (arith, together_covered, covered_less g p shaped forest t u h below)

-- lengths

digits_few : (n k f : ℕ) → f < 10 ^ suc k → length (digits n f) ≤ suc k
unfolding digits
digits_few zero k f h = omega arith
digits_few (suc n) zero f h = rw (lt-ltb f 10 h) (omega arith)
digits_few (suc n) (suc k) f h =
    by_bool (ltb f 10)
    (λ (e : ltb f 10 ≡ true). rw e (omega arith))
    (λ (e : ltb f 10 ≡ false).
    rw (e, length-append) (omega (arith, digits_few n k (f / 10) (tenth_less k f h))))

number_few : (k f : ℕ) → f < 10 ^ suc k → length (decimal f) ≤ suc k
unfolding decimal
number_few k f h = digits_few 20 k f h

filler_length : length (text filler) ≡ 1
unfolding text decimal digits
filler_length = refl

both_digits : length (decimal 128) ≡ 3
unfolding decimal digits
both_digits = refl

both_length : (t u : Term) → length (text (both t u)) ≡ length (text t) + length (text u) + 6
unfolding text
both_length t u = rw (length-append, length-append, length-append) (omega (arith, both_digits))

-- Terms of nodes, where the term of x takes 16 bytes for each that x weighs, without six.
module _ (f : ℕ → Term) (w : ℕ → ℕ) where
  abbrev Short : List ℕ → Type 0
  Short xs = (x : ℕ) → In x xs → length (text (f x)) + 6 ≤ 16 * w x

  others_short : (xs : List ℕ) → Short xs → length (others (each f xs)) ≤ 16 * together w xs + 1
  unfolding text each together
  others_short [] h = omega arith
  others_short (x ∷ xs) h = rw length-append (omega (arith, h x (inl refl), others_short xs (λ y i. h y (inr i))))

  arguments_short : (xs : List ℕ) → Short xs → length (arguments (each f xs)) ≤ 16 * together w xs + 1
  unfolding text each together
  arguments_short [] h = omega arith
  arguments_short (x ∷ xs) h = rw length-append (omega (arith, h x (inl refl), others_short xs (λ y i. h y (inr i))))

  nested_short : (x : ℕ) (xs : List ℕ) → Short (x ∷ xs) → length (text (nested f x xs)) + 6 ≤ 16 * together w (x ∷ xs)
  unfolding nested together
  nested_short x [] h = omega (arith, h x (inl refl))
  nested_short x (y ∷ ys) h = omega (arith, both_length (f x) (nested f y ys), h x (inl refl), nested_short y ys (λ z i. h z (inr i)))

  carrying_short : (xs : List ℕ) → Short xs → length (text (carrying f xs)) ≤ 16 * together w xs + 1
  unfolding carrying together
  carrying_short [] h = omega (arith, filler_length)
  carrying_short (x ∷ []) h = omega (arith, both_length (f x) filler, filler_length, h x (inl refl))
  carrying_short (x ∷ y ∷ ys) h = omega (arith, nested_short x (y ∷ ys) h)

  topmost_short : (xs : List ℕ) → Short xs → 16 * together w xs ≤ 2048 → length (text (topmost f xs)) ≤ 2048
  unfolding topmost
  topmost_short [] h few = omega (arith, filler_length)
  topmost_short (x ∷ xs) h few = omega (arith, nested_short x xs h, few)

-- The term of a node, where symbols have three digits at most.
module _ (s : Content) (f : Fitting s) (few : (v : ℕ) → labelled s.labels.symbols v ≡ true → symbol s.labels.symbols v < 1000)
    (p : List ℕ) (forest : Forest (PlacingEdge s.graph p)) where
  abbrev w : ℕ → ℕ
  w = weight s.graph p

  abbrev hung : ℕ → List ℕ
  hung v = select s.graph.nodes (hangs s.graph p v)

  -- nodes that an edge leads to from v
  less_than_node : (t : ℕ → Bool) (v : ℕ) (xs : List ℕ) → v < s.graph.nodes → Once xs → ((x : ℕ) → t x ≡ true → PlacingEdge s.graph p v x)
      → ((x : ℕ) → In x xs → (x < s.graph.nodes) × (t x ≡ true)) → together w xs < w v
  less_than_node t v xs h d edge has =
      together_less s.graph p (sheet_shaped s f) forest t (λ x y a b. siblings_level s.graph p (sheet_shaped s f) forest v x y (edge x a) (edge y b)) xs d has v h (λ x a. one (edge x a))

  child_within : (v c : ℕ) → In c (children s.written.tree v) → (c < s.graph.nodes) × (among s.written.tree v c ≡ true)
  child_within v c i =
      let e : TreeEdge s.written v c = (in_children s.written.tree v c).0 i in
      (((sheet_shaped s f).tree_within v c (tree_kept s f v c e)).1, e)

  children_less : (v : ℕ) → v < s.graph.nodes → together w (children s.written.tree v) < w v
  children_less v h =
      let once = children_once s.written.tree f.well_written.one_parent v in
      less_than_node (among s.written.tree v) v (children s.written.tree v) h once (λ c e. inl (tree_kept s f v c e)) (child_within v)

  hung_within : (v r : ℕ) → In r (hung v) → (r < s.graph.nodes) × (hangs s.graph p v r ≡ true)
  hung_within v r i = (in_select s.graph.nodes (hangs s.graph p v) r).0 i

  hung_less : (v : ℕ) → v < s.graph.nodes → together w (hung v) < w v
  hung_less v h =
      less_than_node (hangs s.graph p v) v (hung v) h (select_once s.graph.nodes (hangs s.graph p v)) (λ r e. inr e) (hung_within v)

  term_at_short : (k v : ℕ) → v < s.graph.nodes → length (text (term_at k s p v)) + 6 ≤ 16 * w v
  unfolding term_at text
  term_at_short zero v h = omega (arith, filler_length, weight_some s.graph p (sheet_shaped s f) forest v h)
  term_at_short (suc k) v h =
      by_bool (labelled s.labels.symbols v)
      (λ (e : labelled s.labels.symbols v ≡ true).
      let inside = arguments_short (λ c. term_at k s p c) w (children s.written.tree v) (λ c i. term_at_short k c (child_within v c i).0) in
      rw (e, length-append) (omega (arith, number_few 2 (symbol s.labels.symbols v) (few v e), inside, children_less v h)))
      (λ (e : labelled s.labels.symbols v ≡ false).
      let inside = carrying_short (λ r. term_at k s p r) w (hung v) (λ r i. term_at_short k r (hung_within v r i).0) in
      rw e (omega (arith, inside, hung_less v h)))

  tops_few : together w (tops s p) ≤ s.graph.nodes
  tops_few =
      together_few s.graph p (sheet_shaped s f) forest (top s.graph p) (λ x y a b. top_highest s.graph p (sheet_shaped s f) forest x y b) (tops s p) (tops_once s p) (λ r i. (in_tops s p r).0 i)

  term_short : length (text (term s p)) ≤ 2048
  unfolding term tops
  term_short =
      topmost_short (λ r. term_at s.graph.nodes s p r) w (tops s p) (λ r i. term_at_short s.graph.nodes r ((in_tops s p r).0 i).0) (omega (arith, tops_few, (sheet_shaped s f).few_nodes))

-- whatever the solved form, the least buffer holds its term
pub term_fits : (bs : List ℕ) (s : Content) → outcome_of Labelled bs ≡ accepted s → ((v : ℕ) → labelled s.labels.symbols v ≡ true → symbol s.labels.symbols v < 1000)
    → (p : List ℕ) → SolvedForm s.graph p → length (text (term s p)) ≤ 2048
term_fits bs s e few p solved = term_short s (accepted_fitting bs s e) few p solved.is_forest

-- of a sheet of bytes
pub term_fits_bytes : (bs : List ℕ) (s : Content) → outcome_of Labelled bs ≡ accepted s → ((i : ℕ) → i < length bs → get_or bs i 0 < 256)
    → (p : List ℕ) → SolvedForm s.graph p → length (text (term s p)) ≤ 2048
term_fits_bytes bs s e bytes = term_fits bs s e (λ v _. omega (arith, symbol_small bs s e bytes v))
