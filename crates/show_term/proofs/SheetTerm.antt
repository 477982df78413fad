-- The term read off the tables is that of the sheet and its solved form.
use Prim.Native.Nat.{ℕ, zero, suc, ◌+◌, ◌*◌, ◌≤◌, ◌<◌}
use mathlib.Core.Path.{◌≡◌, refl, ap, ◌∙◌}
use mathlib.Core.List.{List, [], ◌∷◌}
use mathlib.Core.Bool.{true, false, ◌&&◌}
use mathlib.Core.Logic.{inl, inr}
use native.Mathlib.Omega.{arith}
use lib.Dec.{eqb, ltb}
use lib.ListN.{length, get_or, take, length-take}
use lib.Seq.{get_or-take, length-take-le}
use borrow.Author.Tests.{lt-ltb, ltb-true, ltb-false}
use Rattle.base_finite.specs.Below.{select}
use Rattle.base_finite.specs.Stores.{entry_is}
use Rattle.base_finite.proofs.Laws.{by_bool, not_holding}
use Rattle.base_finite.proofs.Runs.{select_ext}
use Rattle.base_nodeset.specs.declared.NodeSet.{NodeSet}
use Rattle.graph.specs.Graph.{Graph, left, root, leaf, none, grown_tree}
use Rattle.graph.specs.Placing.{at, hangs}
use Rattle.graph.specs.Constraint.{In, arity}
use Rattle.graph.specs.Term.{Term}
use Rattle.format.specs.Sheet.{Content, children, labelled, symbol}
use Rattle.format.specs.Term.{each, nested, carrying, topmost, term_at, term, text}
use Rattle.theory_edges.proofs.Edges.{left_found}
use Rattle.theory_edges.proofs.Growing.{few_written, added_childless}
use Rattle.theory_forest.proofs.Forests.{placing_length}
use Rattle.theory_constraint.proofs.Literals.{in_children}
use Rattle.theory_term.proofs.Successors.{in_select, Fitting, accepted_fitting, sheet_shaped, tree_kept, labelled_within, children_fit, hole_leaf}
use Rattle.theory_term.proofs.Bound.{term_fits}
use Rattle.base_tables.proofs.TreeLaws.{tree_of}
use Rattle.show_term.specs.Terms.{above_in, Above, roots_from, child_in, children_from, term_in, topmost_text, Lent, Room}
use Rattle.show_term.specs.Written.{Writable}
use Rattle.show_term.proofs.Lists.{roots_select, children_listed, child_few}
use Rattle.show_term.proofs.Forest.{below_leaf, on_top}

-- terms of the same nodes

module _ (f h : ℕ → Term) where
  each_same : (xs : List ℕ) → ((x : ℕ) → In x xs → f x ≡ h x) → each f xs ≡ each h xs
  unfolding each
  each_same [] same = refl
  each_same (x ∷ xs) same = rw (same x (inl refl), each_same xs (λ y i. same y (inr i)))

  nested_same : (r : ℕ) (rs : List ℕ) → ((x : ℕ) → In x (r ∷ rs) → f x ≡ h x) → nested f r rs ≡ nested h r rs
  unfolding nested
  nested_same r [] same = same r (inl refl)
  nested_same r (s ∷ rs) same = rw (same r (inl refl), nested_same s rs (λ y i. same y (inr i)))

  carrying_same : (rs : List ℕ) → ((x : ℕ) → In x rs → f x ≡ h x) → carrying f rs ≡ carrying h rs
  unfolding carrying
  carrying_same [] same = refl
  carrying_same (r ∷ []) same = rw (same r (inl refl))
  carrying_same (r ∷ s ∷ rs) same = nested_same r (s ∷ rs) same

  topmost_same : (rs : List ℕ) → ((x : ℕ) → In x rs → f x ≡ h x) → topmost f rs ≡ topmost h rs
  unfolding topmost
  topmost_same [] same = refl
  topmost_same (r ∷ rs) same = nested_same r rs same

-- no symbol takes more than three children
arity_few : (f : ℕ) → arity f ≤ 3
unfolding arity
arity_few f =
    by_bool (ltb f 64)
    (λ (a : ltb f 64 ≡ true). rw a (omega arith))
    (λ (a : ltb f 64 ≡ false).
    rw a (by_bool (ltb f 128)
    (λ (b : ltb f 128 ≡ true). rw b (omega arith))
    (λ (b : ltb f 128 ≡ false).
    rw b (by_bool (ltb f 192) (λ (d : ltb f 192 ≡ true). rw d (omega arith)) (λ (d : ltb f 192 ≡ false). rw d (omega arith))))))

-- what is read of a list is in it
in_list : (xs : List ℕ) (i : ℕ) → (get_or xs i none ≡ none → ⊥) → In (get_or xs i none) xs
in_list [] i d = absurd (d refl)
in_list (x ∷ xs) zero d = inl refl
in_list (x ∷ xs) (suc i) d = inr (in_list xs i d)

-- a node that is not labelled is a leaf, written or added
any_hole_leaf : (s : Content) → Fitting s → (v : ℕ) → v < s.graph.nodes → labelled s.labels.symbols v ≡ false → leaf s.graph v ≡ true
unfolding leaf
any_hole_leaf s f v h e =
    by_bool (ltb v s.written.nodes)
    (λ (l : ltb v s.written.nodes ≡ true). hole_leaf s f v (ltb-true v s.written.nodes l) e)
    (λ (l : ltb v s.written.nodes ≡ false).
    let free : left (grown_tree s.written s.written.nodes) v ≡ false =
    not_holding (left (grown_tree s.written s.written.nodes) v)
    (λ t.
    let r = left_found (grown_tree s.written s.written.nodes) v t in
    added_childless s.written f.well_written.tree_within s.written.nodes v r.0 (omega arith) (ltb-false v s.written.nodes l) r.1) in
    let same : left s.graph.tree v ≡ false = ap (λ (g : Graph). left g.tree v) f.grows ∙ free in
    rw (lt-ltb v s.graph.nodes h, same))

module _ {n : ℕ} {parents placing table : List ℕ} {labels : NodeSet} (w : Writable n parents placing table labels) where
  abbrev said : Content
  said = w.content

  abbrev placed : List ℕ
  placed = take n placing

  fitting : Fitting said
  fitting = accepted_fitting w.sheet said w.is_accepted

  same_nodes : n ≡ said.graph.nodes
  same_nodes = w.tables.nodes

  pub few_nodes : n ≤ 128
  few_nodes = omega (arith, same_nodes, (sheet_shaped said fitting).few_nodes)

  pub placing_long : n ≤ length placing
  placing_long = omega (arith, same_nodes, placing_length said.graph placed w.solved.is_placing, length-take n placing)

  pub parents_long : length parents ≡ 128
  parents_long = w.tables.holds.parents_long

  -- children

  child_within : (v c : ℕ) → In c (children said.written.tree v) → c < n
  child_within v c i =
      omega (arith, same_nodes, ((sheet_shaped said fitting).tree_within v c (tree_kept said fitting v c ((in_children said.written.tree v c).0 i))).1)

  child_held : (v i : ℕ) → v < 128 → i < 3 → child_in table v i ≡ get_or (children said.written.tree v) i none
  unfolding child_in
  child_held v i h l = rw (lt-ltb i 3 l) (w.nodes.child_is v i h l)

  children_held : (v : ℕ) → v < 128 → labelled said.labels.symbols v ≡ true → children_from table v 0 ≡ children said.written.tree v
  children_held v h e =
      let cs : List ℕ = children said.written.tree v in
      children_listed table v 3 0 cs
      (omega (arith, children_fit said fitting v e, arity_few (symbol said.labels.symbols v)))
      (λ c i q. omega (arith, child_within v c i, few_nodes))
      (λ j l. let first : 0 + j ≡ j = omega arith in rw first (child_held v j h l))

  lent_part : (above : List ℕ) → length above ≡ n → Lent table above
  lent_part above long =
      record {
        few = omega (arith, few_nodes);
        long = w.nodes.long;
        child_node = λ v i h d.
            let held = child_held v i h (child_few table v i d) in
            let cs : List ℕ = children said.written.tree v in
            rw held (omega (arith, few_nodes, child_within v (get_or cs i none) (in_list cs i (λ q. d (held ∙ q)))));
      }

  module _ (above : List ℕ) (long : length above ≡ n) (is : (v : ℕ) → v < n → get_or above v 0 ≡ above_in parents placing v) where
    -- the roots that a hole carries, and the top roots

    roots_held : (v : ℕ) → v < n → labelled said.labels.symbols v ≡ false → roots_from above v 0 ≡ select said.graph.nodes (hangs said.graph placed v)
    roots_held v h e =
        roots_select above v
        ∙ ap (λ (m : ℕ). select m (entry_is above v)) (long ∙ same_nodes)
        ∙ select_ext said.graph.nodes (entry_is above v) (hangs said.graph placed v)
        (λ r l. below_leaf said.graph (sheet_shaped said fitting) n parents (tree_of w.tables) placing above is v r (any_hole_leaf said fitting v (omega (arith, same_nodes)) e) (omega (arith, same_nodes)))

    tops_held : roots_from above none 0 ≡ select said.graph.nodes (λ r. root said.graph r && eqb (at placed r) none)
    tops_held =
        roots_select above none
        ∙ ap (λ (m : ℕ). select m (entry_is above none)) (long ∙ same_nodes)
        ∙ select_ext said.graph.nodes (entry_is above none) (λ r. root said.graph r && eqb (at placed r) none)
        (λ r l. on_top said.graph (sheet_shaped said fitting) n parents (tree_of w.tables) placing above is r (omega (arith, same_nodes)))

    node_held : (k v : ℕ) → v < n → term_in k table labels above v ≡ term_at k said placed v
    unfolding term_in term_at
    node_held zero v h = refl
    node_held (suc k) v h =
        let deeper : (x : ℕ) → x < n → term_in k table labels above x ≡ term_at k said placed x = λ x. node_held k x in
        rw (w.nodes.labelled_are v)
        (by_bool (labelled said.labels.symbols v)
        (λ (e : labelled said.labels.symbols v ≡ true).
        rw (
          e,
          w.nodes.symbol_is v (omega (arith, few_nodes)) e,
          children_held v (omega (arith, few_nodes)) e,
          each_same (λ c. term_in k table labels above c) (λ c. term_at k said placed c) (children said.written.tree v) (λ c i. deeper c (child_within v c i)),
        ))
        (λ (e : labelled said.labels.symbols v ≡ false).
        rw (
          e,
          roots_held v h e,
          carrying_same (λ r. term_in k table labels above r) (λ r. term_at k said placed r) (select said.graph.nodes (hangs said.graph placed v))
              (λ r i. deeper r (omega (arith, same_nodes, ((in_select said.graph.nodes (hangs said.graph placed v) r).0 i).0))),
        )))

    text_held : topmost_text n table labels above (record { under = none; from = 0 }) ≡ text (term said placed)
    unfolding term
    text_held =
        let tops : List ℕ = select said.graph.nodes (λ r. root said.graph r && eqb (at placed r) none) in
        rw (
          tops_held,
          topmost_same (λ r. term_in n table labels above r) (λ r. term_at n said placed r) tops
              (λ r i. node_held n r (omega (arith, same_nodes, ((in_select said.graph.nodes (λ r. root said.graph r && eqb (at placed r) none) r).0 i).0))),
        )
        (ap (λ (m : ℕ). text (topmost (λ r. term_at m said placed r) tops)) same_nodes)

  -- what the table that is filled gives

  module _ (above : List ℕ) (filled : Above n parents placing above) where
    pub part_long : length (take n above) ≡ n
    part_long = length-take-le n above (omega (arith, few_nodes, filled.long))

    part_is : (v : ℕ) → v < n → get_or (take n above) v 0 ≡ above_in parents placing v
    part_is v h = get_or-take n above v 0 h ∙ filled.above_is v h

    pub lent : Lent table (take n above)
    lent = lent_part (take n above) part_long

    pub text_is : topmost_text n table labels (take n above) (record { under = none; from = 0 }) ≡ text (term said placed)
    text_is = text_held (take n above) part_long part_is

    -- symbols are bytes, so that the text has room
    pub text_fits : ((i : ℕ) → get_or table i 0 < 256) → length (text (term said placed)) ≤ 2048
    text_fits bytes =
        let small : (v : ℕ) → labelled said.labels.symbols v ≡ true → symbol said.labels.symbols v < 1000 =
        λ v e.
        let node : v < 128 = omega (arith, few_written said.written fitting.well_written, labelled_within said fitting v e) in
        omega (arith, bytes (4 * v), w.nodes.symbol_is v node e) in
        term_fits w.sheet said w.is_accepted small placed w.solved

    pub text_room : ((i : ℕ) → get_or table i 0 < 256) → {out : List ℕ} → 2048 ≤ length out → Room (topmost_text n table labels (take n above) (record { under = none; from = 0 })) 0 out
    text_room bytes h = record { fits = rw text_is (omega (arith, h, text_fits bytes)) }
