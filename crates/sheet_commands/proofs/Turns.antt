-- What a turn says of `outcome_after`: the tests on the value are the tests on the edges that it holds, and a value with
-- the edge put in holds one edge more, or, where it held the edge, the same.
use Prim.Native.Nat.{ℕ, zero, suc, ◌≤◌}
use mathlib.Core.Path.{◌≡◌, refl, sym, ◌∙◌}
use mathlib.Core.List.{List, ◌∷◌}
use mathlib.Core.Bool.{true, false, not, ◌||◌, false≢true}
use native.Mathlib.Numerals.{add-one}
use native.Mathlib.Omega.{arith}
use lib.Dec.{eqb, leb}
use lib.ListN.{get_or, replicate, length-replicate, get_or-replicate}
use borrow.Author.Tests.{lt-leb, leb-false}
use Rattle.std.specs.Prelude.{Result, Ok, Err}
use Rattle.base_nodeset.specs.Set.{mem, Empty}
use Rattle.base_nodeset.specs.declared.NodeSet.{NodeSet}
use Rattle.base_nodeset.proofs.Laws.{member_zero}
use Rattle.base_finite.proofs.Laws.{by_bool, or_none}
use Rattle.graph.specs.Graph.{Edge, among, different, entered, single, parent, none}
use Rattle.format.specs.Sheet.{Labels, labelling, differing, beyond}
use Rattle.format.specs.declared.Refusal.{Refusal}
use Rattle.format.specs.declared.Refusal.TheVariants.{Range, Tree as TreeRefusal, TooMany}
use Rattle.theory_edges.specs.Edges.{Within}
use Rattle.theory_format.proofs.Spelling.{not_beyond}
use Rattle.theory_edges.proofs.Edges.{within_more, adds_nothing}
use Rattle.base_tables.specs.Rows.{nothing, in_row}
use Rattle.base_tables.specs.Tables.{Holds}
use Rattle.base_tables.specs.declared.Graph.{Graph}
use Rattle.base_tables.proofs.Parents.{parent_tells}
use Rattle.base_tables.proofs.Held.{held_tree}
use Rattle.sheet_commands.specs.declared.command.Command.{Command}
use Rattle.sheet_commands.specs.declared.command.Command.TheVariants.{Tree, Dominance, Label, Differ, End}
use Rattle.sheet_commands.specs.Labels.{gathered_after}
use Rattle.sheet_commands.specs.Turn.{outcome_after, Reached, Blank, node_answer, tree_answer, dominance_answer, TreeAfter, HeadsAfter, run_of}

-- the first command

pub blank : (m n : ℕ) (s : NodeSet) → m ≡ 128 → Empty s → Blank (record { n = n; parent = replicate m none; heads = replicate m s; edges = 0 })
unfolding parent single among different
blank m n s e empty k =
    record {
      tree_within = λ u v h. absurd (false≢true h);
      one_parent = refl;
      dominance_within = λ u v h. absurd (false≢true h);
      parents_long = length-replicate m none ∙ e;
      heads_long = length-replicate m s ∙ e;
      parent_is = λ v h. get_or-replicate m v none 0 (omega arith);
      heads_are = λ l r. none_in m l r;
      edges_are = refl;
    }
  where
    none_in : (k l r : ℕ) → mem (get_or (replicate k s) l nothing) r ≡ false
    none_in zero l r = member_zero r
    none_in (suc k) zero r = empty r
    none_in (suc k) (suc l) r = none_in k l r

-- the later ones

module _ (t d : List Edge) (m : Labels) (rest : List ℕ) (g : Graph) (few : g.n ≤ 128) (holds : Holds g.n t d g.parent g.heads g.edges) where
  abbrev After : Command → Result Unit Refusal → Graph → Type 0
  After command x g' = Reached (gathered_after m rest (Ok command)) (outcome_after g.n t d m rest (Ok command)) rest (run_of command x g')

  pub tree_turn : (p c : ℕ) (x : Result Unit Refusal) (g' : Graph) → x ≡ tree_answer g p c → TreeAfter p c x g g' → After (Tree p c) x g'
  unfolding Reached outcome_after gathered_after
  tree_turn p c x g' e a =
      by_bool (beyond g.n p c)
      (λ (b : beyond g.n p c ≡ true). let q : x ≡ Err Range = e ∙ rw b in rw (q, b))
      (λ (b : beyond g.n p c ≡ false).
      let w = not_beyond g.n p c b in
      let same : not (eqb (get_or g.parent c 0) none) ≡ entered t c =
      rw (holds.parent_is c (omega (arith, w.1))) (sym (parent_tells g.n t c few holds.tree_within)) in
      by_bool (eqb p c || entered t c)
      (λ (f : (eqb p c || entered t c) ≡ true). let q : x ≡ Err TreeRefusal = e ∙ rw (b, same, f) in rw (q, b, f))
      (λ (f : (eqb p c || entered t c) ≡ false).
      let q : x ≡ Ok tt = e ∙ rw (b, same, f) in
      let put : TreeAfter p c (Ok tt) g g' = rw q at a in
      rw (q, put, b, f) ((p, c) ∷ t, d, m, few, refl, refl, held_tree g.n t d g.parent g.heads g.edges holds few p c w.0 w.1 (or_none (eqb p c) (entered t c) f).1)))

  module _ (l r : ℕ) (g' : Graph) where
    -- other sets of roots
    heads_held : (d' : List Edge) → Within g.n d' → HeadsAfter l r (Ok tt) g g' → ((u v : ℕ) → in_row g'.heads u v ≡ among d' u v) → g'.edges ≡ different d'
        → Holds g'.n t d' g'.parent g'.heads g'.edges
    heads_held d' within a are count =
        rw (a.nodes, a.parents)
        (record {
          tree_within = holds.tree_within;
          one_parent = holds.one_parent;
          dominance_within = within;
          parents_long = holds.parents_long;
          heads_long = a.long ∙ holds.heads_long;
          parent_is = holds.parent_is;
          heads_are = are;
          edges_are = count;
        })

    dominance_more : beyond g.n l r ≡ false → among d l r ≡ false → HeadsAfter l r (Ok tt) g g' → Holds g'.n t ((l, r) ∷ d) g'.parent g'.heads g'.edges
    unfolding among different
    dominance_more b f a =
        let w = not_beyond g.n l r b in
        heads_held ((l, r) ∷ d) (within_more g.n l r d w.0 w.1 holds.dominance_within) a (λ u v. a.heads u v ∙ rw (holds.heads_are u v))
        (a.edges ∙ rw (holds.heads_are l r, f, holds.edges_are) (add-one (different d)))

    -- an edge that has stood before
    dominance_again : among d l r ≡ true → HeadsAfter l r (Ok tt) g g' → Holds g'.n t d g'.parent g'.heads g'.edges
    dominance_again f a =
        heads_held d holds.dominance_within a (λ u v. a.heads u v ∙ rw (holds.heads_are u v) (adds_nothing (among d) l r f u v))
        (a.edges ∙ rw (holds.heads_are l r, f) holds.edges_are)

  pub dominance_turn : (l r : ℕ) (x : Result Unit Refusal) (g' : Graph) → x ≡ dominance_answer g l r → HeadsAfter l r x g g' → After (Dominance l r) x g'
  unfolding Reached outcome_after gathered_after
  dominance_turn l r x g' e a =
      let same = holds.heads_are l r in
      let long = holds.edges_are in
      by_bool (beyond g.n l r)
      (λ (b : beyond g.n l r ≡ true). let q : x ≡ Err Range = e ∙ rw b in rw (q, b))
      (λ (b : beyond g.n l r ≡ false).
      by_bool (among d l r)
      (λ (f : among d l r ≡ true).
      let q : x ≡ Ok tt = e ∙ rw (b, same, f) in
      let put : HeadsAfter l r (Ok tt) g g' = rw q at a in
      rw (q, b, f) (t, d, m, rw put.nodes few, rw put.nodes, refl, dominance_again l r g' f put))
      (λ (f : among d l r ≡ false).
      by_bool (leb 255 g.edges)
      (λ (h : leb 255 g.edges ≡ true). let q : x ≡ Err TooMany = e ∙ rw (b, same, f, h) in rw (q, b, f, ← long, h))
      (λ (h : leb 255 g.edges ≡ false).
      let q : x ≡ Ok tt = e ∙ rw (b, same, f, h) in
      let put : HeadsAfter l r (Ok tt) g g' = rw q at a in
      let least : leb 255 (different d) ≡ false = rw (← long) h in
      rw (q, b, f, least) (t, (l, r) ∷ d, m, rw put.nodes few, rw put.nodes, refl, dominance_more l r g' b f put))))

  pub label_refused : (p s : ℕ) (why : Refusal) → Err why ≡ node_answer g.n p → After (Label p s) (Err why) g
  unfolding Reached outcome_after
  label_refused p s why e =
      by_bool (leb g.n p)
      (λ (b : leb g.n p ≡ true). let q : ◌≡◌ {A = Result ℕ Refusal} (Err why) (Err Range) = e ∙ rw b in rw b cc)
      (λ (b : leb g.n p ≡ false). let q : Err why ≡ Ok p = e ∙ rw b in absurd (let z : ◌≡◌ {A = ℕ} 0 1 = cc in omega arith))

  pub label_turn : (p s v : ℕ) → Ok v ≡ node_answer g.n p → After (Label p s) (Ok tt) g
  unfolding Reached outcome_after gathered_after
  label_turn p s v e =
      by_bool (leb g.n p)
      (λ (b : leb g.n p ≡ true). let q : Ok v ≡ Err Range = e ∙ rw b in absurd (let z : ◌≡◌ {A = ℕ} 0 1 = cc in omega arith))
      (λ (b : leb g.n p ≡ false).
      let node : leb 128 p ≡ false = lt-leb 128 p (omega (arith, leb-false g.n p b)) in
      rw (b, node) (t, d, labelling m p s, few, refl, refl, holds))

  pub differ_turn : After Differ (Ok tt) g
  unfolding Reached outcome_after gathered_after
  differ_turn = (t, d, differing m, few, refl, refl, holds)

  pub end_turn : After End (Ok tt) g
  unfolding Reached outcome_after gathered_after
  end_turn = (t, d, few, refl, holds)
