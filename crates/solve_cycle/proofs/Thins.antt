-- Dropping edges one by one: the rest of a graph's edges is a graph in tables again, and an edge that was needed stays
-- needed when others go. So when all edges are settled, those kept are a minimal set.
use Prim.Native.Nat.{ℕ, suc, ◌+◌, ◌≤◌, ◌<◌}
use mathlib.Core.Path.{◌≡◌, refl, sym, ap, subst₂, ◌∙◌}
use mathlib.Core.List.{List, [], ◌∷◌}
use mathlib.Core.Bool.{Bool, true, false, cond, not, ◌&&◌, ◌||◌, true≢false}
use mathlib.Core.Logic.{⊎_elim, ◌↔◌}
use native.Mathlib.Omega.{arith}
use lib.Dec.{eqb, ltb}
use lib.ListN.{length, get_or}
use borrow.Author.Tests.{eq-eqb, eqb-true, lt-ltb, ltb-true, ltb-false, not-true}
use Rattle.base_finite.proofs.Laws.{by_bool, and_both, or_cases, not_holding, test_ext}
use Rattle.base_nodeset.specs.Set.{mem, Empty, Removed}
use Rattle.base_nodeset.specs.declared.NodeSet.{NodeSet}
use Rattle.graph.specs.Graph.{Edge, Graph, among, different, root, leaf, WellFormed}
use Rattle.graph.specs.Order.{without, removed}
use Rattle.graph.specs.Placing.{Solvable}
use Rattle.theory_forest.specs.Shape.{Shaped}
use Rattle.theory_forest.proofs.Shape.{without_among, well_formed_shaped}
use Rattle.theory_forest.specs.Table.{Among}
use Rattle.theory_list.proofs.Redundancy.{without_lacks, without_keeps}
use Rattle.theory_edges.specs.Edges.{over}
use Rattle.theory_cycle.proofs.Minimal.{Minimal, still_needed}
use Rattle.base_tables.specs.Rows.{in_row, IsRow, RowPut}
use Rattle.base_tables.specs.declared.Graph.{Graph as Value}
use Rattle.base_tables.specs.Tables.{Tables}
use Rattle.base_tables.specs.declared.trees.Trees.{Trees}
use Rattle.solve_cycle.specs.Thinning.{Unsolved, Known, SameTrees, TakenOut, Thinned, and_edge, before}

-- the list without an edge

without_is : (es : List Edge) (l r a b : ℕ) → among (without es l r) a b ≡ (not (eqb a l && eqb b r) && among es a b)
without_is es l r a b =
    by_bool (eqb a l && eqb b r)
    (λ (t : (eqb a l && eqb b r) ≡ true).
    let h = and_both (eqb a l) (eqb b r) t in
    rw t (not_holding (among (without es l r) a b) (λ m. without_lacks es l r (subst₂ (Among (without es l r)) (eqb-true a l h.0) (eqb-true b r h.1) m))))
    (λ (t : (eqb a l && eqb b r) ≡ false).
    rw t (test_ext (among (without es l r) a b) (among es a b)
    (without_among es l r a b)
    (without_keeps es l r a b (λ q. true≢false (sym (rw (eq-eqb a l q.0, eq-eqb b r q.1)) ∙ t)))))

-- no more different ones than before

fewer : (b : Bool) (k m : ℕ) → k ≤ m → (k ≤ cond b m (suc m)) × (cond b k (suc k) ≤ cond b m (suc m))
fewer true k m h = (h, h)
fewer false k m h = (omega arith, omega arith)

without_fewer : (es : List Edge) (l r : ℕ) → different (without es l r) ≤ different es
unfolding without different
without_fewer [] l r = omega arith
without_fewer (e ∷ es) l r =
    let f = fewer (among es e.0 e.1) (different (without es l r)) (different es) (without_fewer es l r) in
    by_bool (eqb e.0 l && eqb e.1 r)
    (λ (t : (eqb e.0 l && eqb e.1 r) ≡ true). rw t f.0)
    (λ (t : (eqb e.0 l && eqb e.1 r) ≡ false).
    let same : among (without es l r) e.0 e.1 ≡ among es e.0 e.1 = without_is es l r e.0 e.1 ∙ rw t in
    rw (t, same) f.1)

-- the graph without an edge is in the tables that it is taken out of

removed_well_formed : (g : Graph) (l r : ℕ) → WellFormed g → WellFormed (removed g l r)
unfolding removed leaf root
removed_well_formed g l r w =
    record {
      some_nodes = w.some_nodes;
      few_nodes = w.few_nodes;
      tree_within = w.tree_within;
      one_parent = w.one_parent;
      no_tree_cycle = w.no_tree_cycle;
      on_tree_edge = w.on_tree_edge;
      leaf_to_root = λ x y m. w.leaf_to_root x y (without_among g.dominance l r x y m);
      few_edges = omega (arith, without_fewer g.dominance l r, w.few_edges);
    }

pub removed_tables : (g : Graph) (value : Value) (edges l r : ℕ) (value' : Value) → Tables g value.n value.parent value.heads edges → TakenOut l r value value'
    → Tables (removed g l r) value'.n value'.parent value'.heads (different (without g.dominance l r))
unfolding removed
removed_tables g value edges l r value' t o =
    record {
      well_formed = removed_well_formed g l r t.well_formed;
      nodes = o.same.nodes ∙ t.nodes;
      holds = record {
        tree_within = t.holds.tree_within;
        one_parent = t.holds.one_parent;
        dominance_within = λ x y m. t.holds.dominance_within x y (without_among g.dominance l r x y m);
        parents_long = ap length o.same.parents ∙ t.holds.parents_long;
        heads_long = o.long ∙ t.holds.heads_long;
        parent_is = λ v h. ap (λ (ps : List ℕ). get_or ps v 0) o.same.parents ∙ t.holds.parent_is v h;
        heads_are = λ a b. o.row_is a b ∙ rw (t.holds.heads_are a b) (sym (without_is g.dominance l r a b));
        edges_are = refl;
      };
    }

-- row l without r, stored
pub row_out : (l r : ℕ) (row : NodeSet) {rest : NodeSet} {value value' : Value} → SameTrees value value' → IsRow (in_row value.heads) l row → Removed row r rest → RowPut l rest value.heads value'.heads → TakenOut l r value value'
row_out l r row same is out put =
    record {
      same = same;
      long = put.long;
      row_is = λ a b.
          put.row_is a b
          ∙ by_bool (eqb a l)
          (λ (e : eqb a l ≡ true). rw (e, eqb-true a l e) (out b ∙ rw (is b)))
          (λ (e : eqb a l ≡ false). rw e);
    }

-- the trees stay those of the value, whatever edges go
pub known_still : {value value' : Value} {t : Trees} → SameTrees value value' → Known value t → Known value' t
known_still {value' = value'} {t = t} same k =
    record {
      nodes = k.nodes ∙ sym same.nodes;
      parents_are = rw (same.nodes, same.parents) k.parents_are;
      owners_are = k.owners_are;
      fits = λ g shaped tree. k.fits g shaped (rw (same.nodes, same.parents) at tree);
    }

pub same_trees : {value value₁ value₂ : Value} → SameTrees value value₁ → SameTrees value₁ value₂ → SameTrees value value₂
same_trees a b = record { nodes = b.nodes ∙ a.nodes; parents = b.parents ∙ a.parents }

-- one edge settled

-- the answer is that of the graph without the edge
abbrev pub Answers : Value → Bool → Type 0
Answers value b = (g : Graph) (edges : ℕ) → Tables g value.n value.parent value.heads edges → (b ≡ true) ↔ Solvable g

module _ (g : Graph) (value : Value) (settled : ℕ → ℕ → Bool) (t : Thinned g value settled) where
  -- more may be called settled, where the rows have none of it
  pub thinned_map : (more : ℕ → ℕ → Bool) → ((a b : ℕ) → in_row value.heads a b ≡ true → more a b ≡ true → settled a b ≡ true) → Thinned g value more
  thinned_map more f =
      record {
        kept = t.kept;
        inside = t.inside;
        tables = t.tables;
        unsolvable = t.unsolvable;
        needed = λ a b h m. t.needed a b (f a b (t.tables.holds.heads_are a b ∙ m) h) m;
      }

  -- an edge of the rows is between nodes
  pub row_within : (a b : ℕ) → in_row value.heads a b ≡ true → (a < value.n) × (b < value.n)
  row_within a b m =
      let w = t.tables.holds.dominance_within a b (sym (t.tables.holds.heads_are a b) ∙ m) in
      let same = t.tables.nodes in
      (omega (arith, w.0), omega (arith, w.1))

  module _ (l r : ℕ) (value' : Value) (o : TakenOut l r value value') (b : Bool) (answer : Answers value' b) where
    answered : (b ≡ true) ↔ Solvable (removed (over g t.kept) l r)
    answered =
        answer (removed (over g t.kept) l r) (different (without t.kept l r))
        (removed_tables (over g t.kept) value (different t.kept) l r value' t.tables o)

    -- row l put back makes the old rows
    pub settle_stays : (row : NodeSet) {value'' : Value} → SameTrees value' value'' → IsRow (in_row value.heads) l row → RowPut l row value'.heads value''.heads → b ≡ true → Thinned g value'' (and_edge settled l r)
    settle_stays row {value''} same is put so =
        let h = t.tables.holds in
        record {
          kept = t.kept;
          inside = t.inside;
          tables = record {
            well_formed = t.tables.well_formed;
            nodes = same.nodes ∙ o.same.nodes ∙ t.tables.nodes;
            holds = record {
              tree_within = h.tree_within;
              one_parent = h.one_parent;
              dominance_within = h.dominance_within;
              parents_long = ap length (same.parents ∙ o.same.parents) ∙ h.parents_long;
              heads_long = put.long ∙ o.long ∙ h.heads_long;
              parent_is = λ v k. ap (λ (ps : List ℕ). get_or ps v 0) (same.parents ∙ o.same.parents) ∙ h.parent_is v k;
              heads_are = λ x y.
                  put.row_is x y
                  ∙ by_bool (eqb x l)
                  (λ (e : eqb x l ≡ true). rw (e, eqb-true x l e) (is y ∙ h.heads_are l y))
                  (λ (e : eqb x l ≡ false). rw e (o.row_is x y ∙ rw e (h.heads_are x y)));
              edges_are = h.edges_are;
            };
          };
          unsolvable = t.unsolvable;
          needed = λ x y d m.
              ⊎_elim
              (λ (s : settled x y ≡ true). t.needed x y s m)
              (λ (s : (eqb x l && eqb y r) ≡ true).
              let q = and_both (eqb x l) (eqb y r) s in
              let i : x ≡ l = eqb-true x l q.0 in
              let j : y ≡ r = eqb-true y r q.1 in
              rw (i, j) (answered.0 so))
              (or_cases (settled x y) (eqb x l && eqb y r) d);
        }

    pub settle_goes : b ≡ false → Thinned g value' (and_edge settled l r)
    unfolding removed
    settle_goes z =
        let es : List Edge = without t.kept l r in
        record {
          kept = es;
          inside = λ x y m. t.inside x y (without_among t.kept l r x y m);
          tables = removed_tables (over g t.kept) value (different t.kept) l r value' t.tables o;
          unsolvable = λ s. true≢false (sym (answered.1 s) ∙ z);
          needed = λ x y h m.
              ⊎_elim
              (λ (s : settled x y ≡ true).
              still_needed (over g t.kept) es (without_among t.kept l r) x y (t.needed x y s (without_among t.kept l r x y m)))
              (λ (s : (eqb x l && eqb y r) ≡ true).
              let q = and_both (eqb x l) (eqb y r) s in
              absurd (without_lacks t.kept l r (subst₂ (Among es) (eqb-true x l q.0) (eqb-true y r q.1) m)))
              (or_cases (settled x y) (eqb x l && eqb y r) h);
        }

-- a row, one edge after the other

-- the edges from leaves below l, and those from l to what is left no more
abbrev pub row_settled : ℕ → NodeSet → ℕ → ℕ → Bool
row_settled l left a b = ltb a l || eqb a l && not (mem left b)

module _ (g : Graph) (value : Value) (l : ℕ) where
  pub row_start : (left : NodeSet) → ((v : ℕ) → mem left v ≡ in_row value.heads l v) → Thinned g value (before l) → Thinned g value (row_settled l left)
  row_start left is t =
      thinned_map g value (before l) t (row_settled l left) (λ a b m h.
      ⊎_elim
      (λ (s : ltb a l ≡ true). s)
      (λ (s : (eqb a l && not (mem left b)) ≡ true).
      let q = and_both (eqb a l) (not (mem left b)) s in
      let i : a ≡ l = eqb-true a l q.0 in
      let there : mem left b ≡ true = is b ∙ (rw i at m) in
      absurd (true≢false (sym there ∙ not-true (mem left b) q.1)))
      (or_cases (ltb a l) (eqb a l && not (mem left b)) h))

  pub row_more : (left rest : NodeSet) (r : ℕ) → Removed left r rest → Thinned g value (and_edge (row_settled l left) l r) → Thinned g value (row_settled l rest)
  row_more left rest r out t =
      thinned_map g value (and_edge (row_settled l left) l r) t (row_settled l rest) (λ a b m h.
      settled (ltb a l) (eqb a l) (eqb b r) (mem left b) (rw (out b) at h))
    where
      settled : (p q e f : Bool) → (p || q && not (not e && f)) ≡ true → ((p || q && not f) || q && e) ≡ true
      settled true q e f h = refl
      settled false true true true h = refl
      settled false true true false h = refl
      settled false true false true h = h
      settled false true false false h = refl
      settled false false e f h = h

  pub row_end : (left : NodeSet) → Empty left → Thinned g value (row_settled l left) → Thinned g value (before (l + 1))
  row_end left none t =
      thinned_map g value (row_settled l left) t (before (l + 1)) (λ a b m h.
      by_bool (ltb a l)
      (λ (s : ltb a l ≡ true). rw s)
      (λ (s : ltb a l ≡ false).
      let i : a ≡ l = omega (arith, ltb-false a l s, ltb-true a (l + 1) h) in
      rw (s, eq-eqb a l i, none b)))

-- the first and the last

pub thinned_start : (value : Value) (s : Unsolved value) → Thinned s.graph value (before 0)
thinned_start value s =
    record {
      kept = s.graph.dominance;
      inside = λ l r m. m;
      tables = rw (← s.tables.holds.edges_are) s.tables;
      unsolvable = s.unsolvable;
      needed = λ l r h m. absurd (omega (arith, ltb-true l 0 h));
    }

pub thinned_minimal : (g : Graph) (value : Value) (t : Thinned g value (before value.n)) → Minimal (over g t.kept)
thinned_minimal g value t =
    record {
      unsolvable = t.unsolvable;
      needed = λ l r m.
          t.needed l r (lt-ltb l value.n (row_within g value (before value.n) t l r (t.tables.holds.heads_are l r ∙ m)).0) m;
    }

pub thinned_shaped : (g : Graph) (value : Value) (settled : ℕ → ℕ → Bool) (t : Thinned g value settled) → Shaped (over g t.kept)
thinned_shaped g value settled t = well_formed_shaped t.tables.well_formed
