-- The search finds the leaf, and the way back from its place leads to the root.
use Prim.Native.Nat.{ℕ, ◌≤◌, ◌<◌}
use mathlib.Core.Path.{◌≡◌, refl}
use mathlib.Core.List.{List}
use native.Mathlib.Omega.{arith}
use lib.ListN.{get_or}
use Rattle.solve_cycle.specs.Searching.{joined_in, Near, Searched}
use Rattle.solve_cycle.specs.Spelling.{Linked}
use Rattle.base_nodeset.specs.declared.NodeSet.{NodeSet}
use Rattle.base_tables.specs.declared.Graph.{Graph as Value}
use Rattle.base_tables.specs.Rows.{in_row}
use Rattle.solve_cycle.proofs.Searches.{near_searched, unsearched}
use Rattle.solve_cycle.proofs.Cycles.{few_nodes, linked_found, queue_back, ring_built}
use borrow.Author.Rules.{rules}
use Rattle.solve_cycle.proofs.ring.Goals as goal

-- after the search

searched : {value : Value} {r found : ℕ} {near : List NodeSet} {queue came place : List ℕ} {l : ℕ}
    → Linked value l r
    → Near value.n (joined_in value.parent value.heads) value.n near
    → Searched value.n (in_row near) r found queue came place found
    → Searched value.n (joined_in value.parent value.heads) r found queue came place found
searched {value = value} k h s = near_searched _ (joined_in value.parent value.heads) _ _ _ _ _ _ h s

found_at : {value : Value} {r found : ℕ} {near : List NodeSet} {queue came place : List ℕ} {l : ℕ}
    → Linked value l r
    → Near value.n (joined_in value.parent value.heads) value.n near
    → Searched value.n (in_row near) r found queue came place found
    → (get_or place l 0 < found) × (get_or queue (get_or place l 0) 0 ≡ l) × (found ≤ value.n) × (value.n ≤ 128)
found_at k h s = linked_found _ _ _ k _ _ _ _ (searched k h s)

small : {value : Value} {l r : ℕ} → Linked value l r → value.n ≤ 128
small k = few_nodes k.graph _ _ _ k.edges k.tables

pub near_rows-requires : goal.near_rows-requires
near_rows-requires c = (small c.requires.0, search rules)

pub search-requires-clause-long : goal.search-requires-clause-long
search-requires-clause-long c = (c.near_rows.ensures.long, small c.requires.0, c.requires.0.root_small)

pub search-requires-clause-unsearched : goal.search-requires-clause-unsearched
search-requires-clause-unsearched c = unsearched 128 refl

pub overflow_cast-at : goal.overflow_cast-at
overflow_cast-at c =
    let f = found_at c.requires.0 c.near_rows.ensures c.search.ensures in
    omega (arith, f.0, f.2, f.3)

pub way_back-c-requires : goal.way_back-c-requires
way_back-c-requires c =
    let a = c.args in
    let value = a.graph.now in
    let k = c.search in
    let s = searched c.requires.0 c.near_rows.ensures k.ensures in
    let f = found_at c.requires.0 c.near_rows.ensures k.ensures in
    (c.requires.0.tables.holds.parents_long, queue_back value.n (joined_in value.parent value.heads) k.new.queue k.new.came k.new.place k.result f.3 s.holds (get_or k.new.place a.edge.leaf 0) f.0, omega (arith, f.0, f.2, c.requires.1))

pub overflow_mul-out : goal.overflow_mul-out
overflow_mul-out c =
    let f = found_at c.requires.0 c.near_rows.ensures c.search.ensures in
    omega (arith, f.0, f.2, f.3, c.way_back-c.ensures.few)

pub overflow_add-out : goal.overflow_add-out
overflow_add-out c =
    let f = found_at c.requires.0 c.near_rows.ensures c.search.ensures in
    omega (arith, f.0, f.2, f.3, c.way_back-c.ensures.few)

pub bounds-out-c : goal.bounds-out-c
bounds-out-c c =
    let f = found_at c.requires.0 c.near_rows.ensures c.search.ensures in
    omega (arith, f.0, f.2, f.3, c.way_back-c.ensures.few, c.way_back-c.ensures.long, c.requires.1)

pub overflow_add-result : goal.overflow_add-result
overflow_add-result c =
    let f = found_at c.requires.0 c.near_rows.ensures c.search.ensures in
    omega (arith, f.0, f.2, f.3, c.way_back-c.ensures.few)

pub returns : goal.returns
returns c =
    let a = c.args in
    let value = a.graph.now in
    let k = c.search in
    let s = searched c.requires.0 c.near_rows.ensures k.ensures in
    let f = found_at c.requires.0 c.near_rows.ensures k.ensures in
    let w = c.way_back-c in
    ring_built value k.new.queue k.new.came k.new.place k.result s.holds (get_or k.new.place a.edge.leaf 0) a.edge.leaf a.edge.root f.0 f.1 s.first a.out.now w.new.out w.result c.requires.1 w.ensures
