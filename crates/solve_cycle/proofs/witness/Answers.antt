-- What is kept is minimal, and its first edge closes the way back of the search.
use Prim.Native.Nat.{ℕ, ◌≤◌, ◌<◌}
use mathlib.Core.Path.{◌≡◌}
use mathlib.Core.Bool.{true}
use native.Mathlib.Omega.{arith}
use Rattle.base_finite.specs.Below.{any, least}
use Rattle.graph.specs.Graph.{Graph}
use Rattle.theory_forest.proofs.Shape.{well_formed_shaped}
use Rattle.base_tables.specs.declared.Graph.{Graph as Value}
use Rattle.base_tables.specs.Rows.{in_row}
use Rattle.base_tables.proofs.TreeLaws.{tables_parents}
use Rattle.solve_cycle.specs.Thinning.{Unsolved, Thinned, before}
use Rattle.solve_cycle.proofs.Cycles.{lowest_of_lem, first_leaf_is, linked, ring_cycle}
use Rattle.solve_cycle.proofs.witness.Goals as goal

small : {value : Value} → Unsolved value → value.n ≤ 128
small u = (tables_parents u.tables).few

few : {value : Value} → Unsolved value → {n : ℕ} → n ≡ value.n → n ≤ 128
few u nodes = omega (arith, small u, nodes)

-- the first edge

first_small : {g : Graph} {value : Value}
    → Thinned g value (before value.n)
    → value.n ≤ 128
    → (l : ℕ)
    → l ≡ least value.n (λ k. any 128 (in_row value.heads k))
    → l < 128
first_small t fits l is = omega (arith, first_leaf_is _ _ t l is)

edge_of : {g : Graph} {value : Value}
    → Thinned g value (before value.n)
    → (l : ℕ)
    → l ≡ least value.n (λ k. any 128 (in_row value.heads k))
    → (r : ℕ)
    → r ≡ least 128 (in_row value.heads l)
    → (r < 128) × (in_row value.heads l r ≡ true)
edge_of {value = value} t l is r lowest = lowest_of_lem (in_row value.heads l) 128 r (first_leaf_is _ _ t l is).1 lowest

pub read_trees-trees-requires : goal.read_trees-trees-requires
read_trees-trees-requires c = tables_parents c.requires.0.tables

pub minimize-requires : goal.minimize-requires
minimize-requires c =
    let t = c.read_trees-trees.ensures in
    record { nodes = t.bounded.1; parents_are = tables_parents c.requires.0.tables; owners_are = t.bounded.0; fits = t.trees_of }

-- the thinned out graph has as many nodes
pub first_leaf-leaf-requires : goal.first_leaf-leaf-requires
first_leaf-leaf-requires c = few c.requires.0 c.minimize.ensures.same.nodes

pub offset_bounds-thin-leaf : goal.offset_bounds-thin-leaf
offset_bounds-thin-leaf c = omega (arith, first_small (c.minimize.ensures.thinned c.requires.0) (few c.requires.0 c.minimize.ensures.same.nodes) c.first_leaf-leaf.result c.first_leaf-leaf.ensures)

pub bounds-thin-leaf : goal.bounds-thin-leaf
bounds-thin-leaf c = first_small (c.minimize.ensures.thinned c.requires.0) (few c.requires.0 c.minimize.ensures.same.nodes) c.first_leaf-leaf.result c.first_leaf-leaf.ensures

pub take_out-requires : goal.take_out-requires
take_out-requires c =
    let t = c.minimize.ensures.thinned c.requires.0 in
    let l = c.first_leaf-leaf in
    let e = edge_of t l.result l.ensures c.lowest-root.result c.lowest-root.ensures in
    (first_small t (few c.requires.0 c.minimize.ensures.same.nodes) l.result l.ensures, e.0)

pub ring-requires : goal.ring-requires
ring-requires c =
    let m = c.minimize in
    let o = c.take_out in
    let l = c.first_leaf-leaf in
    let r = c.lowest-root in
    let t = m.ensures.thinned c.requires.0 in
    let e = edge_of t l.result l.ensures r.result r.ensures in
    (linked c.requires.0.graph m.new.graph t l.result r.result e.1 o.new.graph o.ensures, omega (arith, c.requires.1, o.ensures.same.nodes, m.ensures.same.nodes))

pub returns-clause-within : goal.returns-clause-within
returns-clause-within c = omega (arith, c.ring.ensures.few, c.take_out.ensures.same.nodes, c.minimize.ensures.same.nodes)

pub returns-clause-cycle : goal.returns-clause-cycle
returns-clause-cycle c u =
    let a = c.args in
    let o = c.take_out in
    let k = c.ring in
    let m = c.minimize in
    let l = c.first_leaf-leaf in
    let r = c.lowest-root in
    let t = m.ensures.thinned u in
    let e = edge_of t l.result l.ensures r.result r.ensures in
    ring_cycle u.graph m.new.graph t l.result r.result e.1 o.new.graph o.ensures
    (well_formed_shaped u.tables.well_formed) a.out.now k.new.out k.result (omega (arith, c.requires.1, o.ensures.same.nodes, m.ensures.same.nodes)) k.ensures

pub returns-clause-rest : goal.returns-clause-rest
returns-clause-rest c = c.ring.ensures.rest
