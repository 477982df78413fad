-- The rows of roots and leaves, made of the state and of the fragments.
use Prim.Native.Nat.{◌*◌}
use mathlib.Core.Path.{refl, sym, subst}
use mathlib.Core.List.{List}
use native.Mathlib.Omega.{arith}
use Rattle.base_nodeset.specs.declared.NodeSet.{NodeSet}
use Rattle.graph.specs.Graph.{own}
use Rattle.solve_below.specs.Below.{Fragments, Under}
use Rattle.solve_test.proofs.Filled.{blank_rows}
use Rattle.solve_levels.proofs.Stack.{lent_state}
use Rattle.solve_descend.proofs.tested.Goals as goal

pub width-wide-requires : goal.width-wide-requires
width-wide-requires c = c.requires.0.bounded.few

pub slot-from-requires : goal.slot-from-requires
slot-from-requires c = c.requires.0.bounded.few

pub overflow_mul-last : goal.overflow_mul-last
overflow_mul-last c = omega (arith, c.requires.0.bounded.few, c.width-wide.ensures)

pub overflow_add-from : goal.overflow_add-from
overflow_add-from c = omega (arith, c.requires.0.bounded.few, c.width-wide.ensures, c.slot-from.ensures.1)

pub offset_bounds-states-from : goal.offset_bounds-states-from
offset_bounds-states-from c = omega (arith, c.requires.0.bounded.few, c.width-wide.ensures, c.slot-from.ensures.1)

pub slice_bounds-end_rows-start : goal.slice_bounds-end_rows-start
slice_bounds-end_rows-start c = omega (arith, c.requires.1, c.width-wide.ensures, c.slot-from.ensures.1)

pub slice_bounds-end_rows-end : goal.slice_bounds-end_rows-end
slice_bounds-end_rows-end c = omega (arith, c.requires.1, c.width-wide.ensures, c.slot-from.ensures.1)

pub overflow_add-last-2 : goal.overflow_add-last-2
overflow_add-last-2 c = omega (arith, c.requires.0.bounded.few, c.width-wide.ensures)

pub offset_bounds-states-last : goal.offset_bounds-states-last
offset_bounds-states-last c = omega (arith, c.requires.0.bounded.few, c.width-wide.ensures)

pub slice_bounds-end_rows-start-2 : goal.slice_bounds-end_rows-start-2
slice_bounds-end_rows-start-2 c = omega (arith, c.requires.1, c.width-wide.ensures)

pub slice_bounds-end_rows-end-2 : goal.slice_bounds-end_rows-end-2
slice_bounds-end_rows-end-2 c = omega (arith, c.requires.1, c.width-wide.ensures)

pub end_rows-requires : goal.end_rows-requires
end_rows-requires c = (omega (arith, c.requires.1, c.width-wide.ensures, c.slot-from.ensures.1), omega (arith, c.requires.1, c.width-wide.ensures), c.requires.0.bounded, blank_rows 128 _ refl c.empty-rows.ensures)

pub solvable-requires : goal.solvable-requires
solvable-requires c = (c.requires.0, omega (arith, c.end_rows.auto))

pub returns : goal.returns
returns c =
    let a = c.args in
    λ g f of are.
    c.solvable.ensures g f
    (c.end_rows.ensures g f.shaped f.trees
    (subst (λ (l : List NodeSet). Fragments a.trees.now.n (own g) l) (sym (lent_state a.trees.now.n c.width-wide.result (c.width-wide.result * 33) 33 a.states.now c.width-wide.ensures (omega (arith, c.width-wide.ensures)))) of)
    (subst (λ (l : List NodeSet). Under g l) (sym (lent_state a.trees.now.n c.width-wide.result c.slot-from.result _ a.states.now c.width-wide.ensures c.slot-from.ensures.0)) are))
