-- The state at the level's slot, and the fragments at theirs.
use Prim.Native.Nat.{◌*◌}
use mathlib.Core.Path.{sym, subst}
use mathlib.Core.List.{List}
use native.Mathlib.Omega.{arith}
use Rattle.base_nodeset.specs.declared.NodeSet.{NodeSet}
use Rattle.graph.specs.Graph.{own}
use Rattle.solve_below.specs.Below.{Fragments, Under}
use Rattle.solve_levels.proofs.Stack.{lent_state}
use Rattle.solve_levels.proofs.below_at.Goals as goal

pub width-wide-requires : goal.width-wide-requires
width-wide-requires c = c.requires.1.few

pub slot-from-requires : goal.slot-from-requires
slot-from-requires c = c.requires.1.few

pub overflow_mul-last : goal.overflow_mul-last
overflow_mul-last c = omega (arith, c.width-wide.ensures, c.requires.1.few)

pub overflow_add-from : goal.overflow_add-from
overflow_add-from c = omega (arith, c.requires.1.few, c.width-wide.ensures, c.slot-from.ensures.1)

pub offset_bounds-states-from : goal.offset_bounds-states-from
offset_bounds-states-from c = omega (arith, c.requires.1.few, c.width-wide.ensures, c.slot-from.ensures.1)

pub slice_bounds-below-start : goal.slice_bounds-below-start
slice_bounds-below-start c = omega (arith, c.requires.0, c.width-wide.ensures, c.slot-from.ensures.1)

pub slice_bounds-below-end : goal.slice_bounds-below-end
slice_bounds-below-end c = omega (arith, c.requires.0, c.width-wide.ensures, c.slot-from.ensures.1)

pub overflow_add-last-2 : goal.overflow_add-last-2
overflow_add-last-2 c = omega (arith, c.requires.1.few, c.width-wide.ensures)

pub offset_bounds-states-last : goal.offset_bounds-states-last
offset_bounds-states-last c = omega (arith, c.requires.1.few, c.width-wide.ensures)

pub slice_bounds-below-start-2 : goal.slice_bounds-below-start-2
slice_bounds-below-start-2 c = omega (arith, c.requires.0, c.width-wide.ensures)

pub slice_bounds-below-end-2 : goal.slice_bounds-below-end-2
slice_bounds-below-end-2 c = omega (arith, c.requires.0, c.width-wide.ensures)

pub below-requires : goal.below-requires
below-requires c = (omega (arith, c.requires.0, c.width-wide.ensures, c.slot-from.ensures.1), omega (arith, c.requires.0, c.width-wide.ensures), c.requires.1, c.requires.2)

pub returns : goal.returns
returns c =
    let a = c.args in
    λ g s ends of are is.
    c.below.ensures g s ends
    (subst (λ (l : List NodeSet). Fragments a.trees.now.n (own g) l) (sym (lent_state a.trees.now.n c.width-wide.result (c.width-wide.result * 33) 33 a.states.now c.width-wide.ensures (omega (arith, c.width-wide.ensures)))) of)
    (subst (λ (l : List NodeSet). Under g l) (sym (lent_state a.trees.now.n c.width-wide.result c.slot-from.result _ a.states.now c.width-wide.ensures c.slot-from.ensures.0)) are)
    is
