-- The state at the level.
use mathlib.Core.Path.{sym, subst}
use mathlib.Core.List.{List}
use native.Mathlib.Omega.{arith}
use Rattle.base_nodeset.specs.declared.NodeSet.{NodeSet}
use Rattle.solve_reduce.specs.Reduced.{LooplessForm}
use Rattle.solve_levels.proofs.Stack.{lent_state}
use Rattle.solve_numbered.proofs.read_off.Goals as goal

pub width-wide-requires : goal.width-wide-requires
width-wide-requires c = c.requires.1.few

pub slot-from-requires : goal.slot-from-requires
slot-from-requires c = c.requires.1.few

pub overflow_add-from : goal.overflow_add-from
overflow_add-from c = omega (arith, c.requires.1.few, c.width-wide.ensures, c.slot-from.ensures.1)

pub offset_bounds-states-from : goal.offset_bounds-states-from
offset_bounds-states-from c = omega (arith, c.requires.1.few, c.slot-from.ensures.1)

pub slice_bounds-settle-start : goal.slice_bounds-settle-start
slice_bounds-settle-start c = omega (arith, c.requires.0, c.slot-from.ensures.1)

pub slice_bounds-settle-end : goal.slice_bounds-settle-end
slice_bounds-settle-end c = omega (arith, c.requires.0, c.width-wide.ensures, c.slot-from.ensures.1)

pub settle-requires : goal.settle-requires
settle-requires c = (omega (arith, c.requires.0, c.width-wide.ensures, c.slot-from.ensures.1), c.requires.1, c.requires.2)

pub returns : goal.returns
returns c = record { out_unchanged = c.settle.ensures.out_unchanged; out_after = λ g ends is. c.settle.ensures.out_after g ends (subst (λ (s : List NodeSet). LooplessForm g c.args.trees.now.n s) (sym (lent_state c.args.trees.now.n c.width-wide.result c.slot-from.result _ c.args.states.now c.width-wide.ensures c.slot-from.ensures.0)) is) }
