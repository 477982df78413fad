-- The choice of the level's reduced form.
use mathlib.Core.Path.{sym, subst}
use mathlib.Core.List.{List}
use native.Mathlib.Omega.{arith}
use Rattle.base_nodeset.specs.declared.NodeSet.{NodeSet}
use Rattle.solve_reduce.specs.Reduced.{LooplessForm}
use Rattle.solve_levels.proofs.Stack.{lent_state}
use Rattle.solve_branch.proofs.dive.fork.Goals as goal

pub overflow_add-from : goal.overflow_add-from
overflow_add-from c = omega (arith, c.requires.1, c.width-wide.ensures, c.slot-from.ensures.1)

pub offset_bounds-states-from : goal.offset_bounds-states-from
offset_bounds-states-from c = omega (arith, c.requires.1, c.slot-from.ensures.1)

pub slice_bounds-choose-start : goal.slice_bounds-choose-start
slice_bounds-choose-start c = omega (arith, c.requires.0, c.slot-from.ensures.1)

pub slice_bounds-choose-end : goal.slice_bounds-choose-end
slice_bounds-choose-end c = omega (arith, c.requires.0, c.width-wide.ensures, c.slot-from.ensures.1)

pub choose-requires : goal.choose-requires
choose-requires c = (omega (arith, c.requires.0, c.width-wide.ensures, c.slot-from.ensures.1), c.requires.1)

pub returns : goal.returns
returns c = record { bounded = c.choose.ensures.bounded; chosen = λ g is. c.choose.ensures.chosen g (subst (λ (s : List NodeSet). LooplessForm g c.args.n s) (sym (lent_state c.args.n c.width-wide.result c.slot-from.result _ c.args.states.now c.width-wide.ensures c.slot-from.ensures.0)) is) }
