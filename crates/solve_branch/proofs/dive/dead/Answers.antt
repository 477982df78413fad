-- By the leaf's row, and by the rows of the other leaves of its fragment.
use Prim.Native.Nat.{◌+◌, ◌-◌, ◌*◌}
use borrow.Rule.Slice.PartMut.{mid_of}
use mathlib.Core.Path.{refl, sym, subst, ◌∙◌}
use mathlib.Core.List.{List}
use lib.ListN.{get_or}
use Rattle.base_tables.specs.Rows.{nothing}
use native.Mathlib.Omega.{arith}
use Rattle.base_finite.proofs.Laws.{and_both}
use Rattle.base_nodeset.specs.Set.{mem}
use Rattle.base_nodeset.proofs.Members.{removed_member}
use Rattle.base_nodeset.specs.declared.NodeSet.{NodeSet}
use Rattle.graph.specs.Graph.{own}
use Rattle.solve_below.specs.Below.{Fragments, Under}
use Rattle.solve_levels.proofs.Stack.{lent_state}
use Rattle.solve_branch.proofs.Ends.{dead_cycle, dead_torn}
use Rattle.solve_branch.proofs.dive.dead.Goals as goal

pub width-wide-requires : goal.width-wide-requires
width-wide-requires c = c.requires.0.bounded.few

pub slot-from-requires : goal.slot-from-requires
slot-from-requires c = c.requires.0.bounded.few

pub overflow_add-sets : goal.overflow_add-sets
overflow_add-sets c = omega (arith, c.requires.0.bounded.few, c.width-wide.ensures, c.slot-from.ensures.1)

pub offset_bounds-states-from : goal.offset_bounds-states-from
offset_bounds-states-from c = omega (arith, c.requires.0.bounded.few, c.width-wide.ensures, c.slot-from.ensures.1)

pub slice_bounds-sets-start : goal.slice_bounds-sets-start
slice_bounds-sets-start c = omega (arith, c.requires.1, c.width-wide.ensures, c.slot-from.ensures.1)

pub slice_bounds-sets-end : goal.slice_bounds-sets-end
slice_bounds-sets-end c = omega (arith, c.requires.1, c.width-wide.ensures, c.slot-from.ensures.1)

pub bounds-sets-leaf : goal.bounds-sets-leaf
bounds-sets-leaf c = omega (arith, c.requires.1, c.requires.2, c.width-wide.ensures, c.slot-from.ensures.1)

pub has-requires : goal.has-requires
has-requires c = omega (arith, c.requires.0.bounded.few, c.requires.2)

pub returns-then-has : goal.returns-then-has
returns-then-has c =
    let a = c.args in
    λ g f of are is.
    dead_cycle g a.trees.now f (mid_of c.slot-from.result (c.slot-from.result + c.width-wide.result - c.slot-from.result) a.states.now) (subst (λ (l : List NodeSet). Under g l) (sym (lent_state a.trees.now.n c.width-wide.result c.slot-from.result _ a.states.now c.width-wide.ensures c.slot-from.ensures.0)) are) a.leaf is (get_or (mid_of c.slot-from.result (c.slot-from.result + c.width-wide.result - c.slot-from.result) a.states.now) a.leaf nothing) (λ v. refl) (sym c.has.ensures ∙ c.if-has.true)

pub overflow_mul-last : goal.overflow_mul-last
overflow_mul-last c = omega (arith, c.requires.0.bounded.few, c.width-wide.ensures)

pub overflow_add-fragments : goal.overflow_add-fragments
overflow_add-fragments c = omega (arith, c.requires.0.bounded.few, c.width-wide.ensures)

pub offset_bounds-states-last : goal.offset_bounds-states-last
offset_bounds-states-last c = omega (arith, c.requires.0.bounded.few, c.width-wide.ensures)

pub slice_bounds-fragments-start : goal.slice_bounds-fragments-start
slice_bounds-fragments-start c = omega (arith, c.requires.1, c.width-wide.ensures)

pub slice_bounds-fragments-end : goal.slice_bounds-fragments-end
slice_bounds-fragments-end c = omega (arith, c.requires.1, c.width-wide.ensures)

pub bounds-trees-leaf : goal.bounds-trees-leaf
bounds-trees-leaf c = omega (arith, c.requires.0.long, c.requires.2)

pub bounds-fragments-trees : goal.bounds-fragments-trees
bounds-fragments-trees c = omega (arith, c.requires.1, c.width-wide.ensures, c.requires.0.within c.args.leaf c.requires.2)

pub without-others-requires : goal.without-others-requires
without-others-requires c = omega (arith, c.requires.0.bounded.few, c.requires.2)

pub meets-requires : goal.meets-requires
meets-requires c =
    let a = c.args in
    λ l m.
    let b = removed_member c.intersection.result c.args.leaf c.without-others.result c.without-others.ensures l m in
    omega (arith, c.requires.1, c.width-wide.ensures, c.slot-from.ensures.1, c.requires.0.bounded.leaves_within l (and_both (mem (get_or (mid_of (c.width-wide.result * 33) (c.width-wide.result * 33 + c.width-wide.result - c.width-wide.result * 33) a.states.now) (get_or a.trees.now.owner a.leaf 0) nothing) l) (mem c.args.trees.now.leaves l) (sym (c.intersection.ensures l) ∙ b.0)).1)

pub returns : goal.returns
returns c =
    let a = c.args in
    λ g f of are is.
    dead_torn g a.trees.now f (mid_of c.slot-from.result (c.slot-from.result + c.width-wide.result - c.slot-from.result) a.states.now) (subst (λ (l : List NodeSet). Under g l) (sym (lent_state a.trees.now.n c.width-wide.result c.slot-from.result _ a.states.now c.width-wide.ensures c.slot-from.ensures.0)) are) a.leaf is (get_or (mid_of c.slot-from.result (c.slot-from.result + c.width-wide.result - c.slot-from.result) a.states.now) a.leaf nothing) (λ v. refl)
    _ (subst (λ (l : List NodeSet). Fragments a.trees.now.n (own g) l) (sym (lent_state a.trees.now.n c.width-wide.result (c.width-wide.result * 33) 33 a.states.now c.width-wide.ensures (omega (arith, c.width-wide.ensures)))) of)
    (get_or (mid_of (c.width-wide.result * 33) (c.width-wide.result * 33 + c.width-wide.result - c.width-wide.result * 33) a.states.now) (get_or a.trees.now.owner a.leaf 0) nothing) c.intersection.result c.without-others.result (λ v. refl) c.intersection.ensures c.without-others.ensures c.meets.result (sym c.has.ensures ∙ c.if-has.false) c.meets.ensures
